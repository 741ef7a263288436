-- How many keys of pages stand below an edge.
use Rattle.std.proofs.Common.{◌≡◌, ◌∙◌, true, false, ℕ, zero, suc, ◌-◌, ◌+◌, ◌<◌, ◌≤◌, List, ◌∷◌, ◌++◌, length, take, drop, Option, None, Result, Ok, refl, sym, ap, subst, arith}
use Rattle.std.proofs.lemmas.List.{take-take}
use Rattle.byteorder.specs.Endian.{big_number}
use Rattle.hse_fields.specs.BlockText.{KeyEntry, header_size, page_size}
use Rattle.hse_fields.specs.BlockReading.{key_of, keys_of, pages_of, last_key, count_in, counts_of}
use Rattle.kblock.specs.Opened.{entries_of, read_of}
use Rattle.kblock.specs.Placing.{is_below, count_below, below_in}
use Rattle.kblock.specs.Searching.{begins_above, number_at, page_at, page_keys, IsBehind, IsRead, IsUpTo}
use Rattle.kblock.proofs.KeyLemmas.{is_read, keys_behind, read_ok}
use Rattle.kblock.proofs.OpeningLemmas.{first_page, no_page, page_has}
use Rattle.kblock.specs.laws.Order.{Rise, all_below, count-append, counts, none_from_counted, skips}
use Rattle.kblock.proofs.NthLemmas.{numbered}
use Rattle.kblock.proofs.SearchLemmas.{is_page, begins_at, pages_rise}

-- ---- in a page

module _ (edge : List ℕ) (count i : ℕ) (bytes : List ℕ) (first : KeyEntry × List ℕ) (lt : i < count) (e : key_of None bytes ≡ Ok first)
    (readable : IsRead (keys_of None (count - i) bytes)) where
  more_read : (ys : List KeyEntry) × (keys : List KeyEntry × List ℕ) × (keys_of None (count - i) bytes ≡ Ok keys) × (keys_of None (count - (i + 1)) first.1 ≡ Ok (ys, keys.1)) × (keys.0 ≡ first.0 ∷ ys)
  more_read =
      let k : count - i ≡ suc (count - (i + 1)) = omega arith in
      let r = read_ok (keys_of None (count - i) bytes) readable in
      let b = keys_behind (count - (i + 1)) bytes first r.0 e (ap (λ (n : ℕ). keys_of None n bytes) (sym k) ∙ r.1) in
      (b.0, r.0, r.1, b.1, b.2)

  pub still_read : IsRead (keys_of None (count - (i + 1)) first.1)
  still_read = let m = more_read in is_read (keys_of None (count - (i + 1)) first.1) (m.0, m.1.1) m.3

  pub one_below : is_below edge first.0 ≡ true → below_in edge (keys_of None (count - i) bytes) ≡ suc (below_in edge (keys_of None (count - (i + 1)) first.1))
  one_below is =
      let m = more_read in
      ap (below_in edge) m.2 ∙ ap (count_below edge) m.4 ∙ counts edge first.0 m.0 is ∙ ap suc (sym (ap (below_in edge) m.3))

  pub none_below : is_below edge first.0 ≡ false → below_in edge (keys_of None (count - i) bytes) ≡ below_in edge (keys_of None (count - (i + 1)) first.1)
  none_below is =
      let m = more_read in
      ap (below_in edge) m.2 ∙ ap (count_below edge) m.4 ∙ skips edge first.0 m.0 is ∙ sym (ap (below_in edge) m.3)

pub no_more : (edge : List ℕ) (count i : ℕ) (bytes : List ℕ) → count ≤ i → below_in edge (keys_of None (count - i) bytes) ≡ 0
unfolding keys_of
no_more edge count i bytes le = let k : count - i ≡ 0 = omega arith in rw k refl

-- ---- in pages

none_behind : (edge : List ℕ) (start : ℕ) (last : Option (List ℕ)) (n : ℕ) (bytes : List ℕ) (pages : List (List KeyEntry)) → pages_of start last n bytes ≡ Ok pages
    → (0 < n → begins_above edge (page_at 0 bytes) ≡ true) → count_below edge (entries_of pages) ≡ 0
none_behind edge start last zero bytes pages e above = ap (λ (p : List (List KeyEntry)). count_below edge (entries_of p)) (no_page start last bytes pages e)
none_behind edge start last (suc n) bytes pages e above =
    let has = first_page start last n bytes pages e in
    let page = is_page last (take page_size bytes) has.first has.page in
    let all : entries_of pages ≡ page.first ∷ (page.others ++ entries_of has.others) =
    ap entries_of has.both ∙ ap (λ (l : List KeyEntry). l ++ entries_of has.others) page.both in
    let rise = subst (Rise last) all (pages_rise start last (suc n) bytes pages e) in
    ap (count_below edge) all
    ∙ none_from_counted page.first (page.others ++ entries_of has.others) edge rise.1 (sym (page.begins edge) ∙ above (omega arith))

placed_at : (edge : List ℕ) (i start before : ℕ) (last : Option (List ℕ)) (n : ℕ) (bytes numbers : List ℕ) (pages : List (List KeyEntry)) → pages_of start last n bytes ≡ Ok pages
    → counts_of before n bytes numbers ≡ Ok tt → i < n → begins_above edge (page_at i bytes) ≡ false → (suc i < n → begins_above edge (page_at (suc i) bytes) ≡ true)
    → number_at i numbers + below_in edge (page_keys (page_at i bytes)) ≡ before + count_below edge (entries_of pages)
placed_at edge i start before last zero bytes numbers pages e c lt below above = absurd (omega (arith, lt))
placed_at edge zero start before last (suc n) bytes numbers pages e c lt below above =
    let has = first_page start last n bytes pages e in
    let page = is_page last (take page_size bytes) has.first has.page in
    let none = none_behind edge (start + page_size) (last_key last has.first) n (drop page_size bytes) has.others has.more (λ more. above (omega (arith, more))) in
    let here = ap (below_in edge) page.read in
    let number = (numbered before n bytes numbers c).first in
    let all : count_below edge (entries_of pages) ≡ count_below edge has.first + count_below edge (entries_of has.others) =
    ap (λ (p : List (List KeyEntry)). count_below edge (entries_of p)) has.both ∙ count-append edge has.first (entries_of has.others) in
    omega (arith, all, none, here, number)
placed_at edge (suc i) start before last (suc n) bytes numbers pages e c lt below above =
    let has = first_page start last n bytes pages e in
    let page = is_page last (take page_size bytes) has.first has.page in
    let keys = page_has last (take page_size bytes) has.first has.page in
    let later = last_key last has.first in
    let begins = begins_at i (start + page_size) later n (drop page_size bytes) has.others has.more (omega (arith, lt)) in
    let whole : count_below edge has.first ≡ length has.first = all_below last has.first edge begins.key page.rise begins.above (sym (begins.begins edge) ∙ below) in
    let same : count_in bytes ≡ count_in (take page_size bytes) = sym (ap (big_number 2) (take-take 2 page_size bytes (omega arith))) in
    let rest = placed_at edge i (start + page_size) (before + count_in bytes) later n (drop page_size bytes) (drop 4 numbers) has.others has.more (numbered before n bytes numbers c).more (omega (arith, lt)) below (λ more. above (omega (arith, more))) in
    let all : count_below edge (entries_of pages) ≡ count_below edge has.first + count_below edge (entries_of has.others) =
    ap (λ (p : List (List KeyEntry)). count_below edge (entries_of p)) has.both ∙ count-append edge has.first (entries_of has.others) in
    omega (arith, rest, all, whole, same, keys.counted)

-- ---- the pages of a block

module _ (edge : List ℕ) (n : ℕ) (bytes : List ℕ) (read : IsRead (pages_of header_size None n bytes)) where
  pub is_placed : (behind i : ℕ) (numbers : List ℕ) → counts_of 0 n bytes numbers ≡ Ok tt → behind ≡ suc i → behind ≤ n → IsUpTo edge bytes behind → IsBehind edge bytes n behind
      → number_at i numbers + below_in edge (page_keys (page_at i bytes)) ≡ count_below edge (entries_of (read_of (pages_of header_size None n bytes)))
  is_placed behind i numbers c is within below above =
      let r = read_ok (pages_of header_size None n bytes) read in
      let here : IsUpTo edge bytes (suc i) = subst (IsUpTo edge bytes) is below in
      let beyond : IsBehind edge bytes n (suc i) = subst (IsBehind edge bytes n) is above in
      let placed = placed_at edge i header_size 0 None n bytes numbers r.0 r.1 c (omega (arith, is, within)) here beyond in
      let whole : number_at i numbers + below_in edge (page_keys (page_at i bytes)) ≡ count_below edge (entries_of r.0) = omega (arith, placed) in
      whole
      ∙ ap (λ (p : Result (List (List KeyEntry)) ℕ). count_below edge (entries_of (read_of p))) (sym r.1)

  pub is_placed_first : (behind : ℕ) → behind ≡ 0 → IsBehind edge bytes n behind → 0 ≡ count_below edge (entries_of (read_of (pages_of header_size None n bytes)))
  is_placed_first behind none above =
      let r = read_ok (pages_of header_size None n bytes) read in
      let first = subst (λ (i : ℕ). IsBehind edge bytes n i) none above in
      sym (none_behind edge header_size None n bytes r.0 r.1 first)
      ∙ ap (λ (p : Result (List (List KeyEntry)) ℕ). count_below edge (entries_of (read_of p))) (sym r.1)
