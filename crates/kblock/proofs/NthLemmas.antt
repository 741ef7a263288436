-- At which place of which page an entry stands.
use Rattle.std.proofs.Common.{◌≡◌, ◌∙◌, ℕ, zero, suc, ◌+◌, ◌-◌, ◌*◌, ◌<◌, ◌≤◌, List, [], ◌∷◌, ◌++◌, length, take, drop, Option, Some, None, Result, Ok, refl, sym, ap, subst, arith}
use Rattle.std.specs.Prelude.{◌==◌, nat_lt, slice_get}
use Rattle.std.specs.List.{sum_by}
use Rattle.std.proofs.lemmas.Bool.{eqb-true}
use Rattle.std.proofs.lemmas.List.{drop-drop, take-take}
use Rattle.std.proofs.lemmas.List.Sums.{sum_by-cons}
use Rattle.byteorder.specs.Endian.{big_number}
use Rattle.hse_fields.specs.Fields.{number_of}
use Rattle.hse_fields.specs.LogReading.{◌>>=◌, ensure}
use Rattle.hse_fields.specs.BlockText.{KeyEntry, header_size, page_size}
use Rattle.hse_fields.specs.BlockReading.{key_of, keys_of, pages_of, last_key, count_in, counts_of}
use Rattle.hse_fields.specs.laws.Fields.{bind_ok, ensure_ok, guard_ok}
use Rattle.kblock.specs.Opened.{entries_of, read_of}
use Rattle.kblock.specs.Searching.{nth_of, number_at, page_at, page_keys, IsBefore, IsFrom, IsRead}
use Rattle.kblock.proofs.KeyLemmas.{first_key, is_read, keys_alone, keys_behind, read_ok}
use Rattle.kblock.proofs.OpeningLemmas.{first_page, no_page, page_has}

-- ---- in a page

module _ (count i : ℕ) (bytes : List ℕ) (readable : IsRead (keys_of None (count - i) bytes)) where
  pub first_read : i < count → IsRead (key_of None bytes)
  first_read lt =
      let k : count - i ≡ suc (count - (i + 1)) = omega arith in
      let r = read_ok (keys_of None (count - i) bytes) readable in
      let has = first_key None (count - (i + 1)) bytes r.0 (ap (λ (n : ℕ). keys_of None n bytes) (sym k) ∙ r.1) in
      is_read (key_of None bytes) has.first has.key

  pub nth_behind : (at : ℕ) (first : KeyEntry × List ℕ) → i < at → at < count → key_of None bytes ≡ Ok first
      → IsRead (keys_of None (count - (i + 1)) first.1)
      × (nth_of (at - (i + 1)) (keys_of None (count - (i + 1)) first.1) ≡ nth_of (at - i) (keys_of None (count - i) bytes))
  nth_behind at first lt within e =
      let k : count - i ≡ suc (count - (i + 1)) = omega (arith, lt, within) in
      let next : at - i ≡ suc (at - (i + 1)) = omega (arith, lt) in
      let r = read_ok (keys_of None (count - i) bytes) readable in
      let b = keys_behind (count - (i + 1)) bytes first r.0 e (ap (λ (n : ℕ). keys_of None n bytes) (sym k) ∙ r.1) in
      let here : nth_of (at - i) (keys_of None (count - i) bytes) ≡ slice_get b.0 (at - (i + 1)) =
      ap (nth_of (at - i)) r.1 ∙ ap (λ (l : List KeyEntry). slice_get l (at - i)) b.2 ∙ ap (slice_get (first.0 ∷ b.0)) next in
      (is_read (keys_of None (count - (i + 1)) first.1) (b.0, r.0.1) b.1, ap (nth_of (at - (i + 1))) b.1 ∙ sym here)

  pub nth_here : (at : ℕ) (first : KeyEntry × List ℕ) → at ≡ i → at < count → key_of None bytes ≡ Ok first
      → nth_of (at - i) (keys_of None (count - i) bytes) ≡ Some first.0
  nth_here at first same within e =
      let k : count - i ≡ suc (count - (i + 1)) = omega (arith, same, within) in
      let now : at - i ≡ 0 = omega (arith, same) in
      let r = read_ok (keys_of None (count - i) bytes) readable in
      let b = keys_behind (count - (i + 1)) bytes first r.0 e (ap (λ (n : ℕ). keys_of None n bytes) (sym k) ∙ r.1) in
      ap (nth_of (at - i)) r.1 ∙ ap (λ (l : List KeyEntry). slice_get l (at - i)) b.2 ∙ ap (slice_get (first.0 ∷ b.0)) now

-- ---- the numbers behind the pages

pub number_at-is : (i : ℕ) (numbers : List ℕ) → number_at i numbers ≡ big_number 4 (take 4 (drop (4 * i) numbers))
number_at-is zero numbers = refl
number_at-is (suc i) numbers =
    let sum : 4 + 4 * i ≡ 4 * suc i = omega arith in
    let sum' : 4 * i + 4 ≡ 4 * suc i = omega arith in
    number_at-is i (drop 4 numbers) ∙ ap (λ (l : List ℕ). big_number 4 (take 4 l)) (after i numbers)
  where
    after : (i : ℕ) (numbers : List ℕ) → drop (4 * i) (drop 4 numbers) ≡ drop (4 * suc i) numbers
    after i numbers =
        let sum : 4 + 4 * i ≡ 4 * suc i = omega arith in
        drop-drop (4 * i) 4 numbers ∙ ap (λ (n : ℕ). drop n numbers) sum

pub record Numbered (before n : ℕ) (pages numbers : List ℕ) : Type 0 where
  pub first : number_at 0 numbers ≡ before
  pub more : counts_of (before + count_in pages) n (drop page_size pages) (drop 4 numbers) ≡ Ok tt

pub numbered : (before n : ℕ) (pages numbers : List ℕ) → counts_of before (suc n) pages numbers ≡ Ok tt → Numbered before n pages numbers
unfolding counts_of
numbered before n pages numbers e =
    let next = λ (l : List ℕ). counts_of (before + count_in pages) n (drop page_size pages) l in
    let a = bind_ok (number_of 4 numbers) (λ number. ensure (number.0 == before) (length numbers) >>= λ agrees. counts_of (before + count_in pages) n (drop page_size pages) number.1) tt e in
    let b = bind_ok (ensure (a.0.0 == before) (length numbers)) (λ agrees. counts_of (before + count_in pages) n (drop page_size pages) a.0.1) tt a.2 in
    let g = guard_ok (nat_lt (length numbers) 4) (length numbers) (big_number 4 (take 4 numbers), drop 4 numbers) a.0 a.1 in
    record {
      first = ap (λ (p : ℕ × List ℕ). p.0) g.1 ∙ eqb-true _ _ (ensure_ok (a.0.0 == before) (length numbers) b.0 b.1);
      more = subst (λ (l : List ℕ). counts_of (before + count_in pages) n (drop page_size pages) l ≡ Ok tt) (sym (ap (λ (p : ℕ × List ℕ). p.1) g.1)) b.2;
    }

no_fewer : (i before n : ℕ) (pages numbers : List ℕ) → counts_of before n pages numbers ≡ Ok tt → i < n → before ≤ number_at i numbers
no_fewer i before zero pages numbers e lt = absurd (omega (arith, lt))
no_fewer zero before (suc n) pages numbers e lt = let h = (numbered before n pages numbers e).first in omega (arith, h)
no_fewer (suc i) before (suc n) pages numbers e lt =
    let more = no_fewer i (before + count_in pages) n (drop page_size pages) (drop 4 numbers) (numbered before n pages numbers e).more (omega (arith, lt)) in
    omega (arith, more)

-- ---- entries by pages

get_first : (xs ys : List KeyEntry) (k : ℕ) → k < length xs → slice_get (xs ++ ys) k ≡ slice_get xs k
get_first [] ys k lt = absurd (omega (arith, lt))
get_first (x ∷ xs) ys zero lt = refl
get_first (x ∷ xs) ys (suc k) lt = get_first xs ys k (omega (arith, lt))

get_behind : (xs ys : List KeyEntry) (k : ℕ) → slice_get (xs ++ ys) (length xs + k) ≡ slice_get ys k
get_behind [] ys k = ap (slice_get ys) (let z : length {A = KeyEntry} [] + k ≡ k = omega arith in z)
get_behind (x ∷ xs) ys k =
    let next : length (x ∷ xs) + k ≡ suc (length xs + k) = omega arith in
    ap (slice_get (x ∷ (xs ++ ys))) next ∙ get_behind xs ys k

-- the entry stands in this page
pub record IsIn (at i before : ℕ) (bytes numbers : List ℕ) (pages : List (List KeyEntry)) : Type 0 where
  pub within : at - number_at i numbers < count_in (page_at i bytes)
  pub found : nth_of (at - number_at i numbers) (page_keys (page_at i bytes)) ≡ slice_get (entries_of pages) (at - before)

-- before the numbers' end
last_within : (at before n start count : ℕ) (last : Option (List ℕ)) (bytes numbers : List ℕ) (others : List (List KeyEntry)) → pages_of start last n bytes ≡ Ok others
    → counts_of (before + count) n bytes numbers ≡ Ok tt → (1 < suc n → at < number_at 0 numbers) → at < before + (count + sum_by length others) → at < before + count
last_within at before zero start count last bytes numbers others e c above total =
    let none = no_page start last bytes others e in
    let empty : sum_by length others ≡ 0 = ap (sum_by length) none in
    omega (arith, empty, total)
last_within at before (suc n) start count last bytes numbers others e c above total =
    let first = (numbered (before + count) n bytes numbers c).first in
    let less = above (omega arith) in
    omega (arith, first, less)

pub is_in : (at i start before : ℕ) (last : Option (List ℕ)) (n : ℕ) (bytes numbers : List ℕ) (pages : List (List KeyEntry)) → pages_of start last n bytes ≡ Ok pages
    → counts_of before n bytes numbers ≡ Ok tt → i < n → number_at i numbers ≤ at → (suc i < n → at < number_at (suc i) numbers)
    → at < before + sum_by length pages → IsIn at i before bytes numbers pages
is_in at i start before last zero bytes numbers pages e c lt below above total = absurd (omega (arith, lt))
is_in at zero start before last (suc n) bytes numbers pages e c lt below above total =
    let has = first_page start last n bytes pages e in
    let page = page_has last (take page_size bytes) has.first has.page in
    let here = numbered before n bytes numbers c in
    let alone = keys_alone last (count_in (take page_size bytes)) (drop 2 (take page_size bytes)) (has.first, page.rest) page.read in
    let same : count_in bytes ≡ count_in (take page_size bytes) = sym (ap (big_number 2) (take-take 2 page_size bytes (omega arith))) in
    let all : sum_by length pages ≡ length has.first + sum_by length has.others = ap (sum_by length) has.both ∙ sum_by-cons length has.first has.others in
    let less : at < before + count_in bytes =
    last_within at before n (start + page_size) (count_in bytes) (last_key last has.first) (drop page_size bytes) (drop 4 numbers) has.others has.more here.more above (omega (arith, total, all, page.counted, same)) in
    let index : at - number_at 0 numbers ≡ at - before = ap (λ (m : ℕ). at - m) here.first in
    let within : at - before < length has.first = omega (arith, less, page.counted, same, below, here.first, page.some) in
    record {
      within = omega (arith, within, index, page.counted);
      found = ap (nth_of (at - number_at 0 numbers)) alone
          ∙ ap (slice_get has.first) index
          ∙ sym (get_first has.first (entries_of has.others) (at - before) within)
          ∙ sym (ap (λ (p : List (List KeyEntry)). slice_get (entries_of p) (at - before)) has.both);
    }
is_in at (suc i) start before last (suc n) bytes numbers pages e c lt below above total =
    let has = first_page start last n bytes pages e in
    let page = page_has last (take page_size bytes) has.first has.page in
    let here = numbered before n bytes numbers c in
    let same : count_in bytes ≡ count_in (take page_size bytes) = sym (ap (big_number 2) (take-take 2 page_size bytes (omega arith))) in
    let all : sum_by length pages ≡ length has.first + sum_by length has.others = ap (sum_by length) has.both ∙ sum_by-cons length has.first has.others in
    let low = no_fewer i (before + count_in bytes) n (drop page_size bytes) (drop 4 numbers) here.more (omega (arith, lt)) in
    let rest = is_in at i (start + page_size) (before + count_in bytes) (last_key last has.first) n (drop page_size bytes) (drop 4 numbers) has.others has.more here.more (omega (arith, lt)) below
    (λ more. above (omega (arith, more))) (omega (arith, total, all, page.counted, same)) in
    let split : at - before ≡ length has.first + (at - (before + count_in bytes)) = omega (arith, low, below, page.counted, same) in
    record {
      within = rest.within;
      found = rest.found
          ∙ sym (get_behind has.first (entries_of has.others) (at - (before + count_in bytes)))
          ∙ ap (slice_get (has.first ++ entries_of has.others)) (sym split)
          ∙ sym (ap (λ (p : List (List KeyEntry)). slice_get (entries_of p) (at - before)) has.both);
    }

-- ---- the pages of a block

-- so many pages whose numbers stand behind them
pub record IsNumbered (n : ℕ) (bytes numbers : List ℕ) : Type 0 where
  pub pages : IsRead (pages_of header_size None n bytes)
  pub counts : counts_of 0 n bytes numbers ≡ Ok tt

none_counted : (bytes : List ℕ) (r : Result (List (List KeyEntry)) ℕ) → pages_of header_size None 0 bytes ≡ r → sum_by length (read_of r) ≡ 0
unfolding pages_of
none_counted bytes r e = ap (λ (x : Result (List (List KeyEntry)) ℕ). sum_by length (read_of x)) (sym e)

module _ (at n : ℕ) (bytes numbers : List ℕ) (is : IsNumbered n bytes numbers)
    (total : at < sum_by length (read_of (pages_of header_size None n bytes))) where
  abbrev all : List (List KeyEntry)
  all = read_of (pages_of header_size None n bytes)

  some_from : (m : ℕ) → m ≡ n → (r : Result (List (List KeyEntry)) ℕ) → pages_of header_size None m bytes ≡ r → counts_of 0 m bytes numbers ≡ Ok tt
      → at < sum_by length (read_of r) → (behind : ℕ) → behind ≡ 0 → (0 < m → at < number_at 0 numbers) → ⊥
  some_from zero same r e c within behind none above =
      let empty : sum_by length (read_of r) ≡ 0 = none_counted bytes r e in
      omega (arith, empty, within)
  some_from (suc m) same r e c within behind none above =
      let first = (numbered 0 m bytes numbers c).first in
      let less = above (omega arith) in
      omega (arith, first, less)

  pub some_page : (behind : ℕ) → IsBefore at numbers n behind → 1 ≤ behind
  some_page zero above = absurd (some_from n refl (pages_of header_size None n bytes) refl is.counts total 0 refl above)
  some_page (suc i) above = omega arith

  pub stands : (behind i : ℕ) → behind ≡ suc i → behind ≤ n → IsFrom at numbers behind → IsBefore at numbers n behind
      → IsIn at i 0 bytes numbers all × (number_at i numbers ≤ at)
  stands behind i same within below above =
      let r = read_ok (pages_of header_size None n bytes) is.pages in
      let here : number_at i numbers ≤ at = subst (IsFrom at numbers) same below in
      let beyond : IsBefore at numbers n (suc i) = subst (IsBefore at numbers n) same above in
      let less : at < 0 + sum_by length r.0 = omega (arith, total, ap (λ (x : Result (List (List KeyEntry)) ℕ). sum_by length (read_of x)) r.1) in
      let found = is_in at i header_size 0 None n bytes numbers r.0 r.1 is.counts (omega (arith, same, within)) here beyond less in
      (subst (λ (x : Result (List (List KeyEntry)) ℕ). IsIn at i 0 bytes numbers (read_of x)) (sym r.1) found, here)
