-- In which page a key stands, if it stands anywhere.
use Rattle.std.proofs.Common.{◌≡◌, ◌∙◌, true, false, ℕ, zero, suc, ◌+◌, ◌-◌, ◌*◌, ◌<◌, ◌≤◌, List, ◌∷◌, ◌++◌, take, drop, Option, Some, None, Result, Ok, refl, sym, ap, subst, arith}
use Rattle.std.specs.List.{find}
use Rattle.std.specs.Option.{option_or}
use Rattle.std.specs.Ordering.{nat_cmp, is_gt}
use Rattle.std.specs.Cmp.Lexicographic.{slice_cmp}
use Rattle.std.proofs.lemmas.List.{drop-drop}
use Rattle.std.proofs.lemmas.List.Folds.{find-append}
use Rattle.hse_fields.specs.BlockText.{KeyEntry, header_size, page_size}
use Rattle.hse_fields.specs.BlockReading.{is_above, keys_of, page_of, pages_of, last_key, count_in}
use Rattle.kblock.specs.Opened.{entries_of, has_key, read_of}
use Rattle.kblock.specs.Searching.{begins_above, found_in, is_beyond, page_at, page_keys, IsBehind, IsRead, IsUpTo}
use Rattle.kblock.proofs.KeyLemmas.{first_key, is_read, key_read, keys_alone, keys_rise, read_ok}
use Rattle.kblock.proofs.OpeningLemmas.{first_page, no_page, page_has}
use Rattle.kblock.specs.laws.Order.{Rise, above_all, none_below, none_from, rise_append}

pub page_at-is : (i : ℕ) (pages : List ℕ) → page_at i pages ≡ take page_size (drop (page_size * i) pages)
page_at-is zero pages = refl
page_at-is (suc i) pages =
    let sum : page_size + page_size * i ≡ page_size * suc i = omega arith in
    page_at-is i (drop page_size pages) ∙ ap (take page_size) (drop-after i pages)
  where
    drop-after : (i : ℕ) (pages : List ℕ) → drop (page_size * i) (drop page_size pages) ≡ drop (page_size * suc i) pages
    drop-after i pages =
        let sum : page_size + page_size * i ≡ page_size * suc i = omega arith in
        drop-drop (page_size * i) page_size pages ∙ ap (λ (n : ℕ). drop n pages) sum

-- a page that is read: its first key, its order, and that it reads the same alone
pub record IsPage (last : Option (List ℕ)) (page : List ℕ) (keys : List KeyEntry) : Type 0 where
  pub first : KeyEntry
  pub others : List KeyEntry
  pub both : keys ≡ first ∷ others
  pub rise : Rise last keys
  pub begins : (key : List ℕ) → begins_above key page ≡ is_gt (slice_cmp nat_cmp first.key key)
  pub rest : List ℕ
  pub read : page_keys page ≡ Ok (keys, rest)
  pub alone : (key : List ℕ) → found_in key (page_keys page) ≡ find (has_key key) keys

pub is_page : (last : Option (List ℕ)) (page : List ℕ) (keys : List KeyEntry) → page_of last page ≡ Ok keys → IsPage last page keys
is_page last page keys e =
    let has = page_has last page keys e in
    let k : count_in page ≡ suc (count_in page - 1) = omega (arith, has.some) in
    let one = first_key last (count_in page - 1) (drop 2 page) (keys, has.rest) (ap (λ (n : ℕ). keys_of last n (drop 2 page)) (sym k) ∙ has.read) in
    let read = (key_read last (drop 2 page) one.first one.key).0 in
    let all = keys_alone last (count_in page) (drop 2 page) (keys, has.rest) has.read in
    record {
      first = one.first.0;
      others = one.others;
      both = one.both;
      rise = keys_rise last (count_in page) (drop 2 page) (keys, has.rest) has.read;
      begins = λ key. ap (is_beyond key) read;
      rest = has.rest;
      read = all;
      alone = λ key. ap (found_in key) all;
    }

pub pages_rise : (start : ℕ) (last : Option (List ℕ)) (n : ℕ) (bytes : List ℕ) (pages : List (List KeyEntry)) → pages_of start last n bytes ≡ Ok pages
    → Rise last (entries_of pages)
pages_rise start last zero bytes pages e = subst (λ (p : List (List KeyEntry)). Rise last (entries_of p)) (sym (no_page start last bytes pages e)) tt
pages_rise start last (suc n) bytes pages e =
    let has = first_page start last n bytes pages e in
    let page = is_page last (take page_size bytes) has.first has.page in
    subst (λ (p : List (List KeyEntry)). Rise last (entries_of p)) (sym has.both)
    (rise_append last has.first (entries_of has.others) page.rise (pages_rise (start + page_size) (last_key last has.first) n (drop page_size bytes) has.others has.more))

-- pages that begin above a key do not have it
pub none_behind : (key : List ℕ) (start : ℕ) (last : Option (List ℕ)) (n : ℕ) (bytes : List ℕ) (pages : List (List KeyEntry)) → pages_of start last n bytes ≡ Ok pages
    → (0 < n → begins_above key (page_at 0 bytes) ≡ true) → find (has_key key) (entries_of pages) ≡ None
none_behind key start last zero bytes pages e above = ap (λ (p : List (List KeyEntry)). find (has_key key) (entries_of p)) (no_page start last bytes pages e)
none_behind key start last (suc n) bytes pages e above =
    let has = first_page start last n bytes pages e in
    let page = is_page last (take page_size bytes) has.first has.page in
    let all : entries_of pages ≡ page.first ∷ (page.others ++ entries_of has.others) =
    ap entries_of has.both ∙ ap (λ (l : List KeyEntry). l ++ entries_of has.others) page.both in
    let rise = subst (Rise last) all (pages_rise start last (suc n) bytes pages e) in
    ap (find (has_key key)) all
    ∙ none_from page.first (page.others ++ entries_of has.others) key rise.1 (sym (page.begins key) ∙ above (omega arith))

-- the first key of a page stands above the last one before the pages
pub record Begins (last : Option (List ℕ)) (page : List ℕ) : Type 0 where
  pub key : List ℕ
  pub above : is_above last key ≡ true
  pub begins : (other : List ℕ) → begins_above other page ≡ is_gt (slice_cmp nat_cmp key other)

pub begins_at : (i start : ℕ) (last : Option (List ℕ)) (n : ℕ) (bytes : List ℕ) (pages : List (List KeyEntry)) → pages_of start last n bytes ≡ Ok pages → i < n
    → Begins last (page_at i bytes)
begins_at i start last zero bytes pages e lt = absurd (omega (arith, lt))
begins_at zero start last (suc n) bytes pages e lt =
    let has = first_page start last n bytes pages e in
    let page = is_page last (take page_size bytes) has.first has.page in
    let rise = subst (Rise last) page.both page.rise in
    record { key = page.first.key; above = rise.0; begins = page.begins }
begins_at (suc i) start last (suc n) bytes pages e lt =
    let has = first_page start last n bytes pages e in
    let page = is_page last (take page_size bytes) has.first has.page in
    let behind = begins_at i (start + page_size) (last_key last has.first) n (drop page_size bytes) has.others has.more (omega (arith, lt)) in
    record { key = behind.key; above = above_all last has.first behind.key page.rise behind.above; begins = behind.begins }

-- The key stands in the last page that does not begin above it, if anywhere.
pub found_at : (key : List ℕ) (i start : ℕ) (last : Option (List ℕ)) (n : ℕ) (bytes : List ℕ) (pages : List (List KeyEntry)) → pages_of start last n bytes ≡ Ok pages
    → i < n → begins_above key (page_at i bytes) ≡ false → (suc i < n → begins_above key (page_at (suc i) bytes) ≡ true)
    → found_in key (page_keys (page_at i bytes)) ≡ find (has_key key) (entries_of pages)
found_at key i start last zero bytes pages e lt below above = absurd (omega (arith, lt))
found_at key zero start last (suc n) bytes pages e lt below above =
    let has = first_page start last n bytes pages e in
    let page = is_page last (take page_size bytes) has.first has.page in
    let none = none_behind key (start + page_size) (last_key last has.first) n (drop page_size bytes) has.others has.more (λ more. above (omega (arith, more))) in
    let all : find (has_key key) (entries_of pages) ≡ option_or (find (has_key key) has.first) None =
    ap (λ (p : List (List KeyEntry)). find (has_key key) (entries_of p)) has.both
    ∙ find-append (has_key key) has.first (entries_of has.others)
    ∙ ap (option_or (find (has_key key) has.first)) none in
    page.alone key ∙ sym (or_none (find (has_key key) has.first)) ∙ sym all
  where
    or_none : (o : Option KeyEntry) → option_or o None ≡ o
    or_none (Some x) = refl
    or_none None = refl
found_at key (suc i) start last (suc n) bytes pages e lt below above =
    let has = first_page start last n bytes pages e in
    let page = is_page last (take page_size bytes) has.first has.page in
    let later = last_key last has.first in
    let begins = begins_at i (start + page_size) later n (drop page_size bytes) has.others has.more (omega (arith, lt)) in
    let none : find (has_key key) has.first ≡ None = none_below last has.first key begins.key page.rise begins.above (sym (begins.begins key) ∙ below) in
    let rest = found_at key i (start + page_size) later n (drop page_size bytes) has.others has.more (omega (arith, lt)) below (λ more. above (omega (arith, more))) in
    let all : find (has_key key) (entries_of pages) ≡ find (has_key key) (entries_of has.others) =
    ap (λ (p : List (List KeyEntry)). find (has_key key) (entries_of p)) has.both
    ∙ find-append (has_key key) has.first (entries_of has.others)
    ∙ ap (λ (o : Option KeyEntry). option_or o (find (has_key key) (entries_of has.others))) none in
    rest ∙ sym all

page_is_read : (i start : ℕ) (last : Option (List ℕ)) (n : ℕ) (bytes : List ℕ) (pages : List (List KeyEntry)) → pages_of start last n bytes ≡ Ok pages → i < n
    → IsRead (page_keys (page_at i bytes))
page_is_read i start last zero bytes pages e lt = absurd (omega (arith, lt))
page_is_read zero start last (suc n) bytes pages e lt =
    let has = first_page start last n bytes pages e in
    let page = page_has last (take page_size bytes) has.first has.page in
    is_read (page_keys (take page_size bytes)) (has.first, page.rest) (keys_alone last (count_in (take page_size bytes)) (drop 2 (take page_size bytes)) (has.first, page.rest) page.read)
page_is_read (suc i) start last (suc n) bytes pages e lt =
    let has = first_page start last n bytes pages e in
    page_is_read i (start + page_size) (last_key last has.first) n (drop page_size bytes) has.others has.more (omega (arith, lt))

-- ---- the pages of a block

module _ (key : List ℕ) (n : ℕ) (bytes : List ℕ) (read : IsRead (pages_of header_size None n bytes)) where
  pub keys_are_read : (i : ℕ) → i < n → IsRead (page_keys (page_at i bytes))
  keys_are_read i lt =
      let r = read_ok (pages_of header_size None n bytes) read in
      page_is_read i header_size None n bytes r.0 r.1 lt

  pub is_on : (behind i : ℕ) → behind ≡ suc i → behind ≤ n → IsUpTo key bytes behind → IsBehind key bytes n behind
      → found_in key (page_keys (page_at i bytes)) ≡ find (has_key key) (entries_of (read_of (pages_of header_size None n bytes)))
  is_on behind i is within below above =
      let r = read_ok (pages_of header_size None n bytes) read in
      let here : IsUpTo key bytes (suc i) = subst (IsUpTo key bytes) is below in
      let beyond : IsBehind key bytes n (suc i) = subst (IsBehind key bytes n) is above in
      found_at key i header_size None n bytes r.0 r.1 (omega (arith, is, within)) here beyond
      ∙ ap (λ (p : Result (List (List KeyEntry)) ℕ). find (has_key key) (entries_of (read_of p))) (sym r.1)

  pub is_on_none : (behind : ℕ) → behind ≡ 0 → IsBehind key bytes n behind → None ≡ find (has_key key) (entries_of (read_of (pages_of header_size None n bytes)))
  is_on_none behind none above =
      let r = read_ok (pages_of header_size None n bytes) read in
      let first = subst (λ (i : ℕ). IsBehind key bytes n i) none above in
      sym (none_behind key header_size None n bytes r.0 r.1 first)
      ∙ ap (λ (p : Result (List (List KeyEntry)) ℕ). find (has_key key) (entries_of (read_of p))) (sym r.1)
