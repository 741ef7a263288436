-- Reading keys, pages and numbers one after the other, as loops do.
use Rattle.std.proofs.Common.{◌≡◌, true, false, Bool, ℕ, zero, suc, ◌-◌, ◌+◌, ◌≤◌, ◌<◌, List, [], ◌∷◌, length, take, drop, Option, Some, None, Result, Ok, Err, refl, sym, ap, subst, ◌∙◌, arith}
use Rattle.std.specs.Prelude.{◌==◌, ◌||◌, if◌then◌else◌}
use Rattle.std.proofs.lemmas.List.{take-take}
use Rattle.byteorder.specs.Endian.{big_number}
use Rattle.hse_fields.specs.declared.block.ValuePlace.{ValuePlace}
use Rattle.hse_fields.specs.Fields.{number_of}
use Rattle.hse_fields.specs.LogLimits.{longest_key}
use Rattle.hse_fields.specs.LogReading.{◌>>=◌, ensure}
use Rattle.hse_fields.specs.BlockText.{KeyEntry, page_size}
use Rattle.hse_fields.specs.BlockReading.{key_of, keys_of, key_entry, name_of, value_place, place_of, place_after, zeros_of, page_of, pages_of, last_key, count_in, count_all, counts_of}
use Rattle.hse_fields.specs.laws.Blocks.{name_within}
use Rattle.hse_fields.specs.laws.Within.{Within, then, ensured, number_within}
use Rattle.kblock.specs.Reading.{ends, page_ends, passes, number_is}

-- ---- keys

ends_more : (last : Option (List ℕ)) (first : KeyEntry) (r : Result (List KeyEntry × List ℕ) ℕ)
    → ends last (r >>= λ x. Ok (first ∷ x.0, x.1)) ≡ ends (Some first.key) r
ends_more last first (Ok x) = refl
ends_more last first (Err left) = refl

module _ (last : Option (List ℕ)) (count i : ℕ) (bytes : List ℕ) (total : Result (Option (List ℕ) × List ℕ) ℕ) where
  pub keys_go_on : (first : KeyEntry × List ℕ) → i < count → key_of last bytes ≡ Ok first
      → ends last (keys_of last (count - i) bytes) ≡ total
      → ends (Some first.0.key) (keys_of (Some first.0.key) (count - (i + 1)) first.1) ≡ total
  unfolding keys_of
  keys_go_on first lt h so_far =
      let k : count - i ≡ suc (count - (i + 1)) = omega arith in
      let one : ends last (keys_of last (count - i) bytes) ≡ ends (Some first.0.key) (keys_of (Some first.0.key) (count - (i + 1)) first.1) =
      rw (k, h) (ends_more last first.0 (keys_of (Some first.0.key) (count - (i + 1)) first.1)) in
      sym one ∙ so_far

  pub keys_stop : (left : ℕ) → i < count → key_of last bytes ≡ Err left → ends last (keys_of last (count - i) bytes) ≡ total → total ≡ Err left
  unfolding keys_of
  keys_stop left lt h so_far =
      let k : count - i ≡ suc (count - (i + 1)) = omega arith in
      let one : ends last (keys_of last (count - i) bytes) ≡ Err left = rw (k, h) refl in
      sym so_far ∙ one

  pub keys_are_done : count ≤ i → ends last (keys_of last (count - i) bytes) ≡ total → total ≡ Ok (last, bytes)
  unfolding keys_of
  keys_are_done le so_far =
      let k : count - i ≡ 0 = omega arith in
      let one : ends last (keys_of last (count - i) bytes) ≡ Ok (last, bytes) = rw k refl in
      sym so_far ∙ one

-- ---- a page

abbrev from_offset : ℕ × List ℕ → ℕ × List ℕ → Result (ValuePlace × List ℕ) ℕ
from_offset block offset = number_of 4 offset.1 >>= λ len. Ok (value_place block.0 offset.0 len.0, len.1)

place_within : (n : ℕ) (bytes : List ℕ) → length bytes ≤ n → Within n (place_of bytes)
unfolding place_of
place_within n bytes le =
    (then) n (number_of 4 bytes) (λ block. number_of 4 block.1 >>= from_offset block) (number_within 4 n bytes le)
    (λ block h. (then) n (number_of 4 block.1) (from_offset block) (number_within 4 n block.1 h)
    (λ offset i. (then) n (number_of 4 offset.1) (λ len. Ok (value_place block.0 offset.0 len.0, len.1)) (number_within 4 n offset.1 i) (λ len j. j)))

a_place_within : (n : ℕ) (put : Bool) (bytes : List ℕ) → length bytes ≤ n
    → Within n (if put then place_of bytes >>= (λ place. Ok (Some place.0, place.1)) else Ok (None, bytes))
a_place_within n true bytes le = (then) n (place_of bytes) (λ place. Ok (Some place.0, place.1)) (place_within n bytes le) (λ place h. h)
a_place_within n false bytes le = le

place_after_within : (n kind : ℕ) (bytes : List ℕ) → length bytes ≤ n → Within n (place_after kind bytes)
unfolding place_after
place_after_within n kind bytes le = a_place_within n (kind == 1) bytes le

abbrev from_name : ℕ → ℕ → List ℕ × List ℕ → Result (KeyEntry × List ℕ) ℕ
from_name kind number name = place_after kind name.1 >>= λ place. Ok (key_entry number name.0 place.0, place.1)

abbrev from_number : Option (List ℕ) → ℕ → ℕ → ℕ × List ℕ → Result (KeyEntry × List ℕ) ℕ
from_number last left kind number = name_of 2 longest_key last left number.1 >>= from_name kind number.0

key_within : (last : Option (List ℕ)) (n : ℕ) (bytes : List ℕ) → length bytes ≤ n → Within n (key_of last bytes)
unfolding key_of
key_within last n bytes le =
    (then) n (number_of 1 bytes) (λ kind. ensure ((kind.0 == 1) || (kind.0 == 2)) (length bytes) >>= λ known. (number_of 8 kind.1 >>= from_number last (length bytes) kind.0))
    (number_within 1 n bytes le)
    (λ kind h. ensured n (length bytes) ((kind.0 == 1) || (kind.0 == 2)) (λ known. number_of 8 kind.1 >>= from_number last (length bytes) kind.0) le
    ((then) n (number_of 8 kind.1) (from_number last (length bytes) kind.0) (number_within 8 n kind.1 h)
    (λ number i. (then) n (name_of 2 longest_key last (length bytes) number.1) (from_name kind.0 number.0) (name_within 2 longest_key last (length bytes) n number.1 le i)
    (λ name j. (then) n (place_after kind.0 name.1) (λ place. Ok (key_entry number.0 name.0 place.0, place.1)) (place_after_within n kind.0 name.1 j) (λ place k. k)))))

keys_within : (last : Option (List ℕ)) (count n : ℕ) (bytes : List ℕ) → length bytes ≤ n → Within n (keys_of last count bytes)
unfolding keys_of
keys_within last zero n bytes le = le
keys_within last (suc count) n bytes le =
    (then) n (key_of last bytes) (λ first. keys_of (Some first.0.key) count first.1 >>= λ others. Ok (first.0 ∷ others.0, others.1)) (key_within last n bytes le)
    (λ first h. (then) n (keys_of (Some first.0.key) count first.1) (λ others. Ok (first.0 ∷ others.0, others.1))
    (keys_within (Some first.0.key) count n first.1 h) (λ others k. k))

-- what the last key and the bytes behind it tell
refused_is : (last : Option (List ℕ)) (r : Result (List KeyEntry × List ℕ) ℕ) (left n : ℕ) → ends last r ≡ Err left → Within n r → left ≤ n
refused_is last (Ok x) left n e w = absurd cc
refused_is last (Err other) left n e w = let same : other ≡ left = cc in omega (arith, same, w)

read_is : (last end : Option (List ℕ)) (r : Result (List KeyEntry × List ℕ) ℕ) (rest : List ℕ) (n : ℕ) → ends last r ≡ Ok (end, rest) → Within n r → length rest ≤ n
read_is last end (Ok x) rest n e w =
    let same : x.1 ≡ rest = ap (λ (y : Result (Option (List ℕ) × List ℕ) ℕ). behind y) e in
    subst (λ (l : List ℕ). length l ≤ n) same w
  where
    behind : Result (Option (List ℕ) × List ℕ) ℕ → List ℕ
    behind (Ok y) = y.1
    behind (Err left) = []
read_is last end (Err other) rest n e w = absurd cc

pub keys_refused_inside : (last : Option (List ℕ)) (count left : ℕ) (bytes : List ℕ) → ends last (keys_of last count bytes) ≡ Err left → left ≤ length bytes
keys_refused_inside last count left bytes e = refused_is last (keys_of last count bytes) left (length bytes) e (keys_within last count (length bytes) bytes (omega arith))

pub keys_behind : (last end : Option (List ℕ)) (count : ℕ) (bytes rest : List ℕ) → ends last (keys_of last count bytes) ≡ Ok (end, rest) → length rest ≤ length bytes
keys_behind last end count bytes rest e = read_is last end (keys_of last count bytes) rest (length bytes) e (keys_within last count (length bytes) bytes (omega arith))

zeros_with : (byte : ℕ) (bytes : List ℕ) (left : ℕ) (test : Bool) → (if test then zeros_of bytes else Err (length (byte ∷ bytes))) ≡ Err left
    → (zeros_of bytes ≡ Err left → left ≤ length bytes) → left ≤ length (byte ∷ bytes)
zeros_with byte bytes left true e more = omega (arith, more e)
zeros_with byte bytes left false e more = let same : length (byte ∷ bytes) ≡ left = cc in omega (arith, same)

pub zeros_inside : (bytes : List ℕ) (left : ℕ) → zeros_of bytes ≡ Err left → left ≤ length bytes
zeros_inside [] left e = absurd cc
zeros_inside (byte ∷ bytes) left e = zeros_with byte bytes left (byte == 0) e (zeros_inside bytes left)

-- ---- pages

pages_more : {X : Type 0} (x : X) (r : Result (List X) ℕ) → passes (r >>= λ xs. Ok (x ∷ xs)) ≡ passes r
pages_more x (Ok xs) = refl
pages_more x (Err place) = refl

page_is : (last end : Option (List ℕ)) (r : Result (List KeyEntry) ℕ) → page_ends last r ≡ Ok end → (page : List KeyEntry) × (r ≡ Ok page) × (last_key last page ≡ end)
page_is last end (Ok page) e = (page, refl, cc)
page_is last end (Err left) e = absurd cc

page_refused : (last : Option (List ℕ)) (r : Result (List KeyEntry) ℕ) (left : ℕ) → page_ends last r ≡ Err left → r ≡ Err left
page_refused last (Ok page) left e = absurd cc
page_refused last (Err other) left e = let same : other ≡ left = cc in ap (λ (n : ℕ). Err n) same

page_read : (start : ℕ) (last : Option (List ℕ)) (n : ℕ) (bytes : List ℕ) (page : List KeyEntry) → page_of last (take page_size bytes) ≡ Ok page
    → passes (pages_of start last (suc n) bytes) ≡ passes (pages_of (start + page_size) (last_key last page) n (drop page_size bytes))
unfolding pages_of
page_read start last n bytes page e =
    rw e (pages_more page (pages_of (start + page_size) (last_key last page) n (drop page_size bytes)))

module _ (start : ℕ) (last : Option (List ℕ)) (count i : ℕ) (bytes : List ℕ) (total : Result (Unit {0}) ℕ) where
  pub pages_go_on : (end : Option (List ℕ)) → i < count → page_ends last (page_of last (take page_size bytes)) ≡ Ok end
      → passes (pages_of start last (count - i) bytes) ≡ total
      → passes (pages_of (start + page_size) end (count - (i + 1)) (drop page_size bytes)) ≡ total
  pages_go_on end lt h so_far =
      let k : count - i ≡ suc (count - (i + 1)) = omega arith in
      let page = page_is last end (page_of last (take page_size bytes)) h in
      let one : passes (pages_of start last (count - i) bytes) ≡ passes (pages_of (start + page_size) (last_key last page.0) (count - (i + 1)) (drop page_size bytes)) =
      rw k (page_read start last (count - (i + 1)) bytes page.0 page.1) in
      subst (λ (o : Option (List ℕ)). passes (pages_of (start + page_size) o (count - (i + 1)) (drop page_size bytes)) ≡ total) page.2 (sym one ∙ so_far)

  pub pages_stop : (left : ℕ) → i < count → page_ends last (page_of last (take page_size bytes)) ≡ Err left
      → passes (pages_of start last (count - i) bytes) ≡ total → total ≡ Err (start + page_size - left)
  unfolding pages_of
  pages_stop left lt h so_far =
      let k : count - i ≡ suc (count - (i + 1)) = omega arith in
      let one : passes (pages_of start last (count - i) bytes) ≡ Err (start + page_size - left) =
      rw (k, page_refused last (page_of last (take page_size bytes)) left h) refl in
      sym so_far ∙ one

  pub pages_are_done : count ≤ i → passes (pages_of start last (count - i) bytes) ≡ total → total ≡ Ok tt
  unfolding pages_of
  pages_are_done le so_far =
      let k : count - i ≡ 0 = omega arith in
      let one : passes (pages_of start last (count - i) bytes) ≡ Ok tt = rw k refl in
      sym so_far ∙ one

-- ---- numbers

pub count_more : (count i : ℕ) (bytes : List ℕ) → i < count
    → count_all (count - i) bytes ≡ count_in (take page_size bytes) + count_all (count - (i + 1)) (drop page_size bytes)
count_more count i bytes lt =
    let k : count - i ≡ suc (count - (i + 1)) = omega arith in
    let same : count_in bytes ≡ count_in (take page_size bytes) = sym (ap (big_number 2) (take-take 2 page_size bytes (omega arith))) in
    rw k (ap (λ (n : ℕ). n + count_all (count - (i + 1)) (drop page_size bytes)) same)

abbrev with_number : ℕ → ℕ → List ℕ → List ℕ → Result (Unit {0}) ℕ
with_number before n pages bytes = number_is before bytes >>= λ rest. counts_of (before + count_in pages) n (drop page_size pages) rest

regroup_if : (test : Bool) (left : ℕ) (rest : List ℕ) (f : List ℕ → Result (Unit {0}) ℕ)
    → (ensure test left >>= λ agrees. f rest) ≡ ((ensure test left >>= λ agrees. Ok rest) >>= f)
regroup_if true left rest f = refl
regroup_if false left rest f = refl

regroup : (r : Result (ℕ × List ℕ) ℕ) (before left : ℕ) (f : List ℕ → Result (Unit {0}) ℕ)
    → (r >>= λ number. ensure (number.0 == before) left >>= λ agrees. f number.1) ≡ ((r >>= λ number. ensure (number.0 == before) left >>= λ agrees. Ok number.1) >>= f)
regroup (Ok x) before left f = regroup_if (x.0 == before) left x.1 f
regroup (Err other) before left f = refl

number_first : (before n : ℕ) (pages bytes : List ℕ) → counts_of before (suc n) pages bytes ≡ with_number before n pages bytes
unfolding counts_of number_is
number_first before n pages bytes =
    regroup (number_of 4 bytes) before (length bytes) (counts_of (before + count_in pages) n (drop page_size pages))

module _ (before count i : ℕ) (pages bytes : List ℕ) (total : Result (Unit {0}) ℕ) where
  pub numbers_go_on : (rest : List ℕ) → i < count → number_is before bytes ≡ Ok rest → counts_of before (count - i) pages bytes ≡ total
      → counts_of (before + count_in (take page_size pages)) (count - (i + 1)) (drop page_size pages) rest ≡ total
  numbers_go_on rest lt h so_far =
      let k : count - i ≡ suc (count - (i + 1)) = omega arith in
      let same : count_in pages ≡ count_in (take page_size pages) = sym (ap (big_number 2) (take-take 2 page_size pages (omega arith))) in
      let one : counts_of before (count - i) pages bytes ≡ counts_of (before + count_in pages) (count - (i + 1)) (drop page_size pages) rest =
      rw k (number_first before (count - (i + 1)) pages bytes ∙ rw h refl) in
      subst (λ (n : ℕ). counts_of (before + n) (count - (i + 1)) (drop page_size pages) rest ≡ total) same (sym one ∙ so_far)

  pub numbers_stop : (left : ℕ) → i < count → number_is before bytes ≡ Err left → counts_of before (count - i) pages bytes ≡ total → total ≡ Err left
  numbers_stop left lt h so_far =
      let k : count - i ≡ suc (count - (i + 1)) = omega arith in
      let one : counts_of before (count - i) pages bytes ≡ Err left =
      rw k (number_first before (count - (i + 1)) pages bytes ∙ rw h refl) in
      sym so_far ∙ one

  pub numbers_are_done : count ≤ i → counts_of before (count - i) pages bytes ≡ total → total ≡ Ok tt
  unfolding counts_of
  numbers_are_done le so_far =
      let k : count - i ≡ 0 = omega arith in
      let one : counts_of before (count - i) pages bytes ≡ Ok tt = rw k refl in
      sym so_far ∙ one
