-- The loops over sources and their places.
use Rattle.std.proofs.Common.{◌≡◌, ℕ, zero, suc, ◌-◌, ◌<◌, ◌≤◌, ◌==◌, Bool, true, false, true≢false, cond, not, ◌&&◌, List, [], ◌∷◌, length, get_or, set, take, drop, map, Option, Some, None, refl, sym, ap, ◌∙◌, arith}
use Rattle.std.proofs.lemmas.Option.{slice_get_within}
use Rattle.std.specs.Prelude.{slice_get, IfSome}
use Rattle.std.specs.declared.cmp.Ordering.TheVariants.{Less}
use Rattle.std.specs.List.{AllByRecursion}
use Rattle.std.specs.List.Sorted.{IsStrictlySortedBy}
use Rattle.hse_rows.specs.declared.row.Row.{Row}
use Rattle.hse_rows.specs.writes.NormalForm.{rank}
use Rattle.hse_rows.specs.rows.Newest.{row_cmp}
use Rattle.hse_rows.specs.writes.Reach.{reaches}
use Rattle.hse_rows.specs.rows.Meaning.{is_own, greater, covered_at}
use Rattle.hse_rows.specs.script.Cursor.{Direction, forward, backward}
use Rattle.row_laws.specs.Merging.{is_key_row}
use Rattle.sorted_lists.specs.laws.Lists.{each-weaker}
use Rattle.merge.specs.Places.{if_key, index_from, head_from, is_of, passed, all_passed, sooner, soonest, left_from, all_left, IsHead}
use Rattle.merge.specs.Steps.{IsRowAt}
use Rattle.merge.proofs.SourceLemmas.{key-prefix}
use Rattle.merge.proofs.HeadLemmas.{two-less}

-- ---- a source whose first row is of a key has no prefix delete

no-cover : (key : List ℕ) (xs : List Row) → AllByRecursion (λ y. is_key_row y ≡ true) xs → covered_at key xs ≡ None
no-cover key [] all = refl
no-cover key (x ∷ xs) all =
    ap (λ b. greater (cond b (Some x.number) None) (covered_at key xs)) (by (rank x.change == 0) all.0) ∙ no-cover key xs all.1
  where
    by : (b : Bool) → not b ≡ true → (b && reaches x.change key) ≡ false
    by true e = absurd (true≢false (sym e))
    by false e = refl

pub first-keyed : (key : List ℕ) (rows : List Row) (row : Row) → IsStrictlySortedBy row_cmp rows → slice_get rows 0 ≡ Some row → is_key_row row ≡ true
    → None ≡ covered_at key rows
unfolding IsStrictlySortedBy
first-keyed key [] row rise is keyed = refl
first-keyed key (x ∷ xs) row rise is keyed =
    sym (no-cover key (x ∷ xs) (here, each-weaker (λ y less. by y less (is_key_row y) refl) xs rise.0))
  where
    here : is_key_row x ≡ true
    here = ap is_key_row (let e : x ≡ row = cc in e) ∙ keyed

    by : (y : Row) → row_cmp x y ≡ Less → (b : Bool) → is_key_row y ≡ b → b ≡ true
    by y less true e = refl
    by y less false e = absurd (two-less (row_cmp x y) less (key-prefix x y here e))

-- ---- one source more

module _ {X : Type 0} (direction : Direction) (rows : X → List Row) where
  pub pass-more : (key : List ℕ) (sources : List X) (places : List ℕ) (at : ℕ) (source : X) → at < length sources → length sources ≡ length places
      → source ≡ get_or sources at source
      → set (all_passed direction key (map rows (take at sources)) places) at
      (passed direction key (rows source) (get_or (all_passed direction key (map rows (take at sources)) places) at 0))
      ≡ all_passed direction key (map rows (take (suc at) sources)) places
  pass-more key [] places at source less same is = absurd (omega (arith, less))
  pass-more key (s ∷ sources) [] at source less same is = absurd (omega (arith, same))
  pass-more key (s ∷ sources) (p ∷ places) zero source less same is = ap (λ (x : X). passed direction key (rows x) p ∷ places) is
  pass-more key (s ∷ sources) (p ∷ places) (suc at) source less same is =
      ap (λ l. passed direction key (rows s) p ∷ l) (pass-more key sources places at source (omega (arith, less)) (omega (arith, same)) is)

  pub soonest-more : (best : Option Row) (sources : List X) (places : List ℕ) (at : ℕ) (source : X) → at < length sources → length sources ≡ length places
      → source ≡ get_or sources at source
      → soonest direction best (map rows (drop at sources)) (drop at places)
      ≡ soonest direction (sooner direction best (head_from direction (get_or places at 0) (rows source))) (map rows (drop (suc at) sources)) (drop (suc at) places)
  soonest-more best [] places at source less same is = absurd (omega (arith, less))
  soonest-more best (s ∷ sources) [] at source less same is = absurd (omega (arith, same))
  soonest-more best (s ∷ sources) (p ∷ places) zero source less same is =
      ap (λ (x : X). soonest direction (sooner direction best (head_from direction p (rows x))) (map rows sources) places) (sym is)
  soonest-more best (s ∷ sources) (p ∷ places) (suc at) source less same is =
      soonest-more best sources places at source (omega (arith, less)) (omega (arith, same)) is

  pub head-at : (sources : List X) (places : List ℕ) (at : ℕ) (source : X) (row : Row) → at < length sources → length sources ≡ length places
      → source ≡ get_or sources at source → head_from direction (get_or places at 0) (rows source) ≡ Some row
      → IsHead direction (map rows sources) places at row
  head-at [] places at source row less same is there = absurd (omega (arith, less))
  head-at (s ∷ sources) [] at source row less same is there = absurd (omega (arith, same))
  head-at (s ∷ sources) (p ∷ places) zero source row less same is there =
      ap (λ (x : X). head_from direction p (rows x)) (sym is) ∙ there
  head-at (s ∷ sources) (p ∷ places) (suc at) source row less same is there =
      head-at sources places at source row (omega (arith, less)) (omega (arith, same)) is there

-- ---- the head of a source

pub head-within : (direction : Direction) (sources : List (List Row)) (places : List ℕ) (at : ℕ) (row : Row) → IsHead direction sources places at row → at < length places
head-within direction [] places at row head = absurd head
head-within direction (rows ∷ sources) [] at row head = absurd head
head-within direction (rows ∷ sources) (p ∷ places) zero row head = omega arith
head-within direction (rows ∷ sources) (p ∷ places) (suc at) row head = let h = head-within direction sources places at row head in omega (arith, h)

if-key : (o : Option Row) (row : Row) → if_key o ≡ Some row → o ≡ Some row
if-key None row is = is
if-key (Some x) row is =
    elim (is_key_row x) as (λ b. cond b (Some x) None ≡ Some row → Some x ≡ Some row) [ true ↦ λ e. e | false ↦ λ e. absurd cc ] is

index-head : (direction : Direction) (place : ℕ) (rows : List Row) (row : Row) → head_from direction place rows ≡ Some row
    → slice_get rows (index_from direction place) ≡ Some row
index-head forward place rows row is = is
index-head backward zero rows row is = let e : None ≡ Some row = is in absurd cc
index-head backward (suc n) rows row is = if-key (slice_get rows n) row is

pub row-at : (direction : Direction) (sources : List (List Row)) (places : List ℕ) (at : ℕ) (row : Row) → IsHead direction sources places at row
    → IsRowAt sources at (index_from direction (get_or places at 0)) row
row-at direction [] places at row head = absurd head
row-at direction (rows ∷ sources) [] at row head = absurd head
row-at direction (rows ∷ sources) (p ∷ places) zero row head = index-head direction p rows row head
row-at direction (rows ∷ sources) (p ∷ places) (suc at) row head = row-at direction sources places at row head

-- ---- fewer rows are left

less-left : (direction : Direction) (key : List ℕ) (rows : List Row) (place : ℕ) → left_from direction rows (passed direction key rows place) ≤ left_from direction rows place
less-left forward key rows place =
    elim (is_of key (slice_get rows place)) as (λ b. length rows - cond b (suc place) place ≤ length rows - place) [ true ↦ omega arith | false ↦ omega arith ]
less-left backward key rows zero = omega arith
less-left backward key rows (suc n) =
    elim (is_of key (if_key (slice_get rows n))) as (λ b. cond b n (suc n) ≤ suc n) [ true ↦ omega arith | false ↦ omega arith ]

fewer-left : (direction : Direction) (key : List ℕ) (rows : List Row) (place : ℕ) (row : Row) → head_from direction place rows ≡ Some row → is_own key row ≡ true
    → left_from direction rows (passed direction key rows place) < left_from direction rows place
fewer-left forward key rows place row is own =
    let high = slice_get_within rows place row is in
    rw (is, own) (omega (arith, high))
fewer-left backward key rows zero row is own = let e : None ≡ Some row = is in absurd cc
fewer-left backward key rows (suc n) row is own = rw (is, own) (omega arith)

all-less : (direction : Direction) (key : List ℕ) (sources : List (List Row)) (places : List ℕ)
    → all_left direction sources (all_passed direction key sources places) ≤ all_left direction sources places
all-less direction key [] places = omega arith
all-less direction key (rows ∷ sources) [] = omega arith
all-less direction key (rows ∷ sources) (p ∷ places) =
    let one = less-left direction key rows p in
    let more = all-less direction key sources places in
    omega (arith, one, more)

pub all-fewer : (direction : Direction) (key : List ℕ) (sources : List (List Row)) (places : List ℕ) (at : ℕ) (row : Row)
    → IsHead direction sources places at row → is_own key row ≡ true
    → all_left direction sources (all_passed direction key sources places) < all_left direction sources places
all-fewer direction key [] places at row head own = absurd head
all-fewer direction key (rows ∷ sources) [] at row head own = absurd head
all-fewer direction key (rows ∷ sources) (p ∷ places) zero row head own =
    let one = fewer-left direction key rows p row head own in
    let more = all-less direction key sources places in
    omega (arith, one, more)
all-fewer direction key (rows ∷ sources) (p ∷ places) (suc at) row head own =
    let one = less-left direction key rows p in
    let more = all-fewer direction key sources places at row head own in
    omega (arith, one, more)

pub passed-length : (direction : Direction) (key : List ℕ) (sources : List (List Row)) (places : List ℕ)
    → length (all_passed direction key sources places) ≡ length places
passed-length direction key [] places = refl
passed-length direction key (rows ∷ sources) [] = refl
passed-length direction key (rows ∷ sources) (p ∷ places) = ap suc (passed-length direction key sources places)

pub if-more : {X : Type 0} (P Q : X → Type 0) (o : Option X) → ((x : X) → o ≡ Some x → P x → Q x) → IfSome o P → IfSome o Q
if-more P Q None f h = tt
if-more P Q (Some x) f h = f x refl h
