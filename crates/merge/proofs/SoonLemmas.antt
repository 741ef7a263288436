-- The soonest of the next rows of several sources is the first of their own rows.
use Rattle.std.proofs.Common.{◌≡◌, ℕ, zero, suc, ◌<◌, ◌≤◌, Bool, true, false, true≢false, cond, ltb, List, [], ◌∷◌, ◌++◌, Option, Some, None, refl, sym, ap, ◌∙◌, arith}
use Rattle.std.proofs.lemmas.Bool.{lt-ltb, le-ltb, ltb-true, ltb-false}
use Rattle.std.specs.Prelude.{slice_get}
use Rattle.std.specs.declared.cmp.Ordering.{Ordering}
use Rattle.std.specs.declared.cmp.Ordering.TheVariants.{Less, Equal, Greater}
use Rattle.std.specs.Ordering.{is_lt}
use Rattle.std.specs.List.{AllByRecursion}
use Rattle.std.specs.List.Sorted.{IsStrictlySortedBy}
use Rattle.hse_rows.specs.declared.row.Row.{Row}
use Rattle.hse_rows.specs.writes.Change.{target}
use Rattle.hse_rows.specs.rows.Newest.{row_cmp}
use Rattle.hse_rows.specs.rows.Meaning.{is_own, newer, own_at}
use Rattle.hse_rows.specs.rows.RowSets.{AreRows}
use Rattle.hse_rows.specs.script.Cursor.{Direction, Position, forward, backward, past_key, direction_cmp, is_reached}
use Rattle.row_laws.specs.Sources.{all_rows}
use Rattle.row_laws.specs.Next.{OwnFalls}
use Rattle.sorted_lists.specs.laws.Orders.{less-then}
use Rattle.merge.specs.Places.{stands_before, place_by, places_by, head_from, passed, all_passed, sooner, soonest}
use Rattle.merge.specs.First.{IsFirstIn}
use Rattle.merge.proofs.OrderLemmas.{direction_order}
use Rattle.merge.proofs.SourceLemmas.{IsCutAt}
use Rattle.merge.proofs.HeadLemmas.{place-cut, up-first, up-passed}
use Rattle.merge.proofs.DownLemmas.{down-none, down-first, down-zero, down-passed}

-- ---- one source, in either direction

module _ (position : Position) (rows : List Row) (rise : IsStrictlySortedBy row_cmp rows) where
  down-head : (p : ℕ) → IsCutAt (stands_before backward position) rows p
      → IsFirstIn backward (λ key. own_at key rows) (is_reached backward position) (head_from backward p rows)
  down-head zero cut = down-none position rows rise cut
  down-head (suc n) cut = down-first position rows rise n cut

  down-pass : (k : List ℕ) → is_reached backward position k ≡ true → (p : ℕ) → IsCutAt (stands_before backward position) rows p
      → ((h : Row) → head_from backward p rows ≡ Some h → direction_cmp backward (target h.change) k ≡ Less → ⊥)
      → passed backward k rows p ≡ place_by backward (past_key k) rows
  down-pass k reached zero cut soon = down-zero position rows rise k reached cut
  down-pass k reached (suc n) cut soon = down-passed position rows rise k reached n cut soon

pub head-first : (direction : Direction) (position : Position) (rows : List Row) → IsStrictlySortedBy row_cmp rows
    → IsFirstIn direction (λ key. own_at key rows) (is_reached direction position) (head_from direction (place_by direction position rows) rows)
head-first forward position rows rise =
    up-first position rows rise (place_by forward position rows) (place-cut forward position rows rise) (slice_get rows (place_by forward position rows)) refl
head-first backward position rows rise =
    down-head position rows rise (place_by backward position rows) (place-cut backward position rows rise)

pub head-passed : (direction : Direction) (position : Position) (rows : List Row) → IsStrictlySortedBy row_cmp rows
    → (k : List ℕ) → is_reached direction position k ≡ true
    → ((h : Row) → head_from direction (place_by direction position rows) rows ≡ Some h → direction_cmp direction (target h.change) k ≡ Less → ⊥)
    → passed direction k rows (place_by direction position rows) ≡ place_by direction (past_key k) rows
head-passed forward position rows rise k reached soon =
    up-passed position rows rise (place_by forward position rows) (place-cut forward position rows rise) k reached soon
    (slice_get rows (place_by forward position rows)) refl
head-passed backward position rows rise k reached soon =
    down-pass position rows rise k reached (place_by backward position rows) (place-cut backward position rows rise) soon

-- ---- several sources

abbrev pub or_row : Option Row → Option Row → Option Row
or_row None other = other
or_row (Some row) other = Some row

module _ (direction : Direction) where
  -- what is first depends on the keys asked for alone
  pub first-same : (f g : List ℕ → Option Row) (asked : List ℕ → Bool) (found : Option Row)
      → ((key : List ℕ) → asked key ≡ true → f key ≡ g key) → IsFirstIn direction f asked found → IsFirstIn direction g asked found
  first-same f g asked None same first = λ key is. sym (same key is) ∙ first key is
  first-same f g asked (Some row) same first =
      (first.0, sym (same (target row.change) first.0) ∙ first.1, λ key is less. sym (same key is) ∙ first.2 key is less)

  is-less : (r : Ordering) → is_lt r ≡ true → r ≡ Less
  is-less Less e = refl
  is-less Equal e = absurd (true≢false (sym e))
  is-less Greater e = absurd (true≢false (sym e))

  -- of two, the first of both
  pub first-sooner : (f g : List ℕ → Option Row) (asked : List ℕ → Bool) (one other : Option Row)
      → IsFirstIn direction f asked one → IsFirstIn direction g asked other → IsFirstIn direction (λ key. or_row (f key) (g key)) asked (sooner direction one other)
  first-sooner f g asked None None a b = λ key is. ap (λ o. or_row o (g key)) (a key is) ∙ b key is
  first-sooner f g asked None (Some y) a b = (
    b.0,
    ap (λ o. or_row o (g (target y.change))) (a (target y.change) b.0) ∙ b.1,
    λ key is less. ap (λ o. or_row o (g key)) (a key is) ∙ b.2 key is less,
  )
  first-sooner f g asked (Some x) None a b = (
    a.0,
    ap (λ o. or_row o (g (target x.change))) a.1,
    λ key is less. ap (λ o. or_row o (g key)) (a.2 key is less) ∙ b key is,
  )
  first-sooner f g asked (Some x) (Some y) a b =
      elim (is_lt (direction_cmp direction (target y.change) (target x.change)))
      as (λ t. is_lt (direction_cmp direction (target y.change) (target x.change)) ≡ t → IsFirstIn direction (λ key. or_row (f key) (g key)) asked (Some (cond t y x))) [
        | true ↦ λ is.
            let less : direction_cmp direction (target y.change) (target x.change) ≡ Less = is-less (direction_cmp direction (target y.change) (target x.change)) is in (
              b.0,
              ap (λ o. or_row o (g (target y.change))) (a.2 (target y.change) b.0 less) ∙ b.1,
              λ key asks below. ap (λ o. or_row o (g key)) (a.2 key asks ((direction_order direction).trans key (target y.change) (target x.change) below less)) ∙ b.2 key asks below,
            )
        | false ↦ λ is. (
          a.0,
          ap (λ o. or_row o (g (target x.change))) a.1,
          λ key asks below.
              ap (λ o. or_row o (g key)) (a.2 key asks below)
              ∙ b.2 key asks (less-then (direction_order direction) key (target x.change) (target y.change) (direction_cmp direction (target x.change) (target y.change)) below refl is),
        )
      ] refl

first_own : List ℕ → List (List Row) → Option Row
first_own key [] = None
first_own key (rows ∷ farther) = or_row (own_at key rows) (first_own key farther)

or-none : (a : Option Row) → a ≡ or_row a None
or-none None = refl
or-none (Some row) = refl

or-assoc : (a b c : Option Row) → or_row (or_row a b) c ≡ or_row a (or_row b c)
or-assoc None b c = refl
or-assoc (Some row) b c = refl

newer-none : (a : Option Row) → newer a None ≡ a
newer-none None = refl
newer-none (Some row) = refl

newer-assoc : (a b c : Option Row) → newer (newer a b) c ≡ newer a (newer b c)
newer-assoc None b c = refl
newer-assoc (Some a) None c = refl
newer-assoc (Some a) (Some b) None = newer-none (newer (Some a) (Some b))
newer-assoc (Some a) (Some b) (Some c) = by (ltb b.number a.number) (ltb c.number b.number) refl refl
  where
    first : (x y : Row) → y.number < x.number → newer (Some x) (Some y) ≡ Some x
    first x y less = ap (λ t. cond t (Some x) (Some y)) (lt-ltb y.number x.number less)

    second : (x y : Row) → x.number ≤ y.number → newer (Some x) (Some y) ≡ Some y
    second x y less = ap (λ t. cond t (Some x) (Some y)) (le-ltb y.number x.number less)

    by : (s t : Bool) → ltb b.number a.number ≡ s → ltb c.number b.number ≡ t
        → newer (cond s (Some a) (Some b)) (Some c) ≡ newer (Some a) (cond t (Some b) (Some c))
    by true true one two =
        let less = ltb-true b.number a.number one in
        let down = ltb-true c.number b.number two in
        first a c (omega (arith, less, down)) ∙ sym (first a b less)
    by true false one two = refl
    by false true one two = first b c (ltb-true c.number b.number two) ∙ sym (second a b (ltb-false b.number a.number one))
    by false false one two =
        let up = ltb-false b.number a.number one in
        let more = ltb-false c.number b.number two in
        second b c more ∙ sym (second a c (omega (arith, up, more)))

pub own-append : (key : List ℕ) (xs ys : List Row) → own_at key (xs ++ ys) ≡ newer (own_at key xs) (own_at key ys)
own-append key [] ys = refl
own-append key (x ∷ xs) ys =
    ap (newer (cond (is_own key x) (Some x) None)) (own-append key xs ys)
    ∙ sym (newer-assoc (cond (is_own key x) (Some x) None) (own_at key xs) (own_at key ys))

or-newer : (one other : Option Row) → ((a b : Row) → one ≡ Some a → other ≡ Some b → b.number < a.number) → or_row one other ≡ newer one other
or-newer None other falls = refl
or-newer (Some a) None falls = refl
or-newer (Some a) (Some b) falls = sym (ap (λ t. cond t (Some a) (Some b)) (lt-ltb b.number a.number (falls a b refl refl)))

first-own : (key : List ℕ) (sources : List (List Row)) → OwnFalls key sources → first_own key sources ≡ own_at key (all_rows sources)
unfolding first_own
first-own key [] falls = refl
first-own key (rows ∷ farther) falls =
    ap (or_row (own_at key rows)) (first-own key farther falls.1)
    ∙ or-newer (own_at key rows) (own_at key (all_rows farther)) falls.0
    ∙ sym (own-append key rows (all_rows farther))

newer-left : (a b : Option Row) → newer a b ≡ None → a ≡ None
newer-left None b e = refl
newer-left (Some a) None e = e
newer-left (Some a) (Some b) e =
    elim (ltb b.number a.number) as (λ t. cond t (Some a) (Some b) ≡ None → Some a ≡ None) [ true ↦ λ s. s | false ↦ λ s. absurd cc ] e

newer-right : (a b : Option Row) → newer a b ≡ None → b ≡ None
newer-right None b e = e
newer-right (Some a) None e = refl
newer-right (Some a) (Some b) e =
    elim (ltb b.number a.number) as (λ t. cond t (Some a) (Some b) ≡ None → Some b ≡ None) [ true ↦ λ s. absurd cc | false ↦ λ s. s ] e

module _ (direction : Direction) (position : Position) where
  first-soonest : (f : List ℕ → Option Row) (best : Option Row) (sources : List (List Row)) → AllByRecursion AreRows sources
      → IsFirstIn direction f (is_reached direction position) best
      → IsFirstIn direction (λ key. or_row (f key) (first_own key sources)) (is_reached direction position)
      (soonest direction best sources (places_by direction position sources))
  unfolding first_own
  first-soonest f best [] known first =
      first-same direction f (λ key. or_row (f key) None) (is_reached direction position) best (λ key asks. or-none (f key)) first
  first-soonest f best (rows ∷ farther) known first =
      let head = head_from direction (place_by direction position rows) rows in
      first-same direction (λ key. or_row (or_row (f key) (own_at key rows)) (first_own key farther)) (λ key. or_row (f key) (or_row (own_at key rows) (first_own key farther)))
      (is_reached direction position) (soonest direction (sooner direction best head) farther (places_by direction position farther))
      (λ key asks. or-assoc (f key) (own_at key rows) (first_own key farther))
      (first-soonest (λ key. or_row (f key) (own_at key rows)) (sooner direction best head) farther known.1
      (first-sooner direction f (λ key. own_at key rows) (is_reached direction position) best head first (head-first direction position rows known.0.rising)))

  -- the soonest row of all sources is the first of their own rows
  pub soonest-first : (sources : List (List Row)) → AllByRecursion AreRows sources → ((key : List ℕ) → OwnFalls key sources)
      → IsFirstIn direction (λ key. own_at key (all_rows sources)) (is_reached direction position)
      (soonest direction None sources (places_by direction position sources))
  soonest-first sources known falls =
      first-same direction (λ key. first_own key sources) (λ key. own_at key (all_rows sources)) (is_reached direction position)
      (soonest direction None sources (places_by direction position sources))
      (λ key asks. first-own key sources (falls key))
      (first-soonest (λ key. None) None sources known (λ key asks. refl))

  -- past a key that none comes before
  pub passed-all : (k : List ℕ) → is_reached direction position k ≡ true → (sources : List (List Row)) → AllByRecursion AreRows sources
      → ((key : List ℕ) → is_reached direction position key ≡ true → direction_cmp direction key k ≡ Less → own_at key (all_rows sources) ≡ None)
      → all_passed direction k sources (places_by direction position sources) ≡ places_by direction (past_key k) sources
  passed-all k reached [] known none = refl
  passed-all k reached (rows ∷ farther) known none =
      (λ i. here i ∷ passed-all k reached farther known.1 (λ key asks less. newer-right (own_at key rows) (own_at key (all_rows farther)) (sym (own-append key rows (all_rows farther)) ∙ none key asks less)) i)
    where
      soon : (o : Option Row) → IsFirstIn direction (λ key. own_at key rows) (is_reached direction position) o
          → (h : Row) → o ≡ Some h → direction_cmp direction (target h.change) k ≡ Less → ⊥
      soon None first h is less = let e : None ≡ Some h = is in absurd cc
      soon (Some x) first h is less =
          let lower : direction_cmp direction (target x.change) k ≡ Less = ap (λ (r : Row). direction_cmp direction (target r.change) k) (let s : x ≡ h = cc in s) ∙ less in
          let gone : own_at (target x.change) rows ≡ None =
          newer-left (own_at (target x.change) rows) (own_at (target x.change) (all_rows farther))
          (sym (own-append (target x.change) rows (all_rows farther)) ∙ none (target x.change) first.0 lower) in
          let e : Some x ≡ None = sym first.1 ∙ gone in
          absurd cc

      here : passed direction k rows (place_by direction position rows) ≡ place_by direction (past_key k) rows
      here =
          head-passed direction position rows known.0.rising k reached
          (soon (head_from direction (place_by direction position rows) rows) (head-first direction position rows known.0.rising))
