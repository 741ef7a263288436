-- The steps of a search for the next merged row, in either direction.
use Rattle.std.proofs.Common.{◌≡◌, ℕ, zero, suc, length, get_or, map, ◌<◌, ◌≤◌, [], ◌∷◌, ◌++◌, arith, Bool, true, false, true≢false, cond, ltb, List, Option, Some, None, refl, sym, ap, ◌∙◌, subst}
use Rattle.std.proofs.lemmas.Bool.{lt-ltb, le-ltb, ltb-true, ltb-false}
use Rattle.std.specs.declared.cmp.Ordering.{Ordering}
use Rattle.std.specs.declared.cmp.Ordering.TheVariants.{Less, Equal, Greater}
use Rattle.std.specs.Prelude.{IfSome, slice_get}
use Rattle.std.specs.Ordering.{is_gt}
use Rattle.std.specs.List.{AllByRecursion}
use Rattle.hse_rows.specs.declared.row.Row.{Row}
use Rattle.hse_rows.specs.writes.Change.{target}
use Rattle.hse_rows.specs.rows.RowSets.{AreRows}
use Rattle.hse_rows.specs.rows.Meaning.{is_own, is_covering, own_at, covered_at, greater}
use Rattle.hse_rows.specs.script.Cursor.{Direction, Position, past_key, direction_cmp, is_reached}
use Rattle.row_laws.specs.Sources.{all_rows}
use Rattle.row_laws.specs.Next.{covered_in, row_lasting, lasting_at, IsPast, OwnFalls}
use Rattle.sorted_lists.specs.laws.Orders.{turned}
use Rattle.merge.specs.Places.{places_by, all_passed, soonest}
use Rattle.merge.specs.First.{IsFirstIn}
use Rattle.merge.specs.Merge.{MergeState, StandsAt, position_after, Goes}
use Rattle.merge.specs.Steps.{GoesOn, AreAt, IsRowAt, Given}
use Rattle.merge.proofs.OrderLemmas.{direction_order, same_key, reach-up}
use Rattle.merge.proofs.SourceLemmas.{own-index, some-is}
use Rattle.merge.proofs.SoonLemmas.{soonest-first, passed-all}

pub past-start : (has : List ℕ → Option Row) (asked : List ℕ → Bool) → IsPast has asked asked
past-start has asked = record {
  within = λ key is. is;
  gone = λ key is out. absurd (true≢false (sym is ∙ out));
}

module _ (direction : Direction) (rows : List Row) (start now : List ℕ → Bool) (past : IsPast (lasting_at rows) start now) where
  none-lasting : (key : List ℕ) → own_at key rows ≡ None → lasting_at rows key ≡ None
  none-lasting key none = ap (λ own. row_lasting own (covered_at key rows)) none

  pub past-none : IsFirstIn direction (λ key. own_at key rows) now None → IsFirstIn direction (lasting_at rows) start None
  past-none none = λ key asks. by key asks (now key) refl
    where
      by : (key : List ℕ) → start key ≡ true → (b : Bool) → now key ≡ b → lasting_at rows key ≡ None
      by key asks true is = none-lasting key (none key is)
      by key asks false is = past.gone key asks is

  pub past-found : (row : Row) → IsFirstIn direction (λ key. own_at key rows) now (Some row)
      → row_lasting (Some row) (covered_at (target row.change) rows) ≡ Some row → IsFirstIn direction (lasting_at rows) start (Some row)
  past-found row first stays = (
    past.within (target row.change) first.0,
    ap (λ own. row_lasting own (covered_at (target row.change) rows)) first.1 ∙ stays,
    λ key asks less. by key asks less (now key) refl,
  )
    where
      by : (key : List ℕ) → start key ≡ true → direction_cmp direction key (target row.change) ≡ Less → (b : Bool) → now key ≡ b → lasting_at rows key ≡ None
      by key asks less true is = none-lasting key (first.2 key is less)
      by key asks less false is = past.gone key asks is

module _ (direction : Direction) (rows : List Row) (start : List ℕ → Bool) (position : Position)
    (past : IsPast (lasting_at rows) start (is_reached direction position))
    (row : Row) (first : IsFirstIn direction (λ key. own_at key rows) (is_reached direction position) (Some row)) where
  asked-above : (key : List ℕ) → is_reached direction (past_key (target row.change)) key ≡ true → is_reached direction position key ≡ true
  asked-above key above = by (direction_cmp direction key (target row.change)) refl above
    where
      by : (r : Ordering) → direction_cmp direction key (target row.change) ≡ r → is_gt r ≡ true → is_reached direction position key ≡ true
      by Greater is e =
          reach-up direction position (target row.change) key (turned (direction_order direction) key (target row.change) Greater is) first.0
      by Equal is e = absurd (true≢false (sym e))
      by Less is e = absurd (true≢false (sym e))

  pub past-goes : row_lasting (Some row) (covered_at (target row.change) rows) ≡ None
      → IsPast (lasting_at rows) start (is_reached direction (past_key (target row.change)))
  past-goes hidden = record {
    within = λ key above. past.within key (asked-above key above);
    gone = λ key asks not_above.
        by key asks (is_reached direction position key) refl (direction_cmp direction key (target row.change)) refl not_above;
  }
    where
      by : (key : List ℕ) → start key ≡ true → (b : Bool) → is_reached direction position key ≡ b
          → (r : Ordering) → direction_cmp direction key (target row.change) ≡ r → is_gt r ≡ false → lasting_at rows key ≡ None
      by key asks false out r is e = past.gone key asks out
      by key asks true in' Less is e = ap (λ own. row_lasting own (covered_at key rows)) (first.2 key in' is)
      by key asks true in' Equal is e =
          ap (lasting_at rows) (same_key direction key (target row.change) is)
          ∙ ap (λ own. row_lasting own (covered_at (target row.change) rows)) first.1 ∙ hidden
      by key asks true in' Greater is e = absurd (true≢false e)

greater-none : (a : Option ℕ) → greater a None ≡ a
greater-none None = refl
greater-none (Some n) = refl

greater-assoc : (a b c : Option ℕ) → greater (greater a b) c ≡ greater a (greater b c)
greater-assoc None b c = refl
greater-assoc (Some a) None c = refl
greater-assoc (Some a) (Some b) None = greater-none (greater (Some a) (Some b))
greater-assoc (Some a) (Some b) (Some c) = by (ltb b a) (ltb c b) refl refl
  where
    first : (x y : ℕ) → y < x → greater (Some x) (Some y) ≡ Some x
    first x y less = ap (λ t. cond t (Some x) (Some y)) (lt-ltb y x less)

    second : (x y : ℕ) → x ≤ y → greater (Some x) (Some y) ≡ Some y
    second x y less = ap (λ t. cond t (Some x) (Some y)) (le-ltb y x less)

    by : (s t : Bool) → ltb b a ≡ s → ltb c b ≡ t → greater (cond s (Some a) (Some b)) (Some c) ≡ greater (Some a) (cond t (Some b) (Some c))
    by true true one two =
        let less = ltb-true b a one in
        let down = ltb-true c b two in
        first a c (omega (arith, less, down)) ∙ sym (first a b less)
    by true false one two = refl
    by false true one two = first b c (ltb-true c b two) ∙ sym (second a b (ltb-false b a one))
    by false false one two =
        let up = ltb-false b a one in
        let more = ltb-false c b two in
        second b c more ∙ sym (second a c (omega (arith, up, more)))

covered-append : (key : List ℕ) (xs ys : List Row) → covered_at key (xs ++ ys) ≡ greater (covered_at key xs) (covered_at key ys)
covered-append key [] ys = refl
covered-append key (x ∷ xs) ys =
    ap (greater (cond (is_covering key x) (Some x.number) None)) (covered-append key xs ys)
    ∙ sym (greater-assoc (cond (is_covering key x) (Some x.number) None) (covered_at key xs) (covered_at key ys))

pub covered-all : (key : List ℕ) (sources : List (List Row)) → covered_in key sources ≡ covered_at key (all_rows sources)
covered-all key [] = refl
covered-all key (rows ∷ farther) =
    ap (greater (covered_at key rows)) (covered-all key farther) ∙ sym (covered-append key rows (all_rows farther))

-- ---- one turn

module _ (direction : Direction) (sources : List (List Row)) (known : AllByRecursion AreRows sources) (falls : (key : List ℕ) → OwnFalls key sources)
    (position : Position) (places : List ℕ) (goes : GoesOn direction position sources places) where
  first-from : (found : Option Row) → found ≡ soonest direction None sources places
      → IsFirstIn direction (λ key. own_at key (all_rows sources)) (is_reached direction goes.now) found
  first-from found is =
      subst (IsFirstIn direction (λ key. own_at key (all_rows sources)) (is_reached direction goes.now))
      (sym (is ∙ ap (soonest direction None sources) goes.at))
      (soonest-first direction goes.now sources known falls)

  pub turn-none : None ≡ soonest direction None sources places
      → IsFirstIn direction (lasting_at (all_rows sources)) (is_reached direction position) None
  turn-none is = past-none direction (all_rows sources) (is_reached direction position) (is_reached direction goes.now) goes.past (first-from None is)

  module _ (row : Row) (is : Some row ≡ soonest direction None sources places) where
    passed-row : all_passed direction (target row.change) sources places ≡ places_by direction (past_key (target row.change)) sources
    passed-row =
        let first = first-from (Some row) is in
        ap (all_passed direction (target row.change) sources) goes.at
        ∙ passed-all direction goes.now (target row.change) first.0 sources known first.2

    pub turn-found : row_lasting (Some row) (covered_in (target row.change) sources) ≡ Some row
        → IsFirstIn direction (lasting_at (all_rows sources)) (is_reached direction position) (Some row)
    turn-found stays =
        past-found direction (all_rows sources) (is_reached direction position) (is_reached direction goes.now) goes.past row (first-from (Some row) is)
        (ap (row_lasting (Some row)) (sym (covered-all (target row.change) sources)) ∙ stays)

    pub turn-past : GoesOn direction (past_key (target row.change)) sources (all_passed direction (target row.change) sources places)
    turn-past = record {
      now = past_key (target row.change);
      at = passed-row;
      past = past-start (lasting_at (all_rows sources)) (is_reached direction (past_key (target row.change)));
    }

    pub turn-goes : row_lasting (Some row) (covered_in (target row.change) sources) ≡ None
        → GoesOn direction position sources (all_passed direction (target row.change) sources places)
    turn-goes hidden = record {
      now = past_key (target row.change);
      at = passed-row;
      past = past-goes direction (all_rows sources) (is_reached direction position) goes.now goes.past row (first-from (Some row) is)
          (ap (row_lasting (Some row)) (sym (covered-all (target row.change) sources)) ∙ hidden);
    }

    pub turn-own : is_own (target row.change) row ≡ true
    turn-own = (own-index (target row.change) (all_rows sources) row (first-from (Some row) is).1).own

-- places of a position go on from it
pub goes-at : (direction : Direction) (sources : List (List Row)) (places : List ℕ) (at : AreAt direction sources places)
    → GoesOn direction at.now sources places
goes-at direction sources places at = record {
  now = at.now;
  at = at.at;
  past = past-start (lasting_at (all_rows sources)) (is_reached direction at.now);
}

pub at-goes : (direction : Direction) (position : Position) (sources : List (List Row)) (places : List ℕ)
    → GoesOn direction position sources places → AreAt direction sources places
at-goes direction position sources places goes = record { now = goes.now; at = goes.at }

-- what a step gives stands in a source
pub given-there : (direction : Direction) (position : Position) (sources : List (List Row)) (found : Option (ℕ × ℕ)) (places : List ℕ)
    → Given direction position sources found places → IfSome found (λ place. (row : Row) × IsRowAt sources place.0 place.1 row)
given-there direction position sources None places given = tt
given-there direction position sources (Some place) places given = (given.row, given.there)

row-same : (sources : List (List Row)) (source at : ℕ) (one other : Row) → IsRowAt sources source at one → IsRowAt sources source at other → one ≡ other
row-same [] source at one other a b = absurd a
row-same (rows ∷ sources) zero at one other a b = some-is one other (sym a ∙ b)
row-same (rows ∷ sources) (suc source) at one other a b = row-same sources source at one other a b

module _ (direction : Direction) (position : Position) (sources : List (List Row)) where
  pub given-first : (result : Option (ℕ × ℕ)) (places : List ℕ) (found : Option Row) → Given direction position sources result places → StandsAt sources result found
      → IsFirstIn direction (lasting_at (all_rows sources)) (is_reached direction position) found
  given-first None places None given stands = given.0
  given-first None places (Some row) given stands = absurd stands
  given-first (Some place) places None given stands = absurd stands
  given-first (Some place) places (Some row) given stands =
      subst (λ (r : Row). IsFirstIn direction (lasting_at (all_rows sources)) (is_reached direction position) (Some r))
      (row-same sources place.0 place.1 given.row row given.there stands) given.first

  pub given-goes : (result : Option (ℕ × ℕ)) (places : List ℕ) (found : Option Row) → Given direction position sources result places → StandsAt sources result found
      → GoesOn direction (position_after position found) sources places
  given-goes None places None given stands = given.1
  given-goes None places (Some row) given stands = absurd stands
  given-goes (Some place) places None given stands = absurd stands
  given-goes (Some place) places (Some row) given stands =
      subst (λ (r : Row). GoesOn direction (past_key (target r.change)) sources places)
      (row-same sources place.0 place.1 given.row row given.there stands) given.goes

pub goes-old : {found : Option Row} {new : MergeState} (one other : MergeState) → one ≡ other → Goes one found new → Goes other found new
goes-old {found} {new} one other same goes = subst (λ (m : MergeState). Goes m found new) same goes

-- ---- a row at a place

module _ {X : Type 0} (rows : X → List Row) where
  pub row-source : (sources : List X) (source at : ℕ) (row : Row) → IsRowAt (map rows sources) source at row → source < length sources
  row-source [] source at row there = absurd there
  row-source (x ∷ sources) zero at row there = omega arith
  row-source (x ∷ sources) (suc source) at row there = let h = row-source sources source at row there in omega (arith, h)

  pub row-index : (sources : List X) (source at : ℕ) (row : Row) (x : X) → IsRowAt (map rows sources) source at row → x ≡ get_or sources source x
      → slice_get (rows x) at ≡ Some row
  row-index [] source at row x there is = absurd there
  row-index (y ∷ sources) zero at row x there is = ap (λ (z : X). slice_get (rows z) at) is ∙ there
  row-index (y ∷ sources) (suc source) at row x there is = row-index sources source at row x there is

  pub row-made : (sources : List X) (source at : ℕ) (row : Row) (x : X) → source < length sources → x ≡ get_or sources source x
      → slice_get (rows x) at ≡ Some row → IsRowAt (map rows sources) source at row
  row-made [] source at row x less is there = absurd (omega (arith, less))
  row-made (y ∷ sources) zero at row x less is there = ap (λ (z : X). slice_get (rows z) at) (sym is) ∙ there
  row-made (y ∷ sources) (suc source) at row x less is there = row-made sources source at row x (omega (arith, less)) is there
