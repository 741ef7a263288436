-- A merge that was brought to a position.
use Rattle.std.proofs.Common.{◌≡◌, ℕ, true, true≢false, List, [], ◌∷◌, Option, refl, sym, ap, ◌∙◌}
use Rattle.std.specs.Ordering.{nat_cmp, is_ge}
use Rattle.std.specs.Cmp.{first_so}
use Rattle.hse_rows.specs.writes.Change.{covers}
use Rattle.std.specs.Cmp.Lexicographic.{slice_cmp}
use Rattle.hse_rows.specs.declared.row.Row.{Row}
use Rattle.hse_rows.specs.rows.Meaning.{contents_of}
use Rattle.hse_rows.specs.script.Cursor.{CursorState, Direction, Position, forward, front, at_key, is_reached, is_in_range}
use Rattle.row_laws.specs.Sources.{all_rows}
use Rattle.merge.specs.Places.{places_by}
use Rattle.merge.specs.Steps.{GoesOn}
use Rattle.merge.specs.Merge.{MergeState}
use Rattle.cursors.specs.Pairs.{IsAhead, IsBrought}
use Rattle.cursors.specs.Starts.{StartsSame}

pub from-empty : (key : List ℕ) → is_ge (slice_cmp nat_cmp key []) ≡ true
from-empty [] = refl
from-empty (x ∷ key) = refl

pub brought-front : (sources : List (List Row)) (m : MergeState) (last : Option (ℕ × ℕ))
    → m ≡ record { sources = sources; direction = forward; places = places_by forward (at_key []) sources; last = last }
    → IsBrought forward front sources m
brought-front sources m last is = record {
  same_sources = ap (λ (x : MergeState). x.sources) is;
  same_direction = ap (λ (x : MergeState). x.direction) is;
  now = at_key [];
  at = ap (λ (x : MergeState). x.places) is;
  reaches = from-empty;
}

at-goes : (direction : Direction) (now : Position) (sources : List (List Row)) (places : List ℕ) → places ≡ places_by direction now sources
    → GoesOn direction now sources places
at-goes direction now sources places is = record {
  now = now;
  at = is;
  past = record {
    within = λ key reached. reached;
    gone = λ key reached gone. absurd (true≢false (sym reached ∙ gone));
  };
}

pub brought-ahead : (cursor : CursorState) (direction : Direction) (filter : List ℕ) (begin position : Position) (sources : List (List Row)) (m : MergeState)
    → IsBrought direction begin sources m → StartsSame direction filter begin position → cursor.direction ≡ direction → cursor.prefix ≡ filter
    → cursor.position ≡ position → cursor.contents ≡ contents_of (all_rows sources) → IsAhead cursor m
brought-ahead cursor direction filter begin position sources m is starts way prefix stands holds = record {
  contents = holds ∙ ap (λ s. contents_of (all_rows s)) (sym is.same_sources);
  direction = is.same_direction ∙ sym way;
  now = is.now;
  goes = at-goes cursor.direction is.now m.sources m.places (is.at ∙ (λ i. places_by (sym way i) is.now (sym is.same_sources i)));
  left = λ key value has asks.
      (λ i. is_reached (way i) is.now key) ∙ is.reaches key
      ∙ starts key (ap (λ p. covers p key) (sym prefix) ∙ first_so (covers cursor.prefix key) (is_in_range cursor.last key) asks)
      ∙ (λ i. is_reached (sym way i) (sym stands i) key);
}
