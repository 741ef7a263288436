-- Lists in order.
use Rattle.std.specs.Prelude.{cond, List, [], ◌∷◌}
use Rattle.std.specs.List.{fold}
use Rattle.std.specs.declared.cmp.Ordering.{Ordering}
use Rattle.std.specs.Ordering.{is_lt}

module _ {X : Type 0} (cmp : X → X → Ordering) where
  -- x before the first that is above it
  abbrev pub placed : List X → X → List X
  placed [] x = x ∷ []
  placed (y ∷ ys) x = cond (is_lt (cmp x y)) (x ∷ y ∷ ys) (y ∷ placed ys x)

  -- the elements in order, and those that tie as they stood
  abbrev pub sorted : List X → List X
  sorted xs = fold placed [] xs
