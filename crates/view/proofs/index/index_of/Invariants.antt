use Rattle.std.proofs.Common.{◌≡◌, List, ℕ, take}
use Rattle.std.specs.BTreeMap.{get}
use Rattle.view.specs.Index.{name_cmp, place_named}
use Rattle.view.proofs.index.index_of.Given as goal

-- the names of the stores up to here
abbrev pub invariant-loop-at : goal.invariant-loop-at
invariant-loop-at g l = (name : List ℕ) → get name_cmp l.index name ≡ place_named name (take l.at l.stores)
