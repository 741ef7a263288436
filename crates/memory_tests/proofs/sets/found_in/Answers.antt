use Rattle.std.proofs.Common.{List, ℕ, [], ◌∷◌, map, sym, subst}
use Rattle.hse_rows.specs.declared.row.Row.{Row}
use Rattle.row_laws.specs.Sources.{Falls, IsAbove}
use Rattle.cn_tree.specs.Path.{path_of}
use Rattle.cn_tree.specs.Tree.{TreeState, sets_on}
use Rattle.memory_tests.proofs.sets.found_in.Goals as goal

none-behind : (key : List ℕ) (rows : List Row) → IsAbove key rows []
none-behind key [] = tt
none-behind key (row ∷ rows) = (λ _. tt, none-behind key rows)

pub find-requires : goal.find-requires
unfolding sets_on path_of
find-requires c =
    subst (λ (t : TreeState (List Row)). Falls c.args.key.now (map (λ (set : List Row). set) (sets_on t c.args.key.now))) (sym c.in_ok-tree.ensures)
    (λ _. none-behind c.args.key.now c.args.set, tt)
