-- Which run of a tree's sets is to be compacted or spilled next.
use Rattle.std.specs.Prelude.{ℕ, nat_le, nat_lt, Bool, ◌&&◌, not, if◌then◌else◌, List, length, map, sum_by, Option, Some, None}
use Rattle.std.specs.List.{find, list_any}
use Rattle.hse_rows.specs.declared.row.Row.{Row}
use Rattle.hse_rows.specs.writes.NormalForm.{same}
use Rattle.hse_rows.specs.rows.Routing.{greatest_depth}
use Rattle.hse_rows.specs.rows.Schedule.{least_sets, least_rows}
use Rattle.cn_tree.specs.declared.schedule.Pick.{Pick}
use Rattle.cn_tree.specs.declared.schedule.PickKind.{PickKind}
use Rattle.cn_tree.specs.declared.schedule.PickKind.TheVariants.{Key, KeyValue, Spill}
use Rattle.cn_tree.specs.Tree.{TreeNode, has_children}

-- a path among these
abbrev pub is_claimed : List (List ℕ) → List ℕ → Bool
is_claimed claimed path = list_any (λ other. same other path) claimed

-- a node with sets enough whose path is not among these
abbrev pub waits : {R : Type 0} → List (List ℕ) → TreeNode R → Bool
waits claimed node = nat_le least_sets (length node.sets) && not (is_claimed claimed node.path)

abbrev pub rows_in : List (List Row) → ℕ
rows_in sets = sum_by (λ (rows : List Row). length rows) sets

abbrev pub kind_for : {R : Type 0} → (R → List Row) → List (TreeNode R) → TreeNode R → PickKind
kind_for rows nodes node =
    if nat_le least_rows (rows_in (map rows node.sets)) && nat_lt (length node.path) greatest_depth then Spill
    else (if has_children nodes node.path then Key else KeyValue)

-- all sets of the node
abbrev pub whole_run : {R : Type 0} → (R → List Row) → List (TreeNode R) → TreeNode R → Pick
whole_run rows nodes node = record { kind = kind_for rows nodes node; path = node.path; length = length node.sets }

abbrev pub pick_of : {R : Type 0} → (R → List Row) → List (TreeNode R) → Option (TreeNode R) → Option Pick
pick_of rows nodes None = None
pick_of rows nodes (Some node) = Some (whole_run rows nodes node)

-- of the first node that waits, by path
abbrev pub next_pick : {R : Type 0} → (R → List Row) → List (TreeNode R) → List (List ℕ) → Option Pick
next_pick rows nodes claimed = pick_of rows nodes (find (waits claimed) nodes)
