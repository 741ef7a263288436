-- What is picked in one tree is what the machine's schedule picks of that store's nodes.
use Rattle.std.specs.Prelude.{◌≡◌, ℕ, ◌==◌, cond, List, [], ◌∷◌, flat_map, Option, Some, None}
use Rattle.std.specs.List.{filter, find}
use Rattle.std.specs.Option.{option_map}
use Rattle.hse_rows.specs.declared.row.Row.{Row}
use Rattle.hse_rows.specs.states.State.{Store, store_of}
use Rattle.hse_rows.specs.transactions.Timeline.{for_some}
use Rattle.hse_rows.specs.rows.Layout.{RowsInBlocks, Node, Layout}
use Rattle.hse_rows.specs.rows.Job.{RunKind, keys, values, spill, JobWish, of_run, Work, ingesting, on_run, Job}
use Rattle.hse_rows.specs.machine.Core.{Core, now}
use Rattle.hse_rows.specs.rows.Schedule.{waits, whole_run}
use Rattle.cn_tree.specs.declared.schedule.Pick.{Pick}
use Rattle.cn_tree.specs.declared.schedule.PickKind.{PickKind}
use Rattle.cn_tree.specs.declared.schedule.PickKind.TheVariants.{Key, KeyValue, Spill}
use Rattle.cn_tree.specs.Tree.{TreeNode}
use Rattle.cn_tree.specs.Layouts.{layout_of}
use Rattle.cn_tree.specs.Schedule.{next_pick}

-- the nodes of the store of this id
abbrev pub nodes_of : Layout → ℕ → Layout
nodes_of layout id = filter (λ (node : Node). node.store == id) layout

-- the paths of the store's nodes that jobs claim
abbrev pub claimed_by : ℕ → Work → List (List ℕ)
claimed_by id ingesting = []
claimed_by id (on_run run) = cond (run.store == id) (run.path ∷ []) []

abbrev pub claimed_in : List Job → ℕ → List (List ℕ)
claimed_in jobs id = flat_map (λ (job : Job). claimed_by id job.work) jobs

-- the machine's words for a pick
abbrev pub run_kind : PickKind → RunKind
run_kind Key = keys
run_kind KeyValue = values
run_kind Spill = spill

abbrev pub wish_of : List ℕ → Pick → JobWish
wish_of name pick = of_run (run_kind pick.kind) name pick.path 0 pick.length

-- what the machine's schedule wishes of a store's nodes
abbrev pub wish_in : Core → ℕ → Option JobWish
wish_in m id = for_some (find (waits m) (nodes_of m.layout id)) None (whole_run m)

-- The nodes of the layout that are of this store are those of its tree, and a set's blocks have its rows.
pub record IsTreeOf {R : Type 0} (rows : R → List Row) (blocks : R → RowsInBlocks) (layout : Layout) (id : ℕ) (nodes : List (TreeNode R)) : Type 0 where
  pub hold : (set : R) → (blocks set).rows ≡ rows set
  pub same_nodes : nodes_of layout id ≡ layout_of id blocks nodes

-- With the claims of the live jobs, the pick of a live store's tree is the machine's wish of its nodes.
abbrev pub PicksAreWishes : (R : Type 0) → (R → List Row) → Type 0
PicksAreWishes R rows =
    (m : Core) (store : Store) (blocks : R → RowsInBlocks) (nodes : List (TreeNode R))
    → store_of (now m) store.id ≡ Some store → IsTreeOf rows blocks m.layout store.id nodes
    → wish_in m store.id ≡ option_map (wish_of store.name) (next_pick rows nodes (claimed_in m.jobs store.id))
