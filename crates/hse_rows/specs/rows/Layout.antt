-- Layouts: the sets at the nodes of the stores' trees, and what the jobs make of them.
use Rattle.std.specs.Prelude.{ℕ, ◌+◌, ◌-◌, ◌==◌, Bool, false, ◌&&◌, ◌||◌, not, List, [], ◌∷◌, ◌++◌, length, take, drop, map, flat_map, sum_by, Option, Some, None}
use Rattle.std.specs.List.{filter, find, fold, list_any}
use Rattle.std.specs.declared.cmp.Ordering.{Ordering}
use Rattle.std.specs.Ordering.{nat_cmp, on, then_cmp}
use Rattle.std.specs.Cmp.Lexicographic.{slice_cmp}
use Rattle.hse_rows.specs.declared.change.Change.{Change}
use Rattle.hse_rows.specs.declared.row.Row.{Row}
use Rattle.hse_rows.specs.writes.Change.{covers, target}
use Rattle.hse_rows.specs.writes.Sorted.{placed}
use Rattle.hse_rows.specs.writes.NormalForm.{same}
use Rattle.hse_rows.specs.states.State.{Store}
use Rattle.hse_rows.specs.machine.Log.{Numbered}
use Rattle.hse_rows.specs.rows.Newest.{merged, newest, rows_of}
use Rattle.hse_rows.specs.rows.Packing.{prefix_blocks, key_blocks, value_blocks}
use Rattle.hse_rows.specs.rows.Routing.{is_short, child_of}

-- rows in order, and how many blocks of each kind hold them
pub record RowsInBlocks : Type 0 where
  pub rows : List Row
  pub prefix_blocks : ℕ
  pub key_blocks : ℕ
  pub value_blocks : ℕ

-- the node of a store at a path, a list of digits from the root on, with its sets, newest first
pub record Node : Type 0 where
  pub store : ℕ
  pub path : List ℕ
  pub sets : List RowsInBlocks

-- the nodes that have sets, by store and path
abbrev pub Layout : Type 0
Layout = List Node

abbrev pub node_cmp : Node → Node → Ordering
node_cmp = then_cmp (on (λ (node : Node). node.store) nat_cmp) (on (λ (node : Node). node.path) (slice_cmp nat_cmp))

abbrev pub is_at : ℕ → List ℕ → Node → Bool
is_at store path node = (node.store == store) && same node.path path

abbrev pub sets_in : Option Node → List RowsInBlocks
sets_in None = []
sets_in (Some node) = node.sets

-- the sets of a node
abbrev pub sets_at : Layout → ℕ → List ℕ → List RowsInBlocks
sets_at layout store path = sets_in (find (is_at store path) layout)

-- The node gets these sets, and leaves where there is none.
abbrev pub with_sets : Layout → ℕ → List ℕ → List RowsInBlocks → Layout
with_sets layout store path [] = filter (λ node. not (is_at store path node)) layout
with_sets layout store path (first ∷ rest) =
    placed node_cmp (filter (λ node. not (is_at store path node)) layout)
    (record { store = store; path = path; sets = first ∷ rest })

-- a set of these rows, and none where there is no row
abbrev pub set_of : ℕ → List Row → List RowsInBlocks
set_of slot_size [] = []
set_of slot_size (row ∷ rows) = record {
  rows = row ∷ rows;
  prefix_blocks = length (prefix_blocks slot_size (row ∷ rows));
  key_blocks = length (key_blocks slot_size (row ∷ rows));
  value_blocks = length (value_blocks slot_size (row ∷ rows));
} ∷ []

-- new sets at the front of a node
abbrev pub in_front : Layout → ℕ → List ℕ → List RowsInBlocks → Layout
in_front layout store path new = with_sets layout store path (new ++ sets_at layout store path)

-- a set that a job makes, and its node
pub record NewSet : Type 0 where
  pub store : ℕ
  pub path : List ℕ
  pub set : RowsInBlocks

abbrev pub new_sets : ℕ → List ℕ → List RowsInBlocks → List NewSet
new_sets store path sets = map (λ set. record { store = store; path = path; set = set }) sets

-- each at the front of its node
abbrev pub in_fronts : Layout → List NewSet → Layout
in_fronts layout sets = fold (λ l new. in_front l new.store new.path (new.set ∷ [])) layout sets

-- ---- ingest

-- a layer's newest rows of each live store, as a set at its root
abbrev pub ingest_sets : ℕ → List Store → List Numbered → List NewSet
ingest_sets slot_size stores commits =
    flat_map (λ store. new_sets store.id [] (set_of slot_size (newest (rows_of store.id commits)))) stores

-- ---- runs: as many adjacent sets of a node, with this many older ones behind

abbrev pub run_in : List RowsInBlocks → ℕ → ℕ → List RowsInBlocks
run_in sets older len = take len (drop (length sets - (older + len)) sets)

abbrev pub in_place_of_run : List RowsInBlocks → ℕ → ℕ → List RowsInBlocks → List RowsInBlocks
in_place_of_run sets older len new = take (length sets - (older + len)) sets ++ new ++ drop (length sets - older) sets

abbrev pub rows_of_run : List RowsInBlocks → List Row
rows_of_run run = flat_map (λ set. set.rows) run

-- a set on a longer path that extends this one
abbrev pub has_children : Layout → ℕ → List ℕ → Bool
has_children layout store path =
    list_any (λ node. (node.store == store) && covers path node.path && not (same path node.path)) layout

-- nothing older than the run can stand behind it
abbrev pub is_last : Layout → ℕ → List ℕ → ℕ → Bool
is_last layout store path older = (older == 0) && not (has_children layout store path)

-- ---- compactions

-- the same rows in new blocks of prefixes and keys, with the value blocks of the run
abbrev pub with_values_of : List RowsInBlocks → List RowsInBlocks → List RowsInBlocks
with_values_of run [] = []
with_values_of run (set ∷ rest) = record set { value_blocks = sum_by (λ (s : RowsInBlocks). s.value_blocks) run } ∷ rest

-- A key-value compaction writes the run's merged rows anew.
abbrev pub compaction_of : ℕ → List RowsInBlocks → Bool → List RowsInBlocks
compaction_of slot_size run last = set_of slot_size (merged last (rows_of_run run))

-- A key compaction takes over the run's value blocks.
abbrev pub key_compaction_of : ℕ → List RowsInBlocks → Bool → List RowsInBlocks
key_compaction_of slot_size run last = with_values_of run (compaction_of slot_size run last)

-- ---- spills

abbrev pub children : List ℕ
children = 0 ∷ 1 ∷ 2 ∷ 3 ∷ 4 ∷ 5 ∷ 6 ∷ 7 ∷ 8 ∷ 9 ∷ 10 ∷ 11 ∷ 12 ∷ 13 ∷ 14 ∷ 15 ∷ []

-- a row goes to a child of a node at this depth, and one of a short prefix to each
abbrev pub goes_to : ℕ → ℕ → ℕ → Change → Bool
goes_to depth prefix_length child change =
    is_short prefix_length change || (child_of depth prefix_length (target change) == child)

abbrev pub part_for : ℕ → ℕ → ℕ → List Row → List Row
part_for depth prefix_length child rows = filter (λ row. goes_to depth prefix_length child row.change) rows

-- A spill divides the merged rows of a node's oldest sets among its children.
abbrev pub spill_of : ℕ → ℕ → List ℕ → ℕ → List RowsInBlocks → List NewSet
spill_of slot_size store path prefix_length run =
    flat_map (λ child.
    new_sets store (path ++ child ∷ [])
    (set_of slot_size (part_for (length path) prefix_length child (merged false (rows_of_run run)))))
    children
