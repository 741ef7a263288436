-- Which job comes next.
use Rattle.std.specs.Prelude.{ℕ, ◌==◌, nat_le, nat_lt, Bool, ◌&&◌, not, if◌then◌else◌, length, sum_by, Option, Some, None, is_some}
use Rattle.std.specs.List.{find}
use Rattle.hse_rows.specs.states.State.{store_of}
use Rattle.hse_rows.specs.transactions.Timeline.{for_some}
use Rattle.hse_rows.specs.rows.Routing.{greatest_depth}
use Rattle.hse_rows.specs.rows.Layout.{RowsInBlocks, Node, has_children}
use Rattle.hse_rows.specs.rows.Job.{RunKind, keys, values, spill, JobWish, ingest, of_run, claimer, live_ingest}
use Rattle.hse_rows.specs.machine.Core.{Core, now}

-- a node waits from this many sets on, and is spilled from this many rows on
abbrev pub least_sets : ℕ
least_sets = 4

abbrev pub least_rows : ℕ
least_rows = 8192

-- a node with sets enough that no job claims
abbrev pub waits : Core → Node → Bool
waits m node =
    nat_le least_sets (length node.sets) && not (is_some (claimer m.jobs node.store node.path))
    && is_some (store_of (now m) node.store)

abbrev pub rows_in : Node → ℕ
rows_in node = sum_by (λ (set : RowsInBlocks). length set.rows) node.sets

abbrev pub kind_for : Core → Node → RunKind
kind_for m node =
    if nat_le least_rows (rows_in node) && nat_lt (length node.path) greatest_depth then spill
    else (if has_children m.layout node.store node.path then keys else values)

-- all sets of the node
abbrev pub whole_run : Core → Node → Option JobWish
whole_run m node =
    for_some (store_of (now m) node.store) None (λ store.
    Some (of_run (kind_for m node) store.name node.path 0 (length node.sets)))

-- An ingest where a layer is frozen and none is live, else the first node that waits, by store and path.
abbrev pub next_wish : Core → Option JobWish
next_wish m =
    if not (length m.log.frozen == 0) && not (is_some (live_ingest m.jobs)) then Some ingest
    else (for_some (find (waits m) m.layout) None (whole_run m))
