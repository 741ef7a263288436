-- What a call is answered that nothing refuses.
use Rattle.std.specs.Prelude.{ℕ, ◌+◌, ◌==◌, List, [], ◌∷◌, length, map, flat_map, Option, Some, None}
use Rattle.std.specs.List.{filter}
use Rattle.std.specs.Ordering.{nat_cmp, on}
use Rattle.std.specs.Cmp.Lexicographic.{slice_cmp}
use Rattle.std.specs.FinMap as fin_map
use Rattle.hse_rows.specs.writes.Sorted.{sorted}
use Rattle.hse_rows.specs.states.State.{Store, State, store_named}
use Rattle.hse_rows.specs.transactions.Transaction.{read_of}
use Rattle.hse_rows.specs.transactions.Timeline.{transaction_of, commit_number, for_some}
use Rattle.hse_rows.specs.machine.Log.{charge_of_active}
use Rattle.hse_rows.specs.rows.Layout.{RowsInBlocks, Node, NewSet}
use Rattle.hse_rows.specs.rows.Job.{JobWish, Work, job_of, built_sets, blocks_of, needed_blocks}
use Rattle.hse_rows.specs.machine.Turn.{Plan, settles, enters, removes, installs, TakenTurn, Turn, home, taken, ran}
use Rattle.hse_rows.specs.machine.Replies as replies
use Rattle.hse_rows.specs.machine.Replies.{Part, Refusal, busy, not_formed, other_version, Listed, ListedSet, Figures, Answer, silence, accepted, ok, value, none, listed, sets, figures, pick_next, refused, no_memory, device_fault}
use Rattle.hse_rows.specs.machine.Calls.{outside, inside, Call, begin, write_by, get, commit, abort, list_stores, tree, info, take_place, give_place, pick, build, drop_job, next_job, take, take_install, write_turn, end_turn, reopen}
use Rattle.hse_rows.specs.machine.Core.{Core, now, number_of, free_slots, oldest, oldest_commits}
use Rattle.hse_rows.specs.rows.Schedule.{next_wish}

-- the live stores by name
abbrev pub by_name : State → List Listed
by_name state =
    map (λ store. record { name = store.name; mode = store.mode; prefix_length = store.prefix_length })
    (sorted (on (λ (store : Store). store.name) (slice_cmp nat_cmp)) state.stores)

-- the sets of a node from this place on
abbrev pub sets_from : List ℕ → ℕ → List RowsInBlocks → List ListedSet
sets_from path index [] = []
sets_from path index (set ∷ rest) =
    record { path = path; index = index; rows = length set.rows; blocks = blocks_of set } ∷ sets_from path (index + 1) rest

-- the sets of a store's tree, by path, newest first
abbrev pub tree_of : List Node → ℕ → List ListedSet
tree_of layout id = flat_map (λ node. sets_from node.path 0 node.sets) (filter (λ node. node.store == id) layout)

abbrev pub figures_of : Core → Figures
figures_of m = record {
  number = number_of m;
  frozen = length m.log.frozen;
  charge = charge_of_active m.log;
  free = free_slots m;
  manifest = m.manifest.sequence;
}

-- a key's value, or that it has none
abbrev pub found_value : Option (List ℕ) → Answer ℕ
found_value None = none
found_value (Some bytes) = value bytes

abbrev pub value_in : State → List ℕ → List ℕ → Answer ℕ
value_in state name key =
    for_some (store_named state name) none (λ store. found_value (fin_map.get store.contents key))

abbrev pub next_reply : Option JobWish → Answer ℕ
next_reply None = none
next_reply (Some wish) = pick_next wish

-- the end of an install tells the blocks that it wrote
abbrev pub number_for : TakenTurn → Plan → ℕ
number_for turn settles = turn.number
number_for turn (enters manifest) = turn.number
number_for turn (removes id manifest) = turn.number
number_for turn (installs id work new manifest) = needed_blocks work new

abbrev pub end_reply : Turn → Answer ℕ
end_reply home = accepted
end_reply (taken turn) = accepted
end_reply (ran turn has_failed) = ok (number_for turn turn.plan)

-- the sets that a job would build now
abbrev pub sets_for : Core → Work → List NewSet
sets_for m work =
    built_sets m.sizes.slot_size m.layout (now m).stores (oldest_commits (oldest m.log.frozen)) work

-- The reply of a call that nothing refuses. A reopening's is what it finds.
abbrev pub reply : Core → Call → Answer ℕ
reply m begin = ok (number_of m)
reply m (write_by outside name change) = ok (number_of m + 1)
reply m (write_by (inside order) name change) = accepted
reply m (get outside name key) = value_in (now m) name key
reply m (get (inside order) name key) =
    for_some (transaction_of m.timeline order) none (λ transaction.
    value_in (read_of m.timeline.base m.timeline.history transaction) name key)
reply m (commit order) =
    for_some (transaction_of m.timeline order) accepted (λ transaction.
    ok (commit_number m.timeline transaction transaction.writes))
reply m (abort order) = accepted
reply m list_stores = listed (by_name (now m))
reply m (tree name) = for_some (store_named (now m) name) accepted (λ store. sets (tree_of m.layout store.id))
reply m info = figures (figures_of m)
reply m take_place = accepted
reply m give_place = accepted
reply m (pick wish) = accepted
reply m (build id) =
    for_some (job_of m.jobs id) accepted (λ job. ok (needed_blocks job.work (sets_for m job.work)))
reply m (drop_job id) = accepted
reply m next_job = next_reply (next_wish m)
reply m (take wish) = accepted
reply m (take_install id) = accepted
reply m write_turn = replies.written
reply m end_turn = end_reply m.turn
reply m reopen = accepted
