-- The first refusal of a call, in the order of the table.
use Rattle.std.specs.Prelude.{ℕ, ◌+◌, ◌==◌, nat_lt, nat_le, Bool, true, false, not, ◌&&◌, ◌||◌, if◌then◌else◌, List, [], ◌∷◌, ◌++◌, length, Option, Some, None, is_some}
use Rattle.std.specs.List.{find, list_any}
use Rattle.hse_rows.specs.declared.store.Mode.{Mode}
use Rattle.hse_rows.specs.declared.store.Mode.TheVariants.{Plain, Tx}
use Rattle.hse_rows.specs.declared.change.Change.{Change}
use Rattle.hse_rows.specs.declared.change.Change.TheVariants.{Put, Del, PDel}
use Rattle.hse_rows.specs.declared.write.Write.{Write}
use Rattle.hse_rows.specs.writes.NormalForm.{normal_form}
use Rattle.hse_rows.specs.writes.Charge.{charge_of}
use Rattle.hse_rows.specs.states.State.{Store, store_named, store_of}
use Rattle.hse_rows.specs.transactions.Transaction.{TransactionState, active, committed, aborted, Transaction, is_active}
use Rattle.hse_rows.specs.transactions.Conflict.{Conflict, held, since, conflict_of}
use Rattle.hse_rows.specs.transactions.Timeline.{snapshot_of, transaction_of, for_some}
use Rattle.hse_rows.specs.machine.Log.{LogState, most_frozen}
use Rattle.hse_rows.specs.rows.Routing.{greatest_depth}
use Rattle.hse_rows.specs.rows.Layout.{sets_at}
use Rattle.hse_rows.specs.machine.Sizes.{Sizes}
use Rattle.hse_rows.specs.machine.ManifestRoom.{greatest_sequence, half_room}
use Rattle.hse_rows.specs.rows.Job.{RunKind, JobWish, ingest, of_run, Job, JobState, is_picked, is_built, is_installing, is_spill, job_of, live_ingest, claimer, first_on, needed_blocks}
use Rattle.hse_rows.specs.machine.Turn.{TurnWish, sync, freeze, create, drop, Turn, home, taken, ran, is_home, is_taken, is_run}
use Rattle.hse_rows.specs.machine.Replies.{by_commit, by_abort, Refusal, no_name, ended_by, store_exists, no_store, store_mode, key_length, value_length, prefix_length, broken, too_many, spent, busy, turn_is, manifest_full, txn_size, log_full, full, log_busy, store_held, node_busy, canceled_held, canceled_since, depth, no_run, job_state}
use Rattle.hse_rows.specs.machine.Calls.{outside, inside, Call, begin, write_by, get, commit, abort, list_stores, tree, info, take_place, give_place, pick, build, drop_job, next_job, take, take_install, write_turn, end_turn, reopen}
use Rattle.hse_rows.specs.writes.Lengths.{longest_key, longest_prefix}
use Rattle.hse_rows.specs.machine.Core.{Core, whole_room, left_room, free_slots, live, now, number_of, longest_value, most_transactions, most_cursors, most_jobs, greatest_number, write_to}
use Rattle.hse_rows.specs.machine.ManifestEntry.{ManifestEntry, whole_need, has_no_room, creation_entry, drop_entry, install_entry}

-- this refusal where the test says so, and else what comes later
abbrev pub refuse : Bool → Refusal ℕ → Option (Refusal ℕ) → Option (Refusal ℕ)
refuse test refusal later = if test then Some refusal else later

-- ---- lengths

abbrev pub key_refusal : List ℕ → Option (Refusal ℕ) → Option (Refusal ℕ)
key_refusal key later =
    refuse ((length key == 0) || nat_lt longest_key (length key)) (key_length (length key)) later

abbrev pub value_refusal : Sizes → List ℕ → Option (Refusal ℕ) → Option (Refusal ℕ)
value_refusal sizes bytes later =
    refuse (nat_lt (longest_value sizes) (length bytes)) (value_length (length bytes)) later

-- a prefix of 1 byte up to the store's prefix length
abbrev pub prefix_refusal : Store → List ℕ → Option (Refusal ℕ) → Option (Refusal ℕ)
prefix_refusal store prefix later =
    refuse ((length prefix == 0) || nat_lt store.prefix_length (length prefix)) (prefix_length (length prefix)) later

abbrev pub change_refusal : Sizes → Store → Change → Option (Refusal ℕ) → Option (Refusal ℕ)
change_refusal sizes store (Put key bytes) later = key_refusal key (value_refusal sizes bytes later)
change_refusal sizes store (Del key) later = key_refusal key later
change_refusal sizes store (PDel prefix) later = prefix_refusal store prefix later

-- ---- commits

-- the store takes writes in transactions only
abbrev pub is_tx : Mode → Bool
is_tx Tx = true
is_tx Plain = false

-- no number is left for an event
abbrev pub is_spent : Core → Bool
is_spent m = nat_le greatest_number (number_of m)

-- a commit of this charge, that no segment has room for
abbrev pub size_refusal : Core → ℕ → Option (Refusal ℕ) → Option (Refusal ℕ)
size_refusal m charge later = refuse (nat_lt (whole_room m) charge) (txn_size charge (whole_room m)) later

-- or that this segment has no room left for
abbrev pub room_refusal : Core → ℕ → Option (Refusal ℕ)
room_refusal m charge = refuse (nat_lt (left_room m) charge) (log_full charge (left_room m)) None

-- a write of a `plain` store is a commit of its own
abbrev pub outside_refusal : Core → Change → Store → Option (Refusal ℕ)
outside_refusal m change store =
    refuse (is_tx store.mode) store_mode
    (change_refusal m.sizes store change
    (refuse m.is_broken broken
    (refuse (is_spent m) spent
    (size_refusal m (charge_of (normal_form (write_to store change ∷ [])))
    (room_refusal m (charge_of (normal_form (write_to store change ∷ []))))))))

-- A commit without writes makes no event.
abbrev pub commit_refusal : Core → List Write → Option (Refusal ℕ)
commit_refusal m [] = None
commit_refusal m (write ∷ writes) =
    refuse m.is_broken broken
    (refuse (is_spent m) spent
    (room_refusal m (charge_of (normal_form (write ∷ writes)))))

-- ---- transactions

abbrev pub unless_ended : TransactionState → Option (Refusal ℕ) → Option (Refusal ℕ)
unless_ended active later = later
unless_ended (committed number) later = Some (ended_by by_commit)
unless_ended aborted later = Some (ended_by by_abort)

-- the transaction of this begin order, while it is live
abbrev pub in_transaction : Core → ℕ → (Transaction → Option (Refusal ℕ)) → Option (Refusal ℕ)
in_transaction m order later =
    for_some (transaction_of m.timeline order) (Some no_name) (λ transaction.
    unless_ended transaction.state (later transaction))

abbrev pub unless_canceled : Option Conflict → Option (Refusal ℕ)
unless_canceled None = None
unless_canceled (Some (held order)) = Some (canceled_held order)
unless_canceled (Some (since number)) = Some (canceled_since number)

-- a write in a transaction, to a store of its snapshot that is still live
abbrev pub inside_refusal : Core → Change → Transaction → Store → Option (Refusal ℕ)
inside_refusal m change transaction store =
    refuse (not (is_some (store_of (now m) store.id))) no_store
    (refuse (not (is_tx store.mode)) store_mode
    (change_refusal m.sizes store change
    (refuse m.is_broken broken
    (size_refusal m (charge_of (normal_form (transaction.writes ++ write_to store change ∷ [])))
    (unless_canceled
    (conflict_of m.timeline.base m.timeline.history m.timeline.begun transaction (write_to store change)))))))

-- ---- jobs

abbrev pub unless_busy_with : Option Job → Option (Refusal ℕ) → Option (Refusal ℕ)
unless_busy_with None later = later
unless_busy_with (Some job) later = Some (node_busy job.id)

-- so many sets from this one on, where the node has so many
abbrev pub run_refusal : RunKind → ℕ → ℕ → ℕ → Option (Refusal ℕ)
run_refusal kind from len have =
    refuse ((len == 0) || nat_lt have (from + len) || (is_spill kind && nat_lt (from + len) have)) (no_run have) None

abbrev pub too_many_jobs : Core → Option (Refusal ℕ) → Option (Refusal ℕ)
too_many_jobs m later = refuse (nat_le most_jobs (length m.jobs)) (too_many most_jobs) later

abbrev pub pick_refusal : Core → JobWish → Option (Refusal ℕ)
pick_refusal m ingest =
    refuse m.is_broken broken
    (too_many_jobs m
    (unless_busy_with (live_ingest m.jobs)
    (refuse (length m.log.frozen == 0) (no_run 0) None)))
pick_refusal m (of_run kind name path from len) =
    for_some (store_named (now m) name) (Some no_store) (λ store.
    refuse m.is_broken broken
    (too_many_jobs m
    (unless_busy_with (claimer m.jobs store.id path)
    (refuse (is_spill kind && nat_le greatest_depth (length path)) (depth greatest_depth)
    (run_refusal kind from len (length (sets_at m.layout store.id path)))))))

-- the live job of this id, in a state that the test asks for
abbrev pub with_job : Core → ℕ → (JobState → Bool) → (Job → Option (Refusal ℕ)) → Option (Refusal ℕ)
with_job m id is_asked later =
    for_some (job_of m.jobs id) (Some no_name) (λ job.
    refuse (not (is_asked job.state)) (job_state job.state) (later job))

-- ---- turns

abbrev pub unless_busy : Turn → Option (Refusal ℕ) → Option (Refusal ℕ)
unless_busy home later = later
unless_busy (taken turn) later = Some (busy turn.kind)
unless_busy (ran turn has_failed) later = Some (busy turn.kind)

-- the active segment takes commits until another can be started
abbrev pub is_log_busy : LogState → Bool
is_log_busy log =
    not (length log.active == 0)
    && (nat_le most_frozen (length log.frozen) || nat_le greatest_sequence (log.first_segment + length log.frozen))

abbrev pub entry_refusal : Core → ManifestEntry → Option (Refusal ℕ)
entry_refusal m entry =
    refuse (has_no_room m entry) (manifest_full (whole_need entry) (half_room m.sizes.half_size)) None

-- the first begun live transaction that has a write in the store
abbrev pub first_in_store : List Transaction → ℕ → Option Transaction
first_in_store begun id =
    find
    (λ transaction. is_active transaction.state && list_any (λ write. write.store.0 == id) transaction.writes) begun

abbrev pub unless_held : Option Transaction → Option (Refusal ℕ) → Option (Refusal ℕ)
unless_held None later = later
unless_held (Some transaction) later = Some (store_held transaction.begun)

abbrev pub install_refusal : Core → Job → Option (Refusal ℕ)
install_refusal m job =
    refuse m.is_broken broken
    (unless_busy m.turn
    (refuse (nat_lt (free_slots m) (needed_blocks job.work job.sets)) (full (needed_blocks job.work job.sets) (free_slots m))
    (entry_refusal m (install_entry m job.work job.sets))))

abbrev pub drop_refusal : Core → Store → Option (Refusal ℕ)
drop_refusal m store =
    refuse m.is_broken broken
    (unless_held (first_in_store m.timeline.begun store.id)
    (unless_busy_with (live_ingest m.jobs)
    (unless_busy_with (first_on m.jobs store.id)
    (refuse (is_spent m) spent
    (unless_busy m.turn
    (entry_refusal m (drop_entry m store)))))))

abbrev pub take_refusal : Core → TurnWish → Option (Refusal ℕ)
take_refusal m sync = refuse m.is_broken broken (unless_busy m.turn None)
take_refusal m freeze =
    refuse m.is_broken broken (unless_busy m.turn (refuse (is_log_busy m.log) log_busy None))
take_refusal m (create name mode prefix) =
    refuse (is_some (store_named (now m) name)) store_exists
    (refuse (nat_lt longest_prefix prefix) (prefix_length prefix)
    (refuse m.is_broken broken
    (refuse (nat_le m.sizes.most_stores (length (now m).stores)) (too_many m.sizes.most_stores)
    (refuse (is_spent m) spent
    (unless_busy m.turn
    (entry_refusal m (creation_entry m name mode prefix)))))))
take_refusal m (drop name) = for_some (store_named (now m) name) (Some no_store) (drop_refusal m)

abbrev pub unless_not_taken : Turn → Option (Refusal ℕ)
unless_not_taken home = Some (turn_is is_home)
unless_not_taken (taken turn) = None
unless_not_taken (ran turn has_failed) = Some (turn_is is_run)

-- an end after device calls that failed answers that the engine is broken
abbrev pub unless_run_well : Turn → Option (Refusal ℕ)
unless_run_well home = Some (turn_is is_home)
unless_run_well (taken turn) = Some (turn_is is_taken)
unless_run_well (ran turn true) = Some broken
unless_run_well (ran turn false) = None

-- ---- calls

abbrev pub refusal : Core → Call → Option (Refusal ℕ)
refusal m begin =
    refuse (nat_le most_transactions (length (live m))) (too_many most_transactions)
    (refuse (is_spent m || nat_le greatest_number (length m.timeline.begun)) spent None)
refusal m (write_by outside name change) =
    for_some (store_named (now m) name) (Some no_store) (outside_refusal m change)
refusal m (write_by (inside order) name change) =
    in_transaction m order (λ transaction.
    for_some (store_named (snapshot_of m.timeline transaction) name) (Some no_store)
    (inside_refusal m change transaction))
refusal m (get outside name key) =
    for_some (store_named (now m) name) (Some no_store) (λ store. key_refusal key None)
refusal m (get (inside order) name key) =
    in_transaction m order (λ transaction.
    for_some (store_named (snapshot_of m.timeline transaction) name) (Some no_store) (λ store. key_refusal key None))
refusal m (commit order) = in_transaction m order (λ transaction. commit_refusal m transaction.writes)
refusal m (abort order) = in_transaction m order (λ transaction. None)
refusal m list_stores = None
refusal m (tree name) = for_some (store_named (now m) name) (Some no_store) (λ store. None)
refusal m info = None
refusal m take_place = refuse (nat_le most_cursors m.cursors) (too_many most_cursors) None
refusal m give_place = None
refusal m (pick wish) = pick_refusal m wish
refusal m (build id) = with_job m id is_picked (λ job. refuse m.is_broken broken None)
refusal m (drop_job id) = with_job m id (λ state. not (is_installing state)) (λ job. None)
refusal m next_job = None
refusal m (take wish) = take_refusal m wish
refusal m (take_install id) = with_job m id is_built (install_refusal m)
refusal m write_turn = unless_not_taken m.turn
refusal m end_turn = unless_run_well m.turn
refusal m reopen = unless_busy m.turn None
