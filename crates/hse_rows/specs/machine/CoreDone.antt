-- Where a call leads.
use Rattle.std.specs.Prelude.{ℕ, ◌+◌, ◌-◌, ◌==◌, nat_lt, Bool, true, false, not, ◌||◌, if◌then◌else◌, List, [], ◌∷◌, ◌++◌, length, map, Option, Some, None}
use Rattle.std.specs.List.{filter}
use Rattle.hse_rows.specs.declared.write.Write.{Write}
use Rattle.hse_rows.specs.writes.NormalForm.{normal_form}
use Rattle.hse_rows.specs.states.State.{Store, store_named}
use Rattle.hse_rows.specs.transactions.Moves as moves
use Rattle.hse_rows.specs.transactions.Timeline.{snapshot_of, transaction_of, for_some}
use Rattle.hse_rows.specs.machine.Log.{LogState, Frozen, logged}
use Rattle.hse_rows.specs.rows.Layout.{NewSet, is_last, sets_at}
use Rattle.hse_rows.specs.rows.Job.{RunKind, JobWish, ingest, of_run, Run, Work, ingesting, on_run, Job, JobState, picked, built, installing, job_of, installed, needed_blocks, freed_blocks}
use Rattle.hse_rows.specs.machine.Turn.{TurnKind, syncing, freezing, creating, dropping, TurnWish, sync, freeze, create, drop, Plan, settles, enters, removes, installs, TakenTurn, Turn, home, taken, ran, written, Calls}
use Rattle.hse_rows.specs.machine.Turn as turns
use Rattle.hse_rows.specs.machine.Calls.{outside, inside, Call, begin, write_by, get, commit, abort, list_stores, tree, info, take_place, give_place, pick, build, drop_job, next_job, take, take_install, write_turn, end_turn, reopen}
use Rattle.hse_rows.specs.machine.Core.{Core, blocks_in, now, number_of, oldest, write_to, with_move, layout_but}
use Rattle.hse_rows.specs.machine.ManifestEntry.{creation_entry, drop_entry, install_entry, entered}
use Rattle.hse_rows.specs.machine.CoreReply.{sets_for}

-- ---- jobs

abbrev pub without_job : List Job → ℕ → List Job
without_job jobs id = filter (λ job. not (job.id == id)) jobs

-- the job of this id in this state, with these sets
abbrev pub with_state : List Job → ℕ → JobState → List NewSet → List Job
with_state jobs id state new =
    map (λ (job : Job). if job.id == id then record job { state = state; sets = new } else job) jobs

-- one picked more
abbrev pub with_picked : Core → Work → Core
with_picked m work = record m {
  jobs = m.jobs ++ record { id = m.picked; work = work; state = picked; sets = [] } ∷ [];
  picked = m.picked + 1;
}

-- the run of so many sets from this one on, with whether it is the last now
abbrev pub run_of : Core → RunKind → Store → List ℕ → ℕ → ℕ → Run
run_of m kind store path from len = record {
  kind = kind;
  store = store.id;
  prefix_length = store.prefix_length;
  path = path;
  older = length (sets_at m.layout store.id path) - (from + len);
  len = len;
  last = is_last m.layout store.id path (length (sets_at m.layout store.id path) - (from + len));
}

abbrev pub picking : Core → JobWish → Core
picking m ingest = with_picked m ingesting
picking m (of_run kind name path from len) =
    for_some (store_named (now m) name) m (λ store. with_picked m (on_run (run_of m kind store path from len)))

abbrev pub building : Core → Job → Core
building m job = record m { jobs = with_state m.jobs job.id built (sets_for m job.work) }

-- ---- commits

-- the log with a transaction's commit, if it made changes
abbrev pub log_with : Core → List Write → LogState
log_with m [] = m.log
log_with m (write ∷ writes) = logged m.log (number_of m + 1) (normal_form (write ∷ writes))

-- a commit of one write
abbrev pub committing_write : Core → Write → Core
committing_write m write = record (with_move m (moves.write_out write)) {
  log = logged m.log (number_of m + 1) (normal_form (write ∷ []));
}

-- ---- turns

-- a turn up to this number
abbrev pub with_turn_up_to : Core → ℕ → TurnKind → Plan → Bool → Core
with_turn_up_to m number kind plan calls =
    record m { turn = taken (record { kind = kind; number = number; plan = plan; calls = calls }) }

-- and one up to the last number
abbrev pub with_turn : Core → TurnKind → Plan → Bool → Core
with_turn m kind plan calls = with_turn_up_to m (number_of m) kind plan calls

-- commits wait for the device
abbrev pub has_pending : Core → Bool
has_pending m = nat_lt m.safe (number_of m)

-- an active layer that has commits becomes the newest frozen one
abbrev pub frozen_log : LogState → ℕ → LogState
frozen_log log last =
    if length log.active == 0 then log
    else (record log { frozen = record { last = last; commits = log.active } ∷ log.frozen; active = [] })

abbrev pub with_installing : Core → Job → Core
with_installing m job = record m {
  jobs = with_state m.jobs job.id installing job.sets;
  used_slots = m.used_slots + needed_blocks job.work job.sets;
}

abbrev pub taking : Core → TurnWish → Core
taking m sync = with_turn m syncing settles (has_pending m)
taking m freeze =
    with_turn (record m { log = frozen_log m.log (number_of m) }) freezing settles
    (not (length m.log.active == 0) || has_pending m)
taking m (create name mode prefix) =
    with_turn (with_move m (moves.create name mode prefix)) creating
    (enters (entered m (creation_entry m name mode prefix))) true
taking m (drop name) =
    for_some (store_named (now m) name) m (λ store.
    with_turn (with_move m (moves.remove store.id)) dropping
    (removes store.id (entered m (drop_entry m store))) true)

abbrev pub taking_install : Core → ℕ → Core
taking_install m id =
    for_some (job_of m.jobs id) m (λ job.
    with_turn_up_to (with_installing m job) m.safe turns.installing
    (installs id job.work job.sets (entered m (install_entry m job.work job.sets))) true)

-- the layers but the one that was frozen first
abbrev pub without_oldest : List Frozen → List Frozen
without_oldest [] = []
without_oldest (layer ∷ []) = []
without_oldest (layer ∷ next ∷ layers) = layer ∷ without_oldest (next ∷ layers)

-- its last number is the horizon, and its segment is needed no more
abbrev pub oldest_gone : LogState → Option Frozen → LogState
oldest_gone log None = log
oldest_gone log (Some layer) = record log {
  horizon = layer.last;
  first_segment = log.first_segment + 1;
  frozen = without_oldest log.frozen;
}

abbrev pub log_after : LogState → Work → LogState
log_after log ingesting = oldest_gone log (oldest log.frozen)
log_after log (on_run run) = log

-- what a plan makes of the state
abbrev pub planned : Core → ℕ → Plan → Core
planned m number settles = record m { safe = number }
planned m number (enters manifest) = record m { safe = number; manifest = manifest }
planned m number (removes id manifest) = record m {
  safe = number;
  manifest = manifest;
  layout = layout_but m.layout id;
  used_slots = m.used_slots - (blocks_in m.layout - blocks_in (layout_but m.layout id));
}
planned m number (installs id work new manifest) = record m {
  manifest = manifest;
  layout = installed m.layout work new;
  log = log_after m.log work;
  used_slots = m.used_slots - freed_blocks m.layout work new;
  jobs = without_job m.jobs id;
}

abbrev pub brought_home : Core → Core
brought_home m = record m { turn = home }

abbrev pub ending : Core → Turn → Core
ending m home = m
ending m (taken turn) = m
ending m (ran turn has_failed) = brought_home (planned m turn.number turn.plan)

-- a job that was installing by a failed turn is gone
abbrev pub given_up : Core → Plan → Core
given_up m settles = m
given_up m (enters manifest) = m
given_up m (removes id manifest) = m
given_up m (installs id work new manifest) = record m { jobs = without_job m.jobs id }

abbrev pub ending_failed : Core → Turn → Core
ending_failed m home = m
ending_failed m (taken turn) = m
ending_failed m (ran turn false) = m
ending_failed m (ran turn true) = brought_home (given_up m turn.plan)

-- ---- where a call leads

-- that nothing refuses
abbrev pub done : Core → Call → Core
done m begin = with_move m moves.begin
done m (write_by outside name change) =
    for_some (store_named (now m) name) m (λ store. committing_write m (write_to store change))
done m (write_by (inside order) name change) =
    for_some (transaction_of m.timeline order) m (λ transaction.
    for_some (store_named (snapshot_of m.timeline transaction) name) m (λ store.
    with_move m (moves.write_in order (write_to store change))))
done m (get actor name key) = m
done m (commit order) =
    for_some (transaction_of m.timeline order) m (λ transaction.
    record (with_move m (moves.commit order)) { log = log_with m transaction.writes })
done m (abort order) = with_move m (moves.abort order)
done m list_stores = m
done m (tree name) = m
done m info = m
done m take_place = record m { cursors = m.cursors + 1 }
done m give_place = record m { cursors = m.cursors - 1 }
done m (pick wish) = picking m wish
done m (build id) = for_some (job_of m.jobs id) m (building m)
done m (drop_job id) = record m { jobs = without_job m.jobs id }
done m next_job = m
done m (take wish) = taking m wish
done m (take_install id) = taking_install m id
done m write_turn = record m { turn = written m.turn false }
done m end_turn = ending m m.turn
done m reopen = m

-- A refusal changes nothing, but that an end gives a turn back whose device calls failed.
abbrev pub refused_to : Core → Call → Core
refused_to m end_turn = ending_failed m m.turn
refused_to m call = m

-- A device call failed: the engine is broken until the next opening.
abbrev pub failing : Core → Call → Core
failing m write_turn = record m { turn = written m.turn true; is_broken = true }
failing m call = record m { is_broken = true }
