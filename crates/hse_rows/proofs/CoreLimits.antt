-- Calls that nothing refuses keep within the limits.
use Rattle.std.specs.List.{AllByRecursion}
use Rattle.std.proofs.Common.{◌≡◌, inl, inr, ℕ, ◌≤◌, nat_lt, nat_le, Bool, true, false, List, [], ◌∷◌, length, None, is_some, refl, sym, subst, arith}
use Rattle.hse_rows.specs.states.State.{store_named}
use Rattle.hse_rows.specs.states.History.{creates, drops}
use Rattle.hse_rows.specs.transactions.Moves as move
use Rattle.hse_rows.specs.transactions.Timeline.{snapshot_of, committing, moved}
use Rattle.hse_rows.specs.machine.ManifestRoom.{ManifestState, fits}
use Rattle.hse_rows.specs.rows.Job.{live_ingest, first_on, is_picked, is_built}
use Rattle.hse_rows.specs.machine.Turn.{TurnKind, TurnWish, sync, freeze, create, drop, Plan, settles, enters, removes, installs, TakenTurn, Turn, home, taken, ran}
use Rattle.hse_rows.specs.machine.Turn as turns
use Rattle.hse_rows.specs.machine.Replies as replies
use Rattle.hse_rows.specs.machine.Replies.{Refusal, Answer}
use Rattle.hse_rows.specs.machine.Calls.{outside, inside, Call, begin, write_by, get, commit, abort, list_stores, tree, info, take_place, give_place, pick, build, drop_job, next_job, take, take_install, write_turn, end_turn, reopen}
use Rattle.hse_rows.specs.writes.Lengths.{longest_prefix}
use Rattle.hse_rows.specs.machine.Core.{Core, Stored, life, now, number_of, write_to, with_move}
use Rattle.hse_rows.specs.machine.ManifestEntry.{ManifestEntry, entered, creation_entry, drop_entry, install_entry}
use Rattle.hse_rows.specs.machine.CoreRefusal.{refusal, refuse, is_spent, outside_refusal, inside_refusal, commit_refusal, is_log_busy, install_refusal, drop_refusal, take_refusal, first_in_store}
use Rattle.hse_rows.specs.machine.CoreDone.{taking_install, done, refused_to, failing, without_job, building, log_with, frozen_log, with_installing, taking, planned, ending, ending_failed, given_up}
use Rattle.hse_rows.specs.machine.Limits.{ManifestFits, PlanFits, TurnFits, IsWithinLimits}
use Rattle.hse_rows.specs.machine.CoreStep.{Found, loads, breaks_off, has_version, Reopens, Step}
use Rattle.hse_rows.specs.laws.CoreLaws.{Entry, Run, LoadsWithinLimits}
use Rattle.hse_rows.proofs.PassLemmas.{passes, not_busy, not_busy_with, not_held, found, found_transaction, found_job, is_there}
use Rattle.hse_rows.proofs.FitLemmas.{creation_fits, drop_fits, entered_fits, frozen_fits, log_after_fits}
use Rattle.hse_rows.proofs.CoreFits.{abort_within, at_transaction, begin_within, building_within, committing_within, give_place_within, install_entry_fits, installing_within, one_more, outside_within, picking_within, take_place_within, up_to_now, up_to_safe, with_log, with_turn_within, without_within, write_in_within}

module _ (m : Core) (good : IsWithinLimits m) where
  taking_within : (wish : TurnWish) → take_refusal m wish ≡ None → IsWithinLimits (taking m wish)
  taking_within sync none = with_turn_within m good _ m.is_broken (up_to_now m good turns.syncing settles (inl refl))
  taking_within freeze none =
      let first = passes m.is_broken replies.broken _ none in
      let second = not_busy m.turn _ first.1 in
      let free = passes (is_log_busy m.log) replies.log_busy None second.1 in
      let there : IsWithinLimits (record m { log = frozen_log m.log (number_of m) }) =
      with_log m good (frozen_log m.log (number_of m)) (frozen_fits m.sizes m.log (number_of m) good.log free.0) in
      with_turn_within (record m { log = frozen_log m.log (number_of m) }) there _ m.is_broken
      (up_to_now (record m { log = frozen_log m.log (number_of m) }) there turns.freezing settles (inr refl))
  taking_within (create name mode prefix) none =
      let first = passes (is_some (store_named (now m) name)) replies.store_exists _ none in
      let second = passes (nat_lt longest_prefix prefix) (replies.prefix_length prefix) _ first.1 in
      let third = passes m.is_broken replies.broken _ second.1 in
      let fourth = passes (nat_le m.sizes.most_stores (length (now m).stores)) (replies.too_many m.sizes.most_stores) _ third.1 in
      let fifth = passes (is_spent m) replies.spent _ fourth.1 in
      let sixth = not_busy m.turn _ fifth.1 in
      let there : IsWithinLimits (with_move m (move.create name mode prefix)) =
      one_more m good (moved m.timeline (move.create name mode prefix)) m.log (creates name mode prefix) refl refl
      (creation_fits m.sizes m.timeline.base m.timeline.history good.history name mode prefix fifth.0 fourth.0) good.log good.transactions in
      let entry : ManifestEntry = creation_entry m name mode prefix in
      with_turn_within (with_move m (move.create name mode prefix)) there _ m.is_broken
      (up_to_now (with_move m (move.create name mode prefix)) there turns.creating (enters (entered m entry)) (refl, entered_fits m entry good.manifest sixth.1))
  taking_within (drop name) none =
      found IsWithinLimits (store_named (now m) name) replies.no_store (drop_refusal m) m _
      (λ store is passed.
      let first = passes m.is_broken replies.broken _ passed in
      let second = not_held (first_in_store m.timeline.begun store.id) _ first.1 in
      let third = not_busy_with (live_ingest m.jobs) _ second.1 in
      let fourth = not_busy_with (first_on m.jobs store.id) _ third.1 in
      let fifth = passes (is_spent m) replies.spent _ fourth.1 in
      let sixth = not_busy m.turn _ fifth.1 in
      let there : IsWithinLimits (with_move m (move.remove store.id)) =
      one_more m good (moved m.timeline (move.remove store.id)) m.log (drops store.id) refl refl
      (drop_fits m.sizes m.timeline.base m.timeline.history good.history store.id fifth.0) good.log good.transactions in
      let entry : ManifestEntry = drop_entry m store in
      with_turn_within (with_move m (move.remove store.id)) there _ m.is_broken
      (up_to_now (with_move m (move.remove store.id)) there turns.dropping (removes store.id (entered m entry)) (refl, entered_fits m entry good.manifest sixth.1))) none

  install_within : (id : ℕ) → refusal m (take_install id) ≡ None → IsWithinLimits (taking_install m id)
  install_within id none =
      found_job IsWithinLimits m id is_built (install_refusal m) _
      (λ job is passed.
      with_turn_within (with_installing m job) (installing_within m good job passed) _ m.is_broken
      (up_to_safe (with_installing m job) (installing_within m good job passed) turns.installing
      (installs id job.work job.sets (entered m (install_entry m job.work job.sets))) (refl, refl, install_entry_fits m good job passed))) none

  written_within : (has_failed is_broken : Bool) (turn : Turn) → m.turn ≡ turn → IsWithinLimits (record m { turn = turns.written turn has_failed; is_broken = is_broken })
  written_within has_failed is_broken turn is =
      with_turn_within m good (turns.written turn has_failed) is_broken
      (by turn (subst (TurnFits m.sizes m.safe (number_of m)) is good.turn))
    where
      by : (t : Turn) → TurnFits m.sizes m.safe (number_of m) t → TurnFits m.sizes m.safe (number_of m) (turns.written t has_failed)
      by home fits = tt
      by (taken turn) fits = fits
      by (ran turn failed_before) fits = fits

  -- what is safe rises to the turn's number
  safer : (number : ℕ) (manifest : ManifestState) → m.safe ≤ number → number ≤ number_of m → ManifestFits m.sizes manifest
      → IsWithinLimits (record m { safe = number; manifest = manifest; turn = home })
  safer number manifest since until fits =
      let before : m.timeline.base.number ≤ m.safe = good.since_base in
      record {
        history = good.history;
        log = good.log;
        manifest = fits;
        slots = good.slots;
        since_base = omega (arith, before, since);
        until_now = until;
        transactions = good.transactions;
        jobs = good.jobs;
        cursors = good.cursors;
        turn = tt;
      }

  planned_within : (kind : TurnKind) (number : ℕ) (plan : Plan) → (m.safe ≤ number) × (number ≤ number_of m) × PlanFits m.sizes m.safe kind number plan
      → IsWithinLimits (record (planned m number plan) { turn = home })
  planned_within kind number settles fits = safer number m.manifest fits.0 fits.1 good.manifest
  planned_within kind number (enters manifest) fits = safer number manifest fits.0 fits.1 fits.2.1
  planned_within kind number (removes id manifest) fits =
      let there = safer number manifest fits.0 fits.1 fits.2.1 in
      let used : m.used_slots ≤ m.sizes.slots = good.slots in
      record {
        history = there.history;
        log = there.log;
        manifest = there.manifest;
        slots = omega (arith, used);
        since_base = there.since_base;
        until_now = there.until_now;
        transactions = there.transactions;
        jobs = there.jobs;
        cursors = there.cursors;
        turn = tt;
      }
  planned_within kind number (installs id work new manifest) fits =
      let used : m.used_slots ≤ m.sizes.slots = good.slots in
      record {
        history = good.history;
        log = log_after_fits m.sizes m.log work good.log;
        manifest = fits.2.2;
        slots = omega (arith, used);
        since_base = good.since_base;
        until_now = good.until_now;
        transactions = good.transactions;
        jobs = (without_within m good id).jobs;
        cursors = good.cursors;
        turn = tt;
      }

  ending_within : (turn : Turn) → m.turn ≡ turn → IsWithinLimits (ending m turn)
  ending_within home is = good
  ending_within (taken turn) is = good
  ending_within (ran turn has_failed) is =
      planned_within turn.kind turn.number turn.plan (subst (TurnFits m.sizes m.safe (number_of m)) is good.turn)

  given_up_within : (plan : Plan) → IsWithinLimits (record (given_up m plan) { turn = home })
  given_up_within settles = with_turn_within m good home m.is_broken tt
  given_up_within (enters manifest) = with_turn_within m good home m.is_broken tt
  given_up_within (removes id manifest) = with_turn_within m good home m.is_broken tt
  given_up_within (installs id work new manifest) =
      with_turn_within (record m { jobs = without_job m.jobs id }) (without_within m good id) home m.is_broken tt

  ending_failed_within : (turn : Turn) → IsWithinLimits (ending_failed m turn)
  ending_failed_within home = good
  ending_failed_within (taken turn) = good
  ending_failed_within (ran turn false) = good
  ending_failed_within (ran turn true) = given_up_within turn.plan

  broken_within : IsWithinLimits (record m { is_broken = true })
  broken_within = with_turn_within m good m.turn true good.turn

  pub failing_within : (call : Call) → IsWithinLimits (failing m call)
  failing_within write_turn = written_within true true m.turn refl
  failing_within begin = broken_within
  failing_within (write_by actor name change) = broken_within
  failing_within (get actor name key) = broken_within
  failing_within (commit order) = broken_within
  failing_within (abort order) = broken_within
  failing_within list_stores = broken_within
  failing_within (tree name) = broken_within
  failing_within info = broken_within
  failing_within take_place = broken_within
  failing_within give_place = broken_within
  failing_within (pick wish) = broken_within
  failing_within (build id) = broken_within
  failing_within (drop_job id) = broken_within
  failing_within next_job = broken_within
  failing_within (take wish) = broken_within
  failing_within (take_install id) = broken_within
  failing_within end_turn = broken_within
  failing_within reopen = broken_within

  pub refused_within : (call : Call) → IsWithinLimits (refused_to m call)
  refused_within end_turn = ending_failed_within m.turn
  refused_within call = good

  pub done_within : (call : Call) → refusal m call ≡ None → IsWithinLimits (done m call)
  done_within begin none = begin_within m good none
  done_within (write_by outside name change) none =
      found IsWithinLimits (store_named (now m) name) replies.no_store (outside_refusal m change) m _
      (λ store is passed. outside_within m good change store passed) none
  done_within (write_by (inside order) name change) none =
      found_transaction IsWithinLimits m order _ _
      (λ transaction is passed.
      found IsWithinLimits (store_named (snapshot_of m.timeline transaction) name) replies.no_store (inside_refusal m change transaction) m _
      (λ store store_is fits. write_in_within m good order transaction (write_to store change) is.at) passed) none
  done_within (get actor name key) none = good
  done_within (commit order) none =
      found_transaction IsWithinLimits m order (λ transaction. commit_refusal m transaction.writes) _
      (λ transaction is passed.
      at_transaction m good order transaction (λ t. committing m.timeline order t t.writes) (log_with m transaction.writes) is.at
      (committing_within m good order transaction transaction.writes is.at passed)) none
  done_within (abort order) none =
      let there = is_there m order (λ transaction. None) none in
      abort_within m good order there.0 there.1.at
  done_within list_stores none = good
  done_within (tree name) none = good
  done_within info none = good
  done_within take_place none = take_place_within m good none
  done_within give_place none = give_place_within m good
  done_within (pick wish) none = picking_within m good wish none
  done_within (build id) none =
      found_job IsWithinLimits m id is_picked (λ job. refuse m.is_broken replies.broken None) (building m)
      (λ job is passed. building_within m good job) none
  done_within (drop_job id) none = without_within m good id
  done_within next_job none = good
  done_within (take wish) none = taking_within wish none
  done_within (take_install id) none = install_within id none
  done_within write_turn none = written_within false m.is_broken m.turn refl
  done_within end_turn none = ending_within m.turn refl
  done_within reopen none = good

-- ---- steps

same_limits : (one other : Core) → other ≡ one → IsWithinLimits one → IsWithinLimits other
same_limits one other is good = subst IsWithinLimits (sym is) good

reopening_within : (found : Found) (old new : Core) (answer : Answer ℕ) → IsWithinLimits old → LoadsWithinLimits found → Reopens found old answer new
    → IsWithinLimits new
reopening_within (loads stored) old new (replies.ok number) good loaded step = same_limits (life stored) new step.1 loaded
reopening_within (breaks_off part place) old new (replies.refused (replies.not_formed at_part at_place)) good loaded step = same_limits old new step.2 good
reopening_within (has_version version) old new (replies.refused (replies.other_version told)) good loaded step = same_limits old new step.1 good
reopening_within found old new replies.device_fault good loaded step = same_limits (failing old reopen) new step (failing_within old good reopen)
reopening_within found old new answer good loaded step = absurd step

pub step_keeps_limits : (found : Found) (old new : Core) (call : Call) (answer : Answer ℕ)
    → IsWithinLimits old → LoadsWithinLimits found → Step found old call answer new → IsWithinLimits new
step_keeps_limits found old new call replies.no_memory good loaded step = same_limits old new step good
step_keeps_limits found old new reopen (replies.refused (replies.busy kind)) good loaded step = same_limits old new step.1 good
step_keeps_limits found old new reopen answer good loaded step = reopening_within found old new answer good loaded step.1
step_keeps_limits found old new write_turn replies.device_fault good loaded step =
    same_limits (failing old write_turn) new step.1 (failing_within old good write_turn)
step_keeps_limits found old new call replies.device_fault good loaded step = absurd step
step_keeps_limits found old new call (replies.refused reason) good loaded step = same_limits (refused_to old call) new step.1 (refused_within old good call)
step_keeps_limits found old new call answer good loaded step = same_limits (done old call) new step.2 (done_within old good call step.0)

-- ---- runs

run_within : (old : Core) (entries : List Entry) (new : Core) → AllByRecursion (λ entry. LoadsWithinLimits entry.found) entries → IsWithinLimits old
    → Run old entries new → IsWithinLimits new
run_within old [] new loaded good run = same_limits old new run good
run_within old (entry ∷ entries) new loaded good run =
    run_within run.0 entries new loaded.1 (step_keeps_limits entry.found old run.0 entry.call entry.answer good loaded.0 run.1) run.2

pub runs_keep_limits : (stored : Stored) (entries : List Entry) (new : Core) → IsWithinLimits (life stored)
    → AllByRecursion (λ entry. LoadsWithinLimits entry.found) entries → Run (life stored) entries new → IsWithinLimits new
runs_keep_limits stored entries new good loaded run = run_within (life stored) entries new loaded good run
