-- Steps of the core move its timeline.
use Rattle.std.proofs.Common.{◌≡◌, ℕ, Bool, true, false, not, List, [], ◌∷◌, ◌++◌, Option, Some, None, is_some, nat_lt, refl, sym, ◌∙◌, subst, ap}
use Rattle.hse_rows.specs.declared.store.Mode.TheVariants.{Plain, Tx}
use Rattle.hse_rows.specs.declared.change.Change.{Change}
use Rattle.hse_rows.specs.declared.write.Write.{Write}
use Rattle.hse_rows.specs.writes.NormalForm.{normal_form}
use Rattle.hse_rows.specs.writes.Charge.{charge_of}
use Rattle.hse_rows.specs.states.State.{store_named, store_of}
use Rattle.hse_rows.specs.transactions.Transaction.{TransactionState, active, committed, aborted, Transaction}
use Rattle.hse_rows.specs.transactions.Conflict.{Conflict, conflict_of}
use Rattle.hse_rows.specs.transactions.Moves as move
use Rattle.hse_rows.specs.transactions.Timeline.{snapshot_of, transaction_of, IsActive, for_some, Goes, stays, moves, opens}
use Rattle.hse_rows.specs.rows.Job.{JobWish, ingest, of_run, job_of}
use Rattle.hse_rows.specs.machine.Turn.{TurnWish, sync, freeze, create, drop, Plan, settles, enters, removes, installs, Turn, home, taken, ran}
use Rattle.hse_rows.specs.machine.Replies as replies
use Rattle.hse_rows.specs.machine.Replies.{Refusal, Answer, no_store}
use Rattle.hse_rows.specs.machine.Calls.{outside, inside, Call, begin, write_by, get, commit, abort, list_stores, tree, info, take_place, give_place, pick, build, drop_job, next_job, take, take_install, write_turn, end_turn, reopen}
use Rattle.hse_rows.specs.machine.Core.{Core, Stored, life, left_room, now, write_to, with_move}
use Rattle.hse_rows.specs.machine.CoreRefusal.{refusal, refuse, is_spent, is_tx, change_refusal, size_refusal, unless_canceled, unless_ended, commit_refusal, outside_refusal, inside_refusal, drop_refusal}
use Rattle.hse_rows.specs.machine.CoreDone.{done, failing, refused_to, taking, taking_install, picking, building, ending, ending_failed, planned, given_up, log_with, committing_write}
use Rattle.hse_rows.specs.machine.CoreStep.{Found, loads, breaks_off, has_version, Reopens, Step}
use Rattle.hse_rows.specs.laws.CoreLaws.{Entry, Run, ChangesTimeline, TakesEvent, ChangesCursors}
use Rattle.hse_rows.specs.transactions.Isolation.{IsIsolated, AreIsolated}
use Rattle.hse_rows.proofs.PassLemmas.{passes, not_found, change_passes, size_passes, not_canceled, found, found_transaction, is_there, is_plain, is_tx_store, has_store}
use Rattle.hse_rows.proofs.IsolationLemmas.{opened_isolated, goes_isolated, are_isolated}

-- ---- what keeps timeline and cursors

pub record Keeps (old new : Core) : Type 0 where
  pub timeline : new.timeline ≡ old.timeline
  pub cursors : new.cursors ≡ old.cursors

kept : (m : Core) → Keeps m m
kept m = record { timeline = refl; cursors = refl }

planned_keeps : (m : Core) (number : ℕ) (plan : Plan) → Keeps m (planned m number plan)
planned_keeps m number settles = record { timeline = refl; cursors = refl }
planned_keeps m number (enters manifest) = record { timeline = refl; cursors = refl }
planned_keeps m number (removes id manifest) = record { timeline = refl; cursors = refl }
planned_keeps m number (installs id work new manifest) = record { timeline = refl; cursors = refl }

ending_keeps : (m : Core) (turn : Turn) → Keeps m (ending m turn)
ending_keeps m home = kept m
ending_keeps m (taken turn) = kept m
ending_keeps m (ran turn has_failed) =
    let there = planned_keeps m turn.number turn.plan in
    record { timeline = there.timeline; cursors = there.cursors }

given_up_keeps : (m : Core) (plan : Plan) → Keeps m (given_up m plan)
given_up_keeps m settles = kept m
given_up_keeps m (enters manifest) = kept m
given_up_keeps m (removes id manifest) = kept m
given_up_keeps m (installs id work new manifest) = record { timeline = refl; cursors = refl }

ending_failed_keeps : (m : Core) (turn : Turn) → Keeps m (ending_failed m turn)
ending_failed_keeps m home = kept m
ending_failed_keeps m (taken turn) = kept m
ending_failed_keeps m (ran turn false) = kept m
ending_failed_keeps m (ran turn true) =
    let there = given_up_keeps m turn.plan in
    record { timeline = there.timeline; cursors = there.cursors }

for_some_keeps : {X : Type 0} (m : Core) (looked_up : Option X) (leads_to : X → Core) → ((x : X) → Keeps m (leads_to x)) → Keeps m (for_some looked_up m leads_to)
for_some_keeps m None leads_to each = kept m
for_some_keeps m (Some x) leads_to each = each x

picking_keeps : (m : Core) (wish : JobWish) → Keeps m (picking m wish)
picking_keeps m ingest = record { timeline = refl; cursors = refl }
picking_keeps m (of_run kind name path from len) =
    for_some_keeps m (store_named (now m) name) _ (λ store. record { timeline = refl; cursors = refl })

for_some_cursors : {X : Type 0} (m : Core) (looked_up : Option X) (leads_to : X → Core) → ((x : X) → (leads_to x).cursors ≡ m.cursors)
    → (for_some looked_up m leads_to).cursors ≡ m.cursors
for_some_cursors m None leads_to each = refl
for_some_cursors m (Some x) leads_to each = each x

install_keeps : (m : Core) (id : ℕ) → Keeps m (taking_install m id)
install_keeps m id = for_some_keeps m (job_of m.jobs id) _ (λ job. record { timeline = refl; cursors = refl })

taking_keeps : (m : Core) (wish : TurnWish) → (TakesEvent wish → ⊥) → (taking m wish).timeline ≡ m.timeline
taking_keeps m sync other = refl
taking_keeps m freeze other = refl
taking_keeps m (create name mode prefix) other = absurd (other tt)
taking_keeps m (drop name) other = absurd (other tt)

taking_keeps_cursors : (m : Core) (wish : TurnWish) → (taking m wish).cursors ≡ m.cursors
taking_keeps_cursors m sync = refl
taking_keeps_cursors m freeze = refl
taking_keeps_cursors m (create name mode prefix) = refl
taking_keeps_cursors m (drop name) = for_some_cursors m (store_named (now m) name) _ (λ store. refl)

pub done_keeps : (m : Core) (call : Call) → (ChangesTimeline call → ⊥) → (done m call).timeline ≡ m.timeline
done_keeps m begin other = absurd (other tt)
done_keeps m (write_by actor name change) other = absurd (other tt)
done_keeps m (commit order) other = absurd (other tt)
done_keeps m (abort order) other = absurd (other tt)
done_keeps m reopen other = absurd (other tt)
done_keeps m (take wish) other = taking_keeps m wish other
done_keeps m (take_install id) other = (install_keeps m id).timeline
done_keeps m (get actor name key) other = refl
done_keeps m list_stores other = refl
done_keeps m (tree name) other = refl
done_keeps m info other = refl
done_keeps m take_place other = refl
done_keeps m give_place other = refl
done_keeps m (pick wish) other = (picking_keeps m wish).timeline
done_keeps m (build id) other = (for_some_keeps m (job_of m.jobs id) (building m) (λ job. record { timeline = refl; cursors = refl })).timeline
done_keeps m (drop_job id) other = refl
done_keeps m next_job other = refl
done_keeps m write_turn other = refl
done_keeps m end_turn other = (ending_keeps m m.turn).timeline

pub refused_keeps : (m : Core) (call : Call) → Keeps m (refused_to m call)
refused_keeps m end_turn = ending_failed_keeps m m.turn
refused_keeps m call = kept m

pub failing_keeps : (m : Core) (call : Call) → Keeps m (failing m call)
failing_keeps m write_turn = record { timeline = refl; cursors = refl }
failing_keeps m call = record { timeline = refl; cursors = refl }

-- ---- what moves the timeline

module _ (m : Core) where
  abbrev GoesTo : Core → Type 0
  GoesTo new = Goes m.timeline new.timeline

  at_rest : (new : Core) → new.timeline ≡ m.timeline → GoesTo new
  at_rest new is = subst (Goes m.timeline) (sym is) stays

  inside_goes : (order : ℕ) (transaction : Transaction) (name : List ℕ) (change : Change) → IsActive m.timeline order transaction
      → for_some (store_named (snapshot_of m.timeline transaction) name) (Some no_store) (inside_refusal m change transaction) ≡ None
      → GoesTo (for_some (store_named (snapshot_of m.timeline transaction) name) m (λ store. with_move m (move.write_in order (write_to store change))))
  inside_goes order transaction name change is =
      found GoesTo (store_named (snapshot_of m.timeline transaction) name) no_store (inside_refusal m change transaction) m
      (λ store. with_move m (move.write_in order (write_to store change)))
      (λ store store_is none.
      let write : Write = write_to store change in
      let conflict : Option Conflict = conflict_of m.timeline.base m.timeline.history m.timeline.begun transaction write in
      let charge : ℕ = charge_of (normal_form (transaction.writes ++ write ∷ [])) in
      let sized : Option (Refusal ℕ) = size_refusal m charge (unless_canceled conflict) in
      let whole : Option (Refusal ℕ) = refuse m.is_broken replies.broken sized in
      let lengths : Option (Refusal ℕ) = change_refusal m.sizes store change whole in
      let of_mode : Option (Refusal ℕ) = refuse (not (is_tx store.mode)) replies.store_mode lengths in
      let mode : (not (is_tx store.mode) ≡ false) × (lengths ≡ None) =
      passes (not (is_tx store.mode)) replies.store_mode lengths
      (passes (not (is_some (store_of (now m) store.id))) no_store of_mode none).1 in
      moves (move.write_in order write) (
        transaction,
        is,
        has_store (snapshot_of m.timeline transaction) name store Tx store_is (is_tx_store store.mode mode.0),
        not_canceled conflict
            (size_passes m charge (unless_canceled conflict)
            (passes m.is_broken replies.broken sized (change_passes m.sizes store change whole mode.1)).1),
      ))

  outside_goes : (name : List ℕ) (change : Change) → refusal m (write_by outside name change) ≡ None → GoesTo (done m (write_by outside name change))
  outside_goes name change =
      found GoesTo (store_named (now m) name) no_store (outside_refusal m change) m
      (λ store. committing_write m (write_to store change))
      (λ store store_is none.
      moves (move.write_out (write_to store change))
      (has_store (now m) name store Plain store_is (is_plain store.mode (passes (is_tx store.mode) replies.store_mode _ none).0)))

  commit_goes : (order : ℕ) → refusal m (commit order) ≡ None → GoesTo (done m (commit order))
  commit_goes order =
      found_transaction GoesTo m order (λ transaction. commit_refusal m transaction.writes)
      (λ transaction. record (with_move m (move.commit order)) { log = log_with m transaction.writes })
      (λ transaction is none. moves (move.commit order) (transaction, is))

  drop_goes : (name : List ℕ) → refusal m (take (drop name)) ≡ None → GoesTo (taking m (drop name))
  drop_goes name =
      found GoesTo (store_named (now m) name) no_store (drop_refusal m) m _
      (λ store store_is none. moves (move.remove store.id) tt)

  taking_goes : (wish : TurnWish) → refusal m (take wish) ≡ None → GoesTo (taking m wish)
  taking_goes sync none = stays
  taking_goes freeze none = stays
  taking_goes (create name mode prefix) none =
      moves (move.create name mode prefix) (not_found (store_named (now m) name) (passes (is_some (store_named (now m) name)) replies.store_exists _ none).0)
  taking_goes (drop name) none = drop_goes name none

  pub done_goes : (call : Call) → refusal m call ≡ None → GoesTo (done m call)
  done_goes begin none = moves move.begin tt
  done_goes (write_by outside name change) none = outside_goes name change none
  done_goes (write_by (inside order) name change) none =
      found_transaction GoesTo m order
      (λ transaction. for_some (store_named (snapshot_of m.timeline transaction) name) (Some no_store) (inside_refusal m change transaction))
      (λ transaction. for_some (store_named (snapshot_of m.timeline transaction) name) m (λ store. with_move m (move.write_in order (write_to store change))))
      (λ transaction is. inside_goes order transaction name change is) none
  done_goes (commit order) none = commit_goes order none
  done_goes (abort order) none = moves (move.abort order) (is_there m order (λ transaction. None) none)
  done_goes (take wish) none = taking_goes wish none
  done_goes (take_install id) none = at_rest (taking_install m id) (install_keeps m id).timeline
  done_goes reopen none = stays
  done_goes (get actor name key) none = stays
  done_goes list_stores none = stays
  done_goes (tree name) none = stays
  done_goes info none = stays
  done_goes take_place none = stays
  done_goes give_place none = stays
  done_goes (pick wish) none = at_rest (picking m wish) (picking_keeps m wish).timeline
  done_goes (build id) none = at_rest (done m (build id)) (done_keeps m (build id) (λ e. e))
  done_goes (drop_job id) none = stays
  done_goes next_job none = stays
  done_goes write_turn none = stays
  done_goes end_turn none = at_rest (ending m m.turn) (ending_keeps m m.turn).timeline

-- ---- steps

moved_to : (m one other : Core) → other ≡ one → Goes m.timeline one.timeline → Goes m.timeline other.timeline
moved_to m one other is goes = subst (λ (c : Core). Goes m.timeline c.timeline) (sym is) goes

reopening_goes : (found : Found) (old new : Core) (answer : Answer ℕ) → Reopens found old answer new → Goes old.timeline new.timeline
reopening_goes (loads stored) old new (replies.ok number) step = moved_to old (life stored) new step.1 (opens stored.base)
reopening_goes (breaks_off part place) old new (replies.refused (replies.not_formed at_part at_place)) step = moved_to old old new step.2 stays
reopening_goes (has_version version) old new (replies.refused (replies.other_version told)) step = moved_to old old new step.1 stays
reopening_goes found old new replies.device_fault step = moved_to old (failing old reopen) new step stays
reopening_goes found old new answer step = absurd step

pub step_goes : (found : Found) (old new : Core) (call : Call) (answer : Answer ℕ) → Step found old call answer new → Goes old.timeline new.timeline
step_goes found old new call replies.no_memory step = moved_to old old new step stays
step_goes found old new reopen (replies.refused (replies.busy kind)) step = moved_to old old new step.1 stays
step_goes found old new reopen answer step = reopening_goes found old new answer step.1
step_goes found old new write_turn replies.device_fault step = moved_to old (failing old write_turn) new step.1 stays
step_goes found old new call replies.device_fault step = absurd step
step_goes found old new call (replies.refused reason) step =
    moved_to old (refused_to old call) new step.1 (at_rest old (refused_to old call) (refused_keeps old call).timeline)
step_goes found old new call answer step = moved_to old (done old call) new step.2 (done_goes old call step.0)

pub run_isolated : (old : Core) (entries : List Entry) (new : Core) → IsIsolated old.timeline → Run old entries new → IsIsolated new.timeline
run_isolated old [] new good run = subst (λ (c : Core). IsIsolated c.timeline) (sym run) good
run_isolated old (entry ∷ entries) new good run =
    run_isolated run.0 entries new (goes_isolated old.timeline run.0.timeline (step_goes entry.found old run.0 entry.call entry.answer run.1) good) run.2

pub runs_are_isolated : (stored : Stored) (entries : List Entry) (new : Core) → Run (life stored) entries new → AreIsolated new.timeline
runs_are_isolated stored entries new run = are_isolated new.timeline (run_isolated (life stored) entries new (opened_isolated stored.base) run)

-- ---- what other steps leave

pub others_keep : (found : Found) (old new : Core) (call : Call) (answer : Answer ℕ) → Step found old call answer new → (ChangesTimeline call → ⊥)
    → new.timeline ≡ old.timeline
others_keep found old new call replies.no_memory step other = ap (λ (c : Core). c.timeline) step
others_keep found old new reopen answer step other = absurd (other tt)
others_keep found old new write_turn replies.device_fault step other = ap (λ (c : Core). c.timeline) step.1
others_keep found old new call replies.device_fault step other = absurd step
others_keep found old new call (replies.refused reason) step other =
    ap (λ (c : Core). c.timeline) step.1 ∙ (refused_keeps old call).timeline
others_keep found old new call answer step other = ap (λ (c : Core). c.timeline) step.2 ∙ done_keeps old call other

done_keeps_cursors : (m : Core) (call : Call) → (ChangesCursors call → ⊥) → (done m call).cursors ≡ m.cursors
done_keeps_cursors m begin other = refl
done_keeps_cursors m (write_by outside name change) other = for_some_cursors m (store_named (now m) name) _ (λ store. refl)
done_keeps_cursors m (write_by (inside order) name change) other =
    for_some_cursors m (transaction_of m.timeline order) _ (λ transaction.
    for_some_cursors m (store_named (snapshot_of m.timeline transaction) name) _ (λ store. refl))
done_keeps_cursors m (commit order) other = for_some_cursors m (transaction_of m.timeline order) _ (λ transaction. refl)
done_keeps_cursors m (abort order) other = refl
done_keeps_cursors m reopen other = absurd (other tt)
done_keeps_cursors m (take wish) other = taking_keeps_cursors m wish
done_keeps_cursors m (take_install id) other = (install_keeps m id).cursors
done_keeps_cursors m (get actor name key) other = refl
done_keeps_cursors m list_stores other = refl
done_keeps_cursors m (tree name) other = refl
done_keeps_cursors m info other = refl
done_keeps_cursors m take_place other = absurd (other tt)
done_keeps_cursors m give_place other = absurd (other tt)
done_keeps_cursors m (pick wish) other = (picking_keeps m wish).cursors
done_keeps_cursors m (build id) other = for_some_cursors m (job_of m.jobs id) (building m) (λ job. refl)
done_keeps_cursors m (drop_job id) other = refl
done_keeps_cursors m next_job other = refl
done_keeps_cursors m write_turn other = refl
done_keeps_cursors m end_turn other = (ending_keeps m m.turn).cursors

pub others_keep_cursors : (found : Found) (old new : Core) (call : Call) (answer : Answer ℕ) → Step found old call answer new → (ChangesCursors call → ⊥)
    → new.cursors ≡ old.cursors
others_keep_cursors found old new call replies.no_memory step other = ap (λ (c : Core). c.cursors) step
others_keep_cursors found old new reopen answer step other = absurd (other tt)
others_keep_cursors found old new write_turn replies.device_fault step other = ap (λ (c : Core). c.cursors) step.1
others_keep_cursors found old new call replies.device_fault step other = absurd step
others_keep_cursors found old new call (replies.refused reason) step other =
    ap (λ (c : Core). c.cursors) step.1 ∙ (refused_keeps old call).cursors
others_keep_cursors found old new call answer step other = ap (λ (c : Core). c.cursors) step.2 ∙ done_keeps_cursors old call other

-- ---- no refusal of a commit cancels it

-- a reason that cancels
abbrev Cancels : Refusal ℕ → Type 0
Cancels (replies.canceled_held order) = Unit {0}
Cancels (replies.canceled_since number) = Unit {0}
Cancels reason = ⊥

refuse_cancels : (test : Bool) (reason told : Refusal ℕ) (later : Option (Refusal ℕ)) → (Cancels reason → ⊥) → (later ≡ Some told → Cancels told → ⊥)
    → refuse test reason later ≡ Some told → Cancels told → ⊥
refuse_cancels true reason told later other rest is cancels =
    let same : reason ≡ told = cc in
    other (subst Cancels (sym same) cancels)
refuse_cancels false reason told later other rest is cancels = rest is cancels

commit_cancels : (m : Core) (writes : List Write) (told : Refusal ℕ) → commit_refusal m writes ≡ Some told → Cancels told → ⊥
commit_cancels m [] told is cancels = absurd cc
commit_cancels m (write ∷ writes) told is cancels =
    refuse_cancels m.is_broken replies.broken told _ (λ e. e)
    (refuse_cancels (is_spent m) replies.spent told _ (λ e. e)
    (refuse_cancels (nat_lt (left_room m) (charge_of (normal_form (write ∷ writes)))) (replies.log_full (charge_of (normal_form (write ∷ writes))) (left_room m)) told None
    (λ e. e) (λ e c. absurd cc))) is cancels

pub commit_not_canceled : (m : Core) (order : ℕ) (told : Refusal ℕ) → refusal m (commit order) ≡ Some told → Cancels told → ⊥
commit_not_canceled m order told is cancels = by (transaction_of m.timeline order) is
  where
    by_state : (state : TransactionState) (writes : List Write) → unless_ended state (commit_refusal m writes) ≡ Some told → ⊥
    by_state active writes is = commit_cancels m writes told is cancels
    by_state (committed number) writes is = let same : replies.ended_by replies.by_commit ≡ told = cc in subst Cancels (sym same) cancels
    by_state aborted writes is = let same : replies.ended_by replies.by_abort ≡ told = cc in subst Cancels (sym same) cancels

    by : (at : Option Transaction) → for_some at (Some replies.no_name) (λ transaction. unless_ended transaction.state (commit_refusal m transaction.writes)) ≡ Some told → ⊥
    by None is = let same : replies.no_name ≡ told = cc in subst Cancels (sym same) cancels
    by (Some transaction) is = by_state transaction.state transaction.writes is
