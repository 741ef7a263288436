-- Steps of the core keep what stands in every timeline.
use Rattle.std.proofs.Common.{◌≡◌, ℕ, Bool, true, false, cond, ◌||◌, List, [], ◌∷◌, Option, Some, None, refl, sym, subst, ap}
use Rattle.std.specs.List.{find, list_any}
use Rattle.hse_rows.specs.declared.write.Write.{Write}
use Rattle.hse_rows.specs.writes.NormalForm.{normal_form, same}
use Rattle.hse_rows.specs.states.State.{State, Store, IsState, store_named}
use Rattle.hse_rows.specs.states.History.{commits, creates, drops}
use Rattle.hse_rows.specs.transactions.Transaction.{Transaction}
use Rattle.hse_rows.specs.transactions.Moves.{Move, begin, write_in, write_out, commit, abort, create, remove}
use Rattle.hse_rows.specs.transactions.Timeline.{Timeline, opened, transaction_of, snapshot_of, for_some, Allows, moved, committing, Goes, stays, moves, opens}
use Rattle.hse_rows.specs.transactions.Timeline as timeline
use Rattle.hse_rows.specs.rows.Job.{job_of}
use Rattle.hse_rows.specs.machine.Turn.{TurnWish}
use Rattle.hse_rows.specs.machine.Turn as wish
use Rattle.hse_rows.specs.machine.Calls.{inside, outside, Call}
use Rattle.hse_rows.specs.machine.Calls as call
use Rattle.hse_rows.specs.machine.Replies as replies
use Rattle.hse_rows.specs.machine.Replies.{Answer}
use Rattle.hse_rows.specs.machine.Core.{Core, life, now}
use Rattle.hse_rows.specs.machine.CoreDone.{done, failing, refused_to, taking}
use Rattle.hse_rows.specs.machine.CoreStep.{Found, loads, breaks_off, has_version, Reopens, Step}
use Rattle.hse_rows.specs.laws.CoreLaws.{Stands, LoadsState}
use Rattle.hse_rows.proofs.StatesLemmas.{pushed_state}
use Rattle.hse_rows.proofs.IsolationLemmas.{opened_isolated, goes_isolated}
use Rattle.hse_rows.proofs.SourceLemmas.{opened_sourced, goes_sourced}
use Rattle.hse_rows.proofs.TimelineRoots.{moved_rooted}
use Rattle.hse_rows.proofs.CoreGoes.{done_goes, refused_keeps, done_keeps}

-- ---- names and ids

-- a name that finds nothing
none_named : (p : Store → Bool) (stores : List Store) → find p stores ≡ None → list_any p stores ≡ false
none_named p [] missing = refl
none_named p (store ∷ stores) missing =
    elim (p store) as (λ b. cond b (Some store) (find p stores) ≡ None → (b || list_any p stores) ≡ false) [
      | true ↦ λ e. absurd cc
      | false ↦ λ e. none_named p stores e
    ] missing

-- of a transaction that is looked up
looked_up_state : (m : Timeline) (looked_up : Option Transaction) (leads_to : Transaction → Timeline) → IsState (timeline.now m)
    → ((transaction : Transaction) → IsState (timeline.now (leads_to transaction))) → IsState (timeline.now (for_some looked_up m leads_to))
looked_up_state m None leads_to good each = good
looked_up_state m (Some transaction) leads_to good each = each transaction

committing_state : (m : Timeline) (order : ℕ) (transaction : Transaction) (writes : List Write) → IsState (timeline.now m)
    → IsState (timeline.now (committing m order transaction writes))
committing_state m order transaction [] good = good
committing_state m order transaction (write ∷ writes) good = pushed_state m.base m.history (commits (normal_form transaction.writes)) tt good

moved_state : (m : Timeline) (move : Move) → Allows m move → IsState (timeline.now m) → IsState (timeline.now (moved m move))
moved_state m begin allowed good = good
moved_state m (write_in order write) allowed good = looked_up_state m (transaction_of m order) _ good (λ transaction. good)
moved_state m (write_out write) allowed good = pushed_state m.base m.history (commits (normal_form (write ∷ []))) tt good
moved_state m (commit order) allowed good =
    looked_up_state m (transaction_of m order) _ good (λ transaction. committing_state m order transaction transaction.writes good)
moved_state m (abort order) allowed good = looked_up_state m (transaction_of m order) _ good (λ transaction. good)
moved_state m (create name mode prefix_length) allowed good =
    pushed_state m.base m.history (creates name mode prefix_length) (none_named (λ store. same store.name name) (timeline.now m).stores allowed) good
moved_state m (remove id) allowed good = pushed_state m.base m.history (drops id) tt good

-- ---- timelines

goes_stands : (old new : Timeline) → Goes old new → IsState new.base → Stands old → Stands new
goes_stands old new stays base good = good
goes_stands old new (moves move allowed) base good = record {
  base = base;
  now = moved_state old move allowed good.now;
  isolated = goes_isolated old (moved old move) (moves move allowed) good.isolated;
  sourced = goes_sourced old (moved old move) (moves move allowed) good.sourced;
  rooted = moved_rooted old good.base.rising good.isolated good.rooted move allowed;
}
goes_stands old new (opens base_state) base good = record {
  base = base;
  now = base;
  isolated = opened_isolated base_state;
  sourced = opened_sourced base_state;
  rooted = tt;
}

pub opened_stands : (base : State) → IsState base → Stands (opened base)
opened_stands base good = record {
  base = good;
  now = good;
  isolated = opened_isolated base;
  sourced = opened_sourced base;
  rooted = tt;
}

-- ---- the base stays

looked_up_base : {X : Type 0} (m : Timeline) (looked_up : Option X) (leads_to : X → Timeline) → ((x : X) → (leads_to x).base ≡ m.base)
    → (for_some looked_up m leads_to).base ≡ m.base
looked_up_base m None leads_to each = refl
looked_up_base m (Some x) leads_to each = each x

committing_base : (m : Timeline) (order : ℕ) (transaction : Transaction) (writes : List Write) → (committing m order transaction writes).base ≡ m.base
committing_base m order transaction [] = refl
committing_base m order transaction (write ∷ writes) = refl

moved_base : (m : Timeline) (move : Move) → (moved m move).base ≡ m.base
moved_base m begin = refl
moved_base m (write_in order write) = looked_up_base m (transaction_of m order) _ (λ transaction. refl)
moved_base m (write_out write) = refl
moved_base m (commit order) = looked_up_base m (transaction_of m order) _ (λ transaction. committing_base m order transaction transaction.writes)
moved_base m (abort order) = looked_up_base m (transaction_of m order) _ (λ transaction. refl)
moved_base m (create name mode prefix_length) = refl
moved_base m (remove id) = refl

found_base : {X : Type 0} (m : Core) (looked_up : Option X) (leads_to : X → Core) → ((x : X) → (leads_to x).timeline.base ≡ m.timeline.base)
    → (for_some looked_up m leads_to).timeline.base ≡ m.timeline.base
found_base m None leads_to each = refl
found_base m (Some x) leads_to each = each x

taking_base : (m : Core) (w : TurnWish) → (taking m w).timeline.base ≡ m.timeline.base
taking_base m wish.sync = refl
taking_base m wish.freeze = refl
taking_base m (wish.create name mode prefix) = refl
taking_base m (wish.drop name) = found_base m (store_named (now m) name) _ (λ store. refl)

pub done_base : (m : Core) (c : Call) → (done m c).timeline.base ≡ m.timeline.base
done_base m call.begin = refl
done_base m (call.write_by outside name change) = found_base m (store_named (now m) name) _ (λ store. refl)
done_base m (call.write_by (inside order) name change) =
    found_base m (transaction_of m.timeline order) _ (λ transaction.
    found_base m (store_named (snapshot_of m.timeline transaction) name) _ (λ store. moved_base m.timeline (write_in order _)))
done_base m (call.commit order) = found_base m (transaction_of m.timeline order) _ (λ transaction. moved_base m.timeline (commit order))
done_base m (call.abort order) = moved_base m.timeline (abort order)
done_base m (call.take w) = taking_base m w
done_base m (call.take_install id) = found_base m (job_of m.jobs id) _ (λ job. refl)
done_base m call.reopen = refl
done_base m (call.get actor name key) = refl
done_base m call.list_stores = refl
done_base m (call.tree name) = refl
done_base m call.info = refl
done_base m call.take_place = refl
done_base m call.give_place = refl
done_base m (call.pick w) = ap (λ (t : Timeline). t.base) (done_keeps m (call.pick w) (λ e. e))
done_base m (call.build id) = ap (λ (t : Timeline). t.base) (done_keeps m (call.build id) (λ e. e))
done_base m (call.drop_job id) = refl
done_base m call.next_job = refl
done_base m call.write_turn = refl
done_base m call.end_turn = ap (λ (t : Timeline). t.base) (done_keeps m call.end_turn (λ e. e))

-- ---- steps

same_stands : (one other : Core) → other ≡ one → Stands one.timeline → Stands other.timeline
same_stands one other is good = subst (λ (c : Core). Stands c.timeline) (sym is) good

reopening_stands : (found : Found) (old new : Core) (answer : Answer ℕ) → LoadsState found → Stands old.timeline → Reopens found old answer new
    → Stands new.timeline
reopening_stands (loads stored) old new (replies.ok number) loaded good step = same_stands (life stored) new step.1 (opened_stands stored.base loaded)
reopening_stands (breaks_off part place) old new (replies.refused (replies.not_formed at_part at_place)) loaded good step = same_stands old new step.2 good
reopening_stands (has_version version) old new (replies.refused (replies.other_version told)) loaded good step = same_stands old new step.1 good
reopening_stands found old new replies.device_fault loaded good step = same_stands (failing old call.reopen) new step good
reopening_stands found old new answer loaded good step = absurd step

pub step_stands : (found : Found) (old new : Core) (c : Call) (answer : Answer ℕ) → LoadsState found → Stands old.timeline → Step found old c answer new
    → Stands new.timeline
step_stands found old new c replies.no_memory loaded good step = same_stands old new step good
step_stands found old new call.reopen (replies.refused (replies.busy kind)) loaded good step = same_stands old new step.1 good
step_stands found old new call.reopen answer loaded good step = reopening_stands found old new answer loaded good step.1
step_stands found old new call.write_turn replies.device_fault loaded good step = same_stands (failing old call.write_turn) new step.1 good
step_stands found old new c replies.device_fault loaded good step = absurd step
step_stands found old new c (replies.refused reason) loaded good step =
    same_stands (refused_to old c) new step.1 (subst Stands (sym (refused_keeps old c).timeline) good)
step_stands found old new c answer loaded good step =
    same_stands (done old c) new step.2
    (goes_stands old.timeline (done old c).timeline (done_goes old c step.0) (subst IsState (sym (done_base old c)) good.base) good)
