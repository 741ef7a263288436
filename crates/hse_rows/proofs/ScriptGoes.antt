-- Lines keep transactions apart.
use Rattle.std.proofs.Common.{◌≡◌, inl, inr, ℕ, Bool, true, false, cond, List, [], ◌∷◌, Option, Some, None, is_some, refl, sym, ◌∙◌, subst}
use Rattle.hse_rows.specs.states.State.{store_named}
use Rattle.hse_rows.specs.transactions.Transaction.{read_of}
use Rattle.hse_rows.specs.transactions.Timeline.{for_some, transaction_of}
use Rattle.hse_rows.specs.transactions.Isolation.{IsIsolated, AreIsolated}
use Rattle.hse_rows.specs.rows.Job.{JobWish}
use Rattle.hse_rows.specs.machine.Replies as replies
use Rattle.hse_rows.specs.machine.Replies.{Refusal, Answer}
use Rattle.hse_rows.specs.machine.Calls.{inside, outside, Call}
use Rattle.hse_rows.specs.machine.Calls as call
use Rattle.hse_rows.specs.machine.Core.{Core, Stored, life, now}
use Rattle.hse_rows.specs.machine.CoreRefusal as core
use Rattle.hse_rows.specs.machine.CoreDone as leads
use Rattle.hse_rows.specs.rows.Schedule.{next_wish}
use Rattle.hse_rows.specs.machine.CoreStep.{Found, loads, breaks_off, has_version}
use Rattle.hse_rows.specs.script.ScriptLines.{Who, nobody, someone, Line, begin, write_by, get, commit, abort, list_stores, tree, info, open_cursor, seek, seek_range, read, update, close_cursor, pick, build, drop_job, next_job, take, take_install, write_turn, end_turn, turn, job, auto, reopen, silent, bad}
use Rattle.hse_rows.specs.script.Script.{Script, begins_with, order_of, job_named, cursor_named, is_begun}
use Rattle.hse_rows.specs.script.ScriptNames.{told}
use Rattle.hse_rows.specs.script.ScriptRefusal.{refusal, refuse, asked, with_built}
use Rattle.hse_rows.specs.script.ScriptDone.{done, refused_to, failing, turned, turn_failed, ran, job_done, job_failed, once_picked, job_refused}
use Rattle.hse_rows.specs.script.ScriptStep.{LacksMemory, Reopens, Step}
use Rattle.hse_rows.specs.laws.ScriptLaws.{Entry, Run}
use Rattle.hse_rows.proofs.IsolationLemmas.{opened_isolated, goes_isolated, are_isolated}
use Rattle.hse_rows.proofs.CoreGoes.{done_goes, done_keeps, refused_keeps}

-- what the core does not refuse
pub not_told : (s : Script) (reason : Option (Refusal ℕ)) → told s reason ≡ None → reason ≡ None
not_told s None none = refl
not_told s (Some reason) none = absurd cc

pub passed : (test : Bool) (reason : Refusal (List ℕ)) (later : Option (Refusal (List ℕ))) → refuse test reason later ≡ None → later ≡ None
passed true reason later none = absurd cc
passed false reason later none = none

module _ (s : Script) (good : IsIsolated s.core.timeline) where
  abbrev Keeps : Script → Type 0
  Keeps new = IsIsolated new.core.timeline

  at : (new : Core) → new.timeline ≡ s.core.timeline → IsIsolated new.timeline
  at new is = subst IsIsolated (sym is) good

  called_isolated : (c : Call) → asked s c ≡ None → IsIsolated (leads.done s.core c).timeline
  called_isolated c none = goes_isolated s.core.timeline (leads.done s.core c).timeline (done_goes s.core c (not_told s (core.refusal s.core c) none)) good

  -- something that is looked up
  looked_up : {X : Type 0} (it : Option X) (reason : Refusal (List ℕ)) (later : X → Option (Refusal (List ℕ))) (leads_to : X → Script)
      → ((x : X) → later x ≡ None → Keeps (leads_to x)) → for_some it (Some reason) later ≡ None → Keeps (for_some it s leads_to)
  looked_up None reason later leads_to each none = absurd cc
  looked_up (Some x) reason later leads_to each none = each x none

  looked_up_anyhow : {X : Type 0} (it : Option X) (leads_to : X → Script) → ((x : X) → Keeps (leads_to x)) → Keeps (for_some it s leads_to)
  looked_up_anyhow None leads_to each = good
  looked_up_anyhow (Some x) leads_to each = each x

  turn_timeline : (m : Core) (first : Call) → (turned m first).timeline ≡ (leads.done m first).timeline
  turn_timeline m first = done_keeps (ran m first) call.end_turn (λ e. e)

  failed_timeline : (m : Core) (first : Call) → (turn_failed m first).timeline ≡ (leads.done m first).timeline
  failed_timeline m first = (refused_keeps (leads.failing (leads.done m first) call.write_turn) call.end_turn).timeline

  built_timeline : (wish : JobWish) → (leads.done (with_built s.core wish) (call.take_install s.core.picked)).timeline ≡ s.core.timeline
  built_timeline wish =
      done_keeps (with_built s.core wish) (call.take_install s.core.picked) (λ e. e)
      ∙ done_keeps (leads.done s.core (call.pick wish)) (call.build s.core.picked) (λ e. e)
      ∙ done_keeps s.core (call.pick wish) (λ e. e)

  job_isolated : (wish : JobWish) → Keeps (job_done s wish)
  job_isolated wish = at (job_done s wish).core (turn_timeline (with_built s.core wish) (call.take_install s.core.picked) ∙ built_timeline wish)

  job_failed_isolated : (wish : JobWish) → Keeps (job_failed s wish)
  job_failed_isolated wish = at (job_failed s wish).core (failed_timeline (with_built s.core wish) (call.take_install s.core.picked) ∙ built_timeline wish)

  opening_isolated : (name : List ℕ) (who : Who) (store : List ℕ) (direction : _) (filter : List ℕ) → Keeps (done s (open_cursor name who store direction filter))
  opening_isolated name nobody store direction filter = looked_up_anyhow (store_named (now s.core) store) _ (λ found. good)
  opening_isolated name (someone transaction) store direction filter =
      looked_up_anyhow (order_of s transaction) _ (λ order.
      looked_up_anyhow (transaction_of s.core.timeline order) _ (λ t.
      looked_up_anyhow (store_named (read_of s.core.timeline.base s.core.timeline.history t) store) _ (λ found. good)))

  line_isolated : (line : Line) → refusal s line ≡ None → Keeps (done s line)
  line_isolated (begin name) none = called_isolated call.begin (passed (is_begun s name) replies.name_used (asked s call.begin) none)
  line_isolated (write_by nobody store change) none = called_isolated (call.write_by outside store change) none
  line_isolated (write_by (someone name) store change) none =
      looked_up (order_of s name) replies.no_name _ _ (λ order. called_isolated (call.write_by (inside order) store change)) none
  line_isolated (get who store key) none = good
  line_isolated (commit name) none = looked_up (order_of s name) replies.no_name _ _ (λ order. called_isolated (call.commit order)) none
  line_isolated (abort name) none = looked_up (order_of s name) replies.no_name _ _ (λ order. called_isolated (call.abort order)) none
  line_isolated list_stores none = good
  line_isolated (tree store) none = good
  line_isolated info none = good
  line_isolated (open_cursor name who store direction filter) none = opening_isolated name who store direction filter
  line_isolated (seek name key) none = looked_up_anyhow (cursor_named s name) _ (λ cursor. good)
  line_isolated (seek_range name first last) none = looked_up_anyhow (cursor_named s name) _ (λ cursor. good)
  line_isolated (read name) none = looked_up_anyhow (cursor_named s name) _ (λ cursor. good)
  line_isolated (update name) none = looked_up_anyhow (cursor_named s name) _ (λ cursor. good)
  line_isolated (close_cursor name) none = good
  line_isolated (pick name wish) none = at (leads.done s.core (call.pick wish)) (done_keeps s.core (call.pick wish) (λ e. e))
  line_isolated (build name) none =
      looked_up_anyhow (job_named s name) _ (λ id. at (leads.done s.core (call.build id)) (done_keeps s.core (call.build id) (λ e. e)))
  line_isolated (drop_job name) none = looked_up_anyhow (job_named s name) _ (λ id. good)
  line_isolated next_job none = good
  line_isolated (take wish) none = called_isolated (call.take wish) none
  line_isolated (take_install name) none =
      looked_up_anyhow (job_named s name) _ (λ id.
      at (leads.done s.core (call.take_install id)) (done_keeps s.core (call.take_install id) (λ e. e)))
  line_isolated write_turn none = good
  line_isolated end_turn none = at (leads.done s.core call.end_turn) (done_keeps s.core call.end_turn (λ e. e))
  line_isolated (turn wish) none = subst IsIsolated (sym (turn_timeline s.core (call.take wish))) (called_isolated (call.take wish) none)
  line_isolated (job wish) none = job_isolated wish
  line_isolated auto none = looked_up_anyhow (next_wish s.core) (job_done s) job_isolated
  line_isolated reopen none = good
  line_isolated silent none = good
  line_isolated bad none = good

  job_refused_isolated : (wish : JobWish) → Keeps (job_refused s wish)
  job_refused_isolated wish = by (is_some (asked s (call.pick wish)))
    where
      by : (b : Bool) → Keeps (cond b s (once_picked s))
      by true = good
      by false = good

  refused_isolated : (line : Line) → Keeps (refused_to s line)
  refused_isolated (job wish) = job_refused_isolated wish
  refused_isolated auto = looked_up_anyhow (next_wish s.core) (job_refused s) job_refused_isolated
  refused_isolated end_turn = at (leads.refused_to s.core call.end_turn) (refused_keeps s.core call.end_turn).timeline
  refused_isolated line = good

  failing_isolated : (line : Line) → refusal s line ≡ None → Keeps (failing s line)
  failing_isolated (turn wish) none = subst IsIsolated (sym (failed_timeline s.core (call.take wish))) (called_isolated (call.take wish) none)
  failing_isolated (job wish) none = job_failed_isolated wish
  failing_isolated auto none = looked_up_anyhow (next_wish s.core) (job_failed s) job_failed_isolated
  failing_isolated write_turn none = good
  failing_isolated line none = good

same_isolated : (one other : Script) → other ≡ one → IsIsolated one.core.timeline → IsIsolated other.core.timeline
same_isolated one other is good = subst (λ (s : Script). IsIsolated s.core.timeline) (sym is) good

lacking_isolated : (old new : Script) (line : Line) → IsIsolated old.core.timeline → LacksMemory old line new → IsIsolated new.core.timeline
lacking_isolated old new (job wish) good (inl is) = same_isolated old new is good
lacking_isolated old new (job wish) good (inr is) = same_isolated (refused_to old (job wish)) new is (refused_isolated old good (job wish))
lacking_isolated old new auto good (inl is) = same_isolated old new is good
lacking_isolated old new auto good (inr is) = same_isolated (refused_to old auto) new is (refused_isolated old good auto)
lacking_isolated old new line good step = same_isolated old new step good

reopening_isolated : (found : Found) (old new : Script) (answer : Answer (List ℕ)) → IsIsolated old.core.timeline → Reopens found old answer new
    → IsIsolated new.core.timeline
reopening_isolated (loads stored) old new (replies.ok number) good step = same_isolated (begins_with (life stored)) new step.1 (opened_isolated stored.base)
reopening_isolated (breaks_off part place) old new (replies.refused (replies.not_formed at_part at_place)) good step = same_isolated old new step.2 good
reopening_isolated (has_version version) old new (replies.refused (replies.other_version told)) good step = same_isolated old new step.1 good
reopening_isolated found old new replies.device_fault good step = same_isolated (failing old reopen) new step good
reopening_isolated found old new answer good step = absurd step

pub step_isolated : (found : Found) (old new : Script) (line : Line) (answer : Answer (List ℕ)) → IsIsolated old.core.timeline
    → Step found old line answer new → IsIsolated new.core.timeline
step_isolated found old new silent replies.silence good step = same_isolated old new step good
step_isolated found old new silent answer good step = absurd step
step_isolated found old new line replies.no_memory good step = lacking_isolated old new line good step
step_isolated found old new reopen (replies.refused (replies.busy kind)) good step = same_isolated old new step.1 good
step_isolated found old new reopen answer good step = reopening_isolated found old new answer good step.1
step_isolated found old new line replies.device_fault good step = same_isolated (failing old line) new step.2 (failing_isolated old good line step.1)
step_isolated found old new line (replies.refused reason) good step = same_isolated (refused_to old line) new step.1 (refused_isolated old good line)
step_isolated found old new line answer good step = same_isolated (done old line) new step.2 (line_isolated old good line step.0)

run_isolated : (old : Script) (entries : List Entry) (new : Script) → IsIsolated old.core.timeline → Run old entries new → IsIsolated new.core.timeline
run_isolated old [] new good run = same_isolated old new run good
run_isolated old (entry ∷ entries) new good run =
    run_isolated run.0 entries new (step_isolated entry.found old run.0 entry.line entry.answer good run.1) run.2

pub scripts_isolated : (stored : Stored) (entries : List Entry) (new : Script) → Run (begins_with (life stored)) entries new → AreIsolated new.core.timeline
scripts_isolated stored entries new run =
    are_isolated new.core.timeline (run_isolated (begins_with (life stored)) entries new (opened_isolated stored.base) run)
