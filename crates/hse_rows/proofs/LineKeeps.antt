-- What lines leave as it was.
use Rattle.std.proofs.Common.{◌≡◌, inl, inr, ℕ, Bool, true, false, cond, List, Option, Some, None, is_some, refl, ◌∙◌, ap}
use Rattle.hse_rows.specs.states.State.{store_named}
use Rattle.hse_rows.specs.transactions.Transaction.{read_of}
use Rattle.hse_rows.specs.transactions.Timeline.{transaction_of, for_some}
use Rattle.hse_rows.specs.script.Cursor.{Direction}
use Rattle.hse_rows.specs.rows.Job.{JobWish}
use Rattle.hse_rows.specs.machine.Replies as replies
use Rattle.hse_rows.specs.machine.Replies.{Answer}
use Rattle.hse_rows.specs.machine.Calls.{Call}
use Rattle.hse_rows.specs.machine.Calls as call
use Rattle.hse_rows.specs.machine.Core.{Core, now}
use Rattle.hse_rows.specs.machine.CoreDone as leads
use Rattle.hse_rows.specs.rows.Schedule.{next_wish}
use Rattle.hse_rows.specs.machine.CoreStep.{Found}
use Rattle.hse_rows.specs.script.ScriptLines.{Who, nobody, someone, Line, begin, write_by, commit, abort, open_cursor, seek, seek_range, read, update, close_cursor, pick, build, drop_job, take, take_install, write_turn, end_turn, turn, job, auto, reopen, silent}
use Rattle.hse_rows.specs.script.Script.{Script, order_of, job_named, cursor_named}
use Rattle.hse_rows.specs.script.ScriptRefusal.{asked, with_built}
use Rattle.hse_rows.specs.script.ScriptDone.{done, refused_to, failing, turned, turn_failed, ran, job_done, job_failed, once_picked, job_refused}
use Rattle.hse_rows.specs.script.ScriptStep.{LacksMemory, Step}
use Rattle.hse_rows.specs.laws.ScriptLaws.{ChangesTimeline, ChangesNames}
use Rattle.hse_rows.proofs.CoreGoes.{done_keeps, refused_keeps}

-- ---- names and cursors

record Names (old new : Script) : Type 0 where
  cursors : new.cursors ≡ old.cursors
  begun : new.begun_names ≡ old.begun_names

module _ (s : Script) where
  same_names : Names s s
  same_names = record { cursors = refl; begun = refl }

  found_names : {X : Type 0} (it : Option X) (leads_to : X → Script) → ((x : X) → Names s (leads_to x)) → Names s (for_some it s leads_to)
  found_names None leads_to each = same_names
  found_names (Some x) leads_to each = each x

  done_names : (line : Line) → (ChangesNames line → ⊥) → Names s (done s line)
  done_names (begin name) other = absurd (other tt)
  done_names (open_cursor name who store direction filter) other = absurd (other tt)
  done_names (seek name key) other = absurd (other tt)
  done_names (seek_range name first last) other = absurd (other tt)
  done_names (read name) other = absurd (other tt)
  done_names (update name) other = absurd (other tt)
  done_names (close_cursor name) other = absurd (other tt)
  done_names reopen other = absurd (other tt)
  done_names (write_by nobody store change) other = record { cursors = refl; begun = refl }
  done_names (write_by (someone name) store change) other = found_names (order_of s name) _ (λ order. record { cursors = refl; begun = refl })
  done_names (commit name) other = found_names (order_of s name) _ (λ order. record { cursors = refl; begun = refl })
  done_names (abort name) other = found_names (order_of s name) _ (λ order. record { cursors = refl; begun = refl })
  done_names (build name) other = found_names (job_named s name) _ (λ id. record { cursors = refl; begun = refl })
  done_names (drop_job name) other = found_names (job_named s name) _ (λ id. record { cursors = refl; begun = refl })
  done_names (take_install name) other = found_names (job_named s name) _ (λ id. record { cursors = refl; begun = refl })
  done_names auto other = found_names (next_wish s.core) (job_done s) (λ wish. record { cursors = refl; begun = refl })
  done_names line other = record { cursors = refl; begun = refl }

  dropped_names : (wish : JobWish) → Names s (job_refused s wish)
  dropped_names wish = by (is_some (asked s (call.pick wish)))
    where
      by : (b : Bool) → Names s (cond b s (once_picked s))
      by true = record { cursors = refl; begun = refl }
      by false = record { cursors = refl; begun = refl }

  refused_names : (line : Line) → Names s (refused_to s line)
  refused_names (job wish) = dropped_names wish
  refused_names auto = found_names (next_wish s.core) (job_refused s) dropped_names
  refused_names line = record { cursors = refl; begun = refl }

  failing_names : (line : Line) → Names s (failing s line)
  failing_names auto = found_names (next_wish s.core) (job_failed s) (λ wish. record { cursors = refl; begun = refl })
  failing_names line = record { cursors = refl; begun = refl }

names_by : (old one new : Script) → new ≡ one → Names old one → (new.cursors ≡ old.cursors) × (new.begun_names ≡ old.begun_names)
names_by old one new is names = (ap (λ (s : Script). s.cursors) is ∙ names.cursors, ap (λ (s : Script). s.begun_names) is ∙ names.begun)

lacking_names : (old new : Script) (line : Line) → LacksMemory old line new → (new.cursors ≡ old.cursors) × (new.begun_names ≡ old.begun_names)
lacking_names old new (job wish) (inl is) = names_by old old new is (same_names old)
lacking_names old new (job wish) (inr is) = names_by old (refused_to old (job wish)) new is (refused_names old (job wish))
lacking_names old new auto (inl is) = names_by old old new is (same_names old)
lacking_names old new auto (inr is) = names_by old (refused_to old auto) new is (refused_names old auto)
lacking_names old new line is = names_by old old new is (same_names old)

pub lines_keep_names : (found : Found) (old new : Script) (line : Line) (answer : Answer (List ℕ)) → Step found old line answer new
    → (ChangesNames line → ⊥) → (new.cursors ≡ old.cursors) × (new.begun_names ≡ old.begun_names)
lines_keep_names found old new silent replies.silence step other = names_by old old new step (same_names old)
lines_keep_names found old new silent answer step other = absurd step
lines_keep_names found old new line replies.no_memory step other = lacking_names old new line step
lines_keep_names found old new reopen answer step other = absurd (other tt)
lines_keep_names found old new line replies.device_fault step other = names_by old (failing old line) new step.2 (failing_names old line)
lines_keep_names found old new line (replies.refused reason) step other = names_by old (refused_to old line) new step.1 (refused_names old line)
lines_keep_names found old new line answer step other = names_by old (done old line) new step.2 (done_names old line other)

-- ---- states and transactions

turned_timeline : (m : Core) (first : Call) → (turned m first).timeline ≡ (leads.done m first).timeline
turned_timeline m first = done_keeps (ran m first) call.end_turn (λ e. e)

failed_timeline : (m : Core) (first : Call) → (turn_failed m first).timeline ≡ (leads.done m first).timeline
failed_timeline m first = (refused_keeps (leads.failing (leads.done m first) call.write_turn) call.end_turn).timeline

built_timeline : (m : Core) (wish : JobWish) → (leads.done (with_built m wish) (call.take_install m.picked)).timeline ≡ m.timeline
built_timeline m wish =
    done_keeps (with_built m wish) (call.take_install m.picked) (λ e. e)
    ∙ done_keeps (leads.done m (call.pick wish)) (call.build m.picked) (λ e. e)
    ∙ done_keeps m (call.pick wish) (λ e. e)

module _ (s : Script) where
  found_timeline : {X : Type 0} (it : Option X) (leads_to : X → Script) → ((x : X) → (leads_to x).core.timeline ≡ s.core.timeline)
      → (for_some it s leads_to).core.timeline ≡ s.core.timeline
  found_timeline None leads_to each = refl
  found_timeline (Some x) leads_to each = each x

  job_timeline : (wish : JobWish) → (job_done s wish).core.timeline ≡ s.core.timeline
  job_timeline wish = turned_timeline (with_built s.core wish) (call.take_install s.core.picked) ∙ built_timeline s.core wish

  job_failed_timeline : (wish : JobWish) → (job_failed s wish).core.timeline ≡ s.core.timeline
  job_failed_timeline wish = failed_timeline (with_built s.core wish) (call.take_install s.core.picked) ∙ built_timeline s.core wish

  opening_timeline : (name : List ℕ) (who : Who) (store : List ℕ) (direction : Direction) (filter : List ℕ)
      → (done s (open_cursor name who store direction filter)).core.timeline ≡ s.core.timeline
  opening_timeline name nobody store direction filter = found_timeline (store_named (now s.core) store) _ (λ found. refl)
  opening_timeline name (someone transaction) store direction filter =
      found_timeline (order_of s transaction) _ (λ order.
      found_timeline (transaction_of s.core.timeline order) _ (λ t.
      found_timeline (store_named (read_of s.core.timeline.base s.core.timeline.history t) store) _ (λ found. refl)))

  done_timeline : (line : Line) → (ChangesTimeline line → ⊥) → (done s line).core.timeline ≡ s.core.timeline
  done_timeline (begin name) other = absurd (other tt)
  done_timeline (write_by who store change) other = absurd (other tt)
  done_timeline (commit name) other = absurd (other tt)
  done_timeline (abort name) other = absurd (other tt)
  done_timeline reopen other = absurd (other tt)
  done_timeline (take wish) other = done_keeps s.core (call.take wish) other
  done_timeline (turn wish) other = turned_timeline s.core (call.take wish) ∙ done_keeps s.core (call.take wish) other
  done_timeline (job wish) other = job_timeline wish
  done_timeline auto other = found_timeline (next_wish s.core) (job_done s) job_timeline
  done_timeline (pick name wish) other = done_keeps s.core (call.pick wish) (λ e. e)
  done_timeline (build name) other = found_timeline (job_named s name) _ (λ id. done_keeps s.core (call.build id) (λ e. e))
  done_timeline (drop_job name) other = found_timeline (job_named s name) _ (λ id. refl)
  done_timeline (take_install name) other = found_timeline (job_named s name) _ (λ id. done_keeps s.core (call.take_install id) (λ e. e))
  done_timeline write_turn other = refl
  done_timeline end_turn other = done_keeps s.core call.end_turn (λ e. e)
  done_timeline (open_cursor name who store direction filter) other = opening_timeline name who store direction filter
  done_timeline (seek name key) other = found_timeline (cursor_named s name) _ (λ cursor. refl)
  done_timeline (seek_range name first last) other = found_timeline (cursor_named s name) _ (λ cursor. refl)
  done_timeline (read name) other = found_timeline (cursor_named s name) _ (λ cursor. refl)
  done_timeline (update name) other = found_timeline (cursor_named s name) _ (λ cursor. refl)
  done_timeline line other = refl

  dropped_timeline : (wish : JobWish) → (job_refused s wish).core.timeline ≡ s.core.timeline
  dropped_timeline wish = by (is_some (asked s (call.pick wish)))
    where
      by : (b : Bool) → (cond b s (once_picked s)).core.timeline ≡ s.core.timeline
      by true = refl
      by false = refl

  refused_timeline : (line : Line) → (refused_to s line).core.timeline ≡ s.core.timeline
  refused_timeline (job wish) = dropped_timeline wish
  refused_timeline auto = found_timeline (next_wish s.core) (job_refused s) dropped_timeline
  refused_timeline end_turn = (refused_keeps s.core call.end_turn).timeline
  refused_timeline line = refl

  failing_timeline : (line : Line) → (ChangesTimeline line → ⊥) → (failing s line).core.timeline ≡ s.core.timeline
  failing_timeline (turn wish) other = failed_timeline s.core (call.take wish) ∙ done_keeps s.core (call.take wish) other
  failing_timeline (job wish) other = job_failed_timeline wish
  failing_timeline auto other = found_timeline (next_wish s.core) (job_failed s) job_failed_timeline
  failing_timeline line other = refl

timeline_by : (old one new : Script) → new ≡ one → one.core.timeline ≡ old.core.timeline → new.core.timeline ≡ old.core.timeline
timeline_by old one new is keeps = ap (λ (s : Script). s.core.timeline) is ∙ keeps

lacking_timeline : (old new : Script) (line : Line) → LacksMemory old line new → new.core.timeline ≡ old.core.timeline
lacking_timeline old new (job wish) (inl is) = timeline_by old old new is refl
lacking_timeline old new (job wish) (inr is) = timeline_by old (refused_to old (job wish)) new is (refused_timeline old (job wish))
lacking_timeline old new auto (inl is) = timeline_by old old new is refl
lacking_timeline old new auto (inr is) = timeline_by old (refused_to old auto) new is (refused_timeline old auto)
lacking_timeline old new line is = timeline_by old old new is refl

pub lines_keep_timelines : (found : Found) (old new : Script) (line : Line) (answer : Answer (List ℕ)) → Step found old line answer new
    → (ChangesTimeline line → ⊥) → new.core.timeline ≡ old.core.timeline
lines_keep_timelines found old new silent replies.silence step other = timeline_by old old new step refl
lines_keep_timelines found old new silent answer step other = absurd step
lines_keep_timelines found old new line replies.no_memory step other = lacking_timeline old new line step
lines_keep_timelines found old new reopen answer step other = absurd (other tt)
lines_keep_timelines found old new line replies.device_fault step other = timeline_by old (failing old line) new step.2 (failing_timeline old line other)
lines_keep_timelines found old new line (replies.refused reason) step other = timeline_by old (refused_to old line) new step.1 (refused_timeline old line)
lines_keep_timelines found old new line answer step other = timeline_by old (done old line) new step.2 (done_timeline old line other)
