-- A line is a run of calls of the core.
use Rattle.std.proofs.Common.{◌≡◌, ℕ, ◌+◌, true, false, List, [], ◌∷◌, Option, Some, None, refl, sym, ◌∙◌, ap, subst}
use Rattle.hse_rows.specs.states.State.{store_named}
use Rattle.hse_rows.specs.transactions.Timeline.{for_some}
use Rattle.hse_rows.specs.rows.Job.{JobWish, Job, is_built, job_of, needed_blocks}
use Rattle.hse_rows.specs.machine.Turn.{TurnWish, sync, freeze, create, drop, TakenTurn, Turn, taken, written, Calls}
use Rattle.hse_rows.specs.machine.Replies as replies
use Rattle.hse_rows.specs.machine.Replies.{Refusal, Answer}
use Rattle.hse_rows.specs.machine.Calls.{inside, outside, Call}
use Rattle.hse_rows.specs.machine.Calls as call
use Rattle.hse_rows.specs.machine.Core.{Core, now}
use Rattle.hse_rows.specs.machine.CoreRefusal.{take_refusal, install_refusal, drop_refusal, unless_not_taken, unless_run_well}
use Rattle.hse_rows.specs.machine.CoreRefusal as core
use Rattle.hse_rows.specs.machine.CoreReply as replied
use Rattle.hse_rows.specs.machine.CoreDone.{taking, taking_install, with_picked}
use Rattle.hse_rows.specs.machine.CoreDone as leads
use Rattle.hse_rows.specs.machine.CoreStep.{Found}
use Rattle.hse_rows.specs.script.ScriptRefusal.{with_built}
use Rattle.hse_rows.specs.script.ScriptDone.{turned, turn_failed, turn_reply}
use Rattle.hse_rows.specs.script.ScriptCalls.{Leads, told_by, turn_calls}
use Rattle.hse_rows.proofs.PassLemmas.{found, found_job}
use Rattle.hse_rows.proofs.CoreAnswers.{IsOther, call_passes}
use Rattle.hse_rows.proofs.JobLemmas.{AreBelow, picks, with_built_job, build_passes, built_is, picked_drops, built_drops, picked_gone, built_gone}

-- ---- turns

-- a turn that was taken is out
takes : (m : Core) (wish : TurnWish) → take_refusal m wish ≡ None → (t : TakenTurn) × ((taking m wish).turn ≡ taken t)
takes m sync none = (_, refl)
takes m freeze none = (_, refl)
takes m (create name mode prefix) none = (_, refl)
takes m (drop name) none =
    found (λ (c : Core). (t : TakenTurn) × (c.turn ≡ taken t)) (store_named (now m) name) replies.no_store (drop_refusal m) m _
    (λ store is passed. (_, refl)) none

takes_install : (m : Core) (id : ℕ) → core.refusal m (call.take_install id) ≡ None → (t : TakenTurn) × ((taking_install m id).turn ≡ taken t)
takes_install m id none =
    found_job (λ (c : Core). (t : TakenTurn) × (c.turn ≡ taken t)) m id is_built (install_refusal m) _ (λ job is passed. (_, refl)) none

-- a call that takes a turn
pub record Takes (m : Core) (first : Call) : Type 0 where
  pub other : IsOther first
  pub passed : core.refusal m first ≡ None
  pub turn : TakenTurn
  pub out : (leads.done m first).turn ≡ taken turn

pub take_takes : (m : Core) (wish : TurnWish) → core.refusal m (call.take wish) ≡ None → Takes m (call.take wish)
take_takes m wish none = let it = takes m wish none in record { other = tt; passed = none; turn = it.0; out = it.1 }

pub install_takes : (m : Core) (id : ℕ) → core.refusal m (call.take_install id) ≡ None → Takes m (call.take_install id)
install_takes m id none = let it = takes_install m id none in record { other = tt; passed = none; turn = it.0; out = it.1 }

module _ (f : Found) where
  -- a call alone
  pub one : (m : Core) (c : Call) → IsOther c → core.refusal m c ≡ None → Leads f m (c ∷ []) (replied.reply m c ∷ []) (leads.done m c)
  one m c other none = (leads.done m c, call_passes f m c other none, refl)

  abbrev pub turn_answers : Core → Call → List (Answer ℕ)
  turn_answers m first = replied.reply m first ∷ replies.written ∷ turn_reply m first ∷ []

  pub turn_led : (m : Core) (first : Call) → Takes m first → Leads f m (turn_calls first) (turn_answers m first) (turned m first)
  turn_led m first it =
      let out = it.out in
      let taken_one : Core = leads.done m first in
      let run_one : Core = leads.done taken_one call.write_turn in (
        taken_one,
        call_passes f m first it.other it.passed,
        (
          run_one,
          (ap unless_not_taken out, refl, refl),
          one run_one call.end_turn tt (ap (λ (t : Turn). unless_run_well (written t false)) out),
        ),
      )

  abbrev pub failed_answers : Core → Call → List (Answer ℕ)
  failed_answers m first = replied.reply m first ∷ replies.device_fault ∷ replies.refused replies.broken ∷ []

  pub turn_failed_led : (m : Core) (first : Call) → Takes m first → Calls (leads.done m first).turn
      → Leads f m (turn_calls first) (failed_answers m first) (turn_failed m first)
  turn_failed_led m first it calls =
      let out = it.out in
      let taken_one : Core = leads.done m first in
      let run_one : Core = leads.failing taken_one call.write_turn in (
        taken_one,
        call_passes f m first it.other it.passed,
        (
          run_one,
          (calls, refl),
          (
            leads.refused_to run_one call.end_turn,
            (ap (λ (t : Turn). unless_run_well (written t true)) out, refl),
            refl,
          ),
        ),
      )

  -- ---- jobs

  abbrev pub built_answer : Core → JobWish → Answer ℕ
  built_answer m wish = replied.reply (leads.done m (call.pick wish)) (call.build m.picked)

  -- a build that was done tells nothing
  pub built_tells : (m : Core) (wish : JobWish) (next : Answer ℕ) (answers : List (Answer ℕ))
      → told_by replies.accepted (built_answer m wish ∷ next ∷ answers) ≡ told_by next answers
  built_tells m wish next answers = by (job_of (leads.done m (call.pick wish)).jobs m.picked)
    where
      by : (it : Option Job)
          → told_by (for_some it replies.accepted (λ job. replies.ok (needed_blocks job.work (replied.sets_for (leads.done m (call.pick wish)) job.work))))
          (next ∷ answers) ≡ told_by next answers
      by None = refl
      by (Some job) = refl

  module _ (m : Core) (numbered : AreBelow m.picked m.jobs) (wish : JobWish) (none : core.refusal m (call.pick wish) ≡ None) where
    built_passes : core.refusal (leads.done m (call.pick wish)) (call.build m.picked) ≡ None
    built_passes =
        let it = picks m wish none in
        subst (λ (c : Core). core.refusal c (call.build m.picked) ≡ None) (sym it.1) (build_passes m numbered it.0 it.2)

    -- the pick and the build, and then others
    pub built_first : (calls : List Call) (answers : List (Answer ℕ)) (new : Core) → Leads f (with_built m wish) calls answers new
        → Leads f m (call.pick wish ∷ call.build m.picked ∷ calls) (replies.accepted ∷ built_answer m wish ∷ answers) new
    built_first calls answers new later =
        let picked_one : Core = leads.done m (call.pick wish) in (
          picked_one,
          (none, refl, refl),
          (with_built m wish, call_passes f picked_one (call.build m.picked) tt built_passes, later),
        )

    with_built_is : with_built m wish ≡ with_built_job m numbered (picks m wish none).0
    with_built_is =
        let it = picks m wish none in
        ap (λ (c : Core). leads.done c (call.build m.picked)) it.1 ∙ built_is m numbered it.0

    -- a job that is refused after its build is dropped
    pub refused_led : (reason : Refusal ℕ) → core.refusal (with_built m wish) (call.take_install m.picked) ≡ Some reason
        → Leads f m (call.pick wish ∷ call.build m.picked ∷ call.take_install m.picked ∷ call.drop_job m.picked ∷ [])
        (replies.accepted ∷ built_answer m wish ∷ replies.refused reason ∷ replies.accepted ∷ []) (record m { picked = m.picked + 1 })
    refused_led reason is =
        built_first (call.take_install m.picked ∷ call.drop_job m.picked ∷ []) (replies.refused reason ∷ replies.accepted ∷ []) (record m { picked = m.picked + 1 }) (
          with_built m wish,
          (is, refl),
          subst (λ (c : Core). Leads f c (call.drop_job m.picked ∷ []) (replies.accepted ∷ []) (record m { picked = m.picked + 1 })) (sym with_built_is)
              (subst (Leads f (with_built_job m numbered (picks m wish none).0) (call.drop_job m.picked ∷ []) (replies.accepted ∷ [])) (built_gone m numbered (picks m wish none).0)
              (one (with_built_job m numbered (picks m wish none).0) (call.drop_job m.picked) tt (built_drops m numbered (picks m wish none).0))),
        )

    -- and so is one whose build lacks memory
    pub dropped_led : Leads f m (call.pick wish ∷ call.build m.picked ∷ call.drop_job m.picked ∷ [])
        (replies.accepted ∷ replies.no_memory ∷ replies.accepted ∷ []) (record m { picked = m.picked + 1 })
    dropped_led =
        let it = picks m wish none in (
          leads.done m (call.pick wish),
          (none, refl, refl),
          (
            leads.done m (call.pick wish),
            refl,
            subst (λ (c : Core). Leads f c (call.drop_job m.picked ∷ []) (replies.accepted ∷ []) (record m { picked = m.picked + 1 })) (sym it.1)
                (subst (Leads f (with_picked m it.0) (call.drop_job m.picked ∷ []) (replies.accepted ∷ [])) (picked_gone m numbered it.0)
                (one (with_picked m it.0) (call.drop_job m.picked) tt (picked_drops m numbered it.0))),
          ),
        )
