-- Limits, records and standing timelines in every script.
use Rattle.std.specs.List.{AllByRecursion}
use Rattle.std.proofs.Common.{◌≡◌, ◌≢◌, ℕ, List, [], ◌∷◌, refl, sym, ap, subst}
use Rattle.hse_rows.specs.machine.Replies as replies
use Rattle.hse_rows.specs.machine.Replies.{Answer}
use Rattle.hse_rows.specs.machine.Calls.{Call}
use Rattle.hse_rows.specs.machine.Calls as call
use Rattle.hse_rows.specs.machine.Core.{Core, Stored, life}
use Rattle.hse_rows.specs.machine.CoreDone as leads
use Rattle.hse_rows.specs.machine.CoreStep.{Found, loads, breaks_off, has_version}
use Rattle.hse_rows.specs.machine.CoreStep as core
use Rattle.hse_rows.specs.laws.CoreLaws.{LoadsWithinLimits, LoadsState, Stands}
use Rattle.hse_rows.specs.script.ScriptLines.{Line, reopen}
use Rattle.hse_rows.specs.script.Script.{Script, begins_with}
use Rattle.hse_rows.specs.script.ScriptStep.{Reopens, Step}
use Rattle.hse_rows.specs.script.ScriptCalls.{Leads}
use Rattle.hse_rows.specs.laws.ScriptLaws.{Entry, Run, IsSound, IsLoadable, LoadsSound, stored_by, stored_in}
use Rattle.hse_rows.proofs.CoreAnswers.{IsOther}
use Rattle.hse_rows.proofs.CoreGoes.{failing_keeps}
use Rattle.hse_rows.proofs.CoreLimits.{failing_within, step_keeps_limits}
use Rattle.hse_rows.proofs.StandLemmas.{opened_stands, step_stands}
use Rattle.hse_rows.proofs.CoreKeepsRecords.{life_recorded, failing_is_recorded, other_records}
use Rattle.hse_rows.proofs.JobLemmas.{numbered_below}
use Rattle.hse_rows.proofs.LineSteps.{step_calls}

-- ---- calls

is_other : (c : Call) → c ≢ call.reopen → IsOther c
is_other call.reopen apart = apart refl
is_other c apart = tt

loads_within : (found : Found) → LoadsSound found → LoadsWithinLimits found
loads_within (loads stored) sound = sound.limits
loads_within (breaks_off part place) sound = tt
loads_within (has_version version) sound = tt

loads_state : (found : Found) → LoadsSound found → LoadsState found
loads_state (loads stored) sound = sound.state
loads_state (breaks_off part place) sound = tt
loads_state (has_version version) sound = tt

same_sound : (since : Stored) (one other : Core) → other ≡ one → IsSound since one → IsSound since other
same_sound since one other is good = subst (IsSound since) (sym is) good

module _ (since : Stored) (found : Found) (sound : LoadsSound found) where
  call_sound : (old new : Core) (c : Call) (answer : Answer ℕ) → c ≢ call.reopen → IsSound since old → core.Step found old c answer new → IsSound since new
  call_sound old new c answer apart good step = record {
    limits = step_keeps_limits found old new c answer good.limits (loads_within found sound) step;
    recorded = other_records since found old new c answer (is_other c apart) good.recorded step;
    stands = step_stands found old new c answer (loads_state found sound) good.stands step;
  }

  calls_sound : (old new : Core) (calls : List Call) (answers : List (Answer ℕ)) → AllByRecursion (λ one. one ≢ call.reopen) calls → IsSound since old
      → Leads found old calls answers new → IsSound since new
  calls_sound old new [] [] apart good led = same_sound since old new led good
  calls_sound old new [] (answer ∷ answers) apart good led = absurd led
  calls_sound old new (c ∷ calls) [] apart good led = absurd led
  calls_sound old new (c ∷ calls) (answer ∷ answers) apart good led =
      calls_sound led.0 new calls answers apart.1 (call_sound old led.0 c answer apart.0 good led.1) led.2

-- ---- reopenings

life_sound : (stored : Stored) → IsLoadable stored → IsSound stored (life stored)
life_sound stored good =
    record { limits = good.limits; recorded = life_recorded stored good.order; stands = opened_stands stored.base good.state }

failed_sound : (since : Stored) (m : Core) → IsSound since m → IsSound since (leads.failing m call.reopen)
failed_sound since m good = record {
  limits = failing_within m good.limits call.reopen;
  recorded = failing_is_recorded since m good.recorded call.reopen;
  stands = subst Stands (sym (failing_keeps m call.reopen).timeline) good.stands;
}

core_of : (one new : Script) → new ≡ one → new.core ≡ one.core
core_of one new is = ap (λ (s : Script). s.core) is

reopening_sound : (since : Stored) (found : Found) (old new : Script) (answer : Answer (List ℕ)) → LoadsSound found → IsSound since old.core
    → Reopens found old answer new → IsSound (stored_by since found reopen answer) new.core
reopening_sound since (loads stored) old new (replies.ok number) sound good step =
    same_sound stored (life stored) new.core (core_of (begins_with (life stored)) new step.1) (life_sound stored sound)
reopening_sound since (loads stored) old new replies.device_fault sound good step =
    same_sound since (leads.failing old.core call.reopen) new.core (ap (λ (s : Script). s.core) step) (failed_sound since old.core good)
reopening_sound since (loads stored) old new answer sound good step = absurd step
reopening_sound since (breaks_off part place) old new (replies.refused (replies.not_formed at_part at_place)) sound good step =
    same_sound since old.core new.core (core_of old new step.2) good
reopening_sound since (breaks_off part place) old new replies.device_fault sound good step =
    same_sound since (leads.failing old.core call.reopen) new.core (ap (λ (s : Script). s.core) step) (failed_sound since old.core good)
reopening_sound since (breaks_off part place) old new answer sound good step = absurd step
reopening_sound since (has_version version) old new (replies.refused (replies.other_version told)) sound good step =
    same_sound since old.core new.core (core_of old new step.1) good
reopening_sound since (has_version version) old new replies.device_fault sound good step =
    same_sound since (leads.failing old.core call.reopen) new.core (ap (λ (s : Script). s.core) step) (failed_sound since old.core good)
reopening_sound since (has_version version) old new answer sound good step = absurd step

-- ---- lines

-- a line that reopens nothing
abbrev IsOtherLine : Line → Type 0
IsOtherLine reopen = ⊥
IsOtherLine line = Unit {0}

nothing_loaded : (since : Stored) (found : Found) (line : Line) (answer : Answer (List ℕ)) → IsOtherLine line → stored_by since found line answer ≡ since
nothing_loaded since (loads stored) reopen answer other = absurd other
nothing_loaded since (loads stored) line answer other = refl
nothing_loaded since (breaks_off part place) line answer other = refl
nothing_loaded since (has_version version) line answer other = refl

other_sound : (since : Stored) (found : Found) (old new : Script) (line : Line) (answer : Answer (List ℕ)) → IsOtherLine line → LoadsSound found → IsSound since old.core
    → Step found old line answer new → IsSound since new.core
other_sound since found old new line answer other sound good step =
    let led = step_calls found old (numbered_below old.core.jobs old.core.picked good.limits.jobs.ids) new line answer step in
    calls_sound since found sound old.core new.core led.0 led.1.0 (led.2 (λ is. subst IsOtherLine is other)) good led.1.1

pub line_sound : (since : Stored) (found : Found) (old new : Script) (line : Line) (answer : Answer (List ℕ)) → LoadsSound found → IsSound since old.core
    → Step found old line answer new → IsSound (stored_by since found line answer) new.core
line_sound since (loads stored) old new reopen replies.no_memory sound good step = same_sound since old.core new.core (core_of old new step) good
line_sound since (breaks_off part place) old new reopen replies.no_memory sound good step = same_sound since old.core new.core (core_of old new step) good
line_sound since (has_version version) old new reopen replies.no_memory sound good step = same_sound since old.core new.core (core_of old new step) good
line_sound since (loads stored) old new reopen (replies.refused (replies.busy kind)) sound good step = same_sound since old.core new.core (core_of old new step.1) good
line_sound since (breaks_off part place) old new reopen (replies.refused (replies.busy kind)) sound good step = same_sound since old.core new.core (core_of old new step.1) good
line_sound since (has_version version) old new reopen (replies.refused (replies.busy kind)) sound good step = same_sound since old.core new.core (core_of old new step.1) good
line_sound since found old new reopen answer sound good step = reopening_sound since found old new answer sound good step.1
line_sound since found old new line answer sound good step =
    subst (λ (s : Stored). IsSound s new.core) (sym (nothing_loaded since found line answer tt)) (other_sound since found old new line answer tt sound good step)

-- ---- runs

run_sound : (since : Stored) (old : Script) (entries : List Entry) (new : Script) → AllByRecursion (λ entry. LoadsSound entry.found) entries
    → IsSound since old.core → Run old entries new → IsSound (stored_in since entries) new.core
run_sound since old [] new sound good run = same_sound since old.core new.core (core_of old new run) good
run_sound since old (entry ∷ entries) new sound good run =
    run_sound (stored_by since entry.found entry.line entry.answer) run.0 entries new sound.1
    (line_sound since entry.found old run.0 entry.line entry.answer sound.0 good run.1) run.2

pub scripts_sound : (stored : Stored) (entries : List Entry) (new : Script) → IsLoadable stored → AllByRecursion (λ entry. LoadsSound entry.found) entries
    → Run (begins_with (life stored)) entries new → IsSound (stored_in stored entries) new.core
scripts_sound stored entries new good sound run = run_sound stored (begins_with (life stored)) entries new sound (life_sound stored good) run
