-- The step of the script machine: what a line may be answered, and where that leads.
use Rattle.std.specs.Prelude.{◌≡◌, ◌⊎◌, ℕ, List, Option, Some, None}
use Rattle.hse_rows.specs.transactions.Timeline.{for_some}
use Rattle.hse_rows.specs.rows.Job.{JobWish}
use Rattle.hse_rows.specs.machine.Turn.{Calls}
use Rattle.hse_rows.specs.machine.Replies.{Refusal, Answer, silence, ok, refused, busy, not_formed, other_version, no_memory, device_fault}
use Rattle.hse_rows.specs.machine.Calls as call
use Rattle.hse_rows.specs.machine.Core.{Core, life}
use Rattle.hse_rows.specs.machine.CoreDone as core
use Rattle.hse_rows.specs.machine.CoreStep.{Found, loads, breaks_off, has_version}
use Rattle.hse_rows.specs.rows.Schedule.{next_wish}
use Rattle.hse_rows.specs.script.ScriptLines.{Line, turn, job, auto, write_turn, reopen, silent}
use Rattle.hse_rows.specs.script.Script.{Script, begins_with}
use Rattle.hse_rows.specs.script.ScriptRefusal.{refusal, with_built}
use Rattle.hse_rows.specs.script.ScriptDone.{reply, done, refused_to, job_refused, failing}

-- a job whose install calls the device
abbrev pub CallsFor : Core → JobWish → Type 0
CallsFor m wish = Calls (core.done (with_built m wish) (call.take_install m.picked)).turn

abbrev pub CallsForSome : Core → Option JobWish → Type 0
CallsForSome m None = ⊥
CallsForSome m (Some wish) = CallsFor m wish

-- the lines that may meet a device fault beside a reopening
abbrev pub MayFail : Script → Line → Type 0
MayFail s write_turn = Calls s.core.turn
MayFail s (turn wish) = Calls (core.done s.core (call.take wish)).turn
MayFail s (job wish) = CallsFor s.core wish
MayFail s auto = CallsForSome s.core (next_wish s.core)
MayFail s line = ⊥

-- A reopening begins a life without names, or answers why not and leaves all as it was.
abbrev pub Reopens : Found → Script → Answer (List ℕ) → Script → Type 0
Reopens (loads stored) old (ok number) new = (number ≡ stored.base.number) × (new ≡ begins_with (life stored))
Reopens (breaks_off part place) old (refused (not_formed at_part at_place)) new =
    (at_part ≡ part) × (at_place ≡ place) × (new ≡ old)
Reopens (has_version version) old (refused (other_version told)) new = (told ≡ version) × (new ≡ old)
-- or it met a device fault before it found this
Reopens found old device_fault new = new ≡ failing old reopen
Reopens found old answer new = ⊥

-- Want of memory changes nothing, but that a job may have been picked and is gone again.
abbrev pub LacksMemory : Script → Line → Script → Type 0
LacksMemory old (job wish) new = (new ≡ old) ⊎ (new ≡ job_refused old wish)
LacksMemory old auto new = (new ≡ old) ⊎ (new ≡ for_some (next_wish old.core) old (job_refused old))
LacksMemory old line new = new ≡ old

-- From old the line may get this answer and lead to new, where an opening of the device would find this.
abbrev pub Step : Found → Script → Line → Answer (List ℕ) → Script → Type 0
-- a silent line has no reply and changes nothing
Step found old silent silence new = new ≡ old
Step found old silent answer new = ⊥
-- any other line may be refused memory
Step found old line no_memory new = LacksMemory old line new
Step found old reopen (refused (busy kind)) new = (refusal old reopen ≡ Some (busy kind)) × (new ≡ old)
Step found old reopen answer new = (refusal old reopen ≡ None) × Reopens found old answer new
-- a line that calls the device may meet a fault
Step found old line device_fault new = MayFail old line × (refusal old line ≡ None) × (new ≡ failing old line)
-- a refusal is the first of the table
Step found old line (refused reason) new = (refusal old line ≡ Some reason) × (new ≡ refused_to old line)
-- what nothing refuses is answered and done
Step found old line answer new = (refusal old line ≡ None) × (answer ≡ reply old line) × (new ≡ done old line)

-- ---- the answer with memory enough and a device that does not fail, and where an answer leads but for want of memory

abbrev pub opening_answer : Found → Answer (List ℕ)
opening_answer (loads stored) = ok stored.base.number
opening_answer (breaks_off part place) = refused (not_formed part place)
opening_answer (has_version version) = refused (other_version version)

-- the refusal, or else the reply
abbrev pub refused_or : Option (Refusal (List ℕ)) → Answer (List ℕ) → Answer (List ℕ)
refused_or None answer = answer
refused_or (Some reason) answer = refused reason

abbrev pub answer_of : Found → Script → Line → Answer (List ℕ)
answer_of found s silent = silence
answer_of found s reopen = refused_or (refusal s reopen) (opening_answer found)
answer_of found s line = refused_or (refusal s line) (reply s line)

-- what a reopening loads
abbrev pub life_or : Found → Script → Script
life_or (loads stored) old = begins_with (life stored)
life_or (breaks_off part place) old = old
life_or (has_version version) old = old

abbrev pub led_to : Found → Script → Line → Answer (List ℕ) → Script
led_to found s silent answer = s
led_to found s line no_memory = s
led_to found s reopen (ok number) = life_or found s
led_to found s reopen device_fault = failing s reopen
led_to found s reopen answer = s
led_to found s line device_fault = failing s line
led_to found s line (refused reason) = refused_to s line
led_to found s line answer = done s line
