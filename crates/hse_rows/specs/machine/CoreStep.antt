-- The step of the core: what a call may be answered, and where that leads.
use Rattle.std.specs.Prelude.{◌≡◌, ℕ, Option, Some, None}
use Rattle.hse_rows.specs.machine.Turn.{Calls}
use Rattle.hse_rows.specs.machine.Replies.{Refusal, Part, busy, not_formed, other_version, Answer, ok, refused, no_memory, device_fault}
use Rattle.hse_rows.specs.machine.Calls.{Call, write_turn, reopen}
use Rattle.hse_rows.specs.machine.Core.{Core, Stored, life}
use Rattle.hse_rows.specs.machine.CoreRefusal.{refusal}
use Rattle.hse_rows.specs.machine.CoreReply.{reply}
use Rattle.hse_rows.specs.machine.CoreDone.{done, refused_to, failing}

-- What the device has for an opening: what it stores, or the first place at which it is not formed, or another version.
pub data Found : Type 0 where
  loads : Stored → Found
  breaks_off : Part → ℕ → Found
  has_version : ℕ → Found

-- A reopening begins a life at what the device stores, or answers why not and leaves all as it was.
abbrev pub Reopens : Found → Core → Answer ℕ → Core → Type 0
Reopens (loads stored) old (ok number) new = (number ≡ stored.base.number) × (new ≡ life stored)
Reopens (breaks_off part place) old (refused (not_formed at_part at_place)) new =
    (at_part ≡ part) × (at_place ≡ place) × (new ≡ old)
Reopens (has_version version) old (refused (other_version told)) new = (told ≡ version) × (new ≡ old)
-- or it met a device fault before it found this
Reopens found old device_fault new = new ≡ failing old reopen
Reopens found old answer new = ⊥

-- From old the call may get this answer and lead to new, where an opening of the device would find this.
abbrev pub Step : Found → Core → Call → Answer ℕ → Core → Type 0
-- any call may be refused memory, and then changes nothing
Step found old call no_memory new = new ≡ old
Step found old reopen (refused (busy kind)) new = (refusal old reopen ≡ Some (busy kind)) × (new ≡ old)
Step found old reopen answer new = (refusal old reopen ≡ None) × Reopens found old answer new
-- a turn that calls the device may meet a fault
Step found old write_turn device_fault new = Calls old.turn × (new ≡ failing old write_turn)
Step found old call device_fault new = ⊥
-- a refusal is the first of the table
Step found old call (refused reason) new = (refusal old call ≡ Some reason) × (new ≡ refused_to old call)
-- what nothing refuses is answered and done
Step found old call answer new = (refusal old call ≡ None) × (answer ≡ reply old call) × (new ≡ done old call)

-- ---- the answer with memory enough and a device that does not fail, and where an answer leads

abbrev pub opening_answer : Found → Answer ℕ
opening_answer (loads stored) = ok stored.base.number
opening_answer (breaks_off part place) = refused (not_formed part place)
opening_answer (has_version version) = refused (other_version version)

-- the refusal, or else the reply
abbrev pub refused_or : Option (Refusal ℕ) → Answer ℕ → Answer ℕ
refused_or None answer = answer
refused_or (Some reason) answer = refused reason

abbrev pub answer_of : Found → Core → Call → Answer ℕ
answer_of found m reopen = refused_or (refusal m reopen) (opening_answer found)
answer_of found m call = refused_or (refusal m call) (reply m call)

-- what a reopening loads
abbrev pub life_or : Found → Core → Core
life_or (loads stored) old = life stored
life_or (breaks_off part place) old = old
life_or (has_version version) old = old

abbrev pub led_to : Found → Core → Call → Answer ℕ → Core
led_to found m call no_memory = m
led_to found m reopen (ok number) = life_or found m
led_to found m reopen device_fault = failing m reopen
led_to found m reopen answer = m
led_to found m write_turn device_fault = failing m write_turn
led_to found m call (refused reason) = refused_to m call
led_to found m call answer = done m call
