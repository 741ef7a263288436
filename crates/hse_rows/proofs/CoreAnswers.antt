-- Each call has one answer but for want of memory and device faults, and an answer leads one way.
use Rattle.std.proofs.Common.{◌≡◌, ◌≢◌, ℕ, List, Option, Some, None, refl, sym, ◌∙◌, ap, subst}
use Rattle.std.specs.FinMap as fin_map
use Rattle.hse_rows.specs.states.State.{State, store_named}
use Rattle.hse_rows.specs.transactions.Transaction.{read_of}
use Rattle.hse_rows.specs.transactions.Timeline.{transaction_of, for_some}
use Rattle.hse_rows.specs.rows.Job.{JobWish, job_of}
use Rattle.hse_rows.specs.machine.Turn.{Turn, home, taken, ran}
use Rattle.hse_rows.specs.machine.Replies.{Refusal, busy, not_formed, other_version, Answer, accepted, ok, none, refused, no_memory, device_fault}
use Rattle.hse_rows.specs.machine.Calls.{outside, inside, Call, write_by, get, commit, tree, build, next_job, write_turn, end_turn, reopen}
use Rattle.hse_rows.specs.machine.Core.{Core, now}
use Rattle.hse_rows.specs.machine.CoreRefusal.{refusal, unless_busy}
use Rattle.hse_rows.specs.machine.CoreDone.{done, refused_to}
use Rattle.hse_rows.specs.machine.CoreReply.{reply, value_in, found_value, next_reply, end_reply}
use Rattle.hse_rows.specs.rows.Schedule.{next_wish}
use Rattle.hse_rows.specs.machine.CoreStep.{Found, loads, breaks_off, has_version, Reopens, Step, opening_answer, refused_or, answer_of, led_to}

reopening_leads : (found : Found) (old new : Core) (answer : Answer ℕ) → Reopens found old answer new → new ≡ led_to found old reopen answer
reopening_leads (loads stored) old new (ok number) step = step.1
reopening_leads (breaks_off part place) old new (refused (not_formed at_part at_place)) step = step.2
reopening_leads (has_version version) old new (refused (other_version told)) step = step.1
reopening_leads found old new device_fault step = step
reopening_leads found old new answer step = absurd step

pub step_leads : (found : Found) (old new : Core) (call : Call) (answer : Answer ℕ) → Step found old call answer new → new ≡ led_to found old call answer
step_leads found old new call no_memory step = step
step_leads found old new reopen (refused (busy kind)) step = step.1
step_leads found old new reopen answer step = reopening_leads found old new answer step.1
step_leads found old new write_turn device_fault step = step.1
step_leads found old new call device_fault step = absurd step
step_leads found old new call (refused reason) step = step.1
step_leads found old new call answer step = step.2

pub refusal_stays : (found : Found) (old new : Core) (call : Call) (reason : Refusal ℕ) → call ≢ end_turn → Step found old call (refused reason) new → new ≡ old
refusal_stays found old new call reason other step = by call other (step_leads found old new call (refused reason) step)
  where
    by : (c : Call) → c ≢ end_turn → new ≡ led_to found old c (refused reason) → new ≡ old
    by end_turn other is = absurd (other refl)
    by c other is = is

-- ---- one answer

opening_is : (found : Found) (old new : Core) (answer : Answer ℕ) → answer ≢ device_fault → Reopens found old answer new → answer ≡ opening_answer found
opening_is (loads stored) old new (ok number) met step = ap ok step.0
opening_is (breaks_off part place) old new (refused (not_formed at_part at_place)) met step = λ i. refused (not_formed (step.0 i) (step.1 i))
opening_is (has_version version) old new (refused (other_version told)) met step = λ i. refused (other_version (step.0 i))
opening_is found old new device_fault met step = absurd (met refl)
opening_is found old new answer met step = absurd step

pub answer_is : (found : Found) (old new : Core) (call : Call) (answer : Answer ℕ) → answer ≢ no_memory → answer ≢ device_fault
    → Step found old call answer new → answer ≡ answer_of found old call
answer_is found old new call no_memory full met step = absurd (full refl)
answer_is found old new reopen (refused (busy kind)) full met step =
    sym (ap (λ (r : Option (Refusal ℕ)). refused_or r (opening_answer found)) step.0)
answer_is found old new reopen answer full met step =
    opening_is found old new answer met step.1 ∙ sym (ap (λ (r : Option (Refusal ℕ)). refused_or r (opening_answer found)) step.0)
answer_is found old new write_turn device_fault full met step = absurd (met refl)
answer_is found old new call device_fault full met step = absurd step
answer_is found old new call (refused reason) full met step =
    sym (ap (λ (r : Option (Refusal ℕ)). refused_or r (reply old call)) step.0)
answer_is found old new call answer full met step =
    step.1 ∙ sym (ap (λ (r : Option (Refusal ℕ)). refused_or r (reply old call)) step.0)

-- ---- replies

-- an answer that is no refusal and no want
abbrev pub IsReply : {X : Type 0} → Answer X → Type 0
IsReply (refused reason) = ⊥
IsReply no_memory = ⊥
IsReply device_fault = ⊥
IsReply answer = Unit {0}

pub found_reply : {X Y : Type 0} (looked_up : Option X) (otherwise : Answer Y) (of_it : X → Answer Y) → IsReply otherwise → ((x : X) → IsReply (of_it x))
    → IsReply (for_some looked_up otherwise of_it)
found_reply None otherwise of_it plain each = plain
found_reply (Some x) otherwise of_it plain each = each x

value_reply : (held : Option (List ℕ)) → IsReply (found_value held)
value_reply None = tt
value_reply (Some bytes) = tt

value_in_reply : (state : State) (name key : List ℕ) → IsReply (value_in state name key)
value_in_reply state name key = found_reply (store_named state name) none _ tt (λ store. value_reply (fin_map.get store.contents key))

next_is_reply : (wish : Option JobWish) → IsReply (next_reply wish)
next_is_reply None = tt
next_is_reply (Some wish) = tt

end_is_reply : (out : Turn) → IsReply (end_reply out)
end_is_reply home = tt
end_is_reply (taken t) = tt
end_is_reply (ran t has_failed) = tt

pub call_reply : (m : Core) (c : Call) → IsReply (reply m c)
call_reply m (get outside name key) = value_in_reply (now m) name key
call_reply m (get (inside order) name key) =
    found_reply (transaction_of m.timeline order) none _ tt (λ transaction. value_in_reply (read_of m.timeline.base m.timeline.history transaction) name key)
call_reply m (commit order) = found_reply (transaction_of m.timeline order) accepted _ tt (λ transaction. tt)
call_reply m (tree name) = found_reply (store_named (now m) name) accepted _ tt (λ store. tt)
call_reply m (build id) = found_reply (job_of m.jobs id) accepted _ tt (λ job. tt)
call_reply m next_job = next_is_reply (next_wish m)
call_reply m end_turn = end_is_reply m.turn
call_reply m (write_by outside name change) = tt
call_reply m (write_by (inside order) name change) = tt
call_reply m c = tt

-- ---- what nothing refuses

-- a call that reopens nothing
abbrev pub IsOther : Call → Type 0
IsOther reopen = ⊥
IsOther call = Unit {0}

module _ (found : Found) (m : Core) where
  reply_done : (call : Call) (answer : Answer ℕ) → IsOther call → IsReply answer → refusal m call ≡ None → answer ≡ reply m call
      → Step found m call answer (done m call)
  reply_done reopen answer other plain passed is = absurd other
  reply_done call (refused reason) other plain passed is = absurd plain
  reply_done call no_memory other plain passed is = absurd plain
  reply_done call device_fault other plain passed is = absurd plain
  reply_done call answer other plain passed is = (passed, is, refl)

  -- a call that nothing refuses
  pub call_passes : (call : Call) → IsOther call → refusal m call ≡ None → Step found m call (reply m call) (done m call)
  call_passes call other passed = reply_done call (reply m call) other (call_reply m call) passed refl

  -- and one that is refused
  pub call_refused : (call : Call) (reason : Refusal ℕ) → IsOther call → refusal m call ≡ Some reason
      → Step found m call (refused reason) (refused_to m call)
  call_refused reopen reason other is = absurd other
  call_refused call reason other is = (is, refl)

  -- ---- each call has its answer

  -- a call gets this answer
  abbrev Gets : Call → Answer ℕ → Type 0
  Gets call answer = Step found m call answer (led_to found m call answer)

  gets : (call : Call) (answer : Answer ℕ) (new : Core) → Step found m call answer new → Gets call answer
  gets call answer new step = subst (Step found m call answer) (step_leads found m new call answer step) step

  other_gets : (call : Call) → IsOther call → (r : Option (Refusal ℕ)) → refusal m call ≡ r → Gets call (refused_or r (reply m call))
  other_gets call other None is = gets call (reply m call) (done m call) (call_passes call other is)
  other_gets call other (Some reason) is = gets call (refused reason) (refused_to m call) (call_refused call reason other is)

  opening_gets : (turn : Turn) → m.turn ≡ turn → Gets reopen (refused_or (unless_busy turn None) (opening_answer found))
  opening_gets home is = by found
    where
      none_refused : unless_busy m.turn None ≡ None
      none_refused = ap (λ (t : Turn). unless_busy t None) is

      by : (f : Found) → Step f m reopen (opening_answer f) (led_to f m reopen (opening_answer f))
      by (loads stored) = (none_refused, (refl, refl))
      by (breaks_off part place) = (none_refused, (refl, refl, refl))
      by (has_version version) = (none_refused, (refl, refl))
  opening_gets (taken turn) is = (ap (λ (t : Turn). unless_busy t None) is, refl)
  opening_gets (ran turn has_failed) is = (ap (λ (t : Turn). unless_busy t None) is, refl)

  pub call_gets : (call : Call) → Gets call (answer_of found m call)
  call_gets reopen = opening_gets m.turn refl
  call_gets call = other_gets call tt (refusal m call) refl
