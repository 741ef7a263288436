-- Each line has one answer but for want of memory and device faults, and an answer leads one way.
use Rattle.std.proofs.Common.{◌≡◌, ◌≢◌, inl, inr, ℕ, Bool, true, false, cond, List, Option, Some, None, is_some, refl, sym, ◌∙◌, ap}
use Rattle.hse_rows.specs.transactions.Timeline.{for_some}
use Rattle.hse_rows.specs.script.Cursor.{Pair, read_by, sought, sought_range, found_by}
use Rattle.hse_rows.specs.rows.Job.{JobWish}
use Rattle.hse_rows.specs.machine.Turn.{Turn, home, taken, ran}
use Rattle.hse_rows.specs.machine.Replies as replies
use Rattle.hse_rows.specs.machine.Replies.{Refusal, Answer}
use Rattle.hse_rows.specs.machine.Calls.{inside, outside, Call}
use Rattle.hse_rows.specs.machine.Calls as call
use Rattle.hse_rows.specs.machine.Core.{Core}
use Rattle.hse_rows.specs.machine.CoreRefusal.{unless_busy}
use Rattle.hse_rows.specs.machine.CoreReply.{value_in, found_value, next_reply, end_reply}
use Rattle.hse_rows.specs.machine.CoreReply as replied
use Rattle.hse_rows.specs.rows.Schedule.{next_wish}
use Rattle.hse_rows.specs.machine.CoreStep.{Found, loads, breaks_off, has_version}
use Rattle.hse_rows.specs.script.ScriptLines.{nobody, someone, Line, begin, write_by, get, commit, tree, seek, seek_range, read, build, next_job, end_turn, turn, job, auto, reopen, silent}
use Rattle.hse_rows.specs.script.Script.{Script, order_of, job_named, cursor_named}
use Rattle.hse_rows.specs.script.ScriptNames.{told, answer_named}
use Rattle.hse_rows.specs.script.ScriptRefusal.{refusal, asked, with_built}
use Rattle.hse_rows.specs.script.ScriptDone.{reply, done, refused_to, once_picked, job_refused, answered, key_reply, pair_reply, turn_reply, job_reply}
use Rattle.hse_rows.specs.script.ScriptDone as scripts
use Rattle.hse_rows.specs.script.ScriptStep.{LacksMemory, Reopens, Step, opening_answer, refused_or, answer_of, led_to}
use Rattle.hse_rows.specs.laws.ScriptLaws.{PicksJob, Leaves}
use Rattle.hse_rows.proofs.CoreAnswers.{IsReply, found_reply, call_reply}

-- ---- where an answer leads

reopening_leads : (found : Found) (old new : Script) (answer : Answer (List ℕ)) → Reopens found old answer new → new ≡ led_to found old reopen answer
reopening_leads (loads stored) old new (replies.ok number) step = step.1
reopening_leads (breaks_off part place) old new (replies.refused (replies.not_formed at_part at_place)) step = step.2
reopening_leads (has_version version) old new (replies.refused (replies.other_version told)) step = step.1
reopening_leads found old new replies.device_fault step = step
reopening_leads found old new answer step = absurd step

pub line_leads : (found : Found) (old new : Script) (line : Line) (answer : Answer (List ℕ)) → answer ≢ replies.no_memory → Step found old line answer new
    → new ≡ led_to found old line answer
line_leads found old new silent replies.silence full step = step
line_leads found old new silent answer full step = absurd step
line_leads found old new line replies.no_memory full step = absurd (full refl)
line_leads found old new reopen (replies.refused (replies.busy kind)) full step = step.1
line_leads found old new reopen answer full step = reopening_leads found old new answer step.1
line_leads found old new line replies.device_fault full step = step.2
line_leads found old new line (replies.refused reason) full step = step.1
line_leads found old new line answer full step = step.2

-- ---- what changes nothing

job_leaves : (s new : Script) (line : Line) (wish : JobWish) → PicksJob line → new ≡ job_refused s wish → Leaves line s new
job_leaves s new line wish picks = by (is_some (asked s (call.pick wish)))
  where
    by : (b : Bool) → new ≡ cond b s (once_picked s) → Leaves line s new
    by true is = inl is
    by false is = inr (picks, is)

auto_leaves : (s new : Script) (it : Option JobWish) → new ≡ for_some it s (job_refused s) → Leaves auto s new
auto_leaves s new None is = inl is
auto_leaves s new (Some wish) is = job_leaves s new auto wish tt is

lacking_leaves : (old new : Script) (line : Line) → LacksMemory old line new → Leaves line old new
lacking_leaves old new (job wish) (inl is) = inl is
lacking_leaves old new (job wish) (inr is) = job_leaves old new (job wish) wish tt is
lacking_leaves old new auto (inl is) = inl is
lacking_leaves old new auto (inr is) = auto_leaves old new (next_wish old.core) is
lacking_leaves old new line is = inl is

pub memory_leaves : (found : Found) (old new : Script) (line : Line) → Step found old line replies.no_memory new → Leaves line old new
memory_leaves found old new silent step = absurd step
memory_leaves found old new line step = lacking_leaves old new line step

refused_leaves : (s new : Script) (line : Line) → line ≢ end_turn → new ≡ refused_to s line → Leaves line s new
refused_leaves s new end_turn other is = absurd (other refl)
refused_leaves s new (job wish) other is = job_leaves s new (job wish) wish tt is
refused_leaves s new auto other is = auto_leaves s new (next_wish s.core) is
refused_leaves s new line other is = inl is

reopening_leaves : (found : Found) (old new : Script) (reason : Refusal (List ℕ)) → Reopens found old (replies.refused reason) new → Leaves reopen old new
reopening_leaves (loads stored) old new reason step = absurd step
reopening_leaves (breaks_off part place) old new (replies.not_formed at_part at_place) step = inl step.2
reopening_leaves (has_version version) old new (replies.other_version told) step = inl step.1
reopening_leaves found old new reason step = absurd step

pub refusal_leaves : (found : Found) (old new : Script) (line : Line) (reason : Refusal (List ℕ)) → line ≢ end_turn
    → Step found old line (replies.refused reason) new → Leaves line old new
refusal_leaves found old new silent reason other step = absurd step
refusal_leaves found old new reopen (replies.busy kind) other step = inl step.1
refusal_leaves found old new reopen reason other step = reopening_leaves found old new reason step.1
refusal_leaves found old new line reason other step = refused_leaves old new line other step.1

-- ---- one answer

opening_is : (found : Found) (old new : Script) (answer : Answer (List ℕ)) → answer ≢ replies.device_fault → Reopens found old answer new → answer ≡ opening_answer found
opening_is (loads stored) old new (replies.ok number) met step = ap replies.ok step.0
opening_is (breaks_off part place) old new (replies.refused (replies.not_formed at_part at_place)) met step =
    λ i. replies.refused (replies.not_formed (step.0 i) (step.1 i))
opening_is (has_version version) old new (replies.refused (replies.other_version told)) met step = λ i. replies.refused (replies.other_version (step.0 i))
opening_is found old new replies.device_fault met step = absurd (met refl)
opening_is found old new answer met step = absurd step

-- what a refusal or none makes of an answer
known : (r told : Option (Refusal (List ℕ))) (answer : Answer (List ℕ)) → r ≡ told → refused_or told answer ≡ refused_or r answer
known r told answer is = sym (ap (λ (x : Option (Refusal (List ℕ))). refused_or x answer) is)

pub answer_is : (found : Found) (old new : Script) (line : Line) (answer : Answer (List ℕ)) → answer ≢ replies.no_memory → answer ≢ replies.device_fault
    → Step found old line answer new → answer ≡ answer_of found old line
answer_is found old new silent replies.silence full met step = refl
answer_is found old new silent answer full met step = absurd step
answer_is found old new line replies.no_memory full met step = absurd (full refl)
answer_is found old new reopen (replies.refused (replies.busy kind)) full met step =
    known (refusal old reopen) (Some (replies.busy kind)) (opening_answer found) step.0
answer_is found old new reopen answer full met step =
    opening_is found old new answer met step.1 ∙ known (refusal old reopen) None (opening_answer found) step.0
answer_is found old new line replies.device_fault full met step = absurd (met refl)
answer_is found old new line (replies.refused reason) full met step = known (refusal old line) (Some reason) (reply old line) step.0
answer_is found old new line answer full met step = step.1 ∙ known (refusal old line) None (reply old line) step.0

-- ---- each line has its answer

named_reply : (s : Script) (answer : Answer ℕ) → IsReply answer → IsReply (answer_named s answer)
named_reply s (replies.refused reason) plain = absurd plain
named_reply s replies.no_memory plain = absurd plain
named_reply s replies.device_fault plain = absurd plain
named_reply s answer plain = tt

answered_reply : (s : Script) (c : Call) → IsReply (answered s c)
answered_reply s c = named_reply s (replied.reply s.core c) (call_reply s.core c)

key_is_reply : (key : Option (List ℕ)) → IsReply (key_reply key)
key_is_reply None = tt
key_is_reply (Some key) = tt

pair_is_reply : (pair : Option Pair) → IsReply (pair_reply pair)
pair_is_reply None = tt
pair_is_reply (Some found) = tt

turn_is_reply : (s : Script) (m : Core) (first : Call) → IsReply (answer_named s (turn_reply m first))
turn_is_reply s m first = named_reply s (turn_reply m first) (call_reply (scripts.ran m first) call.end_turn)

job_is_reply : (s : Script) (wish : JobWish) → IsReply (job_reply s wish)
job_is_reply s wish = turn_is_reply s (with_built s.core wish) (call.take_install s.core.picked)

line_reply : (s : Script) (line : Line) → IsReply (reply s line)
line_reply s (begin name) = tt
line_reply s (write_by nobody store change) = tt
line_reply s (write_by (someone name) store change) = found_reply (order_of s name) replies.accepted _ tt (λ order. tt)
line_reply s (get nobody store key) = answered_reply s (call.get outside store key)
line_reply s (get (someone name) store key) =
    found_reply (order_of s name) replies.accepted _ tt (λ order. answered_reply s (call.get (inside order) store key))
line_reply s (commit name) = found_reply (order_of s name) replies.accepted _ tt (λ order. answered_reply s (call.commit order))
line_reply s (tree store) = answered_reply s (call.tree store)
line_reply s (seek name key) = found_reply (cursor_named s name) replies.accepted _ tt (λ cursor. key_is_reply (found_by (sought cursor key)))
line_reply s (seek_range name first last) =
    found_reply (cursor_named s name) replies.accepted _ tt (λ cursor. key_is_reply (found_by (sought_range cursor first last)))
line_reply s (read name) = found_reply (cursor_named s name) replies.accepted _ tt (λ cursor. pair_is_reply (read_by cursor))
line_reply s (build name) = found_reply (job_named s name) replies.accepted _ tt (λ id. answered_reply s (call.build id))
line_reply s next_job = answered_reply s call.next_job
line_reply s end_turn = answered_reply s call.end_turn
line_reply s (turn wish) = turn_is_reply s s.core (call.take wish)
line_reply s (job wish) = job_is_reply s wish
line_reply s auto = found_reply (next_wish s.core) replies.none _ tt (job_is_reply s)
line_reply s line = tt

-- a line that is neither silent nor a reopening
abbrev IsSpoken : Line → Type 0
IsSpoken silent = ⊥
IsSpoken reopen = ⊥
IsSpoken line = Unit {0}

module _ (found : Found) (s : Script) where
  -- what nothing refuses is answered and done
  answer_done : (line : Line) (answer : Answer (List ℕ)) → IsSpoken line → IsReply answer → refusal s line ≡ None → answer ≡ reply s line
      → Step found s line answer (led_to found s line answer)
  answer_done silent answer spoken plain none is = absurd spoken
  answer_done reopen answer spoken plain none is = absurd spoken
  answer_done line (replies.refused reason) spoken plain none is = absurd plain
  answer_done line replies.no_memory spoken plain none is = absurd plain
  answer_done line replies.device_fault spoken plain none is = absurd plain
  answer_done line answer spoken plain none is = (none, is, refl)

  answer_refused : (line : Line) (reason : Refusal (List ℕ)) → IsSpoken line → refusal s line ≡ Some reason
      → Step found s line (replies.refused reason) (led_to found s line (replies.refused reason))
  answer_refused silent reason spoken is = absurd spoken
  answer_refused reopen reason spoken is = absurd spoken
  answer_refused line reason spoken is = (is, refl)

  spoken_gets : (line : Line) → IsSpoken line → (r : Option (Refusal (List ℕ))) → refusal s line ≡ r
      → Step found s line (refused_or r (reply s line)) (led_to found s line (refused_or r (reply s line)))
  spoken_gets line spoken None is = answer_done line (reply s line) spoken (line_reply s line) is refl
  spoken_gets line spoken (Some reason) is = answer_refused line reason spoken is

  opening_gets : (out : Turn) → s.core.turn ≡ out
      → Step found s reopen (refused_or (told s (unless_busy out None)) (opening_answer found))
      (led_to found s reopen (refused_or (told s (unless_busy out None)) (opening_answer found)))
  opening_gets home is = by found
    where
      none_refused : refusal s reopen ≡ None
      none_refused = ap (λ (t : Turn). told s (unless_busy t None)) is

      by : (f : Found) → Step f s reopen (opening_answer f) (led_to f s reopen (opening_answer f))
      by (loads stored) = (none_refused, (refl, refl))
      by (breaks_off part place) = (none_refused, (refl, refl, refl))
      by (has_version version) = (none_refused, (refl, refl))
  opening_gets (taken t) is = (ap (λ (t : Turn). told s (unless_busy t None)) is, refl)
  opening_gets (ran t has_failed) is = (ap (λ (t : Turn). told s (unless_busy t None)) is, refl)

  pub line_gets : (line : Line) → Step found s line (answer_of found s line) (led_to found s line (answer_of found s line))
  line_gets silent = refl
  line_gets reopen = opening_gets s.core.turn refl
  line_gets line = spoken_gets line tt (refusal s line) refl
