-- A line is its calls, one after another.
use Rattle.std.proofs.Common.{◌≡◌, ◌≢◌, ℕ, not, List, [], ◌∷◌, Option, Some, None, is_some, refl, sym, ap, subst}
use Rattle.hse_rows.specs.states.State.{State, store_named}
use Rattle.hse_rows.specs.transactions.Transaction.{TransactionState, active, committed, aborted, read_of}
use Rattle.hse_rows.specs.transactions.Timeline.{for_some, transaction_of}
use Rattle.hse_rows.specs.script.Cursor.{Direction}
use Rattle.hse_rows.specs.rows.Job.{JobWish}
use Rattle.hse_rows.specs.machine.Replies as replies
use Rattle.hse_rows.specs.machine.Replies.{Refusal, Answer}
use Rattle.hse_rows.specs.machine.Calls.{inside, outside, Call}
use Rattle.hse_rows.specs.machine.Calls as call
use Rattle.hse_rows.specs.machine.Core.{Core, now}
use Rattle.hse_rows.specs.machine.CoreRefusal as core
use Rattle.hse_rows.specs.machine.CoreReply as replied
use Rattle.hse_rows.specs.machine.CoreDone as leads
use Rattle.hse_rows.specs.rows.Schedule.{next_wish}
use Rattle.hse_rows.specs.machine.CoreStep.{Found}
use Rattle.hse_rows.specs.script.ScriptLines.{Who, nobody, someone, Line, begin, write_by, get, commit, abort, list_stores, tree, info, open_cursor, seek, seek_range, read, update, close_cursor, pick, build, drop_job, next_job, take, take_install, write_turn, end_turn, turn, job, auto, reopen, silent, bad}
use Rattle.hse_rows.specs.script.Script.{Script, order_of, job_named, cursor_named, is_begun}
use Rattle.hse_rows.specs.script.ScriptNames.{answer_named}
use Rattle.hse_rows.specs.script.ScriptRefusal.{refusal, refuse, asked, with_built, unless_ended, edge_refusal, job_refusal, or_later}
use Rattle.hse_rows.specs.script.ScriptDone.{answered, reply, done, failing, opening_cursor, turned, turn_failed, turn_reply, job_reply}
use Rattle.hse_rows.specs.script.ScriptStep.{CallsForSome, MayFail}
use Rattle.hse_rows.specs.script.ScriptCalls.{LeadsAnswered, turn_calls, calls_of}
use Rattle.hse_rows.proofs.CoreAnswers.{IsOther}
use Rattle.hse_rows.proofs.ScriptGoes.{not_told, passed}
use Rattle.hse_rows.proofs.JobLemmas.{AreBelow}
use Rattle.hse_rows.proofs.ScriptRuns.{take_takes, install_takes, one, turn_answers, turn_led, failed_answers, turn_failed_led, built_answer, built_tells, built_first}

-- ---- lines

-- what is looked up
module _ (f : Found) (s : Script) where
  looked_up : {X : Type 0} (tells : Option X → Answer (List ℕ)) (it : Option X) (reason : Refusal (List ℕ)) (later : X → Option (Refusal (List ℕ)))
      (calls : X → List Call) (leads_to : X → Script)
      → ((x : X) → later x ≡ None → LeadsAnswered f s (calls x) (leads_to x).core (tells (Some x))) → for_some it (Some reason) later ≡ None
      → LeadsAnswered f s (for_some it [] calls) (for_some it s leads_to).core (tells it)
  looked_up tells None reason later calls leads_to each none = absurd cc
  looked_up tells (Some x) reason later calls leads_to each none = each x none

  -- the core stays
  stays : {X : Type 0} (it : Option X) (leads_to : X → Script) → ((x : X) → (leads_to x).core ≡ s.core) → (for_some it s leads_to).core ≡ s.core
  stays None leads_to each = refl
  stays (Some x) leads_to each = each x

  called : (c : Call) → IsOther c → asked s c ≡ None → LeadsAnswered f s (c ∷ []) (leads.done s.core c) (answered s c)
  called c other none = (replied.reply s.core c ∷ [], one f s.core c other (not_told s (core.refusal s.core c) none), refl)

  -- a line without calls
  rests : (new : Core) (answer : Answer (List ℕ)) → new ≡ s.core → LeadsAnswered f s [] new answer
  rests new answer is = ([], is, tt)

  edge_passed : (edge : List ℕ) (later : Option (Refusal (List ℕ))) → edge_refusal edge later ≡ None → later ≡ None
  edge_passed edge later none = passed _ (replies.key_length _) later none

  -- what is looked up, and the calls are the same
  looked_up_so : {X : Type 0} (it : Option X) (reason : Refusal (List ℕ)) (later : X → Option (Refusal (List ℕ))) (calls : List Call) (leads_to : X → Script)
      (answer : Answer (List ℕ))
      → ((x : X) → later x ≡ None → LeadsAnswered f s calls (leads_to x).core answer) → for_some it (Some reason) later ≡ None
      → LeadsAnswered f s calls (for_some it s leads_to).core answer
  looked_up_so None reason later calls leads_to answer each none = absurd cc
  looked_up_so (Some x) reason later calls leads_to answer each none = each x none

  -- and nothing changes
  looked_up_only : {X : Type 0} (it : Option X) (reason : Refusal (List ℕ)) (later : X → Option (Refusal (List ℕ))) (calls : X → List Call)
      (tells : X → Answer (List ℕ))
      → ((x : X) → later x ≡ None → LeadsAnswered f s (calls x) s.core (tells x)) → for_some it (Some reason) later ≡ None
      → LeadsAnswered f s (for_some it [] calls) s.core (for_some it replies.accepted tells)
  looked_up_only None reason later calls tells each none = absurd cc
  looked_up_only (Some x) reason later calls tells each none = each x none

  going_on : (state : TransactionState) (later : Option (Refusal (List ℕ))) → unless_ended state later ≡ None → later ≡ None
  going_on active later none = none
  going_on (committed number) later none = absurd cc
  going_on aborted later none = absurd cc

  both_pass : (first second : Option (Refusal (List ℕ))) → or_later first second ≡ None → (first ≡ None) × (second ≡ None)
  both_pass None second none = (refl, none)
  both_pass (Some reason) second none = absurd cc

  store_opened : (store filter : List ℕ) (state : State) (leads_to : _ → Script) → ((found : _) → (leads_to found).core ≡ leads.done s.core call.take_place)
      → refuse (not (is_some (store_named state store))) replies.no_store (edge_refusal filter (asked s call.take_place)) ≡ None
      → LeadsAnswered f s (call.take_place ∷ []) (for_some (store_named state store) s leads_to).core replies.accepted
  store_opened store filter state leads_to each none = by (store_named state store) none
    where
      by : (it : Option _) → refuse (not (is_some it)) replies.no_store (edge_refusal filter (asked s call.take_place)) ≡ None
          → LeadsAnswered f s (call.take_place ∷ []) (for_some it s leads_to).core replies.accepted
      by None none = absurd cc
      by (Some x) none =
          subst (λ (c : Core). LeadsAnswered f s (call.take_place ∷ []) c replies.accepted) (sym (each x))
          (called call.take_place tt (edge_passed filter (asked s call.take_place) none))

  cursor_opened : (name : List ℕ) (who : Who) (store : List ℕ) (direction : Direction) (filter : List ℕ)
      → refusal s (open_cursor name who store direction filter) ≡ None
      → LeadsAnswered f s (call.take_place ∷ []) (opening_cursor s name who store direction filter).core replies.accepted
  cursor_opened name nobody store direction filter none =
      store_opened store filter (now s.core) _ (λ found. refl) (passed (is_some (cursor_named s name)) replies.name_used _ none)
  cursor_opened name (someone transaction) store direction filter none =
      looked_up_so (order_of s transaction) replies.no_name _ (call.take_place ∷ []) _ replies.accepted
      (λ order. looked_up_so (transaction_of s.core.timeline order) replies.no_name _ (call.take_place ∷ []) _ replies.accepted
      (λ t here.
      store_opened store filter (read_of s.core.timeline.base s.core.timeline.history t) _ (λ found. refl)
      (going_on t.state _ here)))
      (passed (is_some (cursor_named s name)) replies.name_used _ none)

  module _ (numbered : AreBelow s.core.picked s.core.jobs) where
    job_led : (wish : JobWish) → job_refusal s wish ≡ None → LeadsAnswered f s (calls_of s (job wish)) (done s (job wish)).core (job_reply s wish)
    job_led wish none =
        let both = both_pass (asked s (call.pick wish)) _ none in
        let built : Core = with_built s.core wish in
        let installs : Call = call.take_install s.core.picked in (
          replies.accepted ∷ built_answer f s.core wish ∷ turn_answers f built installs,
          built_first f s.core numbered wish (not_told s (core.refusal s.core (call.pick wish)) both.0)
              (turn_calls installs) (turn_answers f built installs) (turned built installs)
              (turn_led f built installs (install_takes built s.core.picked (not_told s (core.refusal built installs) both.1))),
          ap (answer_named s) (sym (built_tells f s.core wish replies.accepted (replies.written ∷ turn_reply built installs ∷ []))),
        )

    job_failed_led : (wish : JobWish) → MayFail s (job wish) → job_refusal s wish ≡ None
        → LeadsAnswered f s (calls_of s (job wish)) (failing s (job wish)).core replies.device_fault
    job_failed_led wish calls none =
        let both = both_pass (asked s (call.pick wish)) _ none in
        let built : Core = with_built s.core wish in
        let installs : Call = call.take_install s.core.picked in (
          replies.accepted ∷ built_answer f s.core wish ∷ failed_answers f built installs,
          built_first f s.core numbered wish (not_told s (core.refusal s.core (call.pick wish)) both.0)
              (turn_calls installs) (failed_answers f built installs) (turn_failed built installs)
              (turn_failed_led f built installs (install_takes built s.core.picked (not_told s (core.refusal built installs) both.1)) calls),
          ap (answer_named s) (sym (built_tells f s.core wish replies.accepted (replies.device_fault ∷ replies.refused replies.broken ∷ []))),
        )

    auto_led : (it : Option JobWish) → for_some it None (job_refusal s) ≡ None
        → LeadsAnswered f s (for_some it [] (λ wish. calls_of s (job wish))) (for_some it s (λ wish. done s (job wish))).core
        (for_some it replies.none (job_reply s))
    auto_led None none = ([], refl, tt)
    auto_led (Some wish) none = job_led wish none

    auto_failed_led : (it : Option JobWish) → CallsForSome s.core it → for_some it None (job_refusal s) ≡ None
        → LeadsAnswered f s (for_some it [] (λ wish. calls_of s (job wish))) (for_some it s (λ wish. failing s (job wish))).core replies.device_fault
    auto_failed_led None calls none = absurd calls
    auto_failed_led (Some wish) calls none = job_failed_led wish calls none

    pub line_led : (line : Line) → line ≢ reopen → refusal s line ≡ None → LeadsAnswered f s (calls_of s line) (done s line).core (reply s line)
    line_led (begin name) other none = called call.begin tt (passed (is_begun s name) replies.name_used (asked s call.begin) none)
    line_led (write_by nobody store change) other none = called (call.write_by outside store change) tt none
    line_led (write_by (someone name) store change) other none =
        looked_up (λ it. for_some it replies.accepted (λ order. answered s (call.write_by (inside order) store change))) (order_of s name) replies.no_name _ _ _
        (λ order. called (call.write_by (inside order) store change) tt) none
    line_led (get nobody store key) other none = called (call.get outside store key) tt none
    line_led (get (someone name) store key) other none =
        looked_up_only (order_of s name) replies.no_name _ _ _ (λ order. called (call.get (inside order) store key) tt) none
    line_led (commit name) other none =
        looked_up (λ it. for_some it replies.accepted (λ order. answered s (call.commit order))) (order_of s name) replies.no_name _ _ _
        (λ order. called (call.commit order) tt) none
    line_led (abort name) other none = looked_up (λ it. replies.accepted) (order_of s name) replies.no_name _ _ _ (λ order. called (call.abort order) tt) none
    line_led list_stores other none = called call.list_stores tt refl
    line_led (tree store) other none = called (call.tree store) tt none
    line_led info other none = called call.info tt refl
    line_led (open_cursor name who store direction filter) other none = cursor_opened name who store direction filter none
    line_led (seek name key) other none = rests _ _ (stays (cursor_named s name) _ (λ cursor. refl))
    line_led (seek_range name first last) other none = rests _ _ (stays (cursor_named s name) _ (λ cursor. refl))
    line_led (read name) other none = rests _ _ (stays (cursor_named s name) _ (λ cursor. refl))
    line_led (update name) other none = rests _ _ (stays (cursor_named s name) _ (λ cursor. refl))
    line_led (close_cursor name) other none = called call.give_place tt refl
    line_led (pick name wish) other none = called (call.pick wish) tt (passed (is_some (job_named s name)) replies.name_used (asked s (call.pick wish)) none)
    line_led (build name) other none =
        looked_up (λ it. for_some it replies.accepted (λ id. answered s (call.build id))) (job_named s name) replies.no_name _ _ _
        (λ id. called (call.build id) tt) none
    line_led (drop_job name) other none = looked_up (λ it. replies.accepted) (job_named s name) replies.no_name _ _ _ (λ id. called (call.drop_job id) tt) none
    line_led next_job other none = called call.next_job tt refl
    line_led (take wish) other none = called (call.take wish) tt none
    line_led (take_install name) other none = looked_up (λ it. replies.accepted) (job_named s name) replies.no_name _ _ _ (λ id. called (call.take_install id) tt) none
    line_led write_turn other none = called call.write_turn tt none
    line_led end_turn other none = called call.end_turn tt none
    line_led (turn wish) other none = (
      turn_answers f s.core (call.take wish),
      turn_led f s.core (call.take wish) (take_takes s.core wish (not_told s (core.refusal s.core (call.take wish)) none)),
      refl,
    )
    line_led (job wish) other none = job_led wish none
    line_led auto other none = auto_led (next_wish s.core) none
    line_led reopen other none = absurd (other refl)
    line_led silent other none = rests s.core _ refl
    line_led bad other none = rests s.core _ refl

    pub line_failed_led : (line : Line) → MayFail s line → refusal s line ≡ None
        → LeadsAnswered f s (calls_of s line) (failing s line).core replies.device_fault
    line_failed_led write_turn calls none =
        (replies.device_fault ∷ [], (leads.failing s.core call.write_turn, (calls, refl), refl), refl)
    line_failed_led (turn wish) calls none = (
      failed_answers f s.core (call.take wish),
      turn_failed_led f s.core (call.take wish) (take_takes s.core wish (not_told s (core.refusal s.core (call.take wish)) none)) calls,
      refl,
    )
    line_failed_led (job wish) calls none = job_failed_led wish calls none
    line_failed_led auto calls none = auto_failed_led (next_wish s.core) calls none
    line_failed_led line calls none = absurd calls
