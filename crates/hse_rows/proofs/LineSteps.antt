-- Each step of a line leads the core on by calls.
use Rattle.std.specs.List.{AllByRecursion}
use Rattle.std.proofs.Common.{◌≡◌, ◌≢◌, inl, inr, ℕ, cond, List, [], ◌∷◌, Option, Some, None, is_some, refl, sym, ◌∙◌, ap, subst}
use Rattle.hse_rows.specs.transactions.Timeline.{for_some}
use Rattle.hse_rows.specs.rows.Job.{JobWish}
use Rattle.hse_rows.specs.machine.Replies as replies
use Rattle.hse_rows.specs.machine.Replies.{Refusal, Answer}
use Rattle.hse_rows.specs.machine.Calls.{Call}
use Rattle.hse_rows.specs.machine.Calls as call
use Rattle.hse_rows.specs.machine.Core.{Core, life}
use Rattle.hse_rows.specs.machine.CoreRefusal as core
use Rattle.hse_rows.specs.machine.CoreDone as leads
use Rattle.hse_rows.specs.rows.Schedule.{next_wish}
use Rattle.hse_rows.specs.machine.CoreStep.{Found, loads, breaks_off, has_version}
use Rattle.hse_rows.specs.script.ScriptLines.{nobody, someone, Line, begin, write_by, get, commit, abort, list_stores, tree, info, open_cursor, seek, seek_range, read, update, close_cursor, pick, build, drop_job, next_job, take, take_install, write_turn, end_turn, turn, job, auto, reopen, silent, bad}
use Rattle.hse_rows.specs.script.Script.{Script, order_of, job_named}
use Rattle.hse_rows.specs.script.ScriptNames.{refusal_named, answer_named, told}
use Rattle.hse_rows.specs.script.ScriptRefusal.{refusal, with_built, job_refusal, or_later}
use Rattle.hse_rows.specs.script.ScriptDone.{reply, done, refused_to, failing, once_picked, job_refused}
use Rattle.hse_rows.specs.script.ScriptStep.{LacksMemory, Reopens, Step}
use Rattle.hse_rows.specs.script.ScriptCalls.{LeadsAnswered, turn_calls, job_calls, calls_of}
use Rattle.hse_rows.proofs.CoreAnswers.{IsOther}
use Rattle.hse_rows.proofs.ScriptGoes.{not_told}
use Rattle.hse_rows.proofs.ScriptRuns.{built_answer, built_tells, refused_led, dropped_led}
use Rattle.hse_rows.proofs.JobLemmas.{AreBelow}
use Rattle.hse_rows.proofs.LineCalls.{line_led, line_failed_led}

-- ---- calls that reopen nothing

abbrev AreOther : List Call → Type 0
AreOther calls = AllByRecursion (λ one. one ≢ call.reopen) calls

no_reopening : (c : Call) → IsOther c → c ≢ call.reopen
no_reopening c other is = subst IsOther is other

for_order : (it : Option ℕ) (call_of : ℕ → Call) → ((n : ℕ) → IsOther (call_of n)) → AreOther (for_some it [] (λ n. call_of n ∷ []))
for_order None call_of each = tt
for_order (Some n) call_of each = (no_reopening (call_of n) (each n), tt)

other : (c : Call) → IsOther c → AreOther (c ∷ [])
other c is = (no_reopening c is, tt)

also : {Rest : Type 0} (c : Call) → IsOther c → Rest → (c ≢ call.reopen) × Rest
also c is rest = (no_reopening c is, rest)

turn_other : (first : Call) → IsOther first → AreOther (turn_calls first)
turn_other first is = also first is (also call.write_turn tt (other call.end_turn tt))

job_other : (id : ℕ) (wish : JobWish) → AreOther (job_calls id wish)
job_other id wish = also (call.pick wish) tt (also (call.build id) tt (turn_other (call.take_install id) tt))

wish_other : (id : ℕ) (it : Option JobWish) → AreOther (for_some it [] (job_calls id))
wish_other id None = tt
wish_other id (Some wish) = job_other id wish

calls_other : (s : Script) (line : Line) → line ≢ reopen → AreOther (calls_of s line)
calls_other s (begin name) apart = other call.begin tt
calls_other s (write_by nobody store change) apart = other (call.write_by _ store change) tt
calls_other s (write_by (someone name) store change) apart = for_order (order_of s name) _ (λ n. tt)
calls_other s (get nobody store key) apart = other (call.get _ store key) tt
calls_other s (get (someone name) store key) apart = for_order (order_of s name) _ (λ n. tt)
calls_other s (commit name) apart = for_order (order_of s name) _ (λ n. tt)
calls_other s (abort name) apart = for_order (order_of s name) _ (λ n. tt)
calls_other s list_stores apart = other call.list_stores tt
calls_other s (tree store) apart = other (call.tree store) tt
calls_other s info apart = other call.info tt
calls_other s (open_cursor name who store direction filter) apart = other call.take_place tt
calls_other s (seek name key) apart = tt
calls_other s (seek_range name first last) apart = tt
calls_other s (read name) apart = tt
calls_other s (update name) apart = tt
calls_other s (close_cursor name) apart = other call.give_place tt
calls_other s (pick name wish) apart = other (call.pick wish) tt
calls_other s (build name) apart = for_order (job_named s name) _ (λ n. tt)
calls_other s (drop_job name) apart = for_order (job_named s name) _ (λ n. tt)
calls_other s next_job apart = other call.next_job tt
calls_other s (take wish) apart = other (call.take wish) tt
calls_other s (take_install name) apart = for_order (job_named s name) _ (λ n. tt)
calls_other s write_turn apart = other call.write_turn tt
calls_other s end_turn apart = other call.end_turn tt
calls_other s (turn wish) apart = turn_other (call.take wish) tt
calls_other s (job wish) apart = job_other s.core.picked wish
calls_other s auto apart = wish_other s.core.picked (next_wish s.core)
calls_other s reopen apart = absurd (apart refl)
calls_other s silent apart = tt
calls_other s bad apart = tt

-- a line that reopens nothing
abbrev IsOtherLine : Line → Type 0
IsOtherLine reopen = ⊥
IsOtherLine line = Unit {0}

-- ---- what each step is

module _ (f : Found) where
  abbrev Led : Line → Script → Core → Answer (List ℕ) → Type 0
  Led line old new answer = (calls : List Call) × LeadsAnswered f old calls new answer × (line ≢ reopen → AreOther calls)

  module _ (s : Script) (numbered : AreBelow s.core.picked s.core.jobs) where
    -- nothing changes
    rests : (line : Line) (new : Script) (answer : Answer (List ℕ)) → new ≡ s → Led line s new.core answer
    rests line new answer is = ([], ([], ap (λ (x : Script). x.core) is, tt), λ apart. tt)

    leads_to : (line : Line) (one new : Script) (answer : Answer (List ℕ)) → new ≡ one → Led line s one.core answer → Led line s new.core answer
    leads_to line one new answer is led = subst (λ (x : Script). Led line s x.core answer) (sym is) led

    -- a job that lacks memory
    job_dropped : (line : Line) (wish : JobWish) → Led line s (job_refused s wish).core replies.no_memory
    job_dropped line wish = by (core.refusal s.core (call.pick wish)) refl
      where
        by : (it : Option (Refusal ℕ)) → core.refusal s.core (call.pick wish) ≡ it
            → Led line s (cond (is_some (told s it)) s (once_picked s)).core replies.no_memory
        by None is = (
          call.pick wish ∷ call.build s.core.picked ∷ call.drop_job s.core.picked ∷ [],
          (replies.accepted ∷ replies.no_memory ∷ replies.accepted ∷ [], dropped_led f s.core numbered wish is, refl),
          λ apart. also (call.pick wish) tt (also (call.build s.core.picked) tt (other (call.drop_job s.core.picked) tt)),
        )
        by (Some reason) is = ([], ([], refl, tt), λ apart. tt)

    jobs_dropped : (line : Line) (it : Option JobWish) → Led line s (for_some it s (job_refused s)).core replies.no_memory
    jobs_dropped line None = ([], ([], refl, tt), λ apart. tt)
    jobs_dropped line (Some wish) = job_dropped line wish

    lacking : (line : Line) (new : Script) → LacksMemory s line new → Led line s new.core replies.no_memory
    lacking (job wish) new (inl is) = rests (job wish) new replies.no_memory is
    lacking (job wish) new (inr is) = leads_to (job wish) (job_refused s wish) new replies.no_memory is (job_dropped (job wish) wish)
    lacking auto new (inl is) = rests auto new replies.no_memory is
    lacking auto new (inr is) = leads_to auto (refused_to s auto) new replies.no_memory is (jobs_dropped auto (next_wish s.core))
    lacking line new is = rests line new replies.no_memory is

    -- a job that is refused
    job_refused_led : (line : Line) (wish : JobWish) (reason : Refusal (List ℕ)) → job_refusal s wish ≡ Some reason
        → Led line s (job_refused s wish).core (replies.refused reason)
    job_refused_led line wish reason is = by (core.refusal s.core (call.pick wish)) refl (core.refusal (with_built s.core wish) (call.take_install s.core.picked)) refl is
      where
        by : (first : Option (Refusal ℕ)) → core.refusal s.core (call.pick wish) ≡ first
            → (second : Option (Refusal ℕ)) → core.refusal (with_built s.core wish) (call.take_install s.core.picked) ≡ second
            → or_later (told s first) (told s second) ≡ Some reason → Led line s (cond (is_some (told s first)) s (once_picked s)).core (replies.refused reason)
        by None first_is None second_is is = absurd cc
        by None first_is (Some later) second_is is = (
          call.pick wish ∷ call.build s.core.picked ∷ call.take_install s.core.picked ∷ call.drop_job s.core.picked ∷ [],
          (
            replies.accepted ∷ built_answer f s.core wish ∷ replies.refused later ∷ replies.accepted ∷ [],
            refused_led f s.core numbered wish first_is later second_is,
            (let same : refusal_named s later ≡ reason = cc in
                ap (λ (r : Refusal (List ℕ)). replies.refused r) (sym same))
                ∙ ap (answer_named s) (sym (built_tells f s.core wish (replies.refused later) (replies.accepted ∷ []))),
          ),
          λ apart.
              also (call.pick wish) tt (also (call.build s.core.picked) tt
              (also (call.take_install s.core.picked) tt (other (call.drop_job s.core.picked) tt))),
        )
        by (Some first) first_is second second_is is = ([], ([], refl, tt), λ apart. tt)

    auto_refused_led : (line : Line) (it : Option JobWish) (reason : Refusal (List ℕ)) → for_some it None (job_refusal s) ≡ Some reason
        → Led line s (for_some it s (job_refused s)).core (replies.refused reason)
    auto_refused_led line None reason is = absurd cc
    auto_refused_led line (Some wish) reason is = job_refused_led line wish reason is

    end_refused_led : (it : Option (Refusal ℕ)) (reason : Refusal (List ℕ)) → core.refusal s.core call.end_turn ≡ it → told s it ≡ Some reason
        → Led end_turn s (leads.refused_to s.core call.end_turn) (replies.refused reason)
    end_refused_led None reason it_is is = absurd cc
    end_refused_led (Some first) reason it_is is = (
      call.end_turn ∷ [],
      (
        replies.refused first ∷ [],
        (leads.refused_to s.core call.end_turn, (it_is, refl), refl),
        (let same : refusal_named s first ≡ reason = cc in
            ap (λ (r : Refusal (List ℕ)). replies.refused r) (sym same)),
      ),
      λ apart. other call.end_turn tt,
    )

    line_refused_led : (line : Line) (reason : Refusal (List ℕ)) → refusal s line ≡ Some reason → Led line s (refused_to s line).core (replies.refused reason)
    line_refused_led end_turn reason is = end_refused_led (core.refusal s.core call.end_turn) reason refl is
    line_refused_led (job wish) reason is = job_refused_led (job wish) wish reason is
    line_refused_led auto reason is = auto_refused_led auto (next_wish s.core) reason is
    line_refused_led line reason is = ([], ([], refl, tt), λ apart. tt)

    -- ---- reopenings

    reopening_led : (g : Found) (new : Script) (answer : Answer (List ℕ)) → core.refusal s.core call.reopen ≡ None → Reopens g s answer new
        → LeadsAnswered g s (call.reopen ∷ []) new.core answer
    reopening_led (loads stored) new (replies.ok number) none step = (
      replies.ok stored.base.number ∷ [],
      (life stored, (none, (refl, refl)), ap (λ (x : Script). x.core) step.1),
      ap replies.ok step.0,
    )
    reopening_led (breaks_off part place) new (replies.refused (replies.not_formed at_part at_place)) none step = (
      replies.refused (replies.not_formed part place) ∷ [],
      (s.core, (none, (refl, refl, refl)), ap (λ (x : Script). x.core) step.2),
      λ i. replies.refused (replies.not_formed (step.0 i) (step.1 i)),
    )
    reopening_led (has_version version) new (replies.refused (replies.other_version told)) none step = (
      replies.refused (replies.other_version version) ∷ [],
      (s.core, (none, (refl, refl)), ap (λ (x : Script). x.core) step.1),
      λ i. replies.refused (replies.other_version (step.0 i)),
    )
    reopening_led (loads stored) new replies.device_fault none step =
        (replies.device_fault ∷ [], (leads.failing s.core call.reopen, (none, refl), ap (λ (x : Script). x.core) step), refl)
    reopening_led (breaks_off part place) new replies.device_fault none step =
        (replies.device_fault ∷ [], (leads.failing s.core call.reopen, (none, refl), ap (λ (x : Script). x.core) step), refl)
    reopening_led (has_version version) new replies.device_fault none step =
        (replies.device_fault ∷ [], (leads.failing s.core call.reopen, (none, refl), ap (λ (x : Script). x.core) step), refl)
    reopening_led g new answer none step = absurd step

    its_calls : (line : Line) (one new : Script) (answer : Answer (List ℕ)) → new ≡ one → LeadsAnswered f s (calls_of s line) one.core answer
        → LeadsAnswered f s (calls_of s line) new.core answer
    its_calls line one new answer is led = subst (λ (x : Script). LeadsAnswered f s (calls_of s line) x.core answer) (sym is) led

    done_calls : (line : Line) (new : Script) (answer : Answer (List ℕ)) → line ≢ reopen → refusal s line ≡ None → answer ≡ reply s line → new ≡ done s line
        → LeadsAnswered f s (calls_of s line) new.core answer
    done_calls line new answer apart none told_is is =
        its_calls line (done s line) new answer is
        (subst (LeadsAnswered f s (calls_of s line) (done s line).core) (sym told_is) (line_led f s numbered line apart none))

    -- what nothing refuses
    pub step_phases : (new : Script) (line : Line) (answer : Answer (List ℕ)) → refusal s line ≡ None → answer ≢ replies.no_memory → Step f s line answer new
        → LeadsAnswered f s (calls_of s line) new.core answer
    step_phases new silent replies.silence none full step = ([], ap (λ (x : Script). x.core) step, tt)
    step_phases new silent answer none full step = absurd step
    step_phases new line replies.no_memory none full step = absurd (full refl)
    step_phases new reopen (replies.refused (replies.busy kind)) none full step = absurd (let no : None ≡ Some (replies.busy kind) = sym none ∙ step.0 in cc)
    step_phases new reopen answer none full step = reopening_led f new answer (not_told s (core.refusal s.core call.reopen) none) step.1
    step_phases new line replies.device_fault none full step = its_calls line (failing s line) new replies.device_fault step.2 (line_failed_led f s numbered line step.0 none)
    step_phases new line (replies.refused reason) none full step = absurd (let no : None ≡ Some reason = sym none ∙ step.0 in cc)
    step_phases new line answer none full step = done_calls line new answer (λ is. subst IsOtherLine is tt) none step.1 step.2

    in_phases : (new : Script) (line : Line) (answer : Answer (List ℕ)) → LeadsAnswered f s (calls_of s line) new.core answer → Led line s new.core answer
    in_phases new line answer led = (calls_of s line, led, calls_other s line)

    opened : (new : Script) (answer : Answer (List ℕ)) → LeadsAnswered f s (call.reopen ∷ []) new.core answer → Led reopen s new.core answer
    opened new answer led = (call.reopen ∷ [], led, λ apart. absurd (apart refl))

    -- any step
    pub step_calls : (new : Script) (line : Line) (answer : Answer (List ℕ)) → Step f s line answer new → Led line s new.core answer
    step_calls new silent replies.silence step = rests silent new replies.silence step
    step_calls new silent answer step = absurd step
    step_calls new line replies.no_memory step = lacking line new step
    step_calls new reopen (replies.refused (replies.busy kind)) step = rests reopen new (replies.refused (replies.busy kind)) step.1
    step_calls new reopen answer step = opened new answer (reopening_led f new answer (not_told s (core.refusal s.core call.reopen) step.0) step.1)
    step_calls new line replies.device_fault step =
        in_phases new line replies.device_fault (its_calls line (failing s line) new replies.device_fault step.2 (line_failed_led f s numbered line step.0 step.1))
    step_calls new line (replies.refused reason) step = leads_to line (refused_to s line) new (replies.refused reason) step.1 (line_refused_led line reason step.0)
    step_calls new line answer step =
        in_phases new line answer (done_calls line new answer (λ is. subst IsOtherLine is tt) step.0 step.1 step.2)
