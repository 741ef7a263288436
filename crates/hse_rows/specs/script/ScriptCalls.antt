-- The calls of the core that a line is made of, one after another.
use Rattle.std.specs.Prelude.{◌≡◌, ℕ, Bool, true, false, if◌then◌else◌, List, [], ◌∷◌}
use Rattle.hse_rows.specs.transactions.Timeline.{for_some}
use Rattle.hse_rows.specs.rows.Job.{JobWish}
use Rattle.hse_rows.specs.machine.Replies.{Answer, refused, no_memory, device_fault}
use Rattle.hse_rows.specs.machine.Calls.{outside, inside, Call}
use Rattle.hse_rows.specs.machine.Calls as call
use Rattle.hse_rows.specs.machine.Core.{Core}
use Rattle.hse_rows.specs.machine.CoreStep.{Found, Step}
use Rattle.hse_rows.specs.rows.Schedule.{next_wish}
use Rattle.hse_rows.specs.script.ScriptLines.{nobody, someone, Line, begin, write_by, get, commit, abort, list_stores, tree, info, open_cursor, seek, seek_range, read, update, close_cursor, pick, build, drop_job, next_job, take, take_install, write_turn, end_turn, turn, job, auto, reopen, silent, bad}
use Rattle.hse_rows.specs.script.Script.{Script, order_of, job_named}
use Rattle.hse_rows.specs.script.ScriptNames.{answer_named}

-- From old these calls with these answers, each as it may be, lead to new.
abbrev pub Leads : Found → Core → List Call → List (Answer ℕ) → Core → Type 0
Leads found old [] [] new = new ≡ old
Leads found old [] (answer ∷ answers) new = ⊥
Leads found old (first ∷ calls) [] new = ⊥
Leads found old (first ∷ calls) (answer ∷ answers) new =
    (mid : Core) × Step found old first answer mid × Leads found mid calls answers new

-- a call that was done
abbrev pub is_done : Answer ℕ → Bool
is_done (refused reason) = false
is_done no_memory = false
is_done device_fault = false
is_done answer = true

-- the answer of the first call that was not done, or else of the last
abbrev pub told_by : Answer ℕ → List (Answer ℕ) → Answer ℕ
told_by answer [] = answer
told_by answer (next ∷ answers) = if is_done answer then told_by next answers else answer

-- A line of calls is answered that, with names.
abbrev pub Tells : Script → List (Answer ℕ) → Answer (List ℕ) → Type 0
Tells s [] answer = Unit {0}
Tells s (first ∷ answers) answer = answer ≡ answer_named s (told_by first answers)

-- From old these calls lead to new, and tell this answer.
abbrev pub LeadsAnswered : Found → Script → List Call → Core → Answer (List ℕ) → Type 0
LeadsAnswered found old calls new answer =
    (answers : List (Answer ℕ)) × Leads found old.core calls answers new × Tells old answers answer

-- the phases of a turn that this call takes
abbrev pub turn_calls : Call → List Call
turn_calls take_call = take_call ∷ call.write_turn ∷ call.end_turn ∷ []

-- and those of a job, which gets this id
abbrev pub job_calls : ℕ → JobWish → List Call
job_calls id wish = call.pick wish ∷ call.build id ∷ turn_calls (call.take_install id)

abbrev pub of_order : Script → List ℕ → (ℕ → Call) → List Call
of_order s name call_of = for_some (order_of s name) [] (λ order. call_of order ∷ [])

abbrev pub of_job : Script → List ℕ → (ℕ → Call) → List Call
of_job s name call_of = for_some (job_named s name) [] (λ id. call_of id ∷ [])

-- The calls of a line that nothing refuses.
abbrev pub calls_of : Script → Line → List Call
calls_of s (begin name) = call.begin ∷ []
calls_of s (write_by nobody store change) = call.write_by outside store change ∷ []
calls_of s (write_by (someone name) store change) = of_order s name (λ order. call.write_by (inside order) store change)
calls_of s (get nobody store key) = call.get outside store key ∷ []
calls_of s (get (someone name) store key) = of_order s name (λ order. call.get (inside order) store key)
calls_of s (commit name) = of_order s name call.commit
calls_of s (abort name) = of_order s name call.abort
calls_of s list_stores = call.list_stores ∷ []
calls_of s (tree store) = call.tree store ∷ []
calls_of s info = call.info ∷ []
calls_of s (open_cursor name who store direction filter) = call.take_place ∷ []
calls_of s (seek name key) = []
calls_of s (seek_range name first last) = []
calls_of s (read name) = []
calls_of s (update name) = []
calls_of s (close_cursor name) = call.give_place ∷ []
calls_of s (pick name wish) = call.pick wish ∷ []
calls_of s (build name) = of_job s name call.build
calls_of s (drop_job name) = of_job s name call.drop_job
calls_of s next_job = call.next_job ∷ []
calls_of s (take wish) = call.take wish ∷ []
calls_of s (take_install name) = of_job s name call.take_install
calls_of s write_turn = call.write_turn ∷ []
calls_of s end_turn = call.end_turn ∷ []
calls_of s (turn wish) = turn_calls (call.take wish)
calls_of s (job wish) = job_calls s.core.picked wish
calls_of s auto = for_some (next_wish s.core) [] (job_calls s.core.picked)
calls_of s reopen = call.reopen ∷ []
calls_of s silent = []
calls_of s bad = []
