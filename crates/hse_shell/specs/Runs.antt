-- Runs of the machine over the lines of a script, and what is written of them.
use Rattle.std.specs.Prelude.{◌≡◌, ℕ, List, [], ◌∷◌, ◌++◌, flat_map}
use Rattle.hse_shell.specs.Grammar.{Meaning, Means}
use Rattle.hse_shell.specs.Replies.{Answer, answer_line, opened_text, closed_text}
use Rattle.hse_shell.specs.Machine.{Machine, Step}

-- From old these lines may get these answers, a step a line, and lead to new.
abbrev pub Run : Machine → List (List ℕ) → List Answer → Machine → Type 0
Run old [] [] new = new ≡ old
Run old (line ∷ lines) (answer ∷ answers) new =
    (meaning : Meaning) × (next : Machine) × Means line meaning × Step old meaning answer next
    × Run next lines answers new
Run old [] (answer ∷ answers) new = ⊥
Run old (line ∷ lines) [] new = ⊥

-- the opening's line with its number, and a line for each answer
abbrev pub replies : ℕ → List Answer → List ℕ
replies opened answers = opened_text opened ++ flat_map answer_line answers

-- what a run to the end of its script writes
abbrev pub output : ℕ → List Answer → ℕ → List ℕ
output opened answers closed = replies opened answers ++ closed_text closed
