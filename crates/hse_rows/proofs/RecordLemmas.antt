-- The commits and the taken numbers of a history with one event more.
use Rattle.std.proofs.Common.{◌≡◌, ℕ, ◌+◌, List, [], ◌∷◌, ◌++◌, length, sym, ◌∙◌, ap, arith}
use Rattle.hse_rows.specs.states.History.{Event, commits, creates, drops}
use Rattle.hse_rows.specs.machine.Log.{Numbered}
use Rattle.hse_rows.specs.machine.Recorded.{commits_in, taken_in}

-- one event more
pub commits_push : (number : ℕ) (events : List Event) (event : Event)
    → commits_in number (events ++ event ∷ []) ≡ commits_in number events ++ commits_in (number + length events) (event ∷ [])
commits_push number [] event =
    let here : number + length {A = Event} [] ≡ number = omega arith in
    ap (λ (n : ℕ). commits_in n (event ∷ [])) (sym here)
commits_push number (first ∷ events) event =
    let there : number + 1 + length events ≡ number + length (first ∷ events) = omega arith in
    let rest : commits_in (number + 1) (events ++ event ∷ []) ≡ commits_in (number + 1) events ++ commits_in (number + length (first ∷ events)) (event ∷ []) =
    commits_push (number + 1) events event ∙ ap (λ (n : ℕ). commits_in (number + 1) events ++ commits_in n (event ∷ [])) there in
    by first rest
  where
    by : (e : Event) → commits_in (number + 1) (events ++ event ∷ []) ≡ commits_in (number + 1) events ++ commits_in (number + length (first ∷ events)) (event ∷ [])
        → commits_in number (e ∷ (events ++ event ∷ [])) ≡ commits_in number (e ∷ events) ++ commits_in (number + length (first ∷ events)) (event ∷ [])
    by (commits writes) rest = ap (λ (l : List Numbered). record { number = number; writes = writes } ∷ l) rest
    by (creates name mode prefix) rest = rest
    by (drops id) rest = rest

pub taken_push : (number : ℕ) (events : List Event) (event : Event)
    → taken_in number (events ++ event ∷ []) ≡ taken_in number events ++ taken_in (number + length events) (event ∷ [])
taken_push number [] event =
    let here : number + length {A = Event} [] ≡ number = omega arith in
    ap (λ (n : ℕ). taken_in n (event ∷ [])) (sym here)
taken_push number (first ∷ events) event =
    let there : number + 1 + length events ≡ number + length (first ∷ events) = omega arith in
    let rest : taken_in (number + 1) (events ++ event ∷ []) ≡ taken_in (number + 1) events ++ taken_in (number + length (first ∷ events)) (event ∷ []) =
    taken_push (number + 1) events event ∙ ap (λ (n : ℕ). taken_in (number + 1) events ++ taken_in n (event ∷ [])) there in
    by first rest
  where
    by : (e : Event) → taken_in (number + 1) (events ++ event ∷ []) ≡ taken_in (number + 1) events ++ taken_in (number + length (first ∷ events)) (event ∷ [])
        → taken_in number (e ∷ (events ++ event ∷ [])) ≡ taken_in number (e ∷ events) ++ taken_in (number + length (first ∷ events)) (event ∷ [])
    by (commits writes) rest = rest
    by (creates name mode prefix) rest = ap (λ (l : List ℕ). number ∷ l) rest
    by (drops id) rest = ap (λ (l : List ℕ). number ∷ l) rest
