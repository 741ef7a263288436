-- Folds of histories: lemmas for the layers above.
use Rattle.std.specs.Prelude.{◌≡◌, ℕ, ◌+◌, ◌-◌, ◌≤◌, List, [], ◌∷◌, ◌++◌, length, take}
use Rattle.std.proofs.Common.{refl, ◌∙◌, ap, arith}
use Rattle.std.proofs.lemmas.List.{take-append-le}
use Rattle.std.proofs.Math.Seq.{take-length}
use Rattle.hse_rows.specs.states.State.{State}
use Rattle.hse_rows.specs.states.History.{Event, commits, creates, drops, happened, folded, fold, last_number}

-- an event has the next number
pub happened-number : (state : State) (event : Event) → (happened state event).number ≡ state.number + 1
happened-number state (commits writes) = refl
happened-number state (creates name mode prefix_length) = refl
happened-number state (drops id) = refl

-- events in two parts
pub folded-append : (base : State) (events later : List Event) → folded base (events ++ later) ≡ folded (folded base events) later
folded-append base [] later = refl
folded-append base (event ∷ events) later = folded-append (happened base event) events later

-- one event more
pub folded_push : (base : State) (events : List Event) (event : Event) → folded base (events ++ event ∷ []) ≡ happened (folded base events) event
folded_push base events event = folded-append base events (event ∷ [])

-- the state after all events has the last number
pub folded-number : (base : State) (events : List Event) → (folded base events).number ≡ last_number base events
folded-number base [] = omega arith
folded-number base (event ∷ events) =
    let known : (folded (happened base event) events).number ≡ (happened base event).number + length events =
    folded-number (happened base event) events in
    let next : (happened base event).number ≡ base.number + 1 = happened-number base event in
    omega (arith, known, next)

-- the state of the last number is that after all events
pub fold-last : (base : State) (events : List Event) → fold base events (last_number base events) ≡ folded base events
fold-last base events =
    let all : base.number + length events - base.number ≡ length events = omega arith in
    ap (λ (n : ℕ). folded base (take n events)) all ∙ ap (folded base) (take-length events)

-- the state of the base's number is the base
pub fold-base : (base : State) (events : List Event) → fold base events base.number ≡ base
fold-base base events =
    let none : base.number - base.number ≡ 0 = omega arith in
    ap (λ (n : ℕ). folded base (take n events)) none

-- later events change no state of an earlier number
pub fold-stays : (base : State) (events later : List Event) (number : ℕ) → number ≤ last_number base events
    → fold base (events ++ later) number ≡ fold base events number
fold-stays base events later number within =
    let few : number - base.number ≤ length events = omega arith in
    ap (folded base) (take-append-le (number - base.number) events later few)
