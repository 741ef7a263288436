-- Creations and drops may come before all writes.
use Rattle.std.proofs.Common.{◌≡◌, ℕ, ◌+◌, ◌<◌, ◌≤◌, ◌==◌, Bool, true, false, not, cond, List, [], ◌∷◌, ◌++◌, length, map, flat_map, refl, sym, ◌∙◌, ap, subst, arith}
use Rattle.std.specs.FinMap as fin_map
use Rattle.std.proofs.lemmas.Bool.{ne_eqb}
use Rattle.hse_rows.specs.declared.write.Write.{Write}
use Rattle.hse_rows.specs.states.State.{Contents, Store, State, changed, contents_after_all, applied, applied_all}
use Rattle.hse_rows.specs.laws.Holding.{written_all, applied_all-stores}
use Rattle.hse_rows.specs.states.History.{Event, commits, creates, drops, new_store, without, happened, folded}
use Rattle.hse_rows.specs.machine.Recorded.{commits_in}
use Rattle.hse_rows.specs.states.Rooted.{writes_in, writes_of, bare, AreUpTo, AreRooted}

pub applied_all-append : (state : State) (writes later : List Write) → applied_all state (writes ++ later) ≡ applied_all (applied_all state writes) later
applied_all-append state [] later = refl
applied_all-append state (write ∷ writes) later = applied_all-append (applied state write) writes later

-- writes of other stores change nothing of one
untouched : (id : ℕ) (contents : Contents) (number : ℕ) (writes : List Write) → number < id → AreUpTo number writes → contents_after_all id contents writes ≡ contents
untouched id contents number [] above up_to = refl
untouched id contents number (write ∷ writes) above up_to =
    let within : write.store.0 ≤ number = up_to.0 in
    let other : (write.store.0 == id) ≡ false = ne_eqb write.store.0 id (λ same. omega arith) in
    ap (λ (b : Bool). contents_after_all id (cond b (changed contents write.change) contents) writes) other
    ∙ untouched id contents number writes above up_to.1

map_push : (f : Store → Store) (stores : List Store) (store : Store) → map f (stores ++ store ∷ []) ≡ map f stores ++ f store ∷ []
map_push f [] store = refl
map_push f (first ∷ stores) store = ap (λ (rest : List Store). f first ∷ rest) (map_push f stores store)

without_written : (writes : List Write) (id : ℕ) (stores : List Store) → without id (map (written_all writes) stores) ≡ map (written_all writes) (without id stores)
without_written writes id [] = refl
without_written writes id (store ∷ stores) =
    elim (not (store.id == id))
    as (λ b. cond b (written_all writes store ∷ without id (map (written_all writes) stores)) (without id (map (written_all writes) stores))
    ≡ map (written_all writes) (cond b (store ∷ without id stores) (without id stores))) [
      | true ↦ ap (λ (rest : List Store). written_all writes store ∷ rest) (without_written writes id stores)
      | false ↦ without_written writes id stores
    ]

abbrev at : ℕ → List Store → State
at number stores = record { number = number; stores = stores }

abbrev after : ℕ → List Store → List Write → State
after number stores writes = record { number = number; stores = map (written_all writes) stores }

-- an event without writes may come before writes of stores that are there
bare_first : (number : ℕ) (stores : List Store) (event : Event) (writes : List Write) → AreUpTo number writes
    → happened (after number stores writes) (bare event) ≡ applied_all (happened (at number stores) (bare event)) writes
bare_first number stores (commits more) writes up_to = sym (applied_all-stores (at (number + 1) stores) writes)
bare_first number stores (creates name mode prefix) writes up_to =
    let new : Store = new_store (number + 1) name mode prefix in
    let above : number < number + 1 = omega arith in
    let same : contents_after_all (number + 1) fin_map.empty writes ≡ fin_map.empty = untouched (number + 1) fin_map.empty number writes above up_to in
    let kept : written_all writes new ≡ new = λ i. record new { contents = same i } in
    ap (at (number + 1)) (sym (map_push (written_all writes) stores new ∙ ap (λ (s : Store). map (written_all writes) stores ++ s ∷ []) kept))
    ∙ sym (applied_all-stores (at (number + 1) (stores ++ new ∷ [])) writes)
bare_first number stores (drops id) writes up_to =
    ap (at (number + 1)) (without_written writes id stores) ∙ sym (applied_all-stores (at (number + 1) (without id stores)) writes)

happened_first : (state : State) (event : Event) (writes : List Write) → AreUpTo state.number writes
    → happened (applied_all state writes) (bare event) ≡ applied_all (happened state (bare event)) writes
happened_first state event writes up_to =
    ap (λ (s : State). happened s (bare event)) (applied_all-stores state writes) ∙ bare_first state.number state.stores event writes up_to

up_to_next : (number : ℕ) (writes : List Write) → AreUpTo number writes → AreUpTo (number + 1) writes
up_to_next number [] up_to = tt
up_to_next number (write ∷ writes) up_to =
    let within : write.store.0 ≤ number = up_to.0 in
    let later : write.store.0 ≤ number + 1 = omega arith in
    (later, up_to_next number writes up_to.1)

bare-number : (state : State) (event : Event) → (happened state (bare event)).number ≡ state.number + 1
bare-number state (commits writes) = refl
bare-number state (creates name mode prefix) = refl
bare-number state (drops id) = refl

-- events without writes may come before writes of stores that are there
folded_first : (state : State) (events : List Event) (writes : List Write) → AreUpTo state.number writes
    → folded (applied_all state writes) (map bare events) ≡ applied_all (folded state (map bare events)) writes
folded_first state [] writes up_to = refl
folded_first state (event ∷ events) writes up_to =
    ap (λ (s : State). folded s (map bare events)) (happened_first state event writes up_to)
    ∙ folded_first (happened state (bare event)) events writes
    (subst (λ (n : ℕ). AreUpTo n writes) (sym (bare-number state event)) (up_to_next state.number writes up_to))

-- a commit is an event without writes, and then its writes
commit_parts : (state : State) (writes : List Write) → happened state (commits writes) ≡ applied_all (happened state (commits [])) writes
commit_parts state writes =
    ap (at (state.number + 1)) (λ i. (applied_all-stores state writes i).stores) ∙ sym (applied_all-stores (at (state.number + 1) state.stores) writes)

-- Creations and drops may come before all writes.
pub creations_first : (state : State) (events : List Event) → AreRooted state.number events
    → folded state events ≡ applied_all (folded state (map bare events)) (writes_of events)
creations_first state [] rooted = refl
creations_first state (commits writes ∷ events) rooted =
    creations_first (happened state (commits writes)) events rooted.1
    ∙ ap (λ (s : State). applied_all (folded s (map bare events)) (writes_of events)) (commit_parts state writes)
    ∙ ap (λ (s : State). applied_all s (writes_of events))
    (folded_first (happened state (commits [])) events writes (up_to_next state.number writes rooted.0))
    ∙ sym (applied_all-append (folded (happened state (commits [])) (map bare events)) writes (writes_of events))
creations_first state (creates name mode prefix ∷ events) rooted = creations_first (happened state (creates name mode prefix)) events rooted.1
creations_first state (drops id ∷ events) rooted = creations_first (happened state (drops id)) events rooted.1

-- the writes of the commits are those of the history
pub commits-writes : (number : ℕ) (events : List Event) → flat_map (λ commit. commit.writes) (commits_in number events) ≡ writes_of events
commits-writes number [] = refl
commits-writes number (commits writes ∷ events) = ap (λ (rest : List Write). writes ++ rest) (commits-writes (number + 1) events)
commits-writes number (creates name mode prefix ∷ events) = commits-writes (number + 1) events
commits-writes number (drops id ∷ events) = commits-writes (number + 1) events

-- a front of such a history is such a history
pub rooted_front : (number : ℕ) (events later : List Event) → AreRooted number (events ++ later) → AreRooted number events
rooted_front number [] later rooted = tt
rooted_front number (event ∷ events) later rooted = (rooted.0, rooted_front (number + 1) events later rooted.1)

-- one event more
pub rooted_push : (number : ℕ) (events : List Event) (event : Event) → AreRooted number events → AreUpTo (number + length events) (writes_in event)
    → AreRooted number (events ++ event ∷ [])
rooted_push number [] event rooted up_to =
    let here : number + length {A = Event} [] ≡ number = omega arith in
    (subst (λ (n : ℕ). AreUpTo n (writes_in event)) here up_to, tt)
rooted_push number (first ∷ events) event rooted up_to =
    let there : number + length (first ∷ events) ≡ number + 1 + length events = omega arith in
    (rooted.0, rooted_push (number + 1) events event rooted.1 (subst (λ (n : ℕ). AreUpTo n (writes_in event)) there up_to))
