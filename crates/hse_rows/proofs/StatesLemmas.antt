-- Events keep two names for two ids.
use Rattle.std.proofs.Common.{◌≡◌, ℕ, ◌+◌, ◌<◌, ◌≤◌, ◌==◌, Bool, true, false, not, cond, ◌||◌, List, [], ◌∷◌, ◌++◌, map, refl, sym, ◌∙◌, ap, subst, arith}
use Rattle.std.specs.List.{list_any}
use Rattle.std.specs.Cmp.Lexicographic.{nat_list_eq_equiv}
use Rattle.hse_rows.specs.declared.write.Write.{Write}
use Rattle.hse_rows.specs.writes.NormalForm.{same}
use Rattle.hse_rows.specs.states.State.{Store, State, IsState, AreRising, AreNamedApart, applied_all}
use Rattle.hse_rows.specs.laws.Holding.{written_all, applied_all-stores}
use Rattle.hse_rows.specs.states.History.{Event, commits, creates, drops, new_store, without, happened, folded}
use Rattle.hse_rows.specs.laws.Folding.{folded_push}
use Rattle.hse_rows.proofs.NormalFormLemmas.{or_left, or_right, or_none}

-- ---- writes keep names and ids

rising_written : (writes : List Write) (low number : ℕ) (stores : List Store) → AreRising low number stores → AreRising low number (map (written_all writes) stores)
rising_written writes low number [] rising = tt
rising_written writes low number (store ∷ stores) rising = (rising.0, rising.1, rising_written writes store.id number stores rising.2)

any_written : (writes : List Write) (name : List ℕ) (stores : List Store)
    → list_any (λ other. same other.name name) (map (written_all writes) stores) ≡ list_any (λ other. same other.name name) stores
any_written writes name [] = refl
any_written writes name (store ∷ stores) = ap (λ (b : Bool). same store.name name || b) (any_written writes name stores)

apart_written : (writes : List Write) (stores : List Store) → AreNamedApart stores → AreNamedApart (map (written_all writes) stores)
apart_written writes [] apart = tt
apart_written writes (store ∷ stores) apart = (any_written writes store.name stores ∙ apart.0, apart_written writes stores apart.1)

-- ---- greater numbers, and lower bounds

rising_longer : (low number : ℕ) (stores : List Store) → AreRising low number stores → AreRising low (number + 1) stores
rising_longer low number [] rising = tt
rising_longer low number (store ∷ stores) rising =
    let within : store.id ≤ number = rising.1 in
    let later : store.id ≤ number + 1 = omega arith in
    (rising.0, later, rising_longer store.id number stores rising.2)

rising_lower : (low high number : ℕ) (stores : List Store) → low ≤ high → AreRising high number stores → AreRising low number stores
rising_lower low high number [] below rising = tt
rising_lower low high number (store ∷ stores) below rising =
    let above : high < store.id = rising.0 in
    let far : low < store.id = omega arith in
    (far, rising.1, rising.2)

-- ---- one store more

rising_push : (low number : ℕ) (stores : List Store) (store : Store) → low ≤ number → store.id ≡ number + 1 → AreRising low number stores
    → AreRising low (number + 1) (stores ++ store ∷ [])
rising_push low number [] store below is rising =
    let above : low < store.id = omega arith in
    let within : store.id ≤ number + 1 = omega arith in
    (above, within, tt)
rising_push low number (first ∷ stores) store below is rising =
    let within : first.id ≤ number = rising.1 in
    let later : first.id ≤ number + 1 = omega arith in
    (rising.0, later, rising_push first.id number stores store within is rising.2)

any_push : (p : Store → Bool) (stores : List Store) (store : Store) → list_any p stores ≡ false → p store ≡ false → list_any p (stores ++ store ∷ []) ≡ false
any_push p [] store none last = or_none (p store) false last refl
any_push p (first ∷ stores) store none last =
    or_none (p first) (list_any p (stores ++ store ∷ [])) (or_left (p first) (list_any p stores) none)
    (any_push p stores store (or_right (p first) (list_any p stores) none) last)

apart_push : (stores : List Store) (store : Store) → list_any (λ other. same other.name store.name) stores ≡ false → AreNamedApart stores
    → AreNamedApart (stores ++ store ∷ [])
apart_push [] store free apart = (refl, tt)
apart_push (first ∷ stores) store free apart = (
  any_push (λ other. same other.name first.name) stores store apart.0
      (nat_list_eq_equiv.symm store.name first.name
      ∙ or_left (same first.name store.name) (list_any (λ other. same other.name store.name) stores) free),
  apart_push stores store (or_right (same first.name store.name) (list_any (λ other. same other.name store.name) stores) free) apart.1,
)

-- ---- one store less

rising_without : (id low number : ℕ) (stores : List Store) → AreRising low number stores → AreRising low number (without id stores)
rising_without id low number [] rising = tt
rising_without id low number (store ∷ stores) rising =
    let rest : AreRising store.id number (without id stores) = rising_without id store.id number stores rising.2 in
    elim (not (store.id == id)) as (λ b. AreRising low number (cond b (store ∷ without id stores) (without id stores))) [
      | true ↦ (rising.0, rising.1, rest)
      | false ↦ let above : low < store.id = rising.0 in let below : low ≤ store.id = omega arith in rising_lower low store.id number (without id stores) below rest
    ]

any_without : (p : Store → Bool) (id : ℕ) (stores : List Store) → list_any p stores ≡ false → list_any p (without id stores) ≡ false
any_without p id [] none = refl
any_without p id (store ∷ stores) none =
    let rest : list_any p (without id stores) ≡ false = any_without p id stores (or_right (p store) (list_any p stores) none) in
    elim (not (store.id == id)) as (λ b. list_any p (cond b (store ∷ without id stores) (without id stores)) ≡ false) [
      | true ↦ or_none (p store) (list_any p (without id stores)) (or_left (p store) (list_any p stores) none) rest
      | false ↦ rest
    ]

apart_without : (id : ℕ) (stores : List Store) → AreNamedApart stores → AreNamedApart (without id stores)
apart_without id [] apart = tt
apart_without id (store ∷ stores) apart =
    let rest : AreNamedApart (without id stores) = apart_without id stores apart.1 in
    elim (not (store.id == id)) as (λ b. AreNamedApart (cond b (store ∷ without id stores) (without id stores))) [
      | true ↦ (any_without (λ other. same other.name store.name) id stores apart.0, rest)
      | false ↦ rest
    ]

-- ---- events

-- a creation is of a name that no live store has
abbrev pub IsFree : State → Event → Type 0
IsFree state (creates name mode prefix_length) = list_any (λ other. same other.name name) state.stores ≡ false
IsFree state (commits writes) = Unit {0}
IsFree state (drops id) = Unit {0}

pub happened_rising : (state : State) (event : Event) → AreRising 0 state.number state.stores → AreRising 0 (happened state event).number (happened state event).stores
happened_rising state (commits writes) rising =
    let stores : (applied_all state writes).stores ≡ map (written_all writes) state.stores = λ i. (applied_all-stores state writes i).stores in
    subst (λ (s : List Store). AreRising 0 (state.number + 1) s) (sym stores)
    (rising_longer 0 state.number (map (written_all writes) state.stores) (rising_written writes 0 state.number state.stores rising))
happened_rising state (creates name mode prefix_length) rising =
    let zero_below : 0 ≤ state.number = omega arith in
    rising_push 0 state.number state.stores (new_store (state.number + 1) name mode prefix_length) zero_below refl rising
happened_rising state (drops id) rising =
    rising_longer 0 state.number (without id state.stores) (rising_without id 0 state.number state.stores rising)

happened_apart : (state : State) (event : Event) → IsFree state event → AreNamedApart state.stores → AreNamedApart (happened state event).stores
happened_apart state (commits writes) free apart =
    let stores : (applied_all state writes).stores ≡ map (written_all writes) state.stores = λ i. (applied_all-stores state writes i).stores in
    subst AreNamedApart (sym stores) (apart_written writes state.stores apart)
happened_apart state (creates name mode prefix_length) free apart =
    apart_push state.stores (new_store (state.number + 1) name mode prefix_length) free apart
happened_apart state (drops id) free apart = apart_without id state.stores apart

pub happened_state : (state : State) (event : Event) → IsFree state event → IsState state → IsState (happened state event)
happened_state state event free good =
    record { rising = happened_rising state event good.rising; named = happened_apart state event free good.named }

pub pushed_state : (base : State) (events : List Event) (event : Event) → IsFree (folded base events) event → IsState (folded base events)
    → IsState (folded base (events ++ event ∷ []))
pushed_state base events event free good = subst IsState (sym (folded_push base events event)) (happened_state (folded base events) event free good)
