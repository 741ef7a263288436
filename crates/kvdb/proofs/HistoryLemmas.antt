-- A store that was there at a snapshot has its prefix length as long as it is live.
use Rattle.std.specs.List.{AllByRecursion}
use Rattle.std.specs.Prelude.{◌==◌, not}
use Rattle.std.proofs.Common.{◌≡◌, ℕ, ◌+◌, ◌≤◌, Bool, true, false, cond, List, [], ◌∷◌, ◌++◌, length, map, refl, sym, subst, arith}
use Rattle.hse_rows.specs.declared.write.Write.{Write}
use Rattle.hse_rows.specs.states.State.{Store, State, AreRising}
use Rattle.hse_rows.specs.states.History.{Event, commits, creates, drops, happened, folded, new_store, without}
use Rattle.hse_rows.specs.laws.Folding.{happened-number}
use Rattle.hse_rows.specs.laws.Holding.{written_all, applied_all-stores}

-- ---- ids rise

rising-more : (low number more : ℕ) (stores : List Store) → number ≤ more → AreRising low number stores → AreRising low more stores
rising-more low number more [] le rising = tt
rising-more low number more (s ∷ stores) le rising = (rising.0, omega (arith, le, rising.1), rising-more s.id number more stores le rising.2)

rising-lower : (low high number : ℕ) (stores : List Store) → low ≤ high → AreRising high number stores → AreRising low number stores
rising-lower low high number [] le rising = tt
rising-lower low high number (s ∷ stores) le rising = (omega (arith, le, rising.0), rising.1, rising.2)

rising-written : (low number : ℕ) (writes : List Write) (stores : List Store) → AreRising low number stores → AreRising low number (map (written_all writes) stores)
rising-written low number writes [] rising = tt
rising-written low number writes (s ∷ stores) rising = (rising.0, rising.1, rising-written s.id number writes stores rising.2)

rising-push : (low number : ℕ) (stores : List Store) (store : Store) → low ≤ number → store.id ≡ number + 1 → AreRising low number stores
    → AreRising low (number + 1) (stores ++ store ∷ [])
rising-push low number [] store le is rising = (omega (arith, le, is), omega (arith, is), tt)
rising-push low number (s ∷ stores) store le is rising =
    (rising.0, omega (arith, rising.1), rising-push s.id number stores store rising.1 is rising.2)

rising-without : (id low number : ℕ) (stores : List Store) → AreRising low number stores → AreRising low number (without id stores)
rising-without id low number [] rising = tt
rising-without id low number (s ∷ stores) rising = by (not (s.id == id)) (rising-without id s.id number stores rising.2)
  where
    by : (b : Bool) → AreRising s.id number (without id stores) → AreRising low number (cond b (s ∷ without id stores) (without id stores))
    by true rest = (rising.0, rising.1, rest)
    by false rest = rising-lower low s.id number (without id stores) (omega (arith, rising.0)) rest

rising-happened : (state : State) (event : Event) → AreRising 0 state.number state.stores
    → AreRising 0 (happened state event).number (happened state event).stores
rising-happened state (commits writes) rising =
    subst (λ (s : State). AreRising 0 (state.number + 1) s.stores) (sym (applied_all-stores state writes))
    (rising-more 0 state.number (state.number + 1) (map (written_all writes) state.stores) (omega arith) (rising-written 0 state.number writes state.stores rising))
rising-happened state (creates name mode prefix_length) rising =
    rising-push 0 state.number state.stores (new_store (state.number + 1) name mode prefix_length) (omega arith) refl rising
rising-happened state (drops id) rising =
    rising-more 0 state.number (state.number + 1) (without id state.stores) (omega arith) (rising-without id 0 state.number state.stores rising)

pub rising-folded : (events : List Event) (state : State) → AreRising 0 state.number state.stores
    → AreRising 0 (folded state events).number (folded state events).stores
rising-folded [] state rising = rising
rising-folded (event ∷ events) state rising = rising-folded events (happened state event) (rising-happened state event rising)

-- ---- what all stores of an id have

abbrev pub Have : (ℕ → Type 0) → ℕ → List Store → Type 0
Have P id stores = AllByRecursion (λ (s : Store). s.id ≡ id → P s.prefix_length) stores

have-written : (P : ℕ → Type 0) (id : ℕ) (writes : List Write) (stores : List Store) → Have P id stores → Have P id (map (written_all writes) stores)
have-written P id writes [] all = tt
have-written P id writes (s ∷ stores) all = (all.0, have-written P id writes stores all.1)

have-push : (P : ℕ → Type 0) (id : ℕ) (stores : List Store) (store : Store) → (store.id ≡ id → P store.prefix_length) → Have P id stores
    → Have P id (stores ++ store ∷ [])
have-push P id [] store new all = (new, tt)
have-push P id (s ∷ stores) store new all = (all.0, have-push P id stores store new all.1)

have-without : (P : ℕ → Type 0) (id gone : ℕ) (stores : List Store) → Have P id stores → Have P id (without gone stores)
have-without P id gone [] all = tt
have-without P id gone (s ∷ stores) all = by (not (s.id == gone)) (have-without P id gone stores all.1)
  where
    by : (b : Bool) → Have P id (without gone stores) → Have P id (cond b (s ∷ without gone stores) (without gone stores))
    by true rest = (all.0, rest)
    by false rest = rest

have-happened : (P : ℕ → Type 0) (id : ℕ) (state : State) (event : Event) → id ≤ state.number → Have P id state.stores
    → Have P id (happened state event).stores
have-happened P id state (commits writes) le all =
    subst (λ (s : State). Have P id s.stores) (sym (applied_all-stores state writes)) (have-written P id writes state.stores all)
have-happened P id state (creates name mode prefix_length) le all =
    have-push P id state.stores (new_store (state.number + 1) name mode prefix_length)
    (λ same. absurd (let e : ⊥ = omega (arith, same, le) in e)) all
have-happened P id state (drops gone) le all = have-without P id gone state.stores all

pub have-folded : (P : ℕ → Type 0) (id : ℕ) (events : List Event) (state : State) → id ≤ state.number → Have P id state.stores
    → Have P id (folded state events).stores
have-folded P id [] state le all = all
have-folded P id (event ∷ events) state le all =
    have-folded P id events (happened state event) (omega (arith, le, happened-number state event)) (have-happened P id state event le all)
