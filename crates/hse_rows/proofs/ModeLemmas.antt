-- The mode of a store id stays.
use Rattle.std.proofs.Common.{◌≡◌, ℕ, zero, suc, ◌+◌, ◌<◌, ◌≤◌, ◌==◌, Bool, true, false, not, cond, List, [], ◌∷◌, length, map, Option, Some, None, refl, sym, ◌∙◌, ap, subst, ◌⊎◌, inl, inr, arith}
use Rattle.std.specs.List.{slice_get, filter}
use Rattle.std.specs.Option.{option_map}
use Rattle.std.proofs.lemmas.Option.{same_Some, slice_get-map}
use Rattle.hse_rows.specs.declared.store.Mode.{Mode}
use Rattle.hse_rows.specs.declared.store.Mode.TheVariants.{Plain, Tx}
use Rattle.hse_rows.specs.states.State.{Store, State, AreRising, applied_all}
use Rattle.hse_rows.specs.laws.Holding.{written_all, applied_all-stores}
use Rattle.hse_rows.specs.states.History.{Event, commits, creates, drops, new_store, happened, folded}
use Rattle.hse_rows.specs.laws.Folding.{happened-number}
use Rattle.hse_rows.specs.transactions.Timeline.{HasStore}
use Rattle.hse_rows.proofs.PlaceLemmas.{get_push}
use Rattle.hse_rows.proofs.StatesLemmas.{happened_rising}

-- what stands in a filtered list stood in the list
get-filter : {X : Type 0} (p : X → Bool) (xs : List X) (i : ℕ) (x : X) → slice_get (filter p xs) i ≡ Some x → (j : ℕ) × (slice_get xs j ≡ Some x)
get-filter p [] i x at = absurd cc
get-filter {X = X} p (y ∷ xs) i x at = by (p y) i at (get-filter p xs)
  where
    by : (b : Bool) (i : ℕ) → slice_get (cond b (y ∷ filter p xs) (filter p xs)) i ≡ Some x
        → ((k : ℕ) (z : X) → slice_get (filter p xs) k ≡ Some z → (j : ℕ) × (slice_get xs j ≡ Some z)) → (j : ℕ) × (slice_get (y ∷ xs) j ≡ Some x)
    by true zero at rest = (zero, at)
    by true (suc i) at rest = let there : (j : ℕ) × (slice_get xs j ≡ Some x) = rest i x at in (suc there.0, there.1)
    by false i at rest = let there : (j : ℕ) × (slice_get xs j ≡ Some x) = rest i x at in (suc there.0, there.1)

-- what stands in a mapped list is of what stood there
get_mapped : {X Y : Type 0} (f : X → Y) (found : Option X) (y : Y) → option_map f found ≡ Some y → (x : X) × (found ≡ Some x) × (f x ≡ y)
get_mapped f None y is = absurd cc
get_mapped f (Some x) y is = (x, refl, same_Some (f x) y is)

-- ---- ids tell stores apart

rising_at : (low number : ℕ) (stores : List Store) (i : ℕ) (store : Store) → AreRising low number stores → slice_get stores i ≡ Some store
    → (low < store.id) × (store.id ≤ number)
rising_at low number [] i store rising at = absurd cc
rising_at low number (first ∷ stores) zero store rising at =
    let same : first ≡ store = same_Some first store at in
    (subst (λ (s : Store). low < s.id) same rising.0, subst (λ (s : Store). s.id ≤ number) same rising.1)
rising_at low number (first ∷ stores) (suc i) store rising at =
    let later : (first.id < store.id) × (store.id ≤ number) = rising_at first.id number stores i store rising.2 at in
    let above : low < first.id = rising.0 in
    let past : first.id < store.id = later.0 in
    (omega (arith, above, past), later.1)

one_store : (low number : ℕ) (stores : List Store) (i j : ℕ) (one other : Store) → AreRising low number stores
    → slice_get stores i ≡ Some one → slice_get stores j ≡ Some other → one.id ≡ other.id → one ≡ other
one_store low number [] i j one other rising one_at other_at is = absurd cc
one_store low number (first ∷ stores) zero zero one other rising one_at other_at is = sym (same_Some first one one_at) ∙ same_Some first other other_at
one_store low number (first ∷ stores) zero (suc j) one other rising one_at other_at is =
    let past : first.id < other.id = (rising_at first.id number stores j other rising.2 other_at).0 in
    let same : first.id ≡ one.id = ap (λ (s : Store). s.id) (same_Some first one one_at) in
    absurd (omega (arith, past, same, is))
one_store low number (first ∷ stores) (suc i) zero one other rising one_at other_at is =
    let past : first.id < one.id = (rising_at first.id number stores i one rising.2 one_at).0 in
    let same : first.id ≡ other.id = ap (λ (s : Store). s.id) (same_Some first other other_at) in
    absurd (omega (arith, past, same, is))
one_store low number (first ∷ stores) (suc i) (suc j) one other rising one_at other_at is =
    one_store first.id number stores i j one other rising.2 one_at other_at is

plain_is_no_tx : (mode : Mode) → mode ≡ Plain → mode ≡ Tx → ⊥
plain_is_no_tx Plain plain tx = absurd cc
plain_is_no_tx Tx plain tx = absurd cc

-- no id has two modes in a state
pub one_mode : (state : State) (id : ℕ) → AreRising 0 state.number state.stores → HasStore state id Plain → HasStore state id Tx → ⊥
one_mode state id rising plain tx =
    let same : plain.store ≡ tx.store =
    one_store 0 state.number state.stores plain.place tx.place plain.store tx.store rising plain.at tx.at (plain.its_id ∙ sym tx.its_id) in
    plain_is_no_tx plain.store.mode plain.its_mode (ap (λ (s : Store). s.mode) same ∙ tx.its_mode)

pub id_within : (state : State) (id : ℕ) (mode : Mode) → AreRising 0 state.number state.stores → HasStore state id mode → id ≤ state.number
id_within state id mode rising has =
    subst (λ (n : ℕ). n ≤ state.number) has.its_id (rising_at 0 state.number state.stores has.place has.store rising has.at).1

-- ---- a store of an old id stood before an event too

stood_before : (state : State) (event : Event) (id : ℕ) (mode : Mode) → id ≤ state.number → HasStore (happened state event) id mode → HasStore state id mode
stood_before state (commits writes) id mode old has =
    let stores : (applied_all state writes).stores ≡ map (written_all writes) state.stores = λ i. (applied_all-stores state writes i).stores in
    let there : option_map (written_all writes) (slice_get state.stores has.place) ≡ Some has.store =
    sym (slice_get-map (written_all writes) state.stores has.place) ∙ ap (λ (s : List Store). slice_get s has.place) (sym stores) ∙ has.at in
    let before : (store : Store) × (slice_get state.stores has.place ≡ Some store) × (written_all writes store ≡ has.store) =
    get_mapped (written_all writes) (slice_get state.stores has.place) has.store there in
    record {
      place = has.place;
      store = before.0;
      at = before.1;
      its_id = ap (λ (s : Store). s.id) before.2 ∙ has.its_id;
      its_mode = ap (λ (s : Store). s.mode) before.2 ∙ has.its_mode;
    }
stood_before state (creates name own_mode prefix_length) id mode old has =
    by (get_push state.stores (new_store (state.number + 1) name own_mode prefix_length) has.place has.store has.at)
  where
    by : (slice_get state.stores has.place ≡ Some has.store) ⊎ ((has.place ≡ length state.stores) × (has.store ≡ new_store (state.number + 1) name own_mode prefix_length))
        → HasStore state id mode
    by (inl at) = record { place = has.place; store = has.store; at = at; its_id = has.its_id; its_mode = has.its_mode }
    by (inr new) =
        let its : has.store.id ≡ state.number + 1 = ap (λ (s : Store). s.id) new.1 in
        let same : has.store.id ≡ id = has.its_id in
        absurd (omega (arith, old, its, same))
stood_before state (drops gone) id mode old has =
    let at : (j : ℕ) × (slice_get state.stores j ≡ Some has.store) =
    get-filter (λ store. not (store.id == gone)) state.stores has.place has.store has.at in
    record { place = at.0; store = has.store; at = at.1; its_id = has.its_id; its_mode = has.its_mode }

pub stood : (state : State) (events : List Event) (id : ℕ) (mode : Mode) → id ≤ state.number → HasStore (folded state events) id mode → HasStore state id mode
stood state [] id mode old has = has
stood state (event ∷ events) id mode old has =
    let next : (happened state event).number ≡ state.number + 1 = happened-number state event in
    let within : id ≤ (happened state event).number = omega (arith, old, next) in
    stood_before state event id mode old (stood (happened state event) events id mode within has)

-- ids rise in every state
pub folded_rising : (state : State) (events : List Event) → AreRising 0 state.number state.stores
    → AreRising 0 (folded state events).number (folded state events).stores
folded_rising state [] rising = rising
folded_rising state (event ∷ events) rising = folded_rising (happened state event) events (happened_rising state event rising)
