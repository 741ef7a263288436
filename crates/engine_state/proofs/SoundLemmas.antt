-- What holds in every sound state of the machine.
use Rattle.std.proofs.Common.{◌≡◌, refl, ◌∙◌, sym, ap, arith, ℕ, zero, suc, ◌≤◌, ◌==◌, Bool, true, false, cond, List, [], ◌∷◌, map, slice_get, Some, None}
use Rattle.std.specs.List.{find}
use Rattle.std.specs.Option.{option_map}
use Rattle.hse_rows.specs.declared.row.Row.{Row}
use Rattle.hse_rows.specs.declared.row_set.RowSet.{Ghosts}
use Rattle.hse_rows.specs.writes.NormalForm.{same}
use Rattle.hse_rows.specs.states.State.{Store, State, store_named, store_of}
use Rattle.hse_rows.specs.transactions.Timeline.{HasStore}
use Rattle.hse_rows.specs.machine.Turn.{Turn, home, taken, ran}
use Rattle.hse_rows.specs.machine.Sizes.{Sizes}
use Rattle.hse_rows.specs.machine.Limits.{TurnFits}
use Rattle.hse_rows.specs.machine.Core.{Core, number_of}
use Rattle.hse_rows.specs.laws.Folding.{folded-number}
use Rattle.ingest_tree.specs.declared.store_row.StoreRow.{StoreRow}
use Rattle.view.specs.declared.view_store.ViewStore.{ViewStore}
use Rattle.view.specs.Views.{ViewState}
use Rattle.view.specs.Means.{state_of, store_in}
use Rattle.engine_state.specs.Serves.{IsSound, handed_by, handed, ViewServes}
use Rattle.engine_state.proofs.LiveLemmas.{ArePlaced}

by-turn : (sizes : Sizes) (safe number : ℕ) (turn : Turn) → TurnFits sizes safe number turn → safe ≤ number
    → (safe ≤ handed_by safe turn) × (handed_by safe turn ≤ number)
by-turn sizes safe number home fits low = (omega arith, low)
by-turn sizes safe number (taken turn) fits low = (fits.0, fits.1)
by-turn sizes safe number (ran turn has_failed) fits low = (fits.0, fits.1)

pub handed-low : (m : Core) → IsSound m → m.timeline.base.number ≤ handed m
handed-low m sound =
    let both = by-turn m.sizes m.safe (number_of m) m.turn sound.limits.turn sound.limits.until_now in
    omega (arith, both.0, sound.limits.since_base)

pub handed-high : (m : Core) → IsSound m → handed m ≤ number_of m
handed-high m sound = (by-turn m.sizes m.safe (number_of m) m.turn sound.limits.turn sound.limits.until_now).1

pub placed : (m : Core) → IsSound m → ArePlaced 0 m.timeline.begun
placed m sound i transaction at =
    let e : transaction.begun ≡ i = (sound.stands.isolated.each i transaction at).placed in
    omega (arith, e)

module _ {R : Type 0} (g : Ghosts R) where
  abbrev rows : R → List Row
  rows = g.rows

  pub view-number : (view : ViewState R) (m : Core) → ViewServes g view m → view.number ≡ number_of m
  view-number view m v = ap (λ (s : State). s.number) v.state ∙ folded-number m.timeline.base m.timeline.history

  named-map : (layers : List (List StoreRow)) (name : List ℕ) (stores : List (ViewStore R))
      → find (λ (s : Store). same s.name name) (map (store_in rows layers) stores)
      ≡ option_map (store_in rows layers) (find (λ (s : ViewStore R). same s.name name) stores)
  named-map layers name [] = refl
  named-map layers name (store ∷ stores) =
      elim (same store.name name)
      as (λ b. cond b (Some (store_in rows layers store)) (find (λ (s : Store). same s.name name) (map (store_in rows layers) stores))
      ≡ option_map (store_in rows layers) (cond b (Some store) (find (λ (s : ViewStore R). same s.name name) stores)))
      [ true ↦ refl | false ↦ named-map layers name stores ]

  ids-map : (layers : List (List StoreRow)) (id : ℕ) (stores : List (ViewStore R))
      → find (λ (s : Store). s.id == id) (map (store_in rows layers) stores)
      ≡ option_map (store_in rows layers) (find (λ (s : ViewStore R). s.id.0 == id) stores)
  ids-map layers id [] = refl
  ids-map layers id (store ∷ stores) =
      elim (store.id.0 == id)
      as (λ b. cond b (Some (store_in rows layers store)) (find (λ (s : Store). s.id == id) (map (store_in rows layers) stores))
      ≡ option_map (store_in rows layers) (cond b (Some store) (find (λ (s : ViewStore R). s.id.0 == id) stores)))
      [ true ↦ refl | false ↦ ids-map layers id stores ]

  -- the store of a name, in the view and in the state that it means
  pub named-in : (view : ViewState R) (state : State) → state_of rows view ≡ state → (name : List ℕ)
      → store_named state name ≡ option_map (store_in rows view.layers) (find (λ (s : ViewStore R). same s.name name) view.stores)
  named-in view state is name = ap (λ (s : State). store_named s name) (sym is) ∙ named-map view.layers name view.stores

  pub id-in : (view : ViewState R) (state : State) → state_of rows view ≡ state → (id : ℕ)
      → store_of state id ≡ option_map (store_in rows view.layers) (find (λ (s : ViewStore R). s.id.0 == id) view.stores)
  id-in view state is id = ap (λ (s : State). store_of s id) (sym is) ∙ ids-map view.layers id view.stores

-- a store that is found stands somewhere
found-at : (name : List ℕ) (stores : List Store) (store : Store) → find (λ (s : Store). same s.name name) stores ≡ Some store
    → (place : ℕ) × (slice_get stores place ≡ Some store)
found-at name [] store is = absurd (let e : None ≡ Some store = is in cc)
found-at name (one ∷ stores) store is = by (same one.name name) is (found-at name stores store)
  where
    by : (b : Bool) → cond b (Some one) (find (λ (s : Store). same s.name name) stores) ≡ Some store
        → (find (λ (s : Store). same s.name name) stores ≡ Some store → (place : ℕ) × (slice_get stores place ≡ Some store))
        → (place : ℕ) × (slice_get (one ∷ stores) place ≡ Some store)
    by true is more = (zero, is)
    by false is more = let rest = more is in (suc rest.0, rest.1)

pub has-store : (state : State) (name : List ℕ) (store : Store) → store_named state name ≡ Some store → HasStore state store.id store.mode
has-store state name store is =
    let at = found-at name state.stores store is in
    record { place = at.0; store = store; at = at.1; its_id = refl; its_mode = refl }
