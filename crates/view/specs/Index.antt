-- The places of stores by name.
use Rattle.std.specs.Prelude.{◌≡◌, ℕ, ◌+◌, cond, List, [], ◌∷◌, Option, Some, None}
use Rattle.std.specs.BTreeMap.{BTreeMap, get}
use Rattle.std.specs.Option.{option_map}
use Rattle.std.specs.declared.cmp.Ordering.{Ordering}
use Rattle.hse_rows.specs.contracts.name.StoreNameOrd.TheImpl as name_ord
use Rattle.hse_rows.specs.writes.NormalForm.{same}
use Rattle.view.specs.declared.view_store.ViewStore.{ViewStore}

-- the order of names
abbrev pub name_cmp : List ℕ → List ℕ → Ordering
name_cmp = (name_ord.ghosts).cmp

-- where the first store of a name stands
abbrev pub place_named : {R : Type 0} → List ℕ → List (ViewStore R) → Option ℕ
place_named name [] = None
place_named name (store ∷ stores) = cond (same store.name name) (Some 0) (option_map (λ at. at + 1) (place_named name stores))

abbrev pub IsIndex : {R : Type 0} → List (ViewStore R) → BTreeMap (List ℕ) ℕ → Type 0
IsIndex stores index = (name : List ℕ) → get name_cmp index name ≡ place_named name stores
