-- Which keys a change reaches, and what it leaves there.
use Rattle.std.specs.Prelude.{ℕ, ◌==◌, Bool, ◌&&◌, List, Option, Some, None}
use Rattle.hse_rows.specs.declared.change.Change.{Change}
use Rattle.hse_rows.specs.declared.change.Change.TheVariants.{Put, Del, PDel}
use Rattle.hse_rows.specs.declared.write.Write.{Write}
use Rattle.hse_rows.specs.writes.NormalForm.{hides_key}
use Rattle.hse_rows.specs.laws.LastEffect.{last_effect}

-- A change reaches the keys whose earlier changes it hides: a put and a del their own key, a prefix delete the keys
-- that its prefix covers.
abbrev pub reaches : Change → List ℕ → Bool
reaches = hides_key

-- A put leaves its value at the keys that it reaches, a deletion nothing.
abbrev pub leaves : Change → Option (List ℕ)
leaves (Put key bytes) = Some bytes
leaves (Del key) = None
leaves (PDel prefix) = None

-- the write reaches this key of the store of this id
abbrev pub touches : ℕ → List ℕ → Write → Bool
touches id key write = (write.store.0 == id) && reaches write.change key

-- what these writes, in order, leave at this key of the store of this id, which held this
abbrev pub left_by : ℕ → List ℕ → Option (List ℕ) → List Write → Option (List ℕ)
left_by id key = last_effect (touches id key) (λ write. leaves write.change)
