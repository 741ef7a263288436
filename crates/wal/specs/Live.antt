-- Which lengths the prefix deletes of a store may have.
use Rattle.std.specs.Prelude.{ℕ, List, [], ◌∷◌, Bool, true, ◌==◌, nat_le, if◌then◌else◌}
use Rattle.wal.specs.declared.live.StorePrefix.{StorePrefix}

-- A live store's are at most as long as its prefix; a store that is not listed is not live, and its may have any length.
abbrev pub prefix_fits : List StorePrefix → ℕ → ℕ → Bool
prefix_fits [] store size = true
prefix_fits (p ∷ ps) store size = if p.store.0 == store then nat_le size p.length else prefix_fits ps store size
