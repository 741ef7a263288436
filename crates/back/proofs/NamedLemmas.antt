-- The store ids that the commits of a log name.
use Rattle.std.proofs.Common.{◌≡◌, ◌≢◌, ℕ, ◌+◌, ◌≤◌, List, ◌++◌, arith}
use Rattle.std.specs.List.{All}
use Rattle.std.proofs.lemmas.List.Elements.{All-append}
use Rattle.hse_fields.specs.LogText.{Change, Entry}
use Rattle.recovery.specs.laws.Names.{each_store_weaker}
use Rattle.wal.specs.Stores.{LacksStore, OfEachStore}

-- where none is above the last number, none is the next one
pub next_unnamed : (last id : ℕ) (entries : List Entry) → id ≡ last + 1 → OfEachStore (λ (store : ℕ). store ≤ last) entries → LacksStore id entries
next_unnamed last id entries next =
    each_store_weaker (λ (store : ℕ). store ≤ last) (λ (store : ℕ). store ≢ id) (λ store lower same. omega (arith, lower, same, next)) entries

-- of more commits
pub known_both : (bound : ℕ) (old new : List Entry) → OfEachStore (λ (store : ℕ). store ≤ bound) old → OfEachStore (λ (store : ℕ). store ≤ bound) new
    → OfEachStore (λ (store : ℕ). store ≤ bound) (old ++ new)
known_both bound old new = All-append (λ (e : Entry). All (λ (c : Change). c.store ≤ bound) e.changes) old new
