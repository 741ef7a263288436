-- What holds of each store id that entries name.
use Rattle.std.specs.Prelude.{ℕ, ◌≤◌, List}
use Rattle.std.specs.List.{All}
use Rattle.std.proofs.Common.{arith}
use Rattle.std.proofs.lemmas.List.Elements.{All-weaker}
use Rattle.hse_fields.specs.LogText.{Change, Entry}
use Rattle.wal.specs.Stores.{OfEachStore}

pub each_store_weaker : (P Q : ℕ → Type 0) → ((store : ℕ) → P store → Q store) → (entries : List Entry) → OfEachStore P entries → OfEachStore Q entries
each_store_weaker P Q more entries all =
    All-weaker (λ (e : Entry). All (λ (c : Change). P c.store) e.changes) (λ (e : Entry). All (λ (c : Change). Q c.store) e.changes)
    (λ e names. All-weaker (λ (c : Change). P c.store) (λ (c : Change). Q c.store) (λ c. more c.store) e.changes names) entries all

-- a greater bound
pub named_below : (low high : ℕ) (entries : List Entry) → low ≤ high → OfEachStore (λ (store : ℕ). store ≤ low) entries
    → OfEachStore (λ (store : ℕ). store ≤ high) entries
named_below low high entries le =
    each_store_weaker (λ (store : ℕ). store ≤ low) (λ (store : ℕ). store ≤ high) (λ store lower. omega (arith, lower, le)) entries
