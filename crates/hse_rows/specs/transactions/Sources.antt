-- Where the commits of a history come from: each is of a transaction, or one write of a `plain` store.
use Rattle.std.specs.Prelude.{◌≡◌, ℕ, ◌+◌, ◌<◌, ◌≤◌, true, List, [], ◌∷◌, take, slice_get, Some, ◌⊎◌}
use Rattle.hse_rows.specs.declared.store.Mode.TheVariants.{Plain, Tx}
use Rattle.hse_rows.specs.declared.write.Write.{Write}
use Rattle.hse_rows.specs.writes.NormalForm.{normal_form}
use Rattle.hse_rows.specs.states.State.{State, AreRising}
use Rattle.hse_rows.specs.states.History.{commits, folded}
use Rattle.hse_rows.specs.states.Rooted.{AreRooted}
use Rattle.hse_rows.specs.transactions.Moves.{Move}
use Rattle.hse_rows.specs.writes.Overlap.{overlaps_some}
use Rattle.hse_rows.specs.transactions.Transaction.{committed, Transaction}
use Rattle.hse_rows.specs.transactions.Timeline.{Timeline, transaction_of, snapshot_of, HasStore, Allows, moved, Goes}
use Rattle.hse_rows.specs.transactions.Isolation.{event_of, IsIsolated}

-- these writes are those of the transaction that committed with this number
pub record IsOfTransaction (m : Timeline) (number : ℕ) (writes : List Write) : Type 0 where
  pub order : ℕ
  pub transaction : Transaction
  pub at : transaction_of m order ≡ Some transaction
  pub did : transaction.state ≡ committed number
  pub form : writes ≡ normal_form transaction.writes

-- these writes are one write of a `plain` store that was live in the state before
pub record IsPlainWrite (before : State) (writes : List Write) : Type 0 where
  pub write : Write
  pub form : writes ≡ normal_form (write ∷ [])
  pub has : HasStore before write.store.0 Plain

-- each commit of the history, by its place there
abbrev pub IsSourced : Timeline → Type 0
IsSourced m =
    (place : ℕ) (writes : List Write) → slice_get m.history place ≡ Some (commits writes)
    → IsOfTransaction m (m.base.number + (place + 1)) writes
    ⊎ IsPlainWrite (folded m.base (take place m.history)) writes

abbrev pub MovesKeepSources : Type 0
MovesKeepSources = (old new : Timeline) → Goes old new → IsSourced old → IsSourced new

-- A commit since the snapshot that overlaps a write of a `tx` store of the snapshot is a transaction's.
abbrev pub ConflictsAreOfTransactions : Type 0
ConflictsAreOfTransactions =
    (m : Timeline) → AreRising 0 m.base.number m.base.stores → IsSourced m
    → (transaction : Transaction) (write : Write) → m.base.number ≤ transaction.snapshot
    → HasStore (snapshot_of m transaction) write.store.0 Tx
    → (number : ℕ) (writes : List Write) → transaction.snapshot < number
    → event_of m.base m.history number ≡ Some (commits writes) → overlaps_some write writes ≡ true
    → IsOfTransaction m number writes

-- Moves keep commits to stores that were created before.
abbrev pub MovesKeepRoots : Type 0
MovesKeepRoots =
    (m : Timeline) → AreRising 0 m.base.number m.base.stores → IsIsolated m → AreRooted m.base.number m.history
    → (move : Move) → Allows m move → AreRooted (moved m move).base.number (moved m move).history
