-- Snapshot isolation: what stands in every state that moves lead to.
use Rattle.std.specs.Prelude.{◌≡◌, ◌≢◌, ℕ, ◌+◌, ◌-◌, ◌<◌, ◌≤◌, Bool, false, List, [], slice_get, Option, Some}
use Rattle.std.specs.List.{list_any, AllByRecursion}
use Rattle.hse_rows.specs.declared.store.Mode.TheVariants.{Tx}
use Rattle.hse_rows.specs.declared.write.Write.{Write}
use Rattle.hse_rows.specs.writes.NormalForm.{normal_form}
use Rattle.hse_rows.specs.states.State.{State}
use Rattle.hse_rows.specs.states.History.{Event, commits, fold, last_number}
use Rattle.hse_rows.specs.writes.Overlap.{overlaps_some}
use Rattle.hse_rows.specs.transactions.Transaction.{TransactionState, active, committed, aborted, Transaction}
use Rattle.hse_rows.specs.transactions.Timeline.{Timeline, opened, transaction_of, HasStore, Goes}

-- some of these writes overlaps some of those
abbrev pub overlap_any : List Write → List Write → Bool
overlap_any ones others = list_any (λ write. overlaps_some write others) ones

-- the event of this number, above the base's
abbrev pub event_of : State → List Event → ℕ → Option Event
event_of base events number = slice_get events (number - (base.number + 1))

-- The commit of a transaction with writes is the event of its number.
abbrev pub IsCommitted : State → List Event → List Write → TransactionState → Type 0
IsCommitted base events writes active = Unit {0}
IsCommitted base events writes aborted = Unit {0}
IsCommitted base events writes (committed number) =
    writes ≢ []
    → (base.number < number) × (event_of base events number ≡ Some (commits (normal_form writes)))

-- a transaction at the place of its begin order
pub record IsTransaction (base : State) (events : List Event) (order : ℕ) (transaction : Transaction) : Type 0 where
  pub placed : transaction.begun ≡ order
  pub since_base : base.number ≤ transaction.snapshot
  pub until_now : transaction.snapshot ≤ last_number base events
  pub recorded : IsCommitted base events transaction.writes transaction.state
  -- it writes to `tx` stores of its snapshot
  pub of_tx :
      AllByRecursion (λ write. HasStore (fold base events transaction.snapshot) write.store.0 Tx) transaction.writes

-- A snapshot is below the number of a commit, which was or may come.
abbrev pub IsBeforeCommit : ℕ → TransactionState → Type 0
IsBeforeCommit snapshot active = Unit {0}
IsBeforeCommit snapshot (committed number) = snapshot < number
IsBeforeCommit snapshot aborted = ⊥

-- Where each began before the other's commit, no write of one overlaps one of the other.
abbrev pub AreApart : Transaction → Transaction → Type 0
AreApart one other =
    IsBeforeCommit one.snapshot other.state → IsBeforeCommit other.snapshot one.state
    → overlap_any one.writes other.writes ≡ false

pub record IsIsolated (m : Timeline) : Type 0 where
  pub each :
      (order : ℕ) (transaction : Transaction) → transaction_of m order ≡ Some transaction
      → IsTransaction m.base m.history order transaction
  pub apart :
      (i j : ℕ) (one other : Transaction) → i ≢ j → transaction_of m i ≡ Some one → transaction_of m j ≡ Some other
      → AreApart one other

-- No two transactions that each began before the other's commit both committed overlapping writes.
abbrev pub AreIsolated : Timeline → Type 0
AreIsolated m =
    (i j : ℕ) (one other : Transaction) → i ≢ j → transaction_of m i ≡ Some one → transaction_of m j ≡ Some other
    → (first second : ℕ) → one.state ≡ committed first → other.state ≡ committed second
    → one.snapshot < second → other.snapshot < first
    → overlap_any one.writes other.writes ≡ false

-- Moves keep it.
abbrev pub MovesKeepIsolated : Type 0
MovesKeepIsolated = (old new : Timeline) → Goes old new → IsIsolated old → IsIsolated new

-- a timeline that was opened and went on
pub data Reached : Timeline → Type 0 where
  starts : (base : State) → Reached (opened base)
  goes_on : (old new : Timeline) → Reached old → Goes old new → Reached new

-- In each of these, no two transactions that each began before the other's commit both committed overlapping writes.
abbrev pub SnapshotsAreIsolated : Type 0
SnapshotsAreIsolated = (m : Timeline) → Reached m → AreIsolated m
