-- What stands of a life between what is safe and the last number: which commits wait in the log, which creation or drop is out
-- with a turn, and that the log can spell what waits.
use Rattle.std.specs.Prelude.{◌≡◌, ℕ, ◌+◌, ◌≤◌, false, List, ◌++◌, length}
use Rattle.std.specs.List.{AllByRecursion}
use Rattle.std.specs.List.Sorted.{IsStrictlySortedBy}
use Rattle.hse_rows.specs.declared.change.Change.{Change}
use Rattle.hse_rows.specs.declared.change.Change.TheVariants.{Put, Del, PDel}
use Rattle.hse_rows.specs.declared.write.Write.{Write}
use Rattle.hse_rows.specs.writes.Change.{FitsLimits}
use Rattle.hse_rows.specs.writes.Lengths.{longest_prefix}
use Rattle.hse_rows.specs.writes.NormalForm.{write_cmp}
use Rattle.hse_rows.specs.states.State.{Store}
use Rattle.hse_rows.specs.states.History.{Event, events_since}
use Rattle.hse_rows.specs.states.Rooted.{AreUpTo}
use Rattle.hse_rows.specs.transactions.Transaction.{Transaction}
use Rattle.hse_rows.specs.machine.Log.{Numbered}
use Rattle.hse_rows.specs.machine.Sizes.{Sizes}
use Rattle.hse_rows.specs.machine.Core.{Core, now, live, longest_value, greatest_number}
use Rattle.hse_rows.specs.machine.Recorded.{commits_in, taken_in, due, CommitsUpTo}
use Rattle.engine_state.specs.Serves.{handed}

-- the events above what is safe
abbrev pub unsafe_events : Core → List Event
unsafe_events m = events_since m.timeline.base m.timeline.history m.safe

-- ---- what the log can spell

abbrev pub ValueFits : Sizes → Change → Type 0
ValueFits sizes (Put key bytes) = length bytes ≤ longest_value sizes
ValueFits sizes (Del key) = Unit {0}
ValueFits sizes (PDel prefix) = Unit {0}

abbrev pub PrefixFits : Store → Change → Type 0
PrefixFits store (Put key bytes) = Unit {0}
PrefixFits store (Del key) = Unit {0}
PrefixFits store (PDel prefix) = length prefix ≤ store.prefix_length

-- A write's names and value are within their limits, and of a store that is live a prefix is no longer than its prefixes.
pub record CanBeLogged (sizes : Sizes) (stores : List Store) (write : Write) : Type 0 where
  pub store : write.store.0 ≤ greatest_number
  pub limits : FitsLimits write.change
  pub value_fits : ValueFits sizes write.change
  pub prefixes : AllByRecursion (λ (store : Store). store.id ≡ write.store.0 → PrefixFits store write.change) stores

-- A commit has a write, and its writes are in the order of a normal form.
pub record IsLoggable (sizes : Sizes) (stores : List Store) (commit : Numbered) : Type 0 where
  pub some : 1 ≤ length commit.writes
  pub in_order : IsStrictlySortedBy write_cmp commit.writes
  pub writes : AllByRecursion (CanBeLogged sizes stores) commit.writes

abbrev pub AllCanBeLogged : Core → List Write → Type 0
AllCanBeLogged m writes = AllByRecursion (CanBeLogged m.sizes (now m).stores) writes

-- a store with an id up to this number, and with prefixes as long as may be
pub record IsKnown (most : ℕ) (store : Store) : Type 0 where
  pub id : store.id ≤ most
  pub short : store.prefix_length ≤ longest_prefix

-- the writes of these commits are of stores with ids up to this number
abbrev pub CommitsName : ℕ → List Numbered → Type 0
CommitsName most these = AllByRecursion (λ (commit : Numbered). AreUpTo most commit.writes) these

abbrev pub TransactionsName : ℕ → List Transaction → Type 0
TransactionsName most these = AllByRecursion (λ (transaction : Transaction). AreUpTo most transaction.writes) these

-- ---- what waits

-- The log's active commits are those that are safe and then those above; no creation or drop is above what is safe but that
-- whose turn is out; and what waits, and what live transactions wrote, can be logged. No store that is live, or that they name,
-- was created after what is handed to the device.
pub record IsPending (m : Core) : Type 0 where
  pub settled : List Numbered
  pub below : CommitsUpTo m.safe settled
  pub active : m.log.active ≡ settled ++ commits_in (m.safe + 1) (unsafe_events m)
  pub due : m.is_broken ≡ false → taken_in (m.safe + 1) (unsafe_events m) ≡ due m.turn
  pub waiting : AllByRecursion (IsLoggable m.sizes (now m).stores) (commits_in (m.safe + 1) (unsafe_events m))
  pub written : AllByRecursion (λ (transaction : Transaction). AllCanBeLogged m transaction.writes) (live m)
  -- the greatest store id that may be live or be named
  pub named : ℕ
  pub known : m.is_broken ≡ false → named ≤ handed m
  pub stores : AllByRecursion (IsKnown named) (now m).stores
  pub waiting_named : CommitsName named (commits_in (m.safe + 1) (unsafe_events m))
  pub written_named : TransactionsName named (live m)
