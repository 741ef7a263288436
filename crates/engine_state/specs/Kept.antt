-- What an engine keeps beside its device, and one commit more.
use Rattle.std.specs.Prelude.{◌≡◌, ℕ, ◌+◌, ◌-◌, ◌≤◌, List, [], ◌∷◌}
use Rattle.hse_rows.specs.declared.row_set.RowSet.{Ghosts}
use Rattle.hse_rows.specs.declared.write.Write.{Write}
use Rattle.hse_rows.specs.writes.Charge.{charge_of}
use Rattle.hse_rows.specs.machine.Log as machine
use Rattle.view.specs.Commits.{committed}
use Rattle.wal.specs.Logged.{entry_with}
use Rattle.wal.specs.Waits.{with_entry}
use Rattle.engine_state.specs.declared.live.LiveTxn.{LiveTxn}
use Rattle.engine_state.specs.declared.state.EngineState.{EngineState}

-- begin orders rise, from this one on
abbrev pub AreInOrder : ℕ → List LiveTxn → Type 0
AreInOrder low [] = Unit {0}
AreInOrder low (txn ∷ later) = (low ≤ txn.order) × AreInOrder (txn.order + 1) later

-- the snapshot of the first of these, and else the last number
abbrev pub least_of : ℕ → List LiveTxn → ℕ
least_of number [] = number
least_of number (txn ∷ later) = txn.snapshot

-- what a segment has room for, and what the active one has left
abbrev pub room_of : {R : Type 0} {g : Ghosts R} → EngineState R g → ℕ
room_of state = machine.room_of state.sizes.segment_size

abbrev pub left_of : {R : Type 0} {g : Ghosts R} → EngineState R g → ℕ
left_of state = room_of state - state.charge

-- One commit more: its rows in the active layer, its entry behind those that wait, and its charge.
pub record IsLogged {R : Type 0} {g : Ghosts R} (old : EngineState R g) (writes : List Write) (new : EngineState R g) : Type 0 where
  pub view : new.view ≡ committed old.view writes
  pub charge : new.charge ≡ old.charge + charge_of writes
  pub waiting : new.waiting ≡ with_entry old.waiting (entry_with (old.view.number + 1) writes)
  pub locks : new.locks ≡ old.locks
  pub live : new.live ≡ old.live
  pub begins : new.begins ≡ old.begins
  pub safe : new.safe ≡ old.safe
  pub is_broken : new.is_broken ≡ old.is_broken
  pub cursors : new.cursors ≡ old.cursors
  pub sizes : new.sizes ≡ old.sizes

-- All is as it was.
pub record IsSame {R : Type 0} {g : Ghosts R} (old new : EngineState R g) : Type 0 where
  pub view : new.view ≡ old.view
  pub locks : new.locks ≡ old.locks
  pub live : new.live ≡ old.live
  pub begins : new.begins ≡ old.begins
  pub charge : new.charge ≡ old.charge
  pub waiting : new.waiting ≡ old.waiting
  pub safe : new.safe ≡ old.safe
  pub is_broken : new.is_broken ≡ old.is_broken
  pub cursors : new.cursors ≡ old.cursors
  pub sizes : new.sizes ≡ old.sizes
