-- A write outside of transactions, in two parts of the table of its refusals.
use Rattle.std.specs.Prelude.{◌≡◌, ℕ, ◌+◌, [], ◌∷◌, Option, None, Result, Ok, Err}
use Rattle.hse_rows.specs.declared.row_set.RowSet.{Ghosts}
use Rattle.hse_rows.specs.declared.store.Mode.TheVariants.{Plain}
use Rattle.hse_rows.specs.declared.change.Change.{Change}
use Rattle.hse_rows.specs.writes.NormalForm.{normal_form}
use Rattle.hse_rows.specs.writes.Charge.{charge_of}
use Rattle.hse_rows.specs.states.State.{Store}
use Rattle.hse_rows.specs.transactions.Timeline.{HasStore}
use Rattle.hse_rows.specs.machine.Replies.{Refusal, store_mode, broken, spent}
use Rattle.hse_rows.specs.machine.Core.{Core, now, number_of, write_to}
use Rattle.hse_rows.specs.machine.CoreRefusal.{refuse, is_tx, is_spent, change_refusal, size_refusal, room_refusal}
use Rattle.hse_rows.specs.machine.CoreDone.{committing_write}
use Rattle.engine_state.specs.declared.faults.WriteFault.{WriteFault}
use Rattle.engine_state.specs.declared.state.EngineState.{EngineState}
use Rattle.engine_state.specs.Serves.{Serves}
use Rattle.engine_state.specs.Says.{SaysWrite}

-- what is asked of the store, of the change and of the engine
abbrev pub plain_front : Core → Change → Store → Option (Refusal ℕ) → Option (Refusal ℕ)
plain_front m change store later =
    refuse (is_tx store.mode) store_mode
    (change_refusal m.sizes store change
    (refuse m.is_broken broken
    (refuse (is_spent m) spent later)))

-- and then of the log
abbrev pub plain_room : Core → Change → Store → Option (Refusal ℕ)
plain_room m change store =
    size_refusal m (charge_of (normal_form (write_to store change ∷ [])))
    (room_refusal m (charge_of (normal_form (write_to store change ∷ []))))

module _ {R : Type 0} (g : Ghosts R) where
  abbrev pub IsLoggedWrite : Core → Change → Store → Result ℕ WriteFault → EngineState R g → Type 0
  IsLoggedWrite m change store (Ok number) new =
      (plain_room m change store ≡ None) × (number ≡ number_of m + 1)
      × (HasStore (now m) store.id Plain → Serves g new (committing_write m (write_to store change)))
  IsLoggedWrite m change store (Err fault) new = SaysWrite fault (plain_room m change store) × Serves g new m
