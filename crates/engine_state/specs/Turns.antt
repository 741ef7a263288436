-- What a turn takes of what waits.
use Rattle.std.specs.Prelude.{◌≡◌, ℕ, List, [], Option, Some, None, Result, Ok, Err}
use Rattle.hse_fields.specs.LogText.{payload_text}
use Rattle.hse_rows.specs.declared.row_set.RowSet.{Ghosts}
use Rattle.hse_rows.specs.transactions.Timeline.{Timeline}
use Rattle.hse_rows.specs.machine.Core.{Core, number_of}
use Rattle.hse_io.specs.declared.line.NoMemory.{NoMemory}
use Rattle.engine_state.specs.declared.state.EngineState.{EngineState}
use Rattle.engine_state.specs.Serves.{commits_above, entries_of, ServesAbove}

-- the batch of the commits above a number, where there are any
abbrev pub IsBatch : Timeline → ℕ → Option (List ℕ) → Type 0
IsBatch m handed None = commits_above m handed ≡ []
IsBatch m handed (Some batch) = (commits_above m handed ≡ [] → ⊥) × (batch ≡ payload_text (entries_of (commits_above m handed)))

module _ {R : Type 0} (g : Ghosts R) where
  -- All commits are handed over then; out of memory, none more than before.
  abbrev pub Hands : Core → ℕ → Result (Option (List ℕ)) NoMemory → EngineState R g → Type 0
  Hands m handed (Ok batch) new = IsBatch m.timeline handed batch × ServesAbove g new m (number_of m)
  Hands m handed (Err fault) new = ServesAbove g new m handed
