-- One write more, and what a read in a transaction is refused for.
use Rattle.std.specs.Prelude.{◌≡◌, ℕ, ◌+◌, List, [], ◌∷◌, ◌++◌}
use Rattle.hse_rows.specs.declared.row.Row.{Row}
use Rattle.hse_rows.specs.declared.write.Write.{Write}
use Rattle.hse_rows.specs.writes.NormalForm.{normal_form, Continues}
use Rattle.ingest_tree.specs.Rows.{store_row, row_numbered, rows_with}
use Rattle.view.specs.declared.get_fault.GetFault.{GetFault}
use Rattle.view.specs.declared.get_fault.GetFault.TheVariants.{NotActive, NoStore, KeyLength}
use Rattle.view.specs.declared.get_fault.TxnState.TheVariants.{Active}
use Rattle.view.specs.Gets.{RefusesGet}
use Rattle.transactions.specs.Txns.{TxnKept, StagedState, own_rows, reads}

-- Staged from a transaction as it is: its writes with one more behind them, and a newer row of it.
pub record IsStage {R : Type 0} (txn : TxnKept R) (write : Write) (staged : StagedState) : Type 0 where
  pub writes : staged.writes ≡ normal_form (txn.writes ++ write ∷ [])
  pub continues : Continues txn.writes write staged.writes
  pub last : staged.last ≡ txn.last + 1
  pub own : staged.own ≡ rows_with (own_rows txn.own) (store_row write.store (row_numbered staged.last write.change))

pub record WasStaged {R : Type 0} (txn : TxnKept R) (staged : StagedState) : Type 0 where
  pub write : Write
  pub is : IsStage txn write staged

-- when a get in a transaction is refused, by its fault
abbrev pub RefusesRead : {R : Type 0} → (R → List Row) → TxnKept R → List ℕ → List ℕ → GetFault → Type 0
RefusesRead rows txn name key (NotActive ended) = (ended ≡ txn.state) × (txn.state ≡ Active → ⊥)
RefusesRead rows txn name key NoStore = (txn.state ≡ Active) × RefusesGet (reads rows txn) name key NoStore
RefusesRead rows txn name key (KeyLength given) = (txn.state ≡ Active) × RefusesGet (reads rows txn) name key (KeyLength given)
