-- What a transaction is to its callers, and the state that it reads.
use Rattle.std.specs.Prelude.{◌≡◌, ℕ, ◌<◌, ◌≤◌, List, [], ◌++◌, Option, Some, None}
use Rattle.std.specs.List.{AllByRecursion}
use Rattle.hse_rows.specs.declared.row.Row.{Row}
use Rattle.hse_rows.specs.declared.write.Write.{Write}
use Rattle.hse_rows.specs.rows.Meaning.{contents_of}
use Rattle.hse_rows.specs.states.State.{State, contents_after_all, applied_all}
use Rattle.ingest_tree.specs.declared.store_row.StoreRow.{StoreRow}
use Rattle.ingest_tree.specs.Rows.{AreRising, rows_in}
use Rattle.view.specs.declared.get_fault.TxnState.{TxnState}
use Rattle.view.specs.declared.get_fault.TxnState.TheVariants.{Active}
use Rattle.view.specs.Views.{ViewState}
use Rattle.view.specs.Means.{state_of}

pub record TxnKept (R : Type 0) : Type 0 where
  -- its begin order
  pub id : ℕ
  pub state : TxnState
  -- its snapshot
  pub view : ViewState R
  -- its writes in normal form
  pub writes : List Write
  -- the same as rows
  pub own : Option (List StoreRow)
  -- the number of the last of them, or that of the snapshot
  pub last : ℕ

-- own writes with one more
pub record StagedState : Type 0 where
  pub writes : List Write
  pub own : List StoreRow
  pub last : ℕ

abbrev pub own_rows : Option (List StoreRow) → List StoreRow
own_rows None = []
own_rows (Some own) = own

-- a new transaction over a snapshot
abbrev pub begins : {R : Type 0} → ℕ → ViewState R → TxnKept R
begins id view = record { id = id; state = Active; view = view; writes = []; own = None; last = view.number }

abbrev pub with_staged : {R : Type 0} → TxnKept R → StagedState → TxnKept R
with_staged txn staged = record {
  id = txn.id;
  state = txn.state;
  view = txn.view;
  writes = staged.writes;
  own = Some staged.own;
  last = staged.last;
}

abbrev pub with_state : {R : Type 0} → TxnKept R → TxnState → TxnKept R
with_state txn state = record {
  id = txn.id;
  state = state;
  view = txn.view;
  writes = txn.writes;
  own = txn.own;
  last = txn.last;
}

-- What a transaction reads: its snapshot with its writes.
abbrev pub reads : {R : Type 0} → (R → List Row) → TxnKept R → State
reads rows txn = applied_all (state_of rows txn.view) txn.writes

-- own rows in front of rows that are not newer than a number mean what those mean, with the writes
abbrev pub MeansWrites : ℕ → List StoreRow → List Write → Type 0
MeansWrites number own writes =
    (id : ℕ) (rows : List Row) → AllByRecursion (λ (row : Row). row.number ≤ number) rows
    → contents_of (rows_in id own ++ rows) ≡ contents_after_all id (contents_of rows) writes

-- there are own rows exactly where there are writes
abbrev pub HasOwn : Option (List StoreRow) → List Write → Type 0
HasOwn None writes = writes ≡ []
HasOwn (Some own) writes = writes ≡ [] → ⊥

pub record IsTxn {R : Type 0} (txn : TxnKept R) : Type 0 where
  pub has : HasOwn txn.own txn.writes
  pub rising : AreRising (own_rows txn.own)
  pub low : txn.view.number ≤ txn.last
  -- each own row is newer than the snapshot
  pub newer : AllByRecursion (λ (row : StoreRow). txn.view.number < row.row.number) (own_rows txn.own)
  pub within : AllByRecursion (λ (row : StoreRow). row.row.number ≤ txn.last) (own_rows txn.own)
  pub means : MeansWrites txn.view.number (own_rows txn.own) txn.writes
