-- The machine's transaction that a transaction stands for.
use Rattle.std.proofs.Common.{◌≡◌, List, [], refl, ◌∙◌}
use Rattle.hse_rows.specs.declared.row.Row.{Row}
use Rattle.hse_rows.specs.writes.NormalForm.{normal_form}
use Rattle.hse_rows.specs.states.State.{applied_all}
use Rattle.hse_rows.specs.states.History.{fold}
use Rattle.hse_rows.specs.laws.Laws.{NormalFormsDoTheSame}
use Rattle.transactions.specs.Stands.{ReadsAreRead, NewStandForNew, StagesStand, EndsStand}

none-normal : [] ≡ normal_form []
unfolding normal_form
none-normal = refl

module _ (R : Type 0) (rows : R → List Row) where
  pub reads-read : NormalFormsDoTheSame → ReadsAreRead R rows
  reads-read law base events kept transaction stands =
      (λ i. applied_all (stands.view i) (stands.writes i))
      ∙ law (fold base events transaction.snapshot) transaction.writes

  pub new-stand : NewStandForNew R rows
  new-stand base events view id is = record { begun = refl; snapshot = refl; state = refl; view = is; writes = none-normal }

  pub stages-stand : StagesStand R rows
  stages-stand base events kept transaction write more stands stage = record {
    begun = stands.begun;
    snapshot = stands.snapshot;
    state = stands.state;
    view = stands.view;
    writes = stage.continues.all transaction.writes stands.writes;
  }

  pub ends-stand : EndsStand R rows
  ends-stand base events kept transaction state stands = record {
    begun = stands.begun;
    snapshot = stands.snapshot;
    state = refl;
    view = stands.view;
    writes = stands.writes;
  }
