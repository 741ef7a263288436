use Rattle.std.specs.Prelude.{nat_le}
use Rattle.std.proofs.Common.{◌≡◌, ◌≤◌, sym, ap, ◌∙◌}
use Rattle.std.proofs.lemmas.Bool.{false≢true, le-leb}
use Rattle.engine_state.proofs.WriteLemmas.{remembered}
use Rattle.engine_state.proofs.state.EngineState.write.Goals as goal

pub returns-then-not-remembers-clause-step : goal.returns-then-not-remembers-clause-step
returns-then-not-remembers-clause-step g c m transaction sound s of =
    let low : c.args.self.now.locks.least ≤ c.args.txn.now.view.number =
    remembered g.R.RowSet c.args.self.now m c.args.txn.now transaction s of (sym c.state.ensures ∙ c.in-Active.is) in
    absurd (false≢true (sym c.if-not-remembers.true ∙ c.remembers.ensures
    ∙ ap (nat_le c.args.self.now.locks.least) c.snapshot.ensures ∙ le-leb _ _ low))
