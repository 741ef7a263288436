use Rattle.std.proofs.Common.{sym, ◌∙◌}
use Rattle.engine_state.proofs.TxnLemmas.{is-going, committed-txn}
use Rattle.engine_state.proofs.state.EngineState.commit.Goals as goal

pub returns-in-Active-clause-txn : goal.returns-in-Active-clause-txn
returns-in-Active-clause-txn g c m transaction sound s of =
    let going = is-going transaction.state (sym c.in-Active.is ∙ c.state.ensures ∙ of.stands.state) in
    committed-txn g.R.RowSet c.transactions_stand.ensures.ends m sound c.args.txn.now _ transaction of c.commit_active.result c.commit_active.new.self
    (c.commit_active.ensures.step m transaction sound s of going) c.commit_active.ensures.txn
