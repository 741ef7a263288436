use Rattle.std.proofs.Common.{refl}
use Rattle.engine_state.proofs.EnterLemmas.{entered, entered-last}
use Rattle.engine_state.proofs.state.EngineState.enter.Goals as goal

pub returns-clause-serves : goal.returns-clause-serves
returns-clause-serves g c m handed move is low high s view =
    entered g.R.RowSet c.args.self.now _ refl refl refl refl refl refl refl refl refl c.locks_stand_after_moves.ensures.others m handed move is low high s view

pub returns-clause-all_handed : goal.returns-clause-all_handed
returns-clause-all_handed g c m move is s view =
    entered-last g.R.RowSet c.args.self.now _ refl refl refl refl refl refl refl refl refl c.locks_stand_after_moves.ensures.others m move is s view
