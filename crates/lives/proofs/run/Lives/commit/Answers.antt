use Rattle.std.proofs.Common.{refl}
use Rattle.hse_rows.specs.machine.Calls as call
use Rattle.hse_rows.specs.machine.Replies.{ok}
use Rattle.engine_state.specs.Says.{SaysCommit}
use Rattle.lives.proofs.ServeLemmas.{session_steps}
use Rattle.lives.proofs.run.Lives.commit.Goals as goal

pub returns-clause-step : goal.returns-clause-step
returns-clause-step g c s transaction l is =
    session_steps g.D.Device ok SaysCommit s (call.commit c.args.txn.now.id) c.commit.result
    c.args.self.now _ tt refl refl c.commit.ensures.device l (c.commit.ensures.step s.machine transaction l.phases is)
