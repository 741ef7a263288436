use Rattle.std.proofs.Common.{refl}
use Rattle.hse_rows.specs.machine.Calls as call
use Rattle.hse_rows.specs.machine.Replies.{ok}
use Rattle.hse_rows.specs.writes.Change.{change_of}
use Rattle.engine_state.specs.Says.{SaysWrite}
use Rattle.lives.proofs.ServeLemmas.{session_steps}
use Rattle.lives.proofs.run.Lives.write_plain.Goals as goal

pub returns-clause-step : goal.returns-clause-step
returns-clause-step g c s l =
    session_steps g.D.Device ok SaysWrite s (call.write_by call.outside c.args.store.now (change_of c.args.change)) c.write_plain.result
    c.args.self.now _ tt refl refl c.write_plain.ensures.device l (c.write_plain.ensures.step s.machine l.phases)
