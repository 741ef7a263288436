use Rattle.std.proofs.Common.{refl}
use Rattle.lives.proofs.ServeLemmas.{writes}
use Rattle.lives.proofs.run.Lives.write_turn.Goals as goal

pub returns-clause-writes : goal.returns-clause-writes
returns-clause-writes g c s l =
    writes g.D.Device s c.write_turn.result c.args.self.now _ refl refl c.write_turn.ensures.calls.forward (c.write_turn.ensures.crash s.machine l.phases) l
    (c.write_turn.ensures.writes s.machine l.phases)
