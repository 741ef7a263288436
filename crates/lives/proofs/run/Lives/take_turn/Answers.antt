use Rattle.std.proofs.Common.{refl}
use Rattle.hse_rows.specs.machine.Replies.{accepted}
use Rattle.kvdb.specs.Says.{SaysTurn}
use Rattle.kvdb.specs.Taking.{wish_as}
use Rattle.lives.proofs.ServeLemmas.{taking_steps}
use Rattle.lives.proofs.run.Lives.take_turn.Goals as goal

pub returns-clause-takes : goal.returns-clause-takes
returns-clause-takes g c s l =
    taking_steps g.D.Device (λ _. accepted) SaysTurn s (wish_as c.args.what.now) c.take_turn.result
    c.args.self.now _ refl refl c.take_turn.ensures.device l (c.take_turn.ensures.takes s.machine l.phases)
