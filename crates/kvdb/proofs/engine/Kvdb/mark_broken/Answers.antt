use Rattle.std.proofs.Common.{refl}
use Rattle.kvdb.proofs.TurnLemmas.{serves_marked}
use Rattle.kvdb.proofs.engine.Kvdb.mark_broken.Goals as goal

pub returns-clause-marked : goal.returns-clause-marked
returns-clause-marked g c m is s =
    serves_marked g.D.Device c.args.self.now _ m is.0 _ _ is.1 s (λ later. c.break_down.ensures.serves m _ later s.state) c.requires.out refl refl refl refl
