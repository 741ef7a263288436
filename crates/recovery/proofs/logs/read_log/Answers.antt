use Rattle.std.proofs.Common.{subst}
use Rattle.gate_log.specs.Places.{region_of}
use Rattle.gate_log.specs.Reading.{IsFront}
use Rattle.gate_log.specs.declared.region.Region.{Region}
use Rattle.recovery.proofs.logs.read_log.Goals as goal

pub returns-in-Ok-clause-log : goal.returns-in-Ok-clause-log
returns-in-Ok-clause-log g c = λ told.
    c.log_of.ensures.log (g.D.Device.seen c.args.disk.now)
    (subst (λ (r : Region). IsFront (region_of r (g.D.Device.seen c.args.disk.now)) c.in-Ok.front) c.segment.ensures (c.in-Ok.ensures.found told))
