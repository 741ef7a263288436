use Rattle.std.proofs.Common.{subst}
use Rattle.turn_phases.specs.Closing.{ClosesWith}
use Rattle.lives.specs.Stories.{closed}
use Rattle.lives.proofs.CloseLemmas.{closed_badly, closed_well}
use Rattle.lives.proofs.MarkLemmas.{left_of}
use Rattle.lives.proofs.run.Lives.close.Goals as goal

pub returns-in-Err-clause-marked : goal.returns-in-Err-clause-marked
returns-in-Err-clause-marked g c s l =
    closed_badly g.D.Device s c.args.self l c.close-disk.result.disk c.close-disk.ensures.calls.forward (c.close-disk.ensures.crash s.machine l.phases)

pub returns-in-Err-clause-left : goal.returns-in-Err-clause-left
returns-in-Err-clause-left g c s l =
    left_of g.D.Device g.met.D.Disk.counts_now c.close-disk.result.disk s c.args.self.marks.items (returns-in-Err-clause-marked g c s l)

pub returns-in-Ok-clause-closes : goal.returns-in-Ok-clause-closes
returns-in-Ok-clause-closes g c s l =
    subst (λ (r : _). ClosesWith g.D.Device s.machine r c.close-disk.result.disk) c.in-Ok.is (c.close-disk.ensures.closes s.machine l.phases)

pub returns-in-Ok-clause-marked : goal.returns-in-Ok-clause-marked
returns-in-Ok-clause-marked g c s l =
    closed_well g.D.Device s c.args.self l c.close-disk.result.disk c.close-disk.ensures.calls.forward (c.close-disk.ensures.crash s.machine l.phases)
    g.met.D.Disk.only_now c.in-Ok.number c.clock.result c.push_reserved.new.marks.items c.clock.ensures c.push_reserved.ensures.items
    (returns-in-Ok-clause-closes g c s l)

pub returns-in-Ok-clause-left : goal.returns-in-Ok-clause-left
returns-in-Ok-clause-left g c s l =
    left_of g.D.Device g.met.D.Disk.counts_now c.close-disk.result.disk (closed s c.in-Ok.number) c.push_reserved.new.marks.items
    (returns-in-Ok-clause-marked g c s l)
