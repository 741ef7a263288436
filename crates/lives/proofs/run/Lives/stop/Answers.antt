use Rattle.std.proofs.Common.{sym, subst}
use Rattle.lives.specs.Marks.{Marked}
use Rattle.lives.proofs.MarkLemmas.{left_of}
use Rattle.lives.proofs.run.Lives.stop.Goals as goal

pub returns-clause-left : goal.returns-clause-left
returns-clause-left g c s l =
    left_of g.D.Device g.met.D.Disk.counts_now c.stop.result s c.args.self.marks.items
    (subst (λ (d : _). Marked g.D.Device d c.args.self.marks.items s) (sym c.stop.ensures) l.marked)
