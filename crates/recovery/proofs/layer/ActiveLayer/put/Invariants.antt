use Rattle.std.proofs.Common.{◌≡◌}
use Rattle.view.specs.Commits.{with_writes}
use Rattle.recovery.proofs.NamedLemmas.{greatest_of}
use Rattle.recovery.proofs.layer.ActiveLayer.put.Given as goal

abbrev pub invariant-loop-write : goal.invariant-loop-write
invariant-loop-write l =
    (with_writes l.fn.number l.self.rows l.write-iterator.rest.items ≡ with_writes l.fn.number l.fn.self.rows l.fn.writes.items)
    × (greatest_of l.self.named l.write-iterator.rest.items ≡ greatest_of l.fn.self.named l.fn.writes.items)
