use Rattle.std.proofs.Common.{◌∙◌}
use Rattle.key_locks.proofs.StepLemmas.{freed-step}
use Rattle.key_locks.proofs.moves.free_names.Goals as goal

pub loop-name-preserved : goal.loop-name-preserved
loop-name-preserved c = record {
  newest = λ q. c.free_name.ensures.newest q ∙ c.loop-name.invariant.newest q;
  holder = λ q. freed-step c.loop-name.table c.free_name.new.table c.in-Some.name c.loop-name.rest.rest.items c.next.new.self.rest.items c.in-Some.ensures.items q (c.free_name.ensures.holder q) ∙ c.loop-name.invariant.holder q;
}
