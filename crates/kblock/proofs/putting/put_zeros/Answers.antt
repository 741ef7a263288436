use Rattle.std.proofs.Common.{arith}
use Rattle.kblock.proofs.PuttingLemmas.{one_zero_more}
use Rattle.kblock.proofs.putting.put_zeros.Goals as goal

pub loop-preserved : goal.loop-preserved
loop-preserved c = record {
  items = one_zero_more c.loop.counter c.args.into.now.items c.loop.into.items c.push.new.self.items c.loop.invariant.items (rw c.unwrap.ensures at c.push.ensures.items);
  capacity = omega (arith, c.push.ensures.capacity, c.loop.invariant.capacity);
}
