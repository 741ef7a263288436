use Rattle.std.proofs.Common.{◌≡◌, subst, arith}
use Rattle.kblock.specs.Searching.{IsBehind}
use Rattle.kblock.proofs.search.pages_to.Goals as goal

pub returns-clause-above : goal.returns-clause-above
returns-clause-above c =
    let met : c.loop-low.high ≡ c.loop-low.low = omega (arith, c.loop-low.invariant.ordered, c.loop-low-test.false) in
    subst (IsBehind c.args.key.now c.args.pages.now c.args.count) met c.loop-low.invariant.above
