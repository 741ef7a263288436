use Rattle.std.proofs.Common.{◌≡◌, subst, arith}
use Rattle.kblock.specs.Searching.{IsBefore}
use Rattle.kblock.proofs.nth.pages_from.Goals as goal

pub returns-clause-above : goal.returns-clause-above
returns-clause-above c =
    let met : c.loop-low.high ≡ c.loop-low.low = omega (arith, c.loop-low.invariant.ordered, c.loop-low-test.false) in
    subst (IsBefore c.args.at c.args.numbers.now c.args.count) met c.loop-low.invariant.above
