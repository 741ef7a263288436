use Rattle.std.proofs.Common.{arith}
use Rattle.hse_fields.specs.laws.Fields.{number_length}
use Rattle.hse_fields.proofs.header.used.Goals as goal

pub returns-clause-behind : goal.returns-clause-behind
returns-clause-behind c =
    let last = number_length 4 c.in_ok-fourth.fourth.now (c.in_ok-used.used, c.in_ok-used.rest.now) c.in_ok-used.ensures in
    omega (arith, last, c.in_ok-fourth.ensures.behind, c.in_ok-third.ensures.behind, c.in_ok-second.ensures.behind, c.in_ok-first.ensures.behind)
