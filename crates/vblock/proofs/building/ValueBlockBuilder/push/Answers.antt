use Rattle.std.proofs.Common.{arith}
use Rattle.vblock.proofs.TextLemmas.{four_bytes_each}
use Rattle.vblock.proofs.building.ValueBlockBuilder.push.Goals as goal

pub overflow_add-self : goal.overflow_add-self
overflow_add-self c =
    let holds = c.requires.2 in
    omega (arith, four_bytes_each c.requires.1, holds.counted, holds.within, holds.small)
