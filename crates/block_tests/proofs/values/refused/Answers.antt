use Rattle.std.proofs.Common.{◌∷◌, []}
use Rattle.block_tests.proofs.values.refused.Goals as goal

pub push-requires-2 : goal.push-requires-2
push-requires-2 c = (65536, c.args.value.now ∷ [], c.in-Ok.ensures.added 65536 [] c.in_ok-builder.ensures)
