use Rattle.std.proofs.Common.{◌∷◌, [], arith}
use Rattle.block_tests.proofs.values.built.Goals as goal

pub push-requires-2 : goal.push-requires-2
push-requires-2 c = (65536, c.args.one.now ∷ [], c.in-Ok.ensures.added 65536 [] c.in_ok-builder.ensures)

pub finish-requires : goal.finish-requires
finish-requires c =
    let one = c.in-Ok.ensures.added 65536 [] c.in_ok-builder.ensures in
    (65536, c.args.one.now ∷ c.args.other.now ∷ [], c.in-Ok-push.ensures.added 65536 (c.args.one.now ∷ []) one, omega arith)
