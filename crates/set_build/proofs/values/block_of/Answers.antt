use Rattle.std.proofs.Common.{[], length, arith}
use Rattle.std.proofs.lemmas.Bool.{le-leb}
use Rattle.set_build.proofs.ValueLemmas.{taken}
use Rattle.set_build.proofs.values.block_of.Goals as goal

pub unwrap-requires : goal.unwrap-requires
unwrap-requires c =
    taken c.args.slot [] (length c.args.value.now) c.push.result (le-leb _ _ (omega (arith, c.requires.fits)))
    (c.push.ensures.full c.args.slot [] c.in_ok-block.ensures)

pub returns : goal.returns
returns c = rw c.unwrap.ensures at c.push.ensures.added c.args.slot [] c.in_ok-block.ensures
