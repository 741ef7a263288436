use Rattle.std.proofs.Common.{◌∙◌, arith}
use Rattle.std.proofs.lemmas.List.{length-drop}
use Rattle.set_build.proofs.PrefixLemmas.{block-more}
use Rattle.set_build.proofs.prefixes.finish_prefixes.Goals as goal

pub loop-from-preserved : goal.loop-from-preserved
loop-from-preserved c =
    let filled = c.in_ok-block.ensures in
    record {
      within = omega (arith, filled.0, filled.1.within, length-drop c.loop-from.from c.args.list.now);
      blocks = rw c.in_ok-push.ensures.items (
          block-more c.args.slot c.args.list.now c.loop-from.done.items c.in_ok-block.block c.loop-from.from c.in_ok-block.next (omega (arith, c.requires.large)) filled
          ∙ c.loop-from.invariant.blocks
          );
    }
