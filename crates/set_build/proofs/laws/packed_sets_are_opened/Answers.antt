use Rattle.set_build.proofs.OpenLaws.{set-opened, set-opened-over}
use Rattle.set_build.proofs.laws.packed_sets_are_opened.Goals as goal

pub returns : goal.returns
returns c =
    let prefix_law = c.prefix_blocks_are_read.ensures.spelled in
    let key_law = c.key_blocks_are_read.ensures.spelled in
    record {
      opened = λ p may writes ps ks vs put. set-opened prefix_law key_law p may ps ks put c.value_blocks_are_read.ensures.spelled writes vs;
      over = λ p may stay ps ks put. set-opened-over prefix_law key_law p may ps ks put stay;
    }
