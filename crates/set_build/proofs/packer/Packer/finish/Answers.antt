use Rattle.std.proofs.Common.{None}
use Rattle.set_build.specs.declared.packed.Packed.{Packed}
use Rattle.set_build.specs.SetText.{values_by_block}
use Rattle.set_build.proofs.PackerLemmas.{held-keys, held-values}
use Rattle.set_build.proofs.FinishedLemmas.{finished, counted}
use Rattle.set_build.proofs.packer.Packer.finish.Goals as goal

pub returns : goal.returns
returns c =
    let made : Packed = record { prefixes = c.in_ok-finish_prefixes.field-0; keys = c.in_ok-finish_keys.field-0; values = c.in_ok-finish_values.field-0 } in
    record {
      packed = λ p held.
          finished p c.args.self held made c.in_ok-finish_prefixes.ensures
          (c.in_ok-finish_keys.ensures c.args.self.slot held.blocks (held-keys p c.args.self held 0 None))
          (c.in_ok-finish_values.ensures c.args.self.slot (values_by_block p) (held-values p c.args.self held 0 None));
      counted = λ p held.
          counted p c.args.self held made (finished p c.args.self held made c.in_ok-finish_prefixes.ensures
          (c.in_ok-finish_keys.ensures c.args.self.slot held.blocks (held-keys p c.args.self held 0 None))
          (c.in_ok-finish_values.ensures c.args.self.slot (values_by_block p) (held-values p c.args.self held 0 None)));
    }
