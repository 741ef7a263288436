use Rattle.std.proofs.Common.{sym, ◌∙◌, ap, subst}
use Rattle.device_layout.specs.Answers.{Says}
use Rattle.device_layout.specs.Superblock.{Superblock, zero_refused}
use Rattle.device_layout.proofs.SuperblockLemmas.{behind_zeros, at_zero}
use Rattle.device_layout.proofs.superblock.layout_of_sizes.Goals as goal

pub returns-in-Some-refused_zero-clause-says : goal.returns-in-Some-refused_zero-clause-says
returns-in-Some-refused_zero-clause-says c =
    at_zero c.args.size c.args.block.now c.params_of_block-params.result c.in-Some-refused_zero.place c.params_of_block-params.ensures
    (sym c.refused_size.ensures ∙ c.in_default.is)
    (ap (zero_refused 36) (sym c.split_at.ensures.back) ∙ sym c.refused_zero.ensures ∙ c.in-Some-refused_zero.is)

pub returns-clause-says : goal.returns-clause-says
returns-clause-says c =
    subst (λ (read : Superblock). Says read c.sized_layout.result)
    (sym (behind_zeros c.args.size c.args.block.now c.params_of_block-params.result c.params_of_block-params.ensures
    (sym c.refused_size.ensures ∙ c.in_default.is)
    (ap (zero_refused 36) (sym c.split_at.ensures.back) ∙ sym c.refused_zero.ensures ∙ c.in_default-refused_zero.is)))
    c.sized_layout.ensures.says
