use Rattle.std.proofs.Common.{ap, sym, ◌∙◌}
use Rattle.hse_rows.specs.writes.NormalForm.{normal_form}
use Rattle.hse_rows.proofs.WriteLemmas.{normal_form-rising}
use Rattle.hse_rows.proofs.write_set.WriteSet.len.Goals as goal

pub returns-clause-normal : goal.returns-clause-normal
returns-clause-normal c =
    sym c.self.view_is
    ∙ sym (normal_form-rising _ c.self.invariant.rising)
    ∙ ap normal_form c.self.view_is
