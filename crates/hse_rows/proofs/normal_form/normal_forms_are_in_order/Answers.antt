use Rattle.std.proofs.Common.{cond}
use Rattle.hse_rows.proofs.WriteLemmas.{rising-normal_form}
use Rattle.hse_rows.proofs.ChargeLemmas.{sum_by-normal_form}
use Rattle.hse_rows.proofs.normal_form.normal_forms_are_in_order.Goals as goal

pub returns : goal.returns
returns c = λ writes. record {
  rising = rising-normal_form writes;
  lasting_ones = λ p. sum_by-normal_form (λ w. cond (p w) 1 0) writes;
}
