use Rattle.hse_rows.proofs.ChargeLemmas.{charge-at-most}
use Rattle.hse_rows.proofs.normal_form.charges_grow_by_the_change_at_most.Goals as goal

pub returns : goal.returns
returns c = charge-at-most
