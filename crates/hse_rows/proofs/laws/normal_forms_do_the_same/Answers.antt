use Rattle.hse_rows.proofs.StateLemmas.{normal_form_does_the_same}
use Rattle.hse_rows.proofs.laws.normal_forms_do_the_same.Goals as goal

pub returns : goal.returns
returns c = normal_form_does_the_same
