use Rattle.hse_rows.proofs.OverlapLemmas.{overlaps-normal_form}
use Rattle.hse_rows.proofs.laws.normal_forms_overlap_the_same.Goals as goal

pub returns : goal.returns
returns c = overlaps-normal_form
