use Rattle.row_laws.proofs.MeaningLemmas.{get-contents_of}
use Rattle.row_laws.proofs.laws.keys_hold_newest_rows.Goals as goal

pub returns : goal.returns
returns c = λ rows key. get-contents_of key rows
