use Rattle.shell_text.proofs.SaysLemmas.{one_meaning}
use Rattle.shell_text.proofs.laws.lines_have_one_meaning.Goals as goal

pub returns : goal.returns
returns c = record { one_meaning = one_meaning }
