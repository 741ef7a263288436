use Rattle.hse_shell.proofs.GrammarLemmas.{one_meaning}
use Rattle.hse_shell.proofs.command.lines_have_one_meaning.Goals as goal

pub returns : goal.returns
returns c = record { one_meaning = one_meaning }
