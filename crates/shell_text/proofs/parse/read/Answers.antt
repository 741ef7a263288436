use Rattle.shell_text.proofs.LineLemmas.{no_verb}
use Rattle.shell_text.proofs.parse.read.Goals as goal

pub returns-in-None : goal.returns-in-None
returns-in-None c = no_verb c.args.words.now _ c.in-len1-up.len_at_least c.in-None.ensures.cases
