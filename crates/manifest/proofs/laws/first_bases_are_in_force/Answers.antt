use Rattle.manifest.proofs.FirstLemmas.{first_holds, both_shut, one_started}
use Rattle.manifest.proofs.laws.first_bases_are_in_force.Goals as goal

pub returns-clause-held : goal.returns-clause-held
returns-clause-held c = λ layout image base m good shut gated read. first_holds layout image good shut base m gated read

pub returns-clause-shut : goal.returns-clause-shut
returns-clause-shut c = λ layout image good shut other. both_shut layout image good shut other

pub returns-clause-started : goal.returns-clause-started
returns-clause-started c = λ layout image good shut gated. one_started layout image good shut gated
