use Rattle.row_laws.proofs.SourceLemmas.{first-decides, layers-fall}
use Rattle.row_laws.proofs.FallLemmas.{own-falls}
use Rattle.row_laws.proofs.PartLemmas.{get-on_path}
use Rattle.row_laws.proofs.laws.first_sources_decide.Goals as goal

pub returns-clause-decide : goal.returns-clause-decide
returns-clause-decide c = λ sources key. first-decides key sources

pub returns-clause-layers : goal.returns-clause-layers
returns-clause-layers c = λ layers sets key. layers-fall key layers sets

pub returns-clause-paths : goal.returns-clause-paths
returns-clause-paths c = λ parts key. get-on_path key parts

pub returns-clause-own : goal.returns-clause-own
returns-clause-own c = λ sources key. own-falls key sources
