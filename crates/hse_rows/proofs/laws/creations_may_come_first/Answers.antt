use Rattle.hse_rows.proofs.RootedLemmas.{creations_first, rooted_front, commits-writes}
use Rattle.hse_rows.proofs.laws.creations_may_come_first.Goals as goal

pub returns-clause-parts : goal.returns-clause-parts
returns-clause-parts c = creations_first

pub returns-clause-fronts : goal.returns-clause-fronts
returns-clause-fronts c = rooted_front

pub returns-clause-writes : goal.returns-clause-writes
returns-clause-writes c = commits-writes
