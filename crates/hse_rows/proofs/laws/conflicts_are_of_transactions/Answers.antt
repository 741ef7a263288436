use Rattle.hse_rows.proofs.SourceLemmas.{goes_sourced, conflicts_of_transactions}
use Rattle.hse_rows.proofs.TimelineRoots.{moved_rooted}
use Rattle.hse_rows.proofs.laws.conflicts_are_of_transactions.Goals as goal

pub returns-clause-sources : goal.returns-clause-sources
returns-clause-sources c = goes_sourced

pub returns-clause-conflicts : goal.returns-clause-conflicts
returns-clause-conflicts c = conflicts_of_transactions

pub returns-clause-roots : goal.returns-clause-roots
returns-clause-roots c = moved_rooted
