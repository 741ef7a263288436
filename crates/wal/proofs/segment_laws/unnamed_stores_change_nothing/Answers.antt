use Rattle.wal.specs.laws.Stores.{segment_alike, segment_without, segment_with}
use Rattle.wal.proofs.segment_laws.unnamed_stores_change_nothing.Goals as goal

pub returns-clause-alike : goal.returns-clause-alike
returns-clause-alike c = segment_alike

pub returns-clause-removed : goal.returns-clause-removed
returns-clause-removed c = segment_without

pub returns-clause-added : goal.returns-clause-added
returns-clause-added c = segment_with
