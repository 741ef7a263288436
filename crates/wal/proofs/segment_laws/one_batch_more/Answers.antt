use Rattle.wal.specs.laws.Batches.{beginning_is_read, more_is_read}
use Rattle.wal.proofs.segment_laws.one_batch_more.Goals as goal

pub returns-clause-more : goal.returns-clause-more
returns-clause-more c = more_is_read

pub returns-clause-beginning : goal.returns-clause-beginning
returns-clause-beginning c = beginning_is_read
