use Rattle.wal.specs.laws.Stores.{segment_dropped}
use Rattle.wal.proofs.segment_laws.dropped_stores_change_nothing.Goals as goal

pub returns : goal.returns
returns c = segment_dropped
