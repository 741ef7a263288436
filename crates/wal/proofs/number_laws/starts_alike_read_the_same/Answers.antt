use Rattle.wal.specs.laws.Starts.{segment_same}
use Rattle.wal.proofs.number_laws.starts_alike_read_the_same.Goals as goal

pub returns : goal.returns
returns c = segment_same
