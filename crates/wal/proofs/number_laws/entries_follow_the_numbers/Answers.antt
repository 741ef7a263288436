use Rattle.wal.specs.laws.Taken.{follows_numbers}
use Rattle.wal.proofs.number_laws.entries_follow_the_numbers.Goals as goal

pub returns : goal.returns
returns c = follows_numbers
