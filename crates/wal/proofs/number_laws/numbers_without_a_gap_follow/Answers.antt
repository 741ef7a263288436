use Rattle.wal.specs.laws.Gapless.{may_follow_follows}
use Rattle.wal.specs.laws.Taken.{follows_numbers}
use Rattle.wal.proofs.number_laws.numbers_without_a_gap_follow.Goals as goal

pub returns : goal.returns
returns c = λ live state entries rising may.
    let follow = may_follow_follows live state entries rising may in
    (follow.0, follow.1, follows_numbers live state follow.0 entries rising follow.1)
