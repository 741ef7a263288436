use Rattle.hse_fields.specs.laws.Follow.{payload_follows}
use Rattle.wal.specs.laws.Batches.{batches_follow, closed_read}
use Rattle.wal.specs.Numbered.{untaken}
use Rattle.wal.specs.Numbering.{numbering}
use Rattle.wal.specs.laws.Numbering.{follow_run}
use Rattle.wal.proofs.number_laws.replayed_is_a_run.Goals as goal

pub returns-clause-payload : goal.returns-clause-payload
returns-clause-payload c = λ live most next room bytes entries last e.
    follow_run live next room entries last (payload_follows (numbering live) most (untaken next room) bytes (entries, last) e)

pub returns-clause-segment : goal.returns-clause-segment
returns-clause-segment c = λ live most next room payloads end entries last e.
    let read = closed_read live most (untaken next room) payloads end (entries, last) e in
    follow_run live next room entries last (batches_follow live most (untaken next room) 9 payloads (entries, last) read)
