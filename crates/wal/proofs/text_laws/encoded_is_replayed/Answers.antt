use Rattle.hse_fields.specs.laws.Payloads.{payload_again}
use Rattle.wal.specs.Numbering.{numbering}
use Rattle.wal.specs.laws.Numbering.{run_follows}
use Rattle.wal.proofs.text_laws.encoded_is_replayed.Goals as goal

pub returns-clause-replayed : goal.returns-clause-replayed
returns-clause-replayed c = λ live most state last entries small formed follow fits.
    payload_again (numbering live) most state last entries small formed follow fits

pub returns-clause-follow : goal.returns-clause-follow
returns-clause-follow c = λ live next room entries numbered small fits. run_follows live next room entries numbered small fits
