use Rattle.wal.proofs.PayloadLemmas.{payload_formed}
use Rattle.wal.proofs.text_laws.commits_are_a_payload.Goals as goal

pub returns : goal.returns
returns c = payload_formed
