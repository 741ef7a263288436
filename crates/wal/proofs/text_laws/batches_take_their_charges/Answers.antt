use Rattle.wal.specs.laws.Charges.{payload_charged, payload_counted}
use Rattle.wal.proofs.text_laws.batches_take_their_charges.Goals as goal

pub returns : goal.returns
returns c = λ entries some few. (payload_counted entries some few, payload_charged entries few)
