use Rattle.transactions.proofs.OwnLemmas.{new-stands}
use Rattle.transactions.proofs.txn.Txn.begin.Goals as goal

pub invariant_of-result : goal.invariant_of-result
invariant_of-result g c = new-stands c.args.id c.args.view c.empty.result c.number-last.result c.empty.ensures c.number-last.ensures.number
