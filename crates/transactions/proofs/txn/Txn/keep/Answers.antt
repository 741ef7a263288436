use Rattle.std.proofs.Common.{sym, subst}
use Rattle.transactions.specs.Txns.{with_staged, IsTxn}
use Rattle.transactions.proofs.OwnLemmas.{kept-stands}
use Rattle.transactions.proofs.txn.Txn.keep.Goals as goal

pub invariant_of-self : goal.invariant_of-self
invariant_of-self g c =
    subst IsTxn (λ i. with_staged (sym c.self.view_is i) (sym c.staged.view_is i))
    (kept-stands c.layers_take_rows.ensures c.normal_forms_do_the_same.ensures
    c.args.self.now c.requires.write c.args.staged c.normal_forms_overlap_the_same.ensures
    (subst IsTxn c.self.view_is c.self.invariant) c.requires.is)
