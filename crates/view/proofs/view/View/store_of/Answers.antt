use Rattle.std.proofs.Common.{◌==◌, ◌∙◌, sym, ap, subst}
use Rattle.std.specs.Prelude.{IfSome}
use Rattle.std.specs.List.{find}
use Rattle.view.specs.declared.view_store.ViewStore.{ViewStore}
use Rattle.view.specs.Means.{IsView, IsUnder}
use Rattle.view.proofs.ViewLemmas.{some-mapped, store-under}
use Rattle.view.proofs.view.View.store_of.Goals as goal

pub returns-clause-known : goal.returns-clause-known
returns-clause-known g c =
    let rows = g.R.RowSet.rows in
    let wanted = λ (s : ViewStore g.row.R.Denot). s.id.0 == c.args.id.0 in
    let stores = ap (λ rest. rest.stores) c.deref.ensures ∙ ap (λ view. view.stores) c.self.view_is in
    some-mapped _ (IsUnder rows c.args.self.now.layers) c.store_of.result
    (subst (λ found. IfSome found (IsUnder rows c.args.self.now.layers)) (sym (c.store_of.ensures ∙ ap (find wanted) stores))
    (store-under rows c.args.self.now (subst (IsView rows) c.self.view_is c.self.invariant) wanted))
