use Rattle.std.proofs.Common.{◌<◌, ◌∙◌, sym, ap, subst, Some}
use Rattle.std.specs.List.{find}
use Rattle.hse_rows.specs.writes.NormalForm.{same}
use Rattle.view.specs.declared.view_store.ViewStore.{ViewStore}
use Rattle.view.specs.Views.{RestState}
use Rattle.view.proofs.IndexLemmas.{place-none, place-some}
use Rattle.view.proofs.rest.Rest.store.Goals as goal

pub index-requires : goal.index-requires
index-requires g c =
    let there = place-some c.args.name.now c.self.inside.stores.items c.in-Some.at.now (sym (c.self.invariant c.args.name.now) ∙ sym c.in-Some.ensures.value) in
    subst (λ n. c.in-Some.at.now < n) (sym c.self.inside.stores.ok.0) there.within

pub returns-in-None : goal.returns-in-None
returns-in-None g c =
    sym (place-none c.args.name.now c.self.inside.stores.items (sym (c.self.invariant c.args.name.now) ∙ sym c.in-None.ensures.value))
    ∙ ap (λ (r : RestState g.row.R.Denot). find (λ (s : ViewStore g.row.R.Denot). same s.name c.args.name.now) r.stores) c.self.view_is

pub returns-in-Some : goal.returns-in-Some
returns-in-Some g c =
    let there = place-some c.args.name.now c.self.inside.stores.items c.in-Some.at.now (sym (c.self.invariant c.args.name.now) ∙ sym c.in-Some.ensures.value) in
    ap Some c.index.ensures
    ∙ sym (there.found c.index.result.now)
    ∙ ap (λ (r : RestState g.row.R.Denot). find (λ (s : ViewStore g.row.R.Denot). same s.name c.args.name.now) r.stores) c.self.view_is
