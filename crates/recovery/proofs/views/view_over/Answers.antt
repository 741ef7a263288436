use Rattle.std.proofs.Common.{◌≡◌, ◌∙◌, List, ap, sym, subst}
use Rattle.ingest_tree.specs.declared.store_row.StoreRow.{StoreRow}
use Rattle.manifest.specs.Views.{metadata_as, stores_as}
use Rattle.manifest.specs.declared.base.BaseStore.{BaseStore}
use Rattle.view.specs.Means.{IsView}
use Rattle.view.specs.Views.{rest_of, view_of}
use Rattle.view.specs.declared.view_store.ViewStore.{ViewStore}
use Rattle.std.proofs.Common.{map}
use Rattle.recovery.specs.Opened.{empty_store}
use Rattle.recovery.proofs.ViewLemmas.{is_view}
use Rattle.recovery.proofs.views.view_over.Goals as goal

pub of-requires : goal.of-requires
of-requires g c =
    let stores : c.in_ok-stores.stores.items ≡ map (empty_store g.row.R.Denot) (stores_as c.args.base.now.stores.items) =
    c.in_ok-stores.ensures ∙ ap (λ (ss : List BaseStore). map (empty_store g.row.R.Denot) (stores_as ss)) c.deref.ensures.value in
    subst (λ (ss : List (ViewStore g.row.R.Denot)). IsView g.R.RowSet.rows (view_of c.args.number c.args.layer (rest_of ss c.new.result.items))) (sym stores)
    (subst (λ (frozen : List (List StoreRow)). IsView g.R.RowSet.rows
    (view_of c.args.number c.args.layer (rest_of (map (empty_store g.row.R.Denot) (stores_as c.args.base.now.stores.items)) frozen))) (sym c.new.ensures.items)
    (is_view g.R.RowSet.rows (metadata_as c.args.base.now) c.args.number c.args.layer c.requires.apart c.requires.low))
