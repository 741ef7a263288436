use Rattle.std.proofs.Common.{rules, ◌∙◌, ap, not}
use Rattle.std.proofs.lemmas.Fn.{filter_same}
use Rattle.manifest.specs.Metadata.{LiveStore, has_id}
use Rattle.manifest.specs.Views.{store_as, stores_as}
use Rattle.manifest.specs.declared.base.BaseStore.{BaseStore}
use Rattle.manifest.proofs.StoreLemmas.{filter_map_view}
use Rattle.manifest.proofs.change.drop_store.Goals as goal

pub returns : goal.returns
returns c =
    ap stores_as (filter_same _ (λ (s : BaseStore). not (has_id c.args.id (store_as s))) _ (λ x b f' k. search rules) _ _ c.retain.ensures.filtered)
    ∙ filter_map_view store_as (λ (s : LiveStore). not (has_id c.args.id s)) c.args.stores.now.items
