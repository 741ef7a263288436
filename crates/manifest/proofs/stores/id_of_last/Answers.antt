use Rattle.manifest.specs.Metadata.{LiveStore}
use Rattle.manifest.specs.Views.{store_as}
use Rattle.manifest.proofs.StoreLemmas.{last_by_some}
use Rattle.manifest.proofs.stores.id_of_last.Goals as goal

pub returns-in-Some : goal.returns-in-Some
returns-in-Some c = last_by_some store_as (λ (s : LiveStore). s.id) 0 c.args.stores.now c.in-Some.store.now c.in-Some.ensures.value
