use Rattle.std.proofs.Common.{refl, subst}
use Rattle.device_layout.specs.Layouts.{params_of, sizes_of}
use Rattle.device_layout.specs.declared.layout.Layout.{Layout}
use Rattle.engine_state.specs.Serves.{SizesServe}
use Rattle.recovery.specs.Machine.{stored_of}
use Rattle.kvdb.proofs.OpeningLemmas.{opened, serves_opened}
use Rattle.kvdb.proofs.opening.opened.Goals as goal

pub returns-clause-serves : goal.returns-clause-serves
returns-clause-serves g c image loaded is finds seen still =
    serves_opened g.D.Device image _ _ loaded c.args.recovered is finds (c.loaded_metadata_may_be_bases.ensures.stores image loaded is)
    (c.loaded_metadata_may_be_bases.ensures.runs image loaded is)
    (record { layout = refl; log = refl; manifest = refl; seen = seen; still = still })
    (record {
      horizon = c.log_start_of.ensures.horizon;
      first = c.log_start_of.ensures.first;
      taken = c.log_start_of.ensures.taken;
    }) refl
    (c.in-Ok.ensures (stored_of loaded) (opened image loaded c.args.recovered is finds c.sizes_in-sizes.result
    (subst (λ (l : Layout). SizesServe c.sizes_in-sizes.result (sizes_of (params_of l))) finds.layout c.sizes_in-sizes.ensures)))
    refl refl
