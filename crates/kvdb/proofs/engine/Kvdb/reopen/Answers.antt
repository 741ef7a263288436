use Rattle.std.proofs.Common.{◌∙◌, None, refl, sym, ap, subst}
use Rattle.media_disk.specs.Leaves.{LeavesOnly}
use Rattle.device_layout.specs.Layouts.{params_of, sizes_of}
use Rattle.device_layout.specs.declared.layout.Layout.{Layout}
use Rattle.engine_state.specs.Serves.{SizesServe}
use Rattle.hse_rows.specs.machine.CoreRefusal.{unless_busy}
use Rattle.hse_rows.specs.machine.Turn.{Turn as machine_turn}
use Rattle.recovery.specs.Keeps.{IsBarrier}
use Rattle.recovery.specs.Machine.{stored_of}
use Rattle.kvdb.specs.Found.{StoresFrom}
use Rattle.kvdb.specs.Reopening.{last_left}
use Rattle.kvdb.specs.Serves.{IsHome}
use Rattle.kvdb.proofs.LeavingLemmas.{device_is}
use Rattle.kvdb.proofs.OpeningLemmas.{opened, serves_opened}
use Rattle.kvdb.proofs.ReopenLemmas.{reopen_busy, reborn, stays_after, crash_kept}
use Rattle.kvdb.proofs.ServesLemmas.{serves_same}
use Rattle.kvdb.proofs.TurnLemmas.{out_side, side_in}
use Rattle.kvdb.proofs.engine.Kvdb.reopen.Goals as goal

pub returns-in-Out-clause-reopens : goal.returns-in-Out-clause-reopens
returns-in-Out-clause-reopens g c m sound s = (
  reopen_busy _ _ m.turn (out_side g.D.Device c.args.self.now.side _ _ m c.in-Out.is s.side),
  serves_same g.D.Device c.args.self.now _ m s s.state (sym c.in-Out.is) refl refl refl,
)

pub returns-in-Err-clause-reopens : goal.returns-in-Err-clause-reopens
returns-in-Err-clause-reopens g c m sound s =
    let h : IsHome g.D.Device c.in-In.back m = side_in g.D.Device _ _ m c.in-In.is s.side in (
      ap (λ (t : machine_turn). unless_busy t None) h.turn,
      stays_after g.D.Device m sound.limits.since_base sound.limits.until_now c.in-In.back h
          c.images_have_one_loading.ensures.not_refused c.images_have_one_loading.ensures.not_other c.read_again.new.back
          c.read_again.ensures.same.0 c.read_again.ensures.same.1 c.read_again.ensures.same.2 c.read_again.ensures.keeps
          c.args.self.now _ s refl refl refl refl _ (rw c.in-Err.is at c.read_again.ensures.recovered) (c.note_fault.ensures m s.state),
    )

pub returns-in_default-clause-crash : goal.returns-in_default-clause-crash
returns-in_default-clause-crash g c m sound s told =
    device_is g.D.Device c.args.self.now.side c.in-In.back _ c.in-In.is
    (crash_kept g.D.Device m sound.limits.since_base sound.limits.until_now c.in-In.back
    (side_in g.D.Device _ _ m c.in-In.is s.side) c.read_again.new.back
    c.read_again.ensures.same.0 c.read_again.ensures.same.1 c.read_again.ensures.same.2 c.read_again.ensures.keeps told)

pub returns-in-In-clause-crash : goal.returns-in-In-clause-crash
returns-in-In-clause-crash g c m sound s told =
    device_is g.D.Device c.args.self.now.side c.in-In.back _ c.in-In.is
    (subst (λ d. LeavesOnly g.D.Device c.in-In.back.disk d (StoresFrom m (last_left m))) (sym c.set_places.ensures.disk)
    (crash_kept g.D.Device m sound.limits.since_base sound.limits.until_now c.in-In.back
    (side_in g.D.Device _ _ m c.in-In.is s.side) c.read_again.new.back
    c.read_again.ensures.same.0 c.read_again.ensures.same.1 c.read_again.ensures.same.2 c.read_again.ensures.keeps told))

pub returns-in-In-clause-reopens : goal.returns-in-In-clause-reopens
returns-in-In-clause-reopens g c m sound s =
    let h : IsHome g.D.Device c.in-In.back m = side_in g.D.Device _ _ m c.in-In.is s.side in (
      ap (λ (t : machine_turn). unless_busy t None) h.turn,
      λ told.
          let found = c.in-Ok.ensures.recovered told in
          let image = g.D.Device.seen c.in-In.back.disk in
          let r = c.in-Ok.recovered in
          reborn g.D.Device m sound.limits.since_base sound.limits.until_now c.in-In.back h c.images_have_one_loading.ensures.one told
          found.0 _ _ found.1 found.2.number
          (serves_opened g.D.Device image _ c.set_places.new.back found.0 r found.1 found.2
          (c.loaded_metadata_may_be_bases.ensures.stores image found.0 found.1)
          (c.loaded_metadata_may_be_bases.ensures.runs image found.0 found.1)
          (record {
            layout = c.set_places.ensures.layout;
            log = c.set_places.ensures.log;
            manifest = c.set_places.ensures.manifest;
            seen = λ told_so. ap (λ d. g.D.Device.seen d) c.set_places.ensures.disk ∙ c.read_again.ensures.keeps.seen told_so;
            still = λ told_so. ap (λ d. g.D.Device.pending d) c.set_places.ensures.disk ∙ c.in-Ok.ensures.barrier.safe told_so;
          })
          (record {
            horizon = c.log_start_of.ensures.horizon;
            first = c.log_start_of.ensures.first;
            taken = c.log_start_of.ensures.taken;
          }) refl
          (c.in-Ok-of.ensures (stored_of found.0) (opened image found.0 r found.1 found.2 c.sizes_in-sizes.result
          (subst (λ (l : Layout). SizesServe c.sizes_in-sizes.result (sizes_of (params_of l))) found.2.layout c.sizes_in-sizes.ensures)))
          refl refl),
    )

pub returns-in-In-clause-barrier : goal.returns-in-In-clause-barrier
returns-in-In-clause-barrier g c =
    device_is g.D.Device c.args.self.now.side c.in-In.back _ c.in-In.is
    (subst (λ d. IsBarrier g.D.Device c.in-In.back.disk d c.in-Ok.recovered.moment) (sym c.set_places.ensures.disk) c.in-Ok.ensures.barrier)
