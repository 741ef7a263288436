use Rattle.std.proofs.Common.{◌≡◌, ◌∙◌, refl, sym, ap, subst, ℕ}
use Rattle.engine_state.specs.Serves.{handed_by}
use Rattle.engine_state.specs.Turns.{IsBatch}
use Rattle.manifest.specs.Entries.{entry_as}
use Rattle.kvdb.specs.Serves.{IsHome}
use Rattle.kvdb.proofs.ServesLemmas.{serves_same}
use Rattle.kvdb.proofs.TakenLemmas.{above_event, base_same, entering, happens, planned_in, refused_entry, took_entry}
use Rattle.kvdb.proofs.TurnLemmas.{side_in}
use Rattle.kvdb.proofs.engine.Kvdb.take_entry.Goals as goal

pub returns-in-Err-clause-takes : goal.returns-in-Err-clause-takes
returns-in-Err-clause-takes g c m what sound s asked =
    let h = happens g.D.Device c.args.self.now m what c.args.kind (entry_as c.args.entry.now) c.args.event sound.limits.since_base sound.limits.until_now s
    (entering (record {
      creation_may = c.loaded_metadata_may_be_bases.ensures.creation;
      drop_may = c.loaded_metadata_may_be_bases.ensures.drop;
      creation_happens = c.turns_store_the_next_states.ensures.creation;
      drop_happens = c.turns_store_the_next_states.ensures.drop;
      gains = c.manifests_gain_as_the_machine_counts.ensures;
      runs = c.loaded_metadata_may_be_bases.ensures.runs;
      creation_size = c.entries_are_as_the_machine_counts.ensures.creation;
      drop_size = c.entries_are_as_the_machine_counts.ensures.drop;
      base_size = c.entries_are_as_the_machine_counts.ensures.base;
      one_taken = c.entries_are_as_the_machine_counts.ensures.taken;
    }) c.commits_are_a_payload.ensures g.D.Device c.args.self.now m sound s what c.args.event) asked in (
      refused_entry g.D.Device c.args.self.now m sound.limits.since_base sound.limits.until_now s what c.args.kind (entry_as c.args.entry.now)
          c.args.event.view h c.in-Ok.base
          (base_same c.args.self.now.log_start _ c.args.event.view _ c.in-Ok.base c.view.ensures c.number-number.ensures c.in-Ok.ensures)
          c.plans_are_as_the_machine_counts.ensures.full _ c.args.self.now.side s.side c.in-Err.fault c.in-Err.ensures,
      serves_same g.D.Device c.args.self.now _ m s s.state refl refl refl refl,
    )

pub returns-in_default-take_waiting-clause-takes : goal.returns-in_default-take_waiting-clause-takes
returns-in_default-take_waiting-clause-takes g c m what sound s asked =
    let h = happens g.D.Device c.args.self.now m what c.args.kind (entry_as c.args.entry.now) c.args.event sound.limits.since_base sound.limits.until_now s
    (entering (record {
      creation_may = c.loaded_metadata_may_be_bases.ensures.creation;
      drop_may = c.loaded_metadata_may_be_bases.ensures.drop;
      creation_happens = c.turns_store_the_next_states.ensures.creation;
      drop_happens = c.turns_store_the_next_states.ensures.drop;
      gains = c.manifests_gain_as_the_machine_counts.ensures;
      runs = c.loaded_metadata_may_be_bases.ensures.runs;
      creation_size = c.entries_are_as_the_machine_counts.ensures.creation;
      drop_size = c.entries_are_as_the_machine_counts.ensures.drop;
      base_size = c.entries_are_as_the_machine_counts.ensures.base;
      one_taken = c.entries_are_as_the_machine_counts.ensures.taken;
    }) c.commits_are_a_payload.ensures g.D.Device c.args.self.now m sound s what c.args.event) asked in
    (tt, serves_same g.D.Device c.args.self.now _ m s (c.in_default-take_waiting.ensures.hands m _ h.whole s.state) refl refl refl refl)

pub returns-clause-takes : goal.returns-clause-takes
returns-clause-takes g c m what sound s asked =
    let h = happens g.D.Device c.args.self.now m what c.args.kind (entry_as c.args.entry.now) c.args.event sound.limits.since_base sound.limits.until_now s
    (entering (record {
      creation_may = c.loaded_metadata_may_be_bases.ensures.creation;
      drop_may = c.loaded_metadata_may_be_bases.ensures.drop;
      creation_happens = c.turns_store_the_next_states.ensures.creation;
      drop_happens = c.turns_store_the_next_states.ensures.drop;
      gains = c.manifests_gain_as_the_machine_counts.ensures;
      runs = c.loaded_metadata_may_be_bases.ensures.runs;
      creation_size = c.entries_are_as_the_machine_counts.ensures.creation;
      drop_size = c.entries_are_as_the_machine_counts.ensures.drop;
      base_size = c.entries_are_as_the_machine_counts.ensures.base;
      one_taken = c.entries_are_as_the_machine_counts.ensures.taken;
    }) c.commits_are_a_payload.ensures g.D.Device c.args.self.now m sound s what c.args.event) asked in
    let home : IsHome g.D.Device c.in-In.back m = side_in g.D.Device _ _ m (sym c.replace.ensures.value ∙ c.in-In.is) s.side in
    let hands = c.in-Ok-take_waiting.ensures.hands m _ h.whole s.state in
    took_entry g.D.Device c.args.self.now m sound.limits.since_base sound.limits.until_now s home.turn what c.args.kind (entry_as c.args.entry.now)
    c.args.event.view h c.in-Ok.base
    (base_same c.args.self.now.log_start _ c.args.event.view _ c.in-Ok.base c.view.ensures c.number-number.ensures c.in-Ok.ensures)
    _ home c.in-Ok-plan_of.plan
    (planned_in g.D.Device c.args.self.now.side c.in-In.back _ _ _ c.in-Ok-plan_of.plan (sym c.replace.ensures.value ∙ c.in-In.is) c.in-Ok-plan_of.ensures)
    c.number-number.ensures refl refl _ c.replace.ensures.after refl refl c.plans_are_as_the_machine_counts.ensures.plan
    (subst (λ (n : ℕ). IsBatch m.timeline n c.in-Ok-take_waiting.batch) (ap (handed_by m.safe) home.turn) hands.0)
    (above_event g.D.Device m what c.args.kind (entry_as c.args.entry.now) c.args.self.now.log_start c.args.event.view h _ _
    (c.enter.ensures.all_handed m) hands.1)
    (record {
      horizon = c.log_start_of.ensures.horizon;
      first = c.log_start_of.ensures.first;
      taken = c.log_start_of.ensures.taken;
    })
