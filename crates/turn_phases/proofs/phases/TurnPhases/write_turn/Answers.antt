use Rattle.std.proofs.Common.{◌≡◌, true, false, refl, sym, ap, ◌∙◌}
use Rattle.hse_rows.specs.machine.CoreRefusal.{unless_not_taken}
use Rattle.turn_phases.proofs.DeviceLemmas.{device_run, device_taken, leaves_at, out_of_ran, out_taken}
use Rattle.turn_phases.proofs.HeldLemmas.{held_nothing, held_run, held_taken, serve_by}
use Rattle.turn_phases.proofs.TurnLemmas.{up_to_turn, wrote, wrote_badly}
use Rattle.turn_phases.proofs.phases.TurnPhases.write_turn.Goals as goal

pub returns-in-Nothing-clause-writes : goal.returns-in-Nothing-clause-writes
returns-in-Nothing-clause-writes g c m s = (
  ap unless_not_taken (held_nothing g.D.Device c.args.self.now.held m (sym c.replace.ensures.value ∙ c.in-Nothing.is) s.turn),
  serve_by g.D.Device _ c.args.self.now.db c.args.self.now.held m refl (c.replace.ensures.after ∙ sym (sym c.replace.ensures.value ∙ c.in-Nothing.is)) s.engine s.sound s.turn,
)

pub returns-in-Run-clause-writes : goal.returns-in-Run-clause-writes
returns-in-Run-clause-writes g c m s = (
  ap unless_not_taken (held_run g.D.Device c.args.self.now.held c.in-Run.ran m (sym c.replace.ensures.value ∙ c.in-Run.is) s.turn).phase,
  serve_by g.D.Device _ c.args.self.now.db c.args.self.now.held m refl (c.hold.ensures ∙ sym (sym c.replace.ensures.value ∙ c.in-Run.is)) s.engine s.sound s.turn,
)

pub returns-then-failed-clause-writes : goal.returns-then-failed-clause-writes
returns-then-failed-clause-writes g c m s =
    let t = held_taken g.D.Device c.args.self.now.held c.in-Taken.turn m (sym c.replace.ensures.value ∙ c.in-Taken.is) s.turn in
    let fails : c.run-ran.result.has_failed ≡ true = sym c.failed.ensures ∙ c.if-failed.true in
    wrote_badly g.D.Device m c.in-Taken.turn c.run-ran.result _ c.steps_keep_states_sound.ensures.failures s.sound t (c.run-ran.ensures.ran m t) fails
    (c.run-ran.ensures.works m t fails) (c.mark_broken.ensures.marked m (t.out, t.phase) s.engine) c.hold-then-failed.ensures

pub returns-in-Taken-clause-writes : goal.returns-in-Taken-clause-writes
returns-in-Taken-clause-writes g c m s =
    let t = held_taken g.D.Device c.args.self.now.held c.in-Taken.turn m (sym c.replace.ensures.value ∙ c.in-Taken.is) s.turn in
    let fine : c.run-ran.result.has_failed ≡ false = sym c.failed.ensures ∙ c.if-failed.false in
    wrote g.D.Device m c.in-Taken.turn c.run-ran.result c.args.self.now _ c.steps_keep_states_sound.ensures.calls s t (c.run-ran.ensures.ran m t) fine refl
    c.hold-in-Taken.ensures

pub returns-then-failed-clause-crash : goal.returns-then-failed-clause-crash
returns-then-failed-clause-crash g c m s told =
    let t = held_taken g.D.Device c.args.self.now.held c.in-Taken.turn m (sym c.replace.ensures.value ∙ c.in-Taken.is) s.turn in
    leaves_at g.D.Device c.in-Taken.turn.back.disk c.run-ran.result.back.disk _ _ _
    (device_taken c.args.self.now.db.side c.args.self.now.held c.args.self.now.paired c.in-Taken.turn c.in-Taken.turn.kind c.in-Taken.turn.number
    (out_taken c.args.self.now.db.side c.args.self.now.held c.in-Taken.turn c.args.self.now.paired (sym c.replace.ensures.value ∙ c.in-Taken.is)) (sym c.replace.ensures.value ∙ c.in-Taken.is))
    (device_run _ _ _ c.run-ran.result c.run-ran.result.kind c.run-ran.result.number
    (c.mark_broken.ensures.side
    ∙ out_of_ran c.args.self.now.db.side c.args.self.now.held c.in-Taken.turn c.run-ran.result c.args.self.now.paired (sym c.replace.ensures.value ∙ c.in-Taken.is) c.run-ran.ensures.kind c.run-ran.ensures.number)
    c.hold-then-failed.ensures)
    (up_to_turn g.D.Device c.in-Taken.turn m _ _ t (c.run-ran.ensures.crash m t told))

pub returns-in-Taken-clause-crash : goal.returns-in-Taken-clause-crash
returns-in-Taken-clause-crash g c m s told =
    let t = held_taken g.D.Device c.args.self.now.held c.in-Taken.turn m (sym c.replace.ensures.value ∙ c.in-Taken.is) s.turn in
    leaves_at g.D.Device c.in-Taken.turn.back.disk c.run-ran.result.back.disk _ _ _
    (device_taken c.args.self.now.db.side c.args.self.now.held c.args.self.now.paired c.in-Taken.turn c.in-Taken.turn.kind c.in-Taken.turn.number
    (out_taken c.args.self.now.db.side c.args.self.now.held c.in-Taken.turn c.args.self.now.paired (sym c.replace.ensures.value ∙ c.in-Taken.is)) (sym c.replace.ensures.value ∙ c.in-Taken.is))
    (device_run _ _ _ c.run-ran.result c.run-ran.result.kind c.run-ran.result.number
    (out_of_ran c.args.self.now.db.side c.args.self.now.held c.in-Taken.turn c.run-ran.result c.args.self.now.paired (sym c.replace.ensures.value ∙ c.in-Taken.is) c.run-ran.ensures.kind c.run-ran.ensures.number)
    c.hold-in-Taken.ensures)
    (up_to_turn g.D.Device c.in-Taken.turn m _ _ t (c.run-ran.ensures.crash m t told))
