use Rattle.std.proofs.Common.{refl, sym, ◌∙◌}
use Rattle.turn_phases.proofs.DeviceLemmas.{device_in_engine, device_run, device_same, out_run}
use Rattle.turn_phases.proofs.HeldLemmas.{held_nothing, held_run, held_taken, serve_by}
use Rattle.turn_phases.proofs.TurnLemmas.{ended, ended_badly, still_home, still_taken}
use Rattle.turn_phases.proofs.phases.TurnPhases.end_turn.Goals as goal

pub end_turn-requires : goal.end_turn-requires
end_turn-requires g c = record { out = out_run c.args.self.now.db.side c.args.self.now.held c.in-Run.ran c.args.self.now.paired (sym c.replace.ensures.value ∙ c.in-Run.is) }

pub returns-in-Nothing-clause-ends : goal.returns-in-Nothing-clause-ends
returns-in-Nothing-clause-ends g c m s =
    still_home g.D.Device m _ (held_nothing g.D.Device c.args.self.now.held m (sym c.replace.ensures.value ∙ c.in-Nothing.is) s.turn)
    (serve_by g.D.Device _ c.args.self.now.db c.args.self.now.held m refl (c.replace.ensures.after ∙ sym (sym c.replace.ensures.value ∙ c.in-Nothing.is)) s.engine s.sound s.turn)

pub returns-in-Taken-clause-ends : goal.returns-in-Taken-clause-ends
returns-in-Taken-clause-ends g c m s =
    let t = held_taken g.D.Device c.args.self.now.held c.in-Taken.turn m (sym c.replace.ensures.value ∙ c.in-Taken.is) s.turn in
    still_taken g.D.Device m t.out _ t.phase
    (serve_by g.D.Device _ c.args.self.now.db c.args.self.now.held m refl (c.hold.ensures ∙ sym (sym c.replace.ensures.value ∙ c.in-Taken.is)) s.engine s.sound s.turn)

pub returns-in-Ok-clause-ends : goal.returns-in-Ok-clause-ends
returns-in-Ok-clause-ends g c m s =
    let r = held_run g.D.Device c.args.self.now.held c.in-Run.ran m (sym c.replace.ensures.value ∙ c.in-Run.is) s.turn in
    ended g.D.Device m c.in-Run.ran _ _ c.steps_keep_states_sound.ensures.calls s.sound r c.replace.ensures.after (c.in-Ok.ensures.ends m s.sound s.engine r)

pub returns-in-Err-clause-ends : goal.returns-in-Err-clause-ends
returns-in-Err-clause-ends g c m s =
    let r = held_run g.D.Device c.args.self.now.held c.in-Run.ran m (sym c.replace.ensures.value ∙ c.in-Run.is) s.turn in
    ended_badly g.D.Device m c.in-Run.ran _ _ c.steps_keep_states_sound.ensures.refusals s.sound r c.replace.ensures.after (c.in-Err.ensures.ends m s.sound s.engine r)

pub returns-in-Nothing-clause-device : goal.returns-in-Nothing-clause-device
returns-in-Nothing-clause-device g c = device_same c.args.self.now.db.side _ c.args.self.now.held _ c.args.self.now.paired _ refl (c.replace.ensures.after ∙ sym (sym c.replace.ensures.value ∙ c.in-Nothing.is))

pub returns-in-Taken-clause-device : goal.returns-in-Taken-clause-device
returns-in-Taken-clause-device g c = device_same c.args.self.now.db.side _ c.args.self.now.held _ c.args.self.now.paired _ refl (c.hold.ensures ∙ sym (sym c.replace.ensures.value ∙ c.in-Taken.is))

pub returns-in-Ok-clause-device : goal.returns-in-Ok-clause-device
returns-in-Ok-clause-device g c =
    device_in_engine _ _ _ c.in-Run.ran.back c.in-Ok.ensures.home
    ∙ sym (device_run c.args.self.now.db.side c.args.self.now.held c.args.self.now.paired c.in-Run.ran c.in-Run.ran.kind c.in-Run.ran.number
    (out_run c.args.self.now.db.side c.args.self.now.held c.in-Run.ran c.args.self.now.paired (sym c.replace.ensures.value ∙ c.in-Run.is)) (sym c.replace.ensures.value ∙ c.in-Run.is))

pub returns-in-Err-clause-device : goal.returns-in-Err-clause-device
returns-in-Err-clause-device g c =
    device_in_engine _ _ _ c.in-Run.ran.back c.in-Err.ensures.home
    ∙ sym (device_run c.args.self.now.db.side c.args.self.now.held c.args.self.now.paired c.in-Run.ran c.in-Run.ran.kind c.in-Run.ran.number
    (out_run c.args.self.now.db.side c.args.self.now.held c.in-Run.ran c.args.self.now.paired (sym c.replace.ensures.value ∙ c.in-Run.is)) (sym c.replace.ensures.value ∙ c.in-Run.is))
