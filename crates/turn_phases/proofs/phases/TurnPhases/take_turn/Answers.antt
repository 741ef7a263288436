use Rattle.std.proofs.Common.{refl, sym, ◌∙◌}
use Rattle.kvdb.specs.Taking.{wish_as}
use Rattle.turn_phases.proofs.DeviceLemmas.{device_in_engine, device_taken, none_held}
use Rattle.turn_phases.proofs.HeldLemmas.{serve_by}
use Rattle.turn_phases.proofs.TurnLemmas.{took_turn}
use Rattle.turn_phases.proofs.phases.TurnPhases.take_turn.Goals as goal

pub hold-requires : goal.hold-requires
hold-requires g c = none_held c.args.self.now.db.side c.args.self.now.held c.in-Ok.turn.back c.args.self.now.paired c.in-Ok.ensures.given

pub returns-in-Ok-clause-takes : goal.returns-in-Ok-clause-takes
returns-in-Ok-clause-takes g c m s =
    took_turn g.D.Device m (wish_as c.args.what.now) c.in-Ok.turn _ c.steps_keep_states_sound.ensures.calls s.sound c.hold.ensures
    (c.in-Ok.ensures.takes m s.sound s.engine)

pub returns-in-Err-clause-takes : goal.returns-in-Err-clause-takes
returns-in-Err-clause-takes g c m s =
    let e = c.in-Err.ensures.takes m s.sound s.engine in
    (e.0, serve_by g.D.Device _ _ c.args.self.now.held m refl refl e.1 s.sound s.turn)

pub returns-in-Ok-clause-device : goal.returns-in-Ok-clause-device
returns-in-Ok-clause-device g c =
    device_taken _ _ _ c.in-Ok.turn c.in-Ok.turn.kind c.in-Ok.turn.number c.in-Ok.ensures.out c.hold.ensures
    ∙ sym (device_in_engine c.args.self.now.db.side c.args.self.now.held c.args.self.now.paired c.in-Ok.turn.back c.in-Ok.ensures.given)
