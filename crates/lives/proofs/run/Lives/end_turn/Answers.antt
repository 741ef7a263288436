use Rattle.std.proofs.Common.{refl, ap, ◌∙◌}
use Rattle.turn_phases.specs.Devices.{device_of}
use Rattle.lives.proofs.EndLemmas.{end_noted, end_refused, roomy}
use Rattle.lives.proofs.run.Lives.end_turn.Goals as goal

pub returns-in-Err-clause-ends : goal.returns-in-Err-clause-ends
returns-in-Err-clause-ends g c s l =
    let mid = roomy g.D.Device c.args.self.now c.make_room.new.self s c.make_room.ensures.same l in
    end_refused g.D.Device s c.in-Err.fault c.make_room.new.self _ refl refl c.in-Err.ensures.device mid (c.in-Err.ensures.ends s.machine mid.phases)

pub returns-in-Ok-end_turn-clause-ends : goal.returns-in-Ok-end_turn-clause-ends
returns-in-Ok-end_turn-clause-ends g c s l =
    let mid = roomy g.D.Device c.args.self.now c.make_room.new.self s c.make_room.ensures.same l in
    end_noted g.D.Device g.met.D.Disk.only_now s c.in-Ok-end_turn.number c.make_room.new.self _ c.note_now.new.self refl refl
    c.in-Ok-end_turn.ensures.device (c.in-Ok-end_turn.ensures.ends s.machine mid.phases) c.note_now.ensures.noted mid

pub returns-in-Ok-end_turn-clause-device : goal.returns-in-Ok-end_turn-clause-device
returns-in-Ok-end_turn-clause-device g c =
    ap (λ p. device_of p) c.note_now.ensures.phases ∙ c.in-Ok-end_turn.ensures.device ∙ ap (λ p. device_of p) c.make_room.ensures.same.phases
