use Rattle.std.proofs.Common.{refl, sym, ap, subst}
use Rattle.media_disk.specs.Calls.{CallsMade}
use Rattle.kvdb.specs.Taking.{wish_as}
use Rattle.turn_phases.specs.Devices.{device_of}
use Rattle.lives.proofs.EndLemmas.{roomy}
use Rattle.lives.proofs.WholeLemmas.{turn_noted, turn_refused}
use Rattle.lives.proofs.run.Lives.whole_turn.Goals as goal

pub returns-in-Err-clause-turns : goal.returns-in-Err-clause-turns
returns-in-Err-clause-turns g c s l =
    let mid = roomy g.D.Device c.args.self.now c.make_room.new.self s c.make_room.ensures.same l in
    turn_refused g.D.Device s (wish_as c.args.what.now) c.make_room.new.self mid c.in-Err.fault _ refl refl c.in-Err.ensures.calls.forward
    (c.in-Err.ensures.crash s.machine mid.phases) c.in-Err.ensures.refused (c.in-Err.ensures.turns s.machine mid.phases)

pub returns-in-Ok-whole_turn-clause-turns : goal.returns-in-Ok-whole_turn-clause-turns
returns-in-Ok-whole_turn-clause-turns g c s l =
    let mid = roomy g.D.Device c.args.self.now c.make_room.new.self s c.make_room.ensures.same l in
    turn_noted g.D.Device s (wish_as c.args.what.now) c.make_room.new.self mid g.met.D.Disk.only_now c.in-Ok-whole_turn.number _ c.note_now.new.self refl refl
    c.in-Ok-whole_turn.ensures.calls.forward (c.in-Ok-whole_turn.ensures.crash s.machine mid.phases)
    (c.in-Ok-whole_turn.ensures.turns s.machine mid.phases) c.note_now.ensures.noted

pub returns-in-Ok-whole_turn-clause-calls : goal.returns-in-Ok-whole_turn-clause-calls
returns-in-Ok-whole_turn-clause-calls g c =
    subst (λ (d : _). CallsMade g.D.Device d (device_of c.note_now.new.self.phases)) (ap (λ p. device_of p) c.make_room.ensures.same.phases)
    (subst (λ (d : _). CallsMade g.D.Device (device_of c.make_room.new.self.phases) d) (sym (ap (λ p. device_of p) c.note_now.ensures.phases)) c.in-Ok-whole_turn.ensures.calls)
