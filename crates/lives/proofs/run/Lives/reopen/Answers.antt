use Rattle.std.specs.Prelude.{Option, IfSome}
use Rattle.std.proofs.Common.{ℕ, ◌<◌, ◌^◌, refl, sym, subst}
use Rattle.recovery.specs.Keeps.{IsBarrier}
use Rattle.turn_phases.specs.Devices.{device_of}
use Rattle.lives.proofs.EndLemmas.{roomy}
use Rattle.lives.proofs.ReopenLemmas.{begun_again, clock_home, next_later, not_reopened}
use Rattle.lives.proofs.run.Lives.reopen.Goals as goal

pub returns-in-Err-clause-reopens : goal.returns-in-Err-clause-reopens
returns-in-Err-clause-reopens g c s l =
    let mid = roomy g.D.Device c.args.self.now c.make_room.new.self s c.make_room.ensures.same l in
    not_reopened g.D.Device s c.make_room.new.self mid _ c.in-Err.fault refl refl (c.in-Err.ensures.device s.machine mid.phases)
    (c.in-Err.ensures.crash s.machine mid.phases) (c.in-Err.ensures.reopens s.machine mid.phases)

pub returns-in-Ok-reopen-clause-reopens : goal.returns-in-Ok-reopen-clause-reopens
returns-in-Ok-reopen-clause-reopens g c s l =
    let mid = roomy g.D.Device c.args.self.now c.make_room.new.self s c.make_room.ensures.same l in
    let r = c.in-Ok-reopen.ensures.reopens s.machine mid.phases in
    let barrier : IsBarrier g.D.Device (device_of c.make_room.new.self.phases) (device_of c.reopen.new.self) c.moment-moment.result =
    subst (λ (n : _). IsBarrier g.D.Device (device_of c.make_room.new.self.phases) (device_of c.reopen.new.self) n) (sym c.moment-moment.ensures)
    (c.in-Ok-reopen.ensures.barrier s.machine mid.phases) in
    let small = subst (λ (o : Option ℕ). IfSome o (λ clock. clock < 2 ^ 64))
    (clock_home g.D.Device c.make_room.new.self.phases s.machine r.0 mid.phases) c.clock_has_eight_bytes.ensures in (
      r.0,
      λ told. begun_again g.D.Device s c.make_room.new.self mid _ c.note_life.new.self c.in-Ok-reopen.number c.moment-moment.result refl refl
          (next_later (g.D.Device.clock (device_of c.make_room.new.self.phases)) c.moment-moment.result small barrier.first)
          (c.in-Ok-reopen.ensures.crash s.machine mid.phases) barrier (r.1 told) c.note_life.ensures told,
    )
