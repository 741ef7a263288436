use Rattle.std.proofs.Common.{refl}
use Rattle.turn_phases.proofs.CloseLemmas.{closed_for, finished_home, leaves_for, leaves_home}
use Rattle.turn_phases.proofs.DeviceLemmas.{device_run, device_taken, leaves_at, out_run, out_taken, side_in}
use Rattle.turn_phases.proofs.HeldLemmas.{held_nothing, held_run, held_taken}
use Rattle.turn_phases.proofs.phases.TurnPhases.close.Goals as goal

pub returns-in-Nothing-clause-closes : goal.returns-in-Nothing-clause-closes
returns-in-Nothing-clause-closes g c m s =
    closed_for g.D.Device m m _ _ (finished_home m (held_nothing g.D.Device c.args.self.held m c.in-Nothing.is s.turn)) (c.close.ensures.closes m s.sound s.engine)

pub returns-in-Nothing-clause-crash : goal.returns-in-Nothing-clause-crash
returns-in-Nothing-clause-crash g c m s told =
    leaves_for g.D.Device m m _ _ (finished_home m (held_nothing g.D.Device c.args.self.held m c.in-Nothing.is s.turn))
    (leaves_home g.D.Device c.args.self.db.side c.args.self.held c.args.self.paired _ _ (side_in c.args.self.db.side c.args.self.held c.args.self.paired c.in-Nothing.is)
    (c.close.ensures.crash m s.sound s.engine told))

pub returns-in-Taken-clause-crash : goal.returns-in-Taken-clause-crash
returns-in-Taken-clause-crash g c m s told =
    leaves_at g.D.Device c.in-Taken.turn.back.disk _ _ _ _
    (device_taken c.args.self.db.side c.args.self.held c.args.self.paired c.in-Taken.turn c.in-Taken.turn.kind c.in-Taken.turn.number
    (out_taken c.args.self.db.side c.args.self.held c.in-Taken.turn c.args.self.paired c.in-Taken.is) c.in-Taken.is) refl
    (c.close_taken.ensures.crash m s.sound s.engine (held_taken g.D.Device c.args.self.held c.in-Taken.turn m c.in-Taken.is s.turn) told)

pub returns-in-Run-clause-crash : goal.returns-in-Run-clause-crash
returns-in-Run-clause-crash g c m s told =
    leaves_at g.D.Device c.in-Run.ran.back.disk _ _ _ _
    (device_run c.args.self.db.side c.args.self.held c.args.self.paired c.in-Run.ran c.in-Run.ran.kind c.in-Run.ran.number
    (out_run c.args.self.db.side c.args.self.held c.in-Run.ran c.args.self.paired c.in-Run.is) c.in-Run.is) refl
    (c.close_ran.ensures.crash m s.sound s.engine (held_run g.D.Device c.args.self.held c.in-Run.ran m c.in-Run.is s.turn) told)
