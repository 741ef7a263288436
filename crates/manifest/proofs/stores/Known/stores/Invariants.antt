use Rattle.std.proofs.Common.{◌≡◌}
use Rattle.manifest.specs.Reading.{many, store_step, stores_of}
use Rattle.manifest.specs.Views.{stores_as}
use Rattle.hse_rows.specs.machine.TakenRuns.{runs_as}
use Rattle.manifest.proofs.stores.Known.stores.Given as goal

abbrev pub invariant-loop-left : goal.invariant-loop-left
invariant-loop-left l =
    many (store_step l.self.most l.self.horizon (runs_as l.self.taken.now)) (stores_as l.stores.items) l.left l.rest
    ≡ stores_of l.self.most l.self.horizon (runs_as l.self.taken.now) l.count l.bytes

abbrev pub decreases-loop-left : goal.decreases-loop-left
decreases-loop-left l = l.left
