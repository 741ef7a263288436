use Rattle.std.proofs.Common.{OnOk, subst}
use Rattle.media_disk.specs.Leaves.{LeavesOnly}
use Rattle.recovery.specs.Image.{Loaded}
use Rattle.back.specs.Home.{AtRest}
use Rattle.back.specs.Leaving.{OldOrNew}
use Rattle.back.proofs.EnterLemmas.{is_logged, is_rolled}
use Rattle.back.proofs.back.Back.write_entry.Goals as goal

pub returns-in-Log-clause-entered : goal.returns-in-Log-clause-entered
returns-in-Log-clause-entered g c = λ told loaded entry rest may planned.
    let old = c.args.self.now in
    let is = rw c.in-Log.is at planned in
    subst (λ (after : Loaded). OnOk c.log_entry.result (AtRest g.D.Device c.log_entry.new.self.disk c.log_entry.new.self.layout
    c.log_entry.new.self.log c.log_entry.new.self.manifest after))
    (is_logged old.layout old.log old.manifest loaded rest.home entry is.1)
    (c.log_entry.ensures.logged told loaded entry rest may is.0)

pub returns-in-Log-clause-crash : goal.returns-in-Log-clause-crash
returns-in-Log-clause-crash g c = λ told loaded entry rest may planned.
    let old = c.args.self.now in
    let is = rw c.in-Log.is at planned in
    subst (λ (after : Loaded). LeavesOnly g.D.Device old.disk c.log_entry.new.self.disk (OldOrNew loaded after))
    (is_logged old.layout old.log old.manifest loaded rest.home entry is.1)
    (c.log_entry.ensures.crash told loaded entry rest may is.0)

pub returns-in-Roll-clause-entered : goal.returns-in-Roll-clause-entered
returns-in-Roll-clause-entered g c = λ told loaded entry rest may planned.
    let old = c.args.self.now in
    let is = rw c.in-Roll.is at planned in
    subst (λ (after : Loaded). OnOk c.roll_to.result (AtRest g.D.Device c.roll_to.new.self.disk c.roll_to.new.self.layout
    c.roll_to.new.self.log c.roll_to.new.self.manifest after))
    (is_rolled old.layout old.log old.manifest loaded rest.home entry is.1)
    (c.roll_to.ensures.rolled told loaded entry rest may is.0)

pub returns-in-Roll-clause-crash : goal.returns-in-Roll-clause-crash
returns-in-Roll-clause-crash g c = λ told loaded entry rest may planned.
    let old = c.args.self.now in
    let is = rw c.in-Roll.is at planned in
    subst (λ (after : Loaded). LeavesOnly g.D.Device old.disk c.roll_to.new.self.disk (OldOrNew loaded after))
    (is_rolled old.layout old.log old.manifest loaded rest.home entry is.1)
    (c.roll_to.ensures.crash told loaded entry rest may is.0)
