use Rattle.std.proofs.Common.{◌≡◌, ◌∙◌, ◌∷◌, ◌++◌, [], ℕ, List, ap, refl, subst, sym, inl}
use Rattle.std.specs.Prelude.{Err}
use Rattle.hse_io.specs.declared.outcome.Mark.{Mark}
use Rattle.hse_io.specs.declared.outcome.Status.{Status}
use Rattle.hse_shell.specs.Machine.{flushed, all_synced}
use Rattle.hse_shell.specs.Marks.{Marked, mark_of}
use Rattle.hse_shell.specs.Logged.{Serves}
use Rattle.hse_shell.specs.Turns.{Closes}
use Rattle.hse_shell.proofs.MarkLemmas.{marked_of}
use Rattle.hse_shell.proofs.RunLemmas.{Appends-none}
use Rattle.hse_shell.proofs.ClosingLemmas.{closes_parts}
use Rattle.hse_shell.proofs.LogLemmas.{marked_noted}
use Rattle.hse_shell.proofs.closing.close.Goals as goal

pub returns-in-Err-NoMemory-clause-closes : goal.returns-in-Err-NoMemory-clause-closes
returns-in-Err-NoMemory-clause-closes g c m s =
    let left = marked_of g.D.Device (λ disk clock image told le now. g.met.D.Disk.counts_now disk clock image told le now)
    c.flush.new.disk c.flush.new.self m
    (c.in-Err-NoMemory.ensures.no_memory (ap Err c.in-Err-NoMemory.field-0-is) m s) in
    let still = Appends-none (g.K.Sink.contents c.args.sink.now) in
    let marked : Marked g.D.Device c.flush.new.disk c.ended.result.marks.items m =
    subst (λ marks. Marked g.D.Device c.flush.new.disk marks.items m) (sym c.ended.ensures.marks) left in
    subst (λ (ended : Status). Closes g.D.Device ended m (g.K.Sink.contents c.args.sink.now) (g.K.Sink.contents c.args.sink.now) c.flush.new.disk c.ended.result.marks.items)
    (sym c.ended.ensures.status) (inl marked, still)

pub returns-clause-closes : goal.returns-clause-closes
returns-clause-closes g c m s =
    let after : Serves g.D.Device c.flush.new.disk c.flush.new.self (flushed m) = c.in-Ok.ensures.synced m s in
    let items = c.flush.new.self.marks.items in
    let number = c.flush.new.self.number in
    let is : c.closed_at-marks.result.items ≡ items ++ mark_of number (g.D.Device.clock c.flush.new.disk) ∷ [] =
    c.closed_at-marks.ensures ∙ ap (λ (n : ℕ). items ++ mark_of number n ∷ []) c.clock.ensures in
    let marked : Marked g.D.Device c.flush.new.disk c.closed_at-marks.result.items (all_synced m) =
    subst (λ (ms : List Mark). Marked g.D.Device c.flush.new.disk ms (all_synced m)) (sym is)
    (marked_noted g.D.Device (λ disk image told might. g.met.D.Disk.only_now disk image told might) c.flush.new.disk c.flush.new.self (flushed m) refl after
    (λ disk clock image told le now. g.met.D.Disk.counts_now disk clock image told le now)) in
    closes_parts g.D.Device c.part-status.result m number (g.K.Sink.contents c.args.sink.now) (g.K.Sink.contents c.part-status.new.sink)
    c.flush.new.disk c.flush.new.self c.closed_at-marks.result.items after after.stands.number c.part-status.ensures.parts marked
