use Rattle.std.proofs.Common.{ap, ◌∙◌, ◌++◌, ◌≡◌, ◌∷◌, [], ℕ, refl}
use Rattle.std.specs.Prelude.{Err}
use Rattle.hse_shell.specs.Machine.{flushed}
use Rattle.hse_shell.specs.Marks.{mark_of}
use Rattle.hse_shell.specs.Stands.{NotesOnly}
use Rattle.hse_shell.specs.declared.engine.Engine.{Engine}
use Rattle.hse_shell.proofs.LogLemmas.{serves_noted, serves_reserved}
use Rattle.hse_shell.proofs.engine.Engine.sync.Goals as goal

same : {old new : Engine} → new.rows ≡ old.rows → new.number ≡ old.number → new.charges ≡ old.charges → new.waiting ≡ old.waiting
    → new.count ≡ old.count → new.tail ≡ old.tail → NotesOnly old new
same rows number charges waiting count tail =
    record { rows = rows; number = number; charges = charges; waiting = waiting; count = count; tail = tail }

pub returns-clause-answers : goal.returns-clause-answers
returns-clause-answers g c m s =
    let flushed_one = c.in-Ok-flush.ensures.synced m
    (serves_reserved g.D.Device c.args.disk.now c.args.self.now _ m (same refl refl refl refl refl refl) c.reserve.ensures.items s) in
    let moment : c.note.new.self.marks.items ≡ c.flush.new.self.marks.items ++ mark_of c.flush.new.self.number (g.D.Device.clock c.flush.new.disk) ∷ [] =
    c.note.ensures.marks ∙ ap (λ (n : ℕ). c.flush.new.self.marks.items ++ mark_of c.flush.new.self.number n ∷ []) c.clock.ensures in
    let after = serves_noted g.D.Device g.met.D.Disk.only_now c.flush.new.disk c.flush.new.self (flushed m) refl flushed_one c.note.new.self c.note.ensures.kept moment in
    record { step = (after.stands.number, refl); serves = after }

pub returns-in-Err-Device-clause-marked : goal.returns-in-Err-Device-clause-marked
returns-in-Err-Device-clause-marked g c m s =
    c.in-Err-Device.ensures.marked (ap Err c.in-Err-Device.field-0-is) m
    (serves_reserved g.D.Device c.args.disk.now c.args.self.now _ m (same refl refl refl refl refl refl) c.reserve.ensures.items s)
