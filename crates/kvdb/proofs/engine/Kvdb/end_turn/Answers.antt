use Rattle.std.proofs.Common.{true, refl}
use Rattle.hse_rows.specs.machine.Turn.{written}
use Rattle.hse_rows.specs.machine.Calls.{write_turn}
use Rattle.hse_rows.specs.machine.CoreDone.{failing}
use Rattle.kvdb.specs.Serves.{of_sets}
use Rattle.kvdb.specs.laws.Written.{above_turn}
use Rattle.kvdb.proofs.TurnLemmas.{ended_as, failed_as, serves_ended, serves_failed, serves_marked}
use Rattle.kvdb.proofs.engine.Kvdb.end_turn.Goals as goal

pub returns-then-has_failed-clause-ends : goal.returns-then-has_failed-clause-ends
returns-then-has_failed-clause-ends g c m sound s r =
    failed_as g.D.Device _ c.args.ran m r c.if-has_failed.true
    (serves_failed g.D.Device c.args.self.now _ c.args.ran m s r sound.limits.since_base c.replace.ensures.after refl c.if-has_failed.true
    (λ later. c.break_down.ensures.serves m _ later s.state) refl refl)

pub returns-clause-ends : goal.returns-clause-ends
returns-clause-ends g c m sound s r =
    ended_as g.D.Device _ c.args.ran m r c.if-has_failed.false
    (serves_ended g.D.Device c.args.self.now _ c.args.ran m s r sound.limits.since_base c.replace.ensures.after refl c.if-has_failed.false
    (c.settle.ensures m _ s.state) c.sequence-sequence.ensures refl)

pub returns-then-has_failed-clause-unmarked : goal.returns-then-has_failed-clause-unmarked
returns-then-has_failed-clause-unmarked g c m sound is s failed r =
    let after = failing m write_turn in
    let marked = serves_marked g.D.Device c.args.self.now (record c.args.self.now { state = c.break_down.new.self }) m is.0 _ _ is.1 s
    (λ later. c.break_down.ensures.serves m _ later s.state) c.requires.out refl refl refl refl in
    failed_as g.D.Device _ c.args.ran after r failed
    (serves_failed g.D.Device (record c.args.self.now { state = c.break_down.new.self }) _ c.args.ran after marked r sound.limits.since_base
    c.replace.ensures.after refl failed
    (λ later. above_turn of_sets c.break_down.new.self (record m { is_broken = true }) (written m.turn true) later
    (c.break_down.ensures.serves m _ later s.state)) refl refl)

pub returns-clause-unmarked : goal.returns-clause-unmarked
returns-clause-unmarked g c m sound is s failed r =
    absurd (let fine = c.if-has_failed.false in cc)
