use Rattle.std.specs.Prelude.{Err}
use Rattle.std.proofs.Common.{◌≡◌, true, false, refl, sym, ◌∙◌}
use Rattle.hse_rows.specs.machine.Calls.{write_turn}
use Rattle.kvdb.specs.laws.Written.{serves_written}
use Rattle.kvdb.specs.declared.leaving.CloseFault.TheVariants as fault
use Rattle.turn_phases.specs.Closing.{StoresWithin}
use Rattle.turn_phases.proofs.CloseLemmas.{closed_at, closed_failed, closed_written, leaves_both, leaves_turn}
use Rattle.turn_phases.proofs.DeviceLemmas.{leaves_at}
use Rattle.turn_phases.proofs.TurnLemmas.{ran_badly, ran_well, written_refused}
use Rattle.turn_phases.proofs.closing.close_taken.Goals as goal

pub returns-then-failed-clause-closes : goal.returns-then-failed-clause-closes
returns-then-failed-clause-closes g c m sound s t =
    let fails : c.run-ran.result.has_failed ≡ true = sym c.failed.ensures ∙ c.if-failed.true in
    closed_at g.D.Device m (Err fault.Device) _ _ c.stop-then-failed.ensures
    (closed_failed g.D.Device m c.args.turn c.run-ran.result t (ran_badly g.D.Device c.run-ran.result m fails (c.run-ran.ensures.ran m t)) fails
    (c.run-ran.ensures.works m t fails))

pub returns-then-failed-clause-crash : goal.returns-then-failed-clause-crash
returns-then-failed-clause-crash g c m sound s t told =
    leaves_at g.D.Device c.args.turn.back.disk c.run-ran.result.back.disk c.args.turn.back.disk _ (StoresWithin m) refl c.stop-then-failed.ensures
    (leaves_turn g.D.Device c.args.turn m _ _ t (c.run-ran.ensures.crash m t told))

pub returns-clause-closes : goal.returns-clause-closes
returns-clause-closes g c m sound s t =
    let fine : c.run-ran.result.has_failed ≡ false = sym c.failed.ensures ∙ c.if-failed.false in
    closed_written g.D.Device m t.out _ _ t.phase
    (c.close_ran.ensures.closes _ (c.steps_keep_states_sound.ensures.calls m write_turn sound (written_refused m t.out t.phase))
    (serves_written g.D.Device c.args.db m t.out t.phase s) (ran_well g.D.Device c.run-ran.result m fine (c.run-ran.ensures.ran m t)))

pub returns-clause-crash : goal.returns-clause-crash
returns-clause-crash g c m sound s t told =
    let fine : c.run-ran.result.has_failed ≡ false = sym c.failed.ensures ∙ c.if-failed.false in
    leaves_both g.D.Device c.args.turn m _ _ _ c.run-ran.ensures.calls.forward t (c.run-ran.ensures.crash m t told)
    (c.close_ran.ensures.crash _ (c.steps_keep_states_sound.ensures.calls m write_turn sound (written_refused m t.out t.phase))
    (serves_written g.D.Device c.args.db m t.out t.phase s) (ran_well g.D.Device c.run-ran.result m fine (c.run-ran.ensures.ran m t)) told)
