use Rattle.std.proofs.Common.{◌≡◌, ◌∙◌, Bool, true, false, sym, subst}
use Rattle.media_disk.specs.laws.Leaves.{leaves_more}
use Rattle.media_disk.specs.Leaves.{LeavesOnly}
use Rattle.hse_rows.specs.machine.Turn.{sync, written}
use Rattle.hse_rows.specs.machine.Calls.{take}
use Rattle.hse_rows.specs.machine.Core.{number_of}
use Rattle.hse_rows.specs.machine.CoreDone.{done}
use Rattle.kvdb.specs.Ending.{written_to}
use Rattle.kvdb.specs.Found.{StoresFrom}
use Rattle.kvdb.specs.Leaving.{StoresAll}
use Rattle.kvdb.specs.Serves.{IsUnsure}
use Rattle.kvdb.specs.Turns.{RanOf}
use Rattle.kvdb.proofs.LeavingLemmas.{side_unsure, from_taken, from_run, stores_all, same_number, device_is}
use Rattle.kvdb.proofs.engine.Kvdb.close.Goals as goal

pub returns-then-is_broken-clause-closes : goal.returns-then-is_broken-clause-closes
returns-then-is_broken-clause-closes g c m sound s = (
  sym s.state.is_broken ∙ sym c.is_broken.ensures ∙ c.if-is_broken.true,
  side_unsure g.D.Device c.args.self.side _ m sound.limits.until_now c.into_disk-disk.ensures s.side,
)

pub returns-in_default-clause-closes : goal.returns-in_default-clause-closes
returns-in_default-clause-closes g c m sound s = (
  sym s.state.is_broken ∙ sym c.is_broken.ensures ∙ c.if-is_broken.false,
  side_unsure g.D.Device c.take_sync.new.self.side _ m sound.limits.until_now c.into_disk-disk-in_default.ensures (c.in_default.ensures.takes m sound s).1.side,
)

pub returns-then-has_failed-clause-closes : goal.returns-then-has_failed-clause-closes
returns-then-has_failed-clause-closes g c m sound s =
    let took = c.in-Ok.ensures.takes m sound s in
    let failed : c.run-ran.result.has_failed ≡ true = sym c.failed-has_failed.ensures ∙ c.if-has_failed.true in
    let r : RanOf g.D.Device c.run-ran.result (written_to (done m (take sync)) true) =
    subst (λ (b : Bool). RanOf g.D.Device c.run-ran.result (written_to (done m (take sync)) b)) failed
    (c.run-ran.ensures.ran (done m (take sync)) took.turns) in (
      sym s.state.is_broken ∙ sym c.is_broken.ensures ∙ c.if-is_broken.false,
      subst (λ d. IsUnsure g.D.Device d m) (sym c.stop-disk.ensures)
          (λ told image left. from_run m _ true image (r.failed failed told image left)),
    )

pub returns-then-has_failed-clause-crash : goal.returns-then-has_failed-clause-crash
returns-then-has_failed-clause-crash g c m sound s told =
    let took = c.in-Ok.ensures.takes m sound s in
    device_is g.D.Device c.args.self.side c.in-Ok.turn.back _ c.in-Ok.ensures.given
    (subst (λ d. LeavesOnly g.D.Device c.in-Ok.turn.back.disk d (StoresFrom m (number_of m))) (sym c.stop-disk.ensures)
    (leaves_more g.D.Device c.in-Ok.turn.back.disk c.run-ran.result.back.disk (StoresFrom (done m (take sync)) c.in-Ok.turn.number) (StoresFrom m (number_of m))
    (c.run-ran.ensures.crash (done m (take sync)) took.turns told)
    (λ image has. from_taken m _ c.in-Ok.turn.number image took.turns.of.high has)))

pub returns-clause-closes : goal.returns-clause-closes
returns-clause-closes g c m sound s =
    let took = c.in-Ok.ensures.takes m sound s in
    let fine : c.run-ran.result.has_failed ≡ false = sym c.failed-has_failed.ensures ∙ c.if-has_failed.false in
    let r : RanOf g.D.Device c.run-ran.result (written_to (done m (take sync)) false) =
    subst (λ (b : Bool). RanOf g.D.Device c.run-ran.result (written_to (done m (take sync)) b)) fine
    (c.run-ran.ensures.ran (done m (take sync)) took.turns) in
    let number : c.in-Ok.turn.number ≡ number_of m =
    sym took.turns.of.is.number_is ∙ sym (same_number _ took.turns.out took.turns.phase) in (
      sym s.state.is_broken ∙ sym c.is_broken.ensures ∙ c.if-is_broken.false,
      number,
      λ told. subst (λ d. StoresAll g.D.Device d m) (sym c.stop-disk.ensures)
          (stores_all g.D.Device c.run-ran.result.back m (written (done m (take sync)).turn false) c.run-ran.result.number (c.run-ran.ensures.number ∙ number) (r.settled fine told)),
    )

pub returns-clause-crash : goal.returns-clause-crash
returns-clause-crash g c m sound s told =
    let took = c.in-Ok.ensures.takes m sound s in
    device_is g.D.Device c.args.self.side c.in-Ok.turn.back _ c.in-Ok.ensures.given
    (subst (λ d. LeavesOnly g.D.Device c.in-Ok.turn.back.disk d (StoresFrom m (number_of m))) (sym c.stop-disk.ensures)
    (leaves_more g.D.Device c.in-Ok.turn.back.disk c.run-ran.result.back.disk (StoresFrom (done m (take sync)) c.in-Ok.turn.number) (StoresFrom m (number_of m))
    (c.run-ran.ensures.crash (done m (take sync)) took.turns told)
    (λ image has. from_taken m _ c.in-Ok.turn.number image took.turns.of.high has)))
