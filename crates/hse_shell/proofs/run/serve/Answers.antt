use Rattle.std.proofs.Common.{ℕ, [], ap, refl, subst, sym, inr}
use Rattle.std.specs.Prelude.{Err}
use Rattle.std.specs.Io.KnownBytes.{Appends}
use Rattle.hse_io.specs.declared.outcome.Status.{Status}
use Rattle.hse_shell.specs.Ending.{AppendsOrFails}
use Rattle.hse_shell.specs.Ends.{EndsTold}
use Rattle.hse_shell.specs.Replies.{not_formed_text}
use Rattle.hse_shell.specs.SoFar.{Start}
use Rattle.hse_shell.proofs.RunLemmas.{Appends-none}
use Rattle.hse_shell.proofs.StopLemmas.{ends_refused}
use Rattle.hse_shell.proofs.run.serve.Goals as goal

pub returns-in-Err-NotFormed-clause-ends : goal.returns-in-Err-NotFormed-clause-ends
returns-in-Err-NotFormed-clause-ends g c =
    let start : Start g.row.D.Denot = record { device = c.args.disk.now; input = g.S.Source.remaining c.args.source.now; held = g.K.Sink.contents c.args.sink.now } in
    let left = g.S.Source.remaining c.args.source.now in
    let after = g.K.Sink.contents c.refuse.new.sink in
    let faults = g.K.Sink.faults c.args.sink.now in
    let now = g.K.Sink.faults c.refuse.new.sink in
    let marks = c.unopened-in-Err-NotFormed.result.marks.items in
    let refused = c.in-Err-NotFormed.ensures.refused c.in-Err-NotFormed.place (ap Err c.in-Err-NotFormed.field-0-is) in
    subst (λ (ended : Status). EndsTold g.D.Device ended start left after faults now c.open.new.disk marks) (sym c.unopened-in-Err-NotFormed.ensures.status)
    (ends_refused g.D.Device c.refuse.result start left after faults now c.open.new.disk marks c.refuse.ensures.status
    (λ is. record {
      place = c.in-Err-NotFormed.place;
      refused = λ told. (refused told).0;
      unread = refl;
      unmarked = c.unopened-in-Err-NotFormed.ensures.marks;
      stays = λ told. (refused told).1;
      told = subst (λ (place : ℕ). AppendsOrFails faults now (g.K.Sink.contents c.args.sink.now) after (not_formed_text place))
          c.in-Err-NotFormed.place-is (c.refuse.ensures.told is);
    })
    (λ is. record {
      unread = refl;
      silent = subst (λ sink. Appends (g.K.Sink.contents c.args.sink.now) (g.K.Sink.contents sink) []) (sym (c.refuse.ensures.silent is))
          (Appends-none (g.K.Sink.contents c.args.sink.now));
      unmarked = c.unopened-in-Err-NotFormed.ensures.marks;
      stays = λ told. inr (refused told).1;
    }))
