-- What was written before a failure begins the bytes, and each write adds to it.
use Rattle.std.proofs.Common.{true, take, drop, refl, ap, sym, ◌∙◌, subst, take-append-drop}
use Rattle.std.proofs.KnownBytes.{Appends-trans, Appends-kept}
use Rattle.std.specs.Io.KnownBytes.{Appends}
use Rattle.hse_io.proofs.WriteLemmas.{OnErr-always, take_more, within_more}
use Rattle.hse_io.proofs.std_sink.StdSinkSink.write.Goals as goal

pub returns-in_err-done-clause-partly : goal.returns-in_err-done-clause-partly
returns-in_err-done-clause-partly g c =
    let bytes = c.args.bytes.now in
    let done = c.writes.done in
    OnErr-always c.from_residual.result (
      take done bytes,
      drop done bytes,
      sym (take-append-drop done bytes),
      Appends-kept c.args.self.now.told c.writes.self.told c.write_some.new.self.told (take done bytes) c.writes.invariant.appended c.in_err-done.ensures.written,
    )

pub writes-preserved : goal.writes-preserved
writes-preserved g c =
    let bytes = c.args.bytes.now in
    let done = c.writes.done in
    let count = c.in_ok-done.field-0 in
    record {
      within = within_more bytes done count c.writes.invariant.within c.in_ok-done.ensures.within;
      appended = subst (Appends c.args.self.now.told c.write_some.new.self.told) (sym (take_more bytes done count))
          (Appends-trans c.args.self.now.told c.writes.self.told c.write_some.new.self.told (take done bytes) _ c.writes.invariant.appended c.in_ok-done.ensures.written);
      faults = c.in_ok-done.ensures.cause.quiet (refl {a = true}) ∙ c.writes.invariant.faults;
    }

pub returns-clause-partly : goal.returns-clause-partly
returns-clause-partly g c =
    let bytes = c.args.bytes.now in
    let done = c.writes.done in
    (take done bytes, drop done bytes, sym (take-append-drop done bytes), rw (ap (λ sink. sink.told) c.count_fault.ensures.state) c.writes.invariant.appended)
