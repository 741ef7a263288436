use Rattle.std.proofs.Common.{◌≤◌, ◌+◌, ℕ, List, IfSome, length, sym, subst, arith}
use Rattle.std.specs.Prelude.{Ok}
use Rattle.hse_io.specs.declared.source.Got.TheVariants.{Text}
use Rattle.hse_io.specs.Longest.{longest_script}
use Rattle.hse_io.specs.Takes.{Takes}
use Rattle.hse_shell.specs.SoFar.{IsShort}
use Rattle.hse_shell.proofs.RunLemmas.{so_far_more, so_far_ended}
use Rattle.hse_shell.proofs.StopLemmas.{failed_to_read, meets_long_line, meets_limit, stops_unreplied}
use Rattle.hse_shell.proofs.script.advance.Goals as goal

pub returns-in-Ok-Ended-clause-ended : goal.returns-in-Ok-Ended-clause-ended
returns-in-Ok-Ended-clause-ended g c is start s =
    so_far_ended g.D.Device start (g.S.Source.remaining c.args.source.now) _ (g.K.Sink.contents c.args.sink.now)
    c.args.disk.now c.args.engine.now c.args.script.now.taken c.read_line.new.into s
    (rw c.in-Ok-Ended.field-0-is at c.in-Ok-Ended.ensures.takes)

pub returns-in-Err-Failed-clause-stops : goal.returns-in-Err-Failed-clause-stops
returns-in-Err-Failed-clause-stops g c start s =
    failed_to_read g.D.Device (λ disk clock image told le now. g.met.D.Disk.counts_now disk clock image told le now) start (g.S.Source.remaining c.args.source.now) (g.K.Sink.contents c.args.sink.now)
    c.args.disk.now c.args.engine.now c.args.script.now.taken (omega (arith, c.args.script.now.within)) s

pub returns-in-Err-TooLong-clause-stops : goal.returns-in-Err-TooLong-clause-stops
returns-in-Err-TooLong-clause-stops g c start s =
    meets_long_line g.D.Device (λ disk clock image told le now. g.met.D.Disk.counts_now disk clock image told le now) start (g.S.Source.remaining c.args.source.now) (g.K.Sink.contents c.args.sink.now)
    c.args.disk.now c.args.engine.now c.args.script.now.taken (omega (arith, c.args.script.now.within)) s
    c.read_line.new.into (g.S.Source.remaining c.read_line.new.self)
    (rw c.in-Err-TooLong.field-0-is at c.in-Err-TooLong.ensures.takes)

pub returns-in-Err-clause-stops : goal.returns-in-Err-clause-stops
returns-in-Err-clause-stops g c start s =
    stops_unreplied g.D.Device (λ disk clock image told le now. g.met.D.Disk.counts_now disk clock image told le now) start (g.S.Source.remaining c.args.source.now) (g.K.Sink.contents c.args.sink.now)
    c.args.disk.now c.args.engine.now c.args.script.now.taken (omega (arith, c.args.script.now.within)) s
    c.in-Err.status c.bytes-line.result.now (g.S.Source.remaining c.read_line.new.self) (g.K.Sink.contents c.answer.new.sink)
    c.answer.new.disk c.answer.new.engine.marks.items
    (subst (λ (line : List ℕ). IfSome (g.S.Source.remaining c.args.source.now) (λ all. Takes all (Ok Text) line (g.S.Source.remaining c.read_line.new.self)))
    (sym c.bytes-line.ensures.value) (rw c.in-Ok-Text.field-0-is at c.in-Ok-Text.ensures.takes))
    (subst IsShort (sym c.bytes-line.ensures.value) c.bytes-line.ensures.fits)
    (c.in-Err.ensures.unreplied s.ran.state s.serves)

pub returns-then-taken-gt-LONGEST_SCRIPT-clause-stops : goal.returns-then-taken-gt-LONGEST_SCRIPT-clause-stops
returns-then-taken-gt-LONGEST_SCRIPT-clause-stops g c start s =
    let reached : longest_script + 1 ≤ c.args.script.now.taken + length c.bytes-line.result.now + 1 = omega arith in
    meets_limit g.D.Device (λ disk clock image told le now. g.met.D.Disk.counts_now disk clock image told le now) start (g.S.Source.remaining c.args.source.now) (g.K.Sink.contents c.args.sink.now)
    c.args.disk.now c.args.engine.now c.args.script.now.taken (omega (arith, c.args.script.now.within)) s
    c.bytes-line.result.now (g.S.Source.remaining c.read_line.new.self) (g.K.Sink.contents c.answer.new.sink)
    c.answer.new.disk c.answer.new.engine
    (subst (λ (line : List ℕ). IfSome (g.S.Source.remaining c.args.source.now) (λ all. Takes all (Ok Text) line (g.S.Source.remaining c.read_line.new.self)))
    (sym c.bytes-line.ensures.value) (rw c.in-Ok-Text.field-0-is at c.in-Ok-Text.ensures.takes))
    (subst IsShort (sym c.bytes-line.ensures.value) c.bytes-line.ensures.fits)
    (c.in-Ok.ensures.replied s.ran.state s.serves) reached

pub returns-clause-text : goal.returns-clause-text
returns-clause-text g c is start s =
    so_far_more g.D.Device start (g.S.Source.remaining c.args.source.now) (g.S.Source.remaining c.read_line.new.self)
    (g.K.Sink.contents c.args.sink.now) (g.K.Sink.contents c.answer.new.sink)
    c.args.disk.now c.answer.new.disk c.args.engine.now c.answer.new.engine c.args.script.now.taken
    c.bytes-line.result.now s
    (subst (λ (line : List ℕ). IfSome (g.S.Source.remaining c.args.source.now) (λ all. Takes all (Ok Text) line (g.S.Source.remaining c.read_line.new.self)))
    (sym c.bytes-line.ensures.value) (rw c.in-Ok-Text.field-0-is at c.in-Ok-Text.ensures.takes))
    (subst IsShort (sym c.bytes-line.ensures.value) c.bytes-line.ensures.fits)
    (c.in-Ok.ensures.replied s.ran.state s.serves)
