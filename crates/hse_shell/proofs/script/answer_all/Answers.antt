use Rattle.std.proofs.Common.{ap, arith, rules}
use Rattle.std.specs.Prelude.{Ok}
use Rattle.hse_shell.proofs.script.answer_all.Goals as goal

pub lines-preserved : goal.lines-preserved
lines-preserved g c =
    record {
      so_far = λ start s. c.in-Ok-Text.ensures.text (ap Ok c.in-Ok-Text.field-0-is) start (c.lines.invariant.so_far start s);
      extent = search rules;
      read = omega arith;
      wrote = omega arith;
      failed = omega arith;
    }

pub returns-in-Ok-Ended-clause-ended : goal.returns-in-Ok-Ended-clause-ended
returns-in-Ok-Ended-clause-ended g c start s =
    c.in-Ok-Ended.ensures.ended (ap Ok c.in-Ok-Ended.field-0-is) start (c.lines.invariant.so_far start s)
