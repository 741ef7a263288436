use Rattle.std.proofs.Common.{◌∙◌, ◌≤◌, sym, arith}
use Rattle.wal.proofs.RunLemmas.{before_runs, behind_run}
use Rattle.wal.proofs.expected.first_free.Goals as goal

pub returns-then-next-run-clause-number : goal.returns-then-next-run-clause-number
returns-then-next-run-clause-number c =
    let known = before_runs c.loop-rest.next c.loop-rest.rest.now c.run-item.result c.in-len1-up.len_at_least c.run-item.is c.if-next-run.true in
    sym known.0 ∙ c.loop-rest.invariant.number

pub returns-then-next-run-clause-taken : goal.returns-then-next-run-clause-taken
returns-then-next-run-clause-taken c =
    let known = before_runs c.loop-rest.next c.loop-rest.rest.now c.run-item.result c.in-len1-up.len_at_least c.run-item.is c.if-next-run.true in
    sym known.1 ∙ c.loop-rest.invariant.taken

pub loop-rest-preserved : goal.loop-rest-preserved
loop-rest-preserved c =
    let le : c.run-item.result.first ≤ c.loop-rest.next = omega (arith, c.if-next-run.false) in
    let known = behind_run c.loop-rest.next c.loop-rest.rest.now c.run-item.result c.in-len1-up.len_at_least c.run-item.is c.number_past-next.result c.number_past-next.ensures.past le in
    record {
      small = c.number_past-next.ensures.small;
      number = sym known.number ∙ c.loop-rest.invariant.number;
      taken = sym known.behind ∙ c.loop-rest.invariant.taken;
    }
