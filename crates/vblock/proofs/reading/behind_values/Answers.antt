use Rattle.std.proofs.Common.{List, ℕ, arith}
use Rattle.hse_fields.specs.BlockReading.{behind_of, values_of}
use Rattle.hse_fields.specs.laws.Fields.{sized_length}
use Rattle.vblock.proofs.ReadingLoop.{goes_on, stops, is_done, value_inside}
use Rattle.vblock.proofs.reading.behind_values.Goals as goal

pub returns-in-Err-clause-gives : goal.returns-in-Err-clause-gives
returns-in-Err-clause-gives c =
    stops c.args.most c.args.count c.loop.counter c.loop.rest.now c.in-Err.refusal.left (behind_of (values_of c.args.most c.args.count c.args.bytes.now)) c.loop-test.true c.in-Err.ensures c.loop.invariant.read

pub returns-in-Err-clause-inside : goal.returns-in-Err-clause-inside
returns-in-Err-clause-inside c =
    omega (arith, value_inside c.args.most c.loop.rest.now c.in-Err.refusal.left c.in-Err.ensures, c.loop.invariant.shorter)

pub returns-clause-gives : goal.returns-clause-gives
returns-clause-gives c =
    is_done c.args.most c.args.count c.loop.counter c.loop.rest.now (behind_of (values_of c.args.most c.args.count c.args.bytes.now)) c.loop-test.false c.loop.invariant.read

pub loop-preserved : goal.loop-preserved
loop-preserved c =
    let first : List ℕ × List ℕ = (c.in-Ok.field-0-0.now, c.in-Ok.behind.now) in
    let long = sized_length 4 0 c.args.most c.loop.rest.now first c.in-Ok.ensures in
    record {
      read = goes_on c.args.most c.args.count c.loop.counter c.loop.rest.now first (behind_of (values_of c.args.most c.args.count c.args.bytes.now)) c.loop-test.true c.in-Ok.ensures c.loop.invariant.read;
      shorter = omega (arith, long, c.loop.invariant.shorter);
    }
