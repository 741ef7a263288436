use Rattle.std.proofs.Common.{◌+◌, map, drop, arith}
use Rattle.std.proofs.lemmas.Result.{err_from_is_err_and}
use Rattle.std.specs.Arc.{arc_value}
use Rattle.kvset.specs.Keys.{blocks_of, part_slots}
use Rattle.kvset.specs.Reading.{met_by}
use Rattle.kvset.proofs.ListLemmas.{drop_next, drop_none}
use Rattle.kvset.proofs.MeetingLemmas.{parts_on, parts_stop, parts_end}
use Rattle.kvset.proofs.meeting.test_parts.Goals as goal

pub returns-in_err-test_part-clause-refused : goal.returns-in_err-test_part-clause-refused
returns-in_err-test_part-clause-refused c =
    let p = err_from_is_err_and c.from_residual-in_err-test_part.result c.from_residual-in_err-test_part.ensures.1 in
    let parts = c.args.parts.now in
    let values = map arc_value c.args.values.now in
    let i = c.loop-part.part-index in
    let next = drop_next parts i _ c.part-item.result c.loop-part-test.true c.part-item.is in
    rw (p.1, p.2) (parts_stop values c.part-item.result (drop i parts) (drop (i + 1) parts) c.in_err-test_part.field-0.0 (met_by (part_slots parts) values (blocks_of parts)) next c.in_err-test_part.ensures.refused c.loop-part.invariant)

pub loop-part-preserved : goal.loop-part-preserved
loop-part-preserved c =
    let parts = c.args.parts.now in
    let values = map arc_value c.args.values.now in
    let i = c.loop-part.part-index in
    let next = drop_next parts i _ c.part-item.result c.loop-part-test.true c.part-item.is in
    parts_on values c.part-item.result (drop i parts) (drop (i + 1) parts) (met_by (part_slots parts) values (blocks_of parts)) next c.in_ok-test_part.ensures.met c.loop-part.invariant

pub returns-clause-met : goal.returns-clause-met
returns-clause-met c =
    let parts = c.args.parts.now in
    let values = map arc_value c.args.values.now in
    let i = c.loop-part.part-index in
    parts_end values (drop i parts) (met_by (part_slots parts) values (blocks_of parts)) (drop_none parts i (omega (arith, c.loop-part-test.false))) c.loop-part.invariant
