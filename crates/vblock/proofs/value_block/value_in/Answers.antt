use Rattle.std.proofs.Common.{List, ℕ, ◌≡◌, ◌==◌, ◌∙◌, true, sym, arith}
use Rattle.std.proofs.lemmas.Bool.{eq-eqb, ne_eqb}
use Rattle.hse_fields.specs.LogLimits.{longest_value}
use Rattle.hse_fields.specs.laws.Fields.{sized_length}
use Rattle.vblock.proofs.FindingLoop.{can_be_read, readable_behind, is_here, is_behind, is_nowhere}
use Rattle.vblock.proofs.value_block.value_in.Goals as goal

pub returns-in_default : goal.returns-in_default
returns-in_default c =
    absurd (can_be_read c.args.count c.loop.counter c.loop.rest.now c.in_default.field-0.left c.loop-test.true c.loop.invariant.readable c.in_default.ensures)

pub returns-then-at-offset : goal.returns-then-at-offset
returns-then-at-offset c =
    let first : List ℕ × List ℕ = (c.in-Ok.value.now, c.in-Ok.behind.now) in
    let same : (c.loop.at == c.args.offset) ≡ true = eq-eqb c.loop.at c.args.offset c.if-at-offset.true in
    c.of_length.ensures
    ∙ sym (is_here c.args.count c.loop.counter c.loop.at c.args.offset c.args.len c.loop.rest.now first c.loop-test.true c.in-Ok.ensures c.loop.invariant.readable same)
    ∙ c.loop.invariant.found

pub overflow_add-at-in-loop : goal.overflow_add-at-in-loop
overflow_add-at-in-loop c =
    let long = sized_length 4 0 longest_value c.loop.rest.now (c.in-Ok.value.now, c.in-Ok.behind.now) c.in-Ok.ensures in
    omega (arith, long, c.loop.invariant.place)

pub loop-preserved : goal.loop-preserved
loop-preserved c =
    let first : List ℕ × List ℕ = (c.in-Ok.value.now, c.in-Ok.behind.now) in
    let long = sized_length 4 0 longest_value c.loop.rest.now first c.in-Ok.ensures in
    record {
      readable = readable_behind c.args.count c.loop.counter c.loop.rest.now first c.loop-test.true c.in-Ok.ensures c.loop.invariant.readable;
      found = sym (is_behind c.args.count c.loop.counter c.loop.at c.args.offset c.args.len c.loop.rest.now first c.loop-test.true c.in-Ok.ensures (ne_eqb c.loop.at c.args.offset c.if-at-offset.false)) ∙ c.loop.invariant.found;
      place = omega (arith, long, c.loop.invariant.place);
    }

pub returns : goal.returns
returns c =
    sym (is_nowhere c.args.count c.loop.counter c.loop.at c.args.offset c.args.len c.loop.rest.now c.loop-test.false) ∙ c.loop.invariant.found
