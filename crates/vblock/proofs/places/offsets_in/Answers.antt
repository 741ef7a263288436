use Rattle.std.proofs.Common.{◌∙◌, ◌+◌, ◌-◌, ◌++◌, List, ℕ, sym, ap, arith}
use Rattle.hse_fields.specs.LogLimits.{longest_value}
use Rattle.hse_fields.specs.BlockReading.{values_of}
use Rattle.hse_fields.specs.laws.Fields.{sized_length}
use Rattle.vblock.specs.Opened.{read_of}
use Rattle.vblock.specs.Places.{offsets_from, offsets_of}
use Rattle.vblock.proofs.FindingLoop.{can_be_read}
use Rattle.vblock.proofs.PlaceLemmas.{one_more, none_more, read_ok, read_is}
use Rattle.vblock.proofs.places.offsets_in.Goals as goal

pub unreachable-requires : goal.unreachable-requires
unreachable-requires c =
    can_be_read c.args.count c.loop.counter c.loop.rest.now c.in_default.field-0.left c.loop-test.true c.loop.invariant.readable c.in_default.ensures

pub overflow_add-at-in-loop : goal.overflow_add-at-in-loop
overflow_add-at-in-loop c =
    let long = sized_length 4 0 longest_value c.loop.rest.now (c.in-Ok.value.now, c.in-Ok.behind.now) c.in-Ok.ensures in
    omega (arith, long, c.loop.invariant.place, c.requires.small)

pub loop-preserved : goal.loop-preserved
loop-preserved c =
    let first : List ℕ × List ℕ = (c.in-Ok.value.now, c.in-Ok.behind.now) in
    let long = sized_length 4 0 longest_value c.loop.rest.now first c.in-Ok.ensures in
    let left = c.args.count - (c.loop.counter + 1) in
    let r = read_ok (values_of longest_value (c.args.count - c.loop.counter) c.loop.rest.now) c.loop.invariant.readable in
    let all = offsets_of (read_of (values_of longest_value c.args.count c.args.entries.now)) in
    let listed = ap (λ (v : List (List ℕ)). c.loop.offsets.items ++ offsets_from c.loop.at v) (sym (ap read_of r.1)) ∙ c.loop.invariant.listed in
    let more = one_more c.args.count c.loop.counter c.loop.at c.loop.rest.now first r.0 c.loop.offsets.items all c.loop-test.true c.in-Ok.ensures r.1 listed in
    record {
      readable = read_is (values_of longest_value left c.in-Ok.behind.now) (more.0, r.0.1) more.1;
      listed = rw (c.in_ok-push.ensures.items, ap read_of more.1) more.2;
      place = omega (arith, long, c.loop.invariant.place);
    }

pub returns : goal.returns
returns c =
    let r = read_ok (values_of longest_value (c.args.count - c.loop.counter) c.loop.rest.now) c.loop.invariant.readable in
    let listed = ap (λ (v : List (List ℕ)). c.loop.offsets.items ++ offsets_from c.loop.at v) (sym (ap read_of r.1)) ∙ c.loop.invariant.listed in
    none_more c.args.count c.loop.counter c.loop.at c.loop.rest.now r.0 c.loop.offsets.items (offsets_of (read_of (values_of longest_value c.args.count c.args.entries.now))) c.loop-test.false r.1 listed

pub overflow_cast-at-in-loop : goal.overflow_cast-at-in-loop
overflow_cast-at-in-loop c =
    let long = sized_length 4 0 longest_value c.loop.rest.now (c.in-Ok.value.now, c.in-Ok.behind.now) c.in-Ok.ensures in
    omega (arith, long, c.loop.invariant.place, c.requires.small)

pub overflow_add-at : goal.overflow_add-at
overflow_add-at c =
    let long = sized_length 4 0 longest_value c.loop.rest.now (c.in-Ok.value.now, c.in-Ok.behind.now) c.in-Ok.ensures in
    omega (arith, long, c.loop.invariant.place, c.requires.small)
