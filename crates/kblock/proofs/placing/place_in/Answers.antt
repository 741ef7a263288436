use Rattle.std.proofs.Common.{◌∙◌, List, ℕ, sym, arith}
use Rattle.hse_fields.specs.BlockText.{KeyEntry}
use Rattle.kblock.specs.Entries.{entry_of}
use Rattle.kblock.proofs.KeyLemmas.{can_be_read}
use Rattle.kblock.proofs.PlaceLemmas.{still_read, one_below, none_below, no_more}
use Rattle.kblock.proofs.placing.place_in.Goals as goal
use Rattle.kblock.proofs.placing.place_in.Goals.{then-is_below, else-is_below}

pub unreachable-requires : goal.unreachable-requires
unreachable-requires c =
    can_be_read c.args.edge.now c.args.count c.loop.counter c.loop.rest.now c.in_default.field-0.left c.loop-test.true c.loop.invariant.readable c.in_default.ensures

pub loop-preserved : goal.loop-preserved
loop-preserved c =
    let first : KeyEntry × List ℕ = (entry_of c.in-Ok.entry, c.in-Ok.behind.now) in
    let edge = c.args.edge.now in
    let one = one_below edge c.args.count c.loop.counter c.loop.rest.now first c.loop-test.true c.in-Ok.ensures c.loop.invariant.readable in
    let none = none_below edge c.args.count c.loop.counter c.loop.rest.now first c.loop-test.true c.in-Ok.ensures c.loop.invariant.readable in
    let so_far = c.loop.invariant.counted in
    let few = c.loop.invariant.small in
    let readable = still_read edge c.args.count c.loop.counter c.loop.rest.now first c.loop-test.true c.in-Ok.ensures c.loop.invariant.readable in
    elim c.if-is_below.branch [
      | then-is_below w ↦
          let more = one (sym c.is_below.ensures ∙ w.if-is_below.true) in
          record { readable = readable; counted = omega (arith, more, so_far, w.below-is); small = omega (arith, few, w.below-is) }
      | else-is_below w ↦
          let more = none (sym c.is_below.ensures ∙ w.if-is_below.false) in
          record { readable = readable; counted = omega (arith, more, so_far, w.below-is); small = omega (arith, few, w.below-is) }
    ]

pub returns : goal.returns
returns c =
    let none = no_more c.args.edge.now c.args.count c.loop.counter c.loop.rest.now c.loop-test.false in
    omega (arith, none, c.loop.invariant.counted)
