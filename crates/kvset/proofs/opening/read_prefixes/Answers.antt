use Rattle.std.proofs.Common.{◌≡◌, ◌∙◌, ◌+◌, Err, None, drop, sym, ap, arith}
use Rattle.prefix_delete.specs.Blocks.{last_prefix, Adds, Refuses}
use Rattle.kvset.specs.Reading.{prefixes_of}
use Rattle.kvset.proofs.OpeningLemmas.{prefixes_go_on, prefixes_stop, prefixes_are_done}
use Rattle.hse_fields.specs.BlockReading.{prefix_block_of}
use Rattle.std.proofs.Common.{subst, ℕ}
use Rattle.kvset.proofs.ListLemmas.{drop_next, drop_none}
use Rattle.kvset.proofs.opening.read_prefixes.Goals as goal

pub returns-in-Err-Damaged-clause-refused : goal.returns-in-Err-Damaged-clause-refused
returns-in-Err-Damaged-clause-refused c =
    let blocks = c.args.blocks.now in
    let i = c.loop-block.block-index in
    let next = drop_next blocks i _ c.block-item.result c.loop-block-test.true c.block-item.is in
    let place = c.in-Err-Damaged.place in
    let read = subst (λ f. Refuses (prefix_block_of (last_prefix None c.loop-block.list) c.deref.result.now) f) c.in-Err-Damaged.field-0-is c.in-Err-Damaged.ensures.refused in
    let here = subst (λ l. prefix_block_of (last_prefix None c.loop-block.list) l ≡ Err place) c.deref.ensures.value read in
    prefixes_stop c.loop-block.list c.block-item.result (drop i blocks) (drop (i + 1) blocks) place (prefixes_of None blocks) next here c.loop-block.invariant
    ∙ ap (λ (n : ℕ). Err (c.block-item.result.slot, n)) (sym c.in-Err-Damaged.place-is)

pub loop-block-preserved : goal.loop-block-preserved
loop-block-preserved c =
    let blocks = c.args.blocks.now in
    let i = c.loop-block.block-index in
    let next = drop_next blocks i _ c.block-item.result c.loop-block-test.true c.block-item.is in
    let adds = subst (λ l. Adds c.loop-block.list c.read_block.new.self (prefix_block_of (last_prefix None c.loop-block.list) l)) c.deref.ensures.value c.in-Ok.ensures.read in
    prefixes_go_on c.loop-block.list c.read_block.new.self c.block-item.result (drop i blocks) (drop (i + 1) blocks) (prefixes_of None blocks) next adds c.loop-block.invariant

pub returns-clause-read : goal.returns-clause-read
returns-clause-read c =
    let blocks = c.args.blocks.now in
    let i = c.loop-block.block-index in
    prefixes_are_done c.loop-block.list (drop i blocks) (prefixes_of None blocks) (drop_none blocks i (omega (arith, c.loop-block-test.false))) c.loop-block.invariant
