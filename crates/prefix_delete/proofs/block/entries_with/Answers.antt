use Rattle.std.proofs.Common.{◌≡◌, ◌≤◌, ℕ, List, length, map, take, sym, subst, arith, Result, Err}
use Rattle.hse_fields.specs.BlockText.{header_size, PrefixEntry}
use Rattle.hse_fields.specs.BlockReading.{body_of, prefixes_of}
use Rattle.hse_fields.specs.laws.Blocks.{prefixes_within}
use Rattle.hse_fields.specs.laws.BlockHeaders.{body_length}
use Rattle.hse_fields.specs.laws.Fields.{IsBytes, IsBytes-drop, IsBytes-take}
use Rattle.hse_fields.specs.laws.PrefixTexts.{prefixes_take}
use Rattle.hse_fields.specs.laws.Within.{Within}
use Rattle.prefix_delete.specs.Blocks.{in_block}
use Rattle.hse_fields.specs.BlockGiven.{lent}
use Rattle.prefix_delete.proofs.block.entries_with.Goals as goal

pub overflow_sub-result : goal.overflow_sub-result
overflow_sub-result c =
    let body = body_of c.args.head.used c.args.bytes.now in
    let refused : prefixes_of (lent c.args.last) c.args.head.count c.block_body.result.now ≡ Err c.in-Err-Left.left =
    rw c.in-Err-Left.field-0-is at c.in-Err-Left.ensures in
    let here = subst (λ (b : List ℕ). prefixes_of (lent c.args.last) c.args.head.count b ≡ Err c.in-Err-Left.left) c.block_body.ensures refused in
    let inside : c.in-Err-Left.left ≤ length body =
    subst (λ (r : Result (List PrefixEntry × List ℕ) ℕ). Within (length body) r) here (prefixes_within (lent c.args.last) c.args.head.count (length body) body (omega arith)) in
    omega (arith, inside, body_length c.args.head.used c.args.bytes.now c.requires.header c.requires.within)

pub returns-then-is_empty-clause-rising : goal.returns-then-is_empty-clause-rising
returns-then-is_empty-clause-rising c =
    let bytes : IsBytes c.block_body.result.now =
    subst IsBytes (sym c.block_body.ensures) (IsBytes-drop header_size (take c.args.head.used c.args.bytes.now) (IsBytes-take c.args.head.used c.args.bytes.now (λ i. omega (arith, c.type_inv.bytes i)))) in
    (prefixes_take (lent c.args.last) c.args.head.count c.block_body.result.now (map in_block c.in-Ok.entries.items, c.in-Ok.rest.now) bytes c.in-Ok.ensures).rising
