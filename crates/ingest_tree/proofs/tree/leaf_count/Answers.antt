use Rattle.std.proofs.Common.{◌≡◌, ℕ, ◌+◌, ◌<◌, ◌≤◌, List, length, take, get_or, ap, ◌∙◌, arith}
use Rattle.std.proofs.lemmas.List.{take_all}
use Rattle.std.proofs.lemmas.List.Folds.{length-flat_map-take}
use Rattle.std.specs.List.{flat_map}
use Rattle.ingest_tree.specs.declared.store_row.StoreRow.{StoreRow}
use Rattle.ingest_tree.specs.Chunks.{joined}
use Rattle.ingest_tree.specs.Parts.{Stand}
use Rattle.ingest_tree.specs.Tree.{leaves_of, branch_rows, IsFilledBranch, IsSoundBranch}
use Rattle.ingest_tree.proofs.ChunkLemmas.{flat-joined}
use Rattle.ingest_tree.proofs.LeafLemmas.{leaves-within}
use Rattle.ingest_tree.proofs.tree.leaf_count.Goals as goal

-- the leaves of the chunks so far and of one more are no more than there are rows
within : (root : List (List (List StoreRow))) (cs : List (List (List (List StoreRow)))) (at : ℕ) (chunk : List (List (List StoreRow)))
    → joined cs ≡ root → Stand IsFilledBranch IsSoundBranch root → at < length cs → chunk ≡ get_or cs at chunk
    → length (flat_map (λ c. leaves_of c) (take at cs)) + length (leaves_of chunk) ≤ length (flat_map branch_rows root)
within root cs at chunk same stand in' is =
    let one = length-flat_map-take (λ c. leaves_of c) cs at chunk in' in
    let all = ap length (flat-joined (λ (b : List (List StoreRow)). b) cs ∙ ap leaves_of same) in
    let long = ap (λ c. length (leaves_of c)) is in
    let few = leaves-within root stand in
    omega (arith, one, all, long, few)

pub leaves_in-count-requires : goal.leaves_in-count-requires
leaves_in-count-requires c =
    let at = c.loop-at.at in
    let below = c.loop-at-test.true in
    let few = within c.args.root.now c.chunks-chunks.result.now at c.index-chunks-at.result c.chunks-chunks.ensures.parts c.requires.stands
    (omega (arith, below)) c.index-chunks-at.is in
    let same = ap (λ l. length (leaves_of l)) c.parts.ensures in
    let all = c.count-all.ensures in
    let fits = c.count-all.type_inv in
    omega (arith, few, same, all, fits)

pub overflow_add-count : goal.overflow_add-count
overflow_add-count c =
    let at = c.loop-at.at in
    let below = c.loop-at-test.true in
    let few = within c.args.root.now c.chunks-chunks.result.now at c.index-chunks-at.result c.chunks-chunks.ensures.parts c.requires.stands
    (omega (arith, below)) c.index-chunks-at.is in
    let same = ap (λ l. length (leaves_of l)) c.parts.ensures in
    let all = c.count-all.ensures in
    let fits = c.count-all.type_inv in
    let leaves = c.leaves_in-count.ensures in
    let so_far : c.loop-at.count ≡ length (flat_map (λ c. leaves_of c) (take at c.chunks-chunks.result.now)) = c.loop-at.invariant in
    omega (arith, few, same, all, fits, leaves, so_far)

pub returns : goal.returns
returns c =
    let cs = c.chunks-chunks.result.now in
    let done = c.loop-at-test.false in
    c.loop-at.invariant
    ∙ ap (λ l. length (flat_map (λ c. leaves_of c) l)) (take_all c.loop-at.at cs (omega (arith, done)))
    ∙ ap length (flat-joined (λ (b : List (List StoreRow)). b) cs)
    ∙ ap (λ r. length (leaves_of r)) c.chunks-chunks.ensures.parts
