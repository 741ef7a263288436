use Rattle.std.proofs.Common.{◌≡◌, List, length, take, get_or, ap, arith}
use Rattle.std.proofs.lemmas.List.Folds.{length-flat_map-take}
use Rattle.ingest_tree.specs.declared.store_row.StoreRow.{StoreRow}
use Rattle.ingest_tree.specs.Tree.{leaves_of}
use Rattle.ingest_tree.proofs.tree.leaves_in.Goals as goal

pub overflow_add-count : goal.overflow_add-count
overflow_add-count c =
    let branches = c.args.branches.now in
    let at = c.loop-at.at in
    let branch = c.index-branches-at.result in
    let below = c.loop-at-test.true in
    let one = length-flat_map-take (λ (b : List (List StoreRow)). b) branches at branch (omega (arith, below)) in
    let same : length branch ≡ length (get_or branches at branch) = ap length c.index-branches-at.is in
    let so_far : c.loop-at.count ≡ length (leaves_of (take at branches)) = c.loop-at.invariant in
    let fits = c.requires in
    let leaves = c.len.ensures in
    omega (arith, one, same, so_far, fits, leaves)
