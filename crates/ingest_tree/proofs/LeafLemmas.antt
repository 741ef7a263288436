-- How many leaves a tree has.
use Rattle.std.proofs.Common.{◌≡◌, suc, ◌+◌, ◌*◌, ◌/◌, ◌≤◌, List, [], ◌∷◌, ◌++◌, length, refl, ap, sym, ◌∙◌, subst, arith, append-nil}
use Rattle.std.proofs.Math.Nat.{le-div_iff_mul-le}
use Rattle.std.proofs.lemmas.Grind.{flat_map-append}
use Rattle.std.proofs.lemmas.List.{length-append}
use Rattle.std.specs.List.{AllByRecursion, flat_map}
use Rattle.sorted_lists.specs.laws.Lists.{each-append}
use Rattle.ingest_tree.specs.declared.store_row.StoreRow.{StoreRow}
use Rattle.ingest_tree.specs.Parts.{Stand}
use Rattle.ingest_tree.specs.laws.Filling.{all-rows, all-stand, stand-sound}
use Rattle.ingest_tree.specs.Tree.{branch_rows, leaf_rows, leaves_of, IsFilledLeaf, IsSoundLeaf, IsFilledBranch, IsSoundBranch}
use Rattle.ingest_tree.proofs.TreeLemmas.{leaf-sound, leaf-has}

flat-leaves : (root : List (List (List StoreRow))) → flat_map leaf_rows (leaves_of root) ≡ flat_map branch_rows root
flat-leaves [] = refl
flat-leaves (branch ∷ root) = flat_map-append leaf_rows branch (leaves_of root) ∙ ap (λ l. branch_rows branch ++ l) (flat-leaves root)

all-filled : (root : List (List (List StoreRow))) → AllByRecursion IsFilledBranch root → AllByRecursion IsFilledLeaf (leaves_of root)
all-filled [] all = tt
all-filled (branch ∷ root) all = each-append IsFilledLeaf branch (leaves_of root) all.0.2 (all-filled root all.1)

many : (root : List (List (List StoreRow))) → AllByRecursion IsFilledBranch root → length root ≤ length (leaves_of root)
many [] all = omega arith
many (branch ∷ root) all =
    let one = all.0.0 in
    let rest = many root all.1 in
    let sum = length-append branch (leaves_of root) in
    omega (arith, one, rest, sum)

-- its leaves stand as its branches do
leaves-stand : (root : List (List (List StoreRow))) → Stand IsFilledBranch IsSoundBranch root → Stand IsFilledLeaf IsSoundLeaf (leaves_of root)
leaves-stand [] stand = stand
leaves-stand (branch ∷ []) stand = subst (Stand IsFilledLeaf IsSoundLeaf) (sym (append-nil branch)) stand.1
leaves-stand (branch ∷ other ∷ root) stand =
    let more = many (branch ∷ other ∷ root) stand in
    all-stand IsFilledLeaf IsSoundLeaf leaf-sound (leaves_of (branch ∷ other ∷ root)) (omega (arith, more)) (all-filled (branch ∷ other ∷ root) stand)

few : (leaves : List (List StoreRow)) → Stand IsFilledLeaf IsSoundLeaf leaves → length leaves ≤ 1 + length (flat_map leaf_rows leaves) / 64
few [] stand = omega arith
few (leaf ∷ []) stand = omega arith
few (leaf ∷ other ∷ leaves) stand =
    let all = all-rows IsFilledLeaf IsSoundLeaf leaf-sound leaf_rows 64 leaf-has (leaf ∷ other ∷ leaves) stand in
    let least = (le-div_iff_mul-le {k = 64} {x = length (leaf ∷ other ∷ leaves)} {y = length (flat_map leaf_rows (leaf ∷ other ∷ leaves))} (omega arith)).1 all in
    omega (arith, least)

leaf-length : (leaf : List StoreRow) → length (leaf_rows leaf) ≡ length leaf
leaf-length [] = refl
leaf-length (row ∷ leaf) = ap suc (leaf-length leaf)

full : (leaves : List (List StoreRow)) → AllByRecursion IsSoundLeaf leaves → length (flat_map leaf_rows leaves) ≤ 128 * length leaves
full [] all = omega arith
full (leaf ∷ leaves) all =
    let one = all.0.0 in
    let same = leaf-length leaf in
    let rest = full leaves all.1 in
    let sum = length-append (leaf_rows leaf) (flat_map leaf_rows leaves) in
    omega (arith, one, same, rest, sum)

some : (leaves : List (List StoreRow)) → AllByRecursion IsSoundLeaf leaves → length leaves ≤ length (flat_map leaf_rows leaves)
some [] all = omega arith
some ([] ∷ leaves) all = absurd all.0.1
some ((row ∷ leaf) ∷ leaves) all =
    let rest = some leaves all.1 in
    let sum = length-append (leaf_rows (row ∷ leaf)) (flat_map leaf_rows leaves) in
    omega (arith, rest, sum)

module _ (root : List (List (List StoreRow))) (stand : Stand IsFilledBranch IsSoundBranch root) where
  pub leaves-few : length (leaves_of root) ≤ 1 + length (flat_map branch_rows root) / 64
  leaves-few =
      let all = few (leaves_of root) (leaves-stand root stand) in
      let same : length (flat_map leaf_rows (leaves_of root)) / 64 ≡ length (flat_map branch_rows root) / 64 = ap (λ l. length l / 64) (flat-leaves root) in
      omega (arith, all, same)

  sound-leaves : AllByRecursion IsSoundLeaf (leaves_of root)
  sound-leaves = stand-sound IsFilledLeaf IsSoundLeaf leaf-sound (leaves_of root) (leaves-stand root stand)

  pub leaves-many : length (flat_map branch_rows root) ≤ 128 * length (leaves_of root)
  leaves-many =
      let all = full (leaves_of root) sound-leaves in
      let same = ap length (flat-leaves root) in
      omega (arith, all, same)

  pub leaves-within : length (leaves_of root) ≤ length (flat_map branch_rows root)
  leaves-within =
      let all = some (leaves_of root) sound-leaves in
      let same = ap length (flat-leaves root) in
      omega (arith, all, same)
