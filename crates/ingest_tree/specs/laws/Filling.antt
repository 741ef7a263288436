-- Laws of nodes that are filled and sound.
use Rattle.std.proofs.Common.{◌≡◌, ℕ, suc, ◌+◌, ◌*◌, ◌<◌, ◌≤◌, List, [], ◌∷◌, ◌++◌, length, Some, refl, sym, ◌∙◌, ap, arith}
use Rattle.std.proofs.lemmas.List.{length-append}
use Rattle.std.proofs.lemmas.Nat.{mul-le}
use Rattle.std.specs.List.{AllByRecursion, flat_map, slice_get}
use Rattle.ingest_tree.specs.Parts.{Stand, IsSoundNode, IsFilledNode}
use Rattle.ingest_tree.specs.declared.store_row.StoreRow.{StoreRow}
use Rattle.ingest_tree.specs.declared.mark.Mark.{Mark}
use Rattle.ingest_tree.specs.Marks.{mark_of, first_mark}

front-get : {X : Type 0} (xs ys : List X) → 0 < length xs → slice_get (xs ++ ys) 0 ≡ slice_get xs 0
front-get [] ys some = absurd (omega arith)
front-get (x ∷ xs) ys some = refl

-- pieces that are sound have a row where there are some, and the first of its marks is that of the first row
module _ {X : Type 0} (sound : X → Type 0) (rows : X → List StoreRow) (begins : (part : X) → sound part → 0 < length (rows part)) where
  pub some-begin : (ps : List X) → 0 < length ps → AllByRecursion sound ps → 0 < length (flat_map rows ps)
  some-begin [] some all = absurd (omega (arith, some))
  some-begin (p ∷ ps) some all =
      let one = begins p all.0 in
      let sum = length-append (rows p) (flat_map rows ps) in
      omega (arith, one, sum)

  pub some-marks : (mark : X → Mark) → ((part : X) → sound part → (row : StoreRow) → slice_get (rows part) 0 ≡ Some row → mark part ≡ mark_of row)
      → (ps : List X) → 0 < length ps → AllByRecursion sound ps → (row : StoreRow) → slice_get (flat_map rows ps) 0 ≡ Some row → first_mark mark ps ≡ mark_of row
  some-marks mark has [] some all row at = absurd (omega (arith, some))
  some-marks mark has (p ∷ ps) some all row at = has p all.0 row (sym (front-get (rows p) (flat_map rows ps) (begins p all.0)) ∙ at)

module _ {X : Type 0} (filled sound : X → Type 0) (is_sound : (part : X) → filled part → sound part) where
  pub all-stand : (ps : List X) → 1 < length ps → AllByRecursion filled ps → Stand filled sound ps
  all-stand [] some all = absurd (omega arith)
  all-stand (p ∷ []) some all = is_sound p all.0
  all-stand (p ∷ q ∷ ps) some all = all

  pub stand-all : (ps : List X) → 1 < length ps → Stand filled sound ps → AllByRecursion filled ps
  stand-all [] some stand = tt
  stand-all (p ∷ []) some stand = absurd (omega arith)
  stand-all (p ∷ q ∷ ps) some stand = stand

  all-sound : (ps : List X) → AllByRecursion filled ps → AllByRecursion sound ps
  all-sound [] all = tt
  all-sound (p ∷ ps) all = (is_sound p all.0, all-sound ps all.1)

  pub stand-sound : (ps : List X) → Stand filled sound ps → AllByRecursion sound ps
  stand-sound [] stand = tt
  stand-sound (p ∷ []) stand = (stand, tt)
  stand-sound (p ∷ q ∷ ps) stand = all-sound (p ∷ q ∷ ps) stand

  pub stand-some : (ps : List X) → Stand filled sound ps → 0 < length ps
  stand-some [] stand = absurd stand
  stand-some (p ∷ ps) stand = omega arith

  -- a filled node is sound
  pub filled-sound : (ps : List X) → IsFilledNode filled ps → IsSoundNode filled sound ps
  filled-sound ps filled =
      let many = filled.0 in
      (filled.1, all-stand ps (omega (arith, many)) filled.2)

  module _ (rows : X → List StoreRow) where
    -- a sound node has a row
    pub sound-begins : ((part : X) → sound part → 0 < length (rows part)) → (ps : List X) → Stand filled sound ps → 0 < length (flat_map rows ps)
    sound-begins begins [] stand = absurd stand
    sound-begins begins (p ∷ ps) stand =
        let one = begins p (stand-sound (p ∷ ps) stand).0 in
        let sum = length-append (rows p) (flat_map rows ps) in
        omega (arith, one, sum)

    -- as many rows as parts, each with its least number
    pub all-rows : (weight : ℕ) → ((part : X) → filled part → weight ≤ length (rows part)) → (ps : List X) → AllByRecursion filled ps
        → length ps * weight ≤ length (flat_map rows ps)
    all-rows weight has [] all = omega arith
    all-rows weight has (p ∷ ps) all =
        let one = has p all.0 in
        let rest = all-rows weight has ps all.1 in
        let sum = length-append (rows p) (flat_map rows ps) in
        let step : suc (length ps) * weight ≡ weight + length ps * weight = omega arith in
        omega (arith, one, rest, sum, step)

    pub filled-rows : (weight : ℕ) → ((part : X) → filled part → weight ≤ length (rows part)) → (ps : List X) → IsFilledNode filled ps
        → 64 * weight ≤ length (flat_map rows ps)
    filled-rows weight has ps filled =
        let least = all-rows weight has ps filled.2 in
        let more = mul-le 64 weight (length ps) weight filled.0 (omega arith) in
        omega (arith, least, more)

    -- the mark of a sound node's first part is that of its first row
    pub sound-marks : ((part : X) → sound part → 0 < length (rows part)) → (mark : X → Mark)
        → ((part : X) → sound part → (row : StoreRow) → slice_get (rows part) 0 ≡ Some row → mark part ≡ mark_of row)
        → (ps : List X) → Stand filled sound ps → (row : StoreRow) → slice_get (flat_map rows ps) 0 ≡ Some row → first_mark mark ps ≡ mark_of row
    sound-marks begins mark has [] stand row at = absurd stand
    sound-marks begins mark has (p ∷ ps) stand row at =
        let sound = (stand-sound (p ∷ ps) stand).0 in
        has p sound row (sym (front-get (rows p) (flat_map rows ps) (begins p sound)) ∙ at)

pub lone-mark : (row : StoreRow) → Unit {0} → (first : StoreRow) → slice_get (row ∷ []) 0 ≡ Some first → mark_of row ≡ mark_of first
lone-mark row sound first at = let same : row ≡ first = cc in ap mark_of same
