-- Blocks that are packed have the form of blocks.
use Rattle.std.proofs.Common.{◌≡◌, ℕ, ◌+◌, ◌*◌, ◌-◌, ◌^◌, ◌≤◌, min, nat_le, Bool, true, false, cond, List, [], ◌∷◌, ◌++◌, length, refl, sym, subst, arith, length-append}
use Rattle.std.specs.List.{AllByRecursion, flat_map, sum_by}
use Rattle.std.proofs.Math.Nat.{min-le_right}
use Rattle.std.proofs.lemmas.Bool.{leb-true}
use Rattle.std.proofs.lemmas.List.Sums.{sum_by_push, sum_by-cons}
use Rattle.sorted_lists.specs.laws.Lists.{each-front, each-rest, each-weaker}
use Rattle.hse_rows.specs.rows.Packing.{filled, filled_from, header_bytes}
use Rattle.hse_rows.specs.writes.Lengths.{longest_value_in}
use Rattle.hse_fields.specs.BlockForm.{AreValues}
use Rattle.set_build.specs.SetText.{value_bytes, value_blocks_of}
use Rattle.set_build.specs.Reading.{MayWrite}
use Rattle.set_build.proofs.ValuePacking.{text-long, one-long}
use Rattle.set_build.proofs.FilledLemmas.{filled-flat}

module _ {X : Type 0} (size : X → ℕ) (room : ℕ) where
  -- one or more, which fit into a block
  pub record FitsBlock (block : List X) : Type 0 where
    pub some : 1 ≤ length block
    pub fits : sum_by size block ≤ room

  from-fits : (block : List X) (used : ℕ) (xs : List X) → used ≡ sum_by size block → 1 ≤ length block → used ≤ room
      → AllByRecursion (λ (x : X). size x ≤ room) xs → AllByRecursion FitsBlock (filled_from size room block used xs)
  from-fits block used [] is some fits all = (record { some = some; fits = omega (arith, is, fits) }, tt)
  from-fits block used (x ∷ xs) is some fits all =
      by (nat_le (used + size x) room) refl
      (λ goes. from-fits (block ++ x ∷ []) (used + size x) xs (omega (arith, is, sum_by_push size block x)) (omega (arith, length-append block (x ∷ []))) goes all.1)
      (from-fits (x ∷ []) (size x) xs (omega (arith, sum_by-cons size x [])) (omega arith) all.0 all.1)
    where
      by : (b : Bool) → nat_le (used + size x) room ≡ b
          → (used + size x ≤ room → AllByRecursion FitsBlock (filled_from size room (block ++ x ∷ []) (used + size x) xs))
          → AllByRecursion FitsBlock (filled_from size room (x ∷ []) (size x) xs)
          → AllByRecursion FitsBlock (cond b (filled_from size room (block ++ x ∷ []) (used + size x) xs) (block ∷ filled_from size room (x ∷ []) (size x) xs))
      by true e more new = more (leb-true (used + size x) room e)
      by false e more new = (record { some = some; fits = omega (arith, is, fits) }, new)

  pub filled-fits : (xs : List X) → AllByRecursion (λ (x : X). size x ≤ room) xs → AllByRecursion FitsBlock (filled size room xs)
  filled-fits [] all = tt
  filled-fits (x ∷ xs) all = from-fits (x ∷ []) (size x) xs (omega (arith, sum_by-cons size x [])) (omega arith) all.0 all.1

-- what holds of all holds of each block's
each-part : {X : Type 0} (P : X → Type 0) (blocks : List (List X)) → AllByRecursion P (flat_map (λ (b : List X). b) blocks) → AllByRecursion (AllByRecursion P) blocks
each-part P [] all = tt
each-part P (b ∷ bs) all =
    (each-front P b (flat_map (λ (l : List _). l) bs) all, each-part P bs (each-rest P b (flat_map (λ (l : List _). l) bs) all))

pub filled-each : {X : Type 0} (P : X → Type 0) (size : X → ℕ) (room : ℕ) (xs : List X) → AllByRecursion P xs → AllByRecursion (AllByRecursion P) (filled size room xs)
filled-each P size room xs all = each-part P (filled size room xs) (subst (AllByRecursion P) (sym (filled-flat size room xs)) all)

pub each-both : {X : Type 0} (P Q : X → Type 0) (xs : List X) → AllByRecursion P xs → AllByRecursion Q xs → AllByRecursion (λ (x : X). P x × Q x) xs
each-both P Q [] p q = tt
each-both P Q (x ∷ xs) p q = ((p.0, q.0), each-both P Q xs p.1 q.1)

-- ---- values

four-each : (block : List (List ℕ)) → 4 * length block ≤ sum_by value_bytes block
four-each [] = omega arith
four-each (v ∷ vs) =
    omega (arith, four-each vs, sum_by-cons value_bytes v vs, one-long v)

small-enough : (slot : ℕ) (v : List ℕ) → 2 ^ 16 ≤ slot → MayWrite slot v → value_bytes v ≤ slot - header_bytes
small-enough slot v large fits =
    let short : length v ≤ min 1048576 (slot - 64) = fits in
    let less = min-le_right 1048576 (slot - 64) in
    omega (arith, large, short, less, one-long v)

pub values-fit : (slot : ℕ) (vs : List (List ℕ)) → 2 ^ 16 ≤ slot → AllByRecursion (MayWrite slot) vs
    → AllByRecursion (FitsBlock value_bytes (slot - header_bytes)) (value_blocks_of slot vs)
values-fit slot vs large may =
    filled-fits value_bytes (slot - header_bytes) vs (each-weaker (λ v m. small-enough slot v large m) vs may)

pub values-formed : (slot : ℕ) (vs : List (List ℕ)) → 2 ^ 16 ≤ slot → slot ≤ 2 ^ 25 → AllByRecursion (MayWrite slot) vs
    → AllByRecursion (AreValues (longest_value_in slot)) (value_blocks_of slot vs)
values-formed slot vs large small may =
    each-weaker (λ block h. record {
      some = h.0.some;
      counted = omega (arith, four-each block, h.0.fits, small);
      each = h.1;
      within = omega (arith, text-long block, h.0.fits, small, large);
    }) (value_blocks_of slot vs) (
    each-both (FitsBlock value_bytes (slot - header_bytes)) (AllByRecursion (MayWrite slot)) (value_blocks_of slot vs)
    (values-fit slot vs large may)
    (filled-each (MayWrite slot) value_bytes (slot - header_bytes) vs may)
    )
