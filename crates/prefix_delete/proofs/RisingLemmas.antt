-- Entries behind others: all of them stay in order.
use Rattle.std.proofs.Common.{◌≡◌, ℕ, Bool, true, List, [], ◌∷◌, ◌++◌, length, map, Option, Some, None, refl, ap, arith}
use Rattle.std.specs.declared.cmp.Ordering.TheVariants.{Less, Equal, Greater}
use Rattle.std.specs.declared.cmp.Ordering.{Ordering}
use Rattle.std.specs.Ordering.{nat_cmp, is_lt}
use Rattle.std.specs.Cmp.Lexicographic.{slice_cmp, nat_list_cmp_total}
use Rattle.std.specs.List.{AllByRecursion}
use Rattle.std.specs.List.Sorted.{IsStrictlySortedBy}
use Rattle.hse_rows.specs.writes.Lengths.{IsPrefixLength}
use Rattle.hse_fields.specs.BlockForm.{AreRising}
use Rattle.prefix_delete.specs.declared.entry.Entry.{Entry}
use Rattle.prefix_delete.specs.Prefixes.{prefix_cmp, ArePrefixes, IsUsed, AreUsed}
use Rattle.prefix_delete.specs.Blocks.{in_block, of_block, last_prefix, KeepsUsed}

-- the entry's prefix stands above these bytes
abbrev Above : List ℕ → Entry → Type 0
Above low entry = slice_cmp nat_cmp low entry.prefix ≡ Less

is_less : (o : Ordering) → is_lt o ≡ true → o ≡ Less
is_less Less e = refl
is_less Equal e = absurd cc
is_less Greater e = absurd cc

transitive : (a b : List ℕ) (e : Entry) → slice_cmp nat_cmp a b ≡ Less → Above b e → Above a e
transitive a b e ab be = nat_list_cmp_total.trans a b e.prefix ab be

each_above : (a b : List ℕ) (es : List Entry) → slice_cmp nat_cmp a b ≡ Less → AllByRecursion (Above b) es → AllByRecursion (Above a) es
each_above a b [] ab all = tt
each_above a b (e ∷ es) ab all = (transitive a b e ab all.0, each_above a b es ab all.1)

-- all rise above what they stand behind
rising_above : (low : List ℕ) (es : List Entry) → AreRising (Some low) (map in_block es) → AllByRecursion (Above low) es
rising_above low [] r = tt
rising_above low (e ∷ es) r =
    let first : Above low e = is_less (slice_cmp nat_cmp low e.prefix) r.0 in
    (first, each_above low e.prefix es first (rising_above e.prefix es r.4))

rising_sorted : (last : Option (List ℕ)) (es : List Entry) → AreRising last (map in_block es) → IsStrictlySortedBy prefix_cmp es
unfolding IsStrictlySortedBy
rising_sorted last [] r = tt
rising_sorted last (e ∷ es) r = (rising_above e.prefix es r.4, rising_sorted (Some e.prefix) es r.4)

rising_within : (last : Option (List ℕ)) (es : List Entry) → AreRising last (map in_block es)
    → AllByRecursion (λ (entry : Entry). IsPrefixLength (length entry.prefix)) es
rising_within last [] r = tt
rising_within last (e ∷ es) r = ((omega (arith, r.1), r.2), rising_within (Some e.prefix) es r.4)

both : {X : Type 0} (P : X → Type 0) (xs ys : List X) → AllByRecursion P xs → AllByRecursion P ys → AllByRecursion P (xs ++ ys)
both P [] ys a b = b
both P (x ∷ xs) ys a b = (a.0, both P xs ys a.1 b)

-- all that stand behind entries are above what is below these
behind_above : (low : List ℕ) (xs ys : List Entry) → AllByRecursion (Above low) xs → AreRising (last_prefix (Some low) xs) (map in_block ys)
    → AllByRecursion (Above low) ys
behind_above low [] ys all r = rising_above low ys r
behind_above low (x ∷ []) ys all r = each_above low x.prefix ys all.0 (rising_above x.prefix ys r)
behind_above low (x ∷ y ∷ xs) ys all r = behind_above low (y ∷ xs) ys all.1 r

joined : (last : Option (List ℕ)) (xs ys : List Entry) → IsStrictlySortedBy prefix_cmp xs → AreRising (last_prefix last xs) (map in_block ys)
    → IsStrictlySortedBy prefix_cmp (xs ++ ys)
unfolding IsStrictlySortedBy
joined last [] ys rise r = rising_sorted last ys r
joined last (x ∷ xs) ys rise r =
    (both (Above x.prefix) xs ys rise.0 (behind_above x.prefix xs ys rise.0 r), joined (Some x.prefix) xs ys rise.1 r)

pub joined_prefixes : (xs ys : List Entry) → ArePrefixes xs → AreRising (last_prefix None xs) (map in_block ys) → ArePrefixes (xs ++ ys)
joined_prefixes xs ys are r = record {
  rising = joined None xs ys are.rising r;
  within = both (λ (entry : Entry). IsPrefixLength (length entry.prefix)) xs ys are.within (rising_within (last_prefix None xs) ys r);
}

kept_used : (old new : List Bool) (xs : List Entry) → KeepsUsed old new → AreUsed old xs → AreUsed new xs
kept_used old new [] keeps all = tt
kept_used old new (x ∷ xs) keeps all = (keeps (length x.prefix) all.0, kept_used old new xs keeps all.1)

pub joined_used : (old new : List Bool) (xs ys : List Entry) → KeepsUsed old new → AreUsed old xs → AreUsed new ys → AreUsed new (xs ++ ys)
joined_used old new xs ys keeps a b = both (IsUsed new) xs ys (kept_used old new xs keeps a) b

-- an entry of a block is the entry of a list
pub of_in_block : (xs : List Entry) → map of_block (map in_block xs) ≡ xs
of_in_block [] = refl
of_in_block (x ∷ xs) = ap (λ (l : List Entry). x ∷ l) (of_in_block xs)
