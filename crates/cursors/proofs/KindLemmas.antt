-- Keys behind all that a cursor asks for.
use Rattle.std.proofs.Common.{◌≡◌, ℕ, Bool, true, false, true≢false, ◌&&◌, List, [], ◌∷◌, arith, Option, Some, None, refl, sym, ap, ◌∙◌}
use Rattle.std.specs.Prelude.{nat_eq}
use Rattle.std.specs.Cmp.{first_so, second_so}
use Rattle.std.specs.declared.cmp.Ordering.{Ordering}
use Rattle.std.specs.declared.cmp.Ordering.TheVariants.{Less, Equal, Greater}
use Rattle.std.specs.Ordering.{nat_cmp, is_ge, is_gt, is_le, is_lt, ordering_reverse, ordering_then}
use Rattle.std.specs.Cmp.{nat_cmp_total}
use Rattle.std.specs.Cmp.Lexicographic.{slice_cmp, nat_list_cmp_total}
use Rattle.std.specs.FinMap.{slice_cmp-IsAntisymmetric, nat_cmp-IsAntisymmetric}
use Rattle.std.proofs.lemmas.Cmp.{tied_itself}
use Rattle.sorted_lists.specs.laws.Orders.{turned}
use Rattle.hse_rows.specs.writes.Change.{covers}
use Rattle.hse_rows.specs.script.Cursor.{forward, backward, is_in_range}
use Rattle.cursors.specs.Pairs.{is_asked, IsEnd}

abbrev key_cmp : List ℕ → List ℕ → Ordering
key_cmp = slice_cmp nat_cmp

-- three keys in a circle
circle : (x y z : List ℕ) → key_cmp x y ≡ Less → is_gt (key_cmp y z) ≡ false → is_gt (key_cmp z x) ≡ false → ⊥
circle x y z less up more = by (key_cmp y z) refl
  where
    below : key_cmp x z ≡ Less → ⊥
    below is = true≢false (sym (ap is_gt (turned nat_list_cmp_total x z Less is)) ∙ more)

    by : (r : Ordering) → key_cmp y z ≡ r → ⊥
    by Less is = below (nat_list_cmp_total.trans x y z less is)
    by Equal is = below (ap (key_cmp x) (sym (slice_cmp-IsAntisymmetric nat_cmp-IsAntisymmetric y z is)) ∙ less)
    by Greater is = true≢false (sym (ap is_gt is) ∙ up)

pub nat-same : (a b : ℕ) → nat_eq a b ≡ true → a ≡ b
nat-same a b is = grind (arith, is)

not-then : (r s : Ordering) → is_gt (ordering_then r s) ≡ false → r ≡ Equal → is_gt s ≡ false
not-then Less s is e = let h : Less ≡ Equal = e in absurd cc
not-then Equal s is e = is
not-then Greater s is e = let h : Greater ≡ Equal = e in absurd cc

then-up : (r s : Ordering) → is_gt (ordering_then r s) ≡ false → r ≡ Greater → ⊥
then-up Less s is e = let h : Less ≡ Greater = e in cc
then-up Equal s is e = let h : Equal ≡ Greater = e in cc
then-up Greater s is e = true≢false is

-- what begins with a prefix is not before it
pub prefix-le : (p k : List ℕ) → covers p k ≡ true → is_gt (key_cmp p k) ≡ false
prefix-le [] [] is = refl
prefix-le [] (x ∷ k) is = refl
prefix-le (a ∷ p) [] is = absurd (true≢false (sym is))
prefix-le (a ∷ p) (x ∷ k) is =
    let same : nat_cmp a x ≡ Equal =
    ap (nat_cmp a) (sym (nat-same a x (first_so (nat_eq a x) (covers p k) is))) ∙ tied_itself nat_cmp_total a in
    ap (λ (r : Ordering). is_gt (ordering_then r (key_cmp p k))) same ∙ prefix-le p k (second_so (nat_eq a x) (covers p k) is)

both : (a b : Bool) → a ≡ true → b ≡ true → (a && b) ≡ true
both a b one two = (λ i. one i && two i)

-- what stands between a prefix and a key that begins with it begins with it
convex : (p k o : List ℕ) → covers p o ≡ true → is_gt (key_cmp p k) ≡ false → is_gt (key_cmp k o) ≡ false → covers p k ≡ true
convex [] k o is low high = refl
convex (a ∷ p) [] o is low high = absurd (true≢false low)
convex (a ∷ p) (x ∷ k) [] is low high = absurd (true≢false (sym is))
convex (a ∷ p) (x ∷ k) (y ∷ o) is low high =
    by (nat_cmp a x) refl (λ rest. convex p k o (second_so (nat_eq a y) (covers p o) is) rest)
  where
    ends : a ≡ y
    ends = nat-same a y (first_so (nat_eq a y) (covers p o) is)

    by : (r : Ordering) → nat_cmp a x ≡ r
        → (is_gt (key_cmp p k) ≡ false → is_gt (key_cmp k o) ≡ false → covers p k ≡ true) → covers (a ∷ p) (x ∷ k) ≡ true
    by Less e more =
        absurd
        (then-up (nat_cmp x y) (key_cmp k o) high (ap (nat_cmp x) (sym ends) ∙ turned nat_cmp_total a x Less e))
    by Equal e more =
        let same : a ≡ x = nat_cmp-IsAntisymmetric a x e in
        both (nat_eq a x) (covers p k)
        (ap (nat_eq a) (sym same ∙ ends) ∙ first_so (nat_eq a y) (covers p o) is)
        (more (not-then (nat_cmp a x) (key_cmp p k) low e)
        (not-then (nat_cmp x y) (key_cmp k o) high (ap (λ n. nat_cmp n y) (sym same) ∙ ap (nat_cmp a) (sym ends) ∙ tied_itself nat_cmp_total a)))
    by Greater e more = absurd (then-up (nat_cmp a x) (key_cmp p k) low e)

not-asked : (filter : List ℕ) (last : Option (List ℕ)) (key : List ℕ) → (is_asked filter last key ≡ true → ⊥) → is_asked filter last key ≡ false
not-asked filter last key none = by (is_asked filter last key) refl
  where
    by : (b : Bool) → is_asked filter last key ≡ b → is_asked filter last key ≡ false
    by false is = is
    by true is = absurd (none is)

not-gt : (r : Ordering) → is_ge r ≡ true → is_gt (ordering_reverse r) ≡ false
not-gt Less h = absurd (true≢false (sym h))
not-gt Equal h = refl
not-gt Greater h = refl

not-gt-le : (r : Ordering) → is_le r ≡ true → is_gt r ≡ false
not-gt-le Less h = refl
not-gt-le Equal h = refl
not-gt-le Greater h = absurd (true≢false (sym h))

reversed-ge : (r : Ordering) → is_ge (ordering_reverse r) ≡ true → is_gt r ≡ false
reversed-ge Less h = refl
reversed-ge Equal h = refl
reversed-ge Greater h = absurd (true≢false (sym h))

le-false : (r : Ordering) → is_le r ≡ false → r ≡ Greater
le-false Less h = absurd (true≢false h)
le-false Equal h = absurd (true≢false h)
le-false Greater h = refl

pub lt-true : (r : Ordering) → is_lt r ≡ true → r ≡ Less
lt-true Less h = refl
lt-true Equal h = absurd (true≢false (sym h))
lt-true Greater h = absurd (true≢false (sym h))

gt-true : (r : Ordering) → is_gt r ≡ true → r ≡ Greater
gt-true Less h = absurd (true≢false (sym h))
gt-true Equal h = absurd (true≢false (sym h))
gt-true Greater h = refl

-- the other way round
from-ge : (key other : List ℕ) → is_ge (key_cmp other key) ≡ true → is_gt (key_cmp key other) ≡ false
from-ge key other up = ap is_gt (turned nat_list_cmp_total other key (key_cmp other key) refl) ∙ not-gt (key_cmp other key) up

pub end-down : (filter : List ℕ) (last : Option (List ℕ)) (key : List ℕ) → is_lt (key_cmp key filter) ≡ true → IsEnd backward filter last key
end-down filter last key less =
    λ other up.
    not-asked filter last other
    (λ asks.
    circle key filter other (lt-true (key_cmp key filter) less)
    (prefix-le filter other (first_so (covers filter other) (is_in_range last other) asks)) (reversed-ge (key_cmp other key) up))

pub end-last : (filter : List ℕ) (last : Option (List ℕ)) (key : List ℕ) → is_in_range last key ≡ false → IsEnd forward filter last key
end-last filter None key out = absurd (true≢false out)
end-last filter (Some last) key out =
    λ other up.
    not-asked filter (Some last) other
    (λ asks.
    circle last key other (turned nat_list_cmp_total key last Greater (le-false (key_cmp key last) out)) (from-ge key other up)
    (not-gt-le (key_cmp other last) (second_so (covers filter other) (is_in_range (Some last) other) asks)))

pub end-up : (filter : List ℕ) (last : Option (List ℕ)) (key : List ℕ) → covers filter key ≡ false → is_gt (key_cmp key filter) ≡ true
    → IsEnd forward filter last key
end-up filter last key out more =
    λ other up.
    not-asked filter last other
    (λ asks.
    true≢false
    (sym
    (convex filter key other (first_so (covers filter other) (is_in_range last other) asks)
    (ap is_gt (turned nat_list_cmp_total key filter Greater (gt-true (key_cmp key filter) more))) (from-ge key other up))
    ∙ out))
