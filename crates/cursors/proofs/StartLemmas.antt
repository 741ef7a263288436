-- The bounds between which the keys with a prefix stand, and where a merge may begin.
use Rattle.std.proofs.Common.{◌≡◌, ℕ, zero, suc, ◌+◌, ◌-◌, ◌≤◌, length, take, slice_index_or, true, false, true≢false, ◌&&◌, List, [], ◌∷◌, ◌++◌, refl, sym, ap, ◌∙◌, arith}
use Rattle.std.specs.Prelude.{nat_eq}
use Rattle.std.proofs.lemmas.Bool.Decides.{nat_tests}
use Rattle.std.specs.Cmp.{first_so, second_so, nat_cmp_total}
use Rattle.std.specs.declared.cmp.Ordering.{Ordering}
use Rattle.std.specs.declared.cmp.Ordering.TheVariants.{Less, Equal, Greater}
use Rattle.std.specs.Ordering.{nat_cmp, is_ge, is_gt, is_lt, ordering_reverse, ordering_then}
use Rattle.std.specs.Cmp.Lexicographic.{slice_cmp, nat_list_cmp_total}
use Rattle.std.proofs.lemmas.Cmp.{tied_itself}
use Rattle.std.specs.FinMap.{slice_cmp-IsAntisymmetric, nat_cmp-IsAntisymmetric}
use Rattle.sorted_lists.specs.laws.Orders.{turned}
use Rattle.hse_rows.specs.writes.Change.{covers}
use Rattle.hse_rows.specs.script.Cursor.{forward, backward, at_key, past_key, is_reached}
use Rattle.cursors.specs.declared.mark.Stand.{Stand}
use Rattle.cursors.specs.declared.mark.Stand.TheVariants.{Front, At, Past}
use Rattle.cursors.specs.Marks.{position_by}
use Rattle.cursors.specs.Starts.{IsBehind}
use Rattle.cursors.proofs.KindLemmas.{prefix-le, nat-same}

abbrev key_cmp : List ℕ → List ℕ → Ordering
key_cmp = slice_cmp nat_cmp

-- ---- bytes behind all keys with a prefix

next-less : (last : ℕ) → nat_cmp last (last + 1) ≡ Less
next-less last = grind (arith, nat_tests)

-- what a front covers all covers less of
pub covers-front : (front : List ℕ) (last : ℕ) (key : List ℕ) → covers (front ++ last ∷ []) key ≡ true → covers front key ≡ true
covers-front [] last key is = refl
covers-front (a ∷ front) last [] is = is
covers-front (a ∷ front) last (x ∷ key) is =
    λ i. first_so (nat_eq a x) (covers (front ++ last ∷ []) key) is i
    && covers-front front last key (second_so (nat_eq a x) (covers (front ++ last ∷ []) key) is) i

pub raised-behind : (front : List ℕ) (last : ℕ) → IsBehind (front ++ last ∷ []) (front ++ (last + 1) ∷ [])
raised-behind [] last [] is = absurd (true≢false (sym is))
raised-behind [] last (x ∷ key) is =
    ap (λ r. ordering_then r (key_cmp key []))
    (ap (λ n. nat_cmp n (last + 1)) (sym (nat-same last x (first_so (nat_eq last x) true is))) ∙ next-less last)
raised-behind (a ∷ front) last [] is = absurd (true≢false (sym is))
raised-behind (a ∷ front) last (x ∷ key) is =
    ap (λ r. ordering_then r (key_cmp key (front ++ (last + 1) ∷ [])))
    (ap (λ n. nat_cmp n a) (sym (nat-same a x (first_so (nat_eq a x) (covers (front ++ last ∷ []) key) is))) ∙ tied_itself nat_cmp_total a)
    ∙ raised-behind front last key (second_so (nat_eq a x) (covers (front ++ last ∷ []) key) is)

front-at : (xs : List ℕ) (n : ℕ) → length xs ≡ suc n → xs ≡ take n xs ++ slice_index_or xs n 0 ∷ []
front-at [] n is = absurd (omega (arith, is))
front-at (x ∷ []) zero is = refl
front-at (x ∷ []) (suc n) is = absurd (omega (arith, is))
front-at (x ∷ y ∷ xs) zero is = absurd (omega (arith, is))
front-at (x ∷ y ∷ xs) (suc n) is = ap (λ (l : List ℕ). x ∷ l) (front-at (y ∷ xs) n (omega (arith, is)))

-- a list that is not empty is its front and its last
pub front-last : (xs : List ℕ) → 1 ≤ length xs → xs ≡ take (length xs - 1) xs ++ slice_index_or xs (length xs - 1) 0 ∷ []
front-last xs some = front-at xs (length xs - 1) (omega (arith, some))

-- ---- where a merge may begin

ge-turned : (x y : List ℕ) → is_gt (key_cmp y x) ≡ false → is_ge (key_cmp x y) ≡ true
ge-turned x y is = by (key_cmp y x) refl
  where
    back : (r : Ordering) → key_cmp y x ≡ r → key_cmp x y ≡ ordering_reverse r
    back r e = turned nat_list_cmp_total y x r e

    by : (r : Ordering) → key_cmp y x ≡ r → is_ge (key_cmp x y) ≡ true
    by Less e = ap is_ge (back Less e)
    by Equal e = ap is_ge (back Equal e)
    by Greater e = absurd (true≢false (sym (ap is_gt e) ∙ is))

-- all keys with the filter are at it or behind it
pub from-filter : (filter key : List ℕ) → covers filter key ≡ true → is_reached forward (at_key filter) key ≡ true
from-filter filter key is = ge-turned key filter (prefix-le filter key is)

-- and behind a key that is before it
pub from-before : (stand : Stand) (at filter key : List ℕ) → key_cmp at filter ≡ Less → covers filter key ≡ true
    → is_reached forward (position_by stand at) key ≡ true
from-before stand at filter key less is = by stand
  where
    above : (r : Ordering) → key_cmp filter key ≡ r → key_cmp at key ≡ Less
    above Less e = nat_list_cmp_total.trans at filter key less e
    above Equal e = ap (key_cmp at) (sym (slice_cmp-IsAntisymmetric nat_cmp-IsAntisymmetric filter key e)) ∙ less
    above Greater e = absurd (true≢false (sym (ap is_gt e) ∙ prefix-le filter key is))

    greater : key_cmp key at ≡ Greater
    greater = turned nat_list_cmp_total at key Less (above (key_cmp filter key) refl)

    by : (stand : Stand) → is_reached forward (position_by stand at) key ≡ true
    by Front = refl
    by At = ap is_ge greater
    by Past = ap is_gt greater

pub to-end : (prefix end key : List ℕ) → IsBehind prefix end → covers prefix key ≡ true → is_reached backward (past_key end) key ≡ true
to-end prefix end key behind is = ap (λ r. is_gt (ordering_reverse r)) (behind key is)

pub to-behind : (stand : Stand) (at prefix end key : List ℕ) → is_lt (key_cmp at end) ≡ false → IsBehind prefix end → covers prefix key ≡ true
    → is_reached backward (position_by stand at) key ≡ true
to-behind stand at prefix end key not_less behind is = by stand
  where
    less-by : (r : Ordering) → key_cmp at end ≡ r → key_cmp key at ≡ Less
    less-by Less e = absurd (true≢false (sym (ap is_lt e) ∙ not_less))
    less-by Equal e = ap (key_cmp key) (slice_cmp-IsAntisymmetric nat_cmp-IsAntisymmetric at end e) ∙ behind key is
    less-by Greater e = nat_list_cmp_total.trans key end at (behind key is) (turned nat_list_cmp_total at end Greater e)

    less : key_cmp key at ≡ Less
    less = less-by (key_cmp at end) refl

    by : (stand : Stand) → is_reached backward (position_by stand at) key ≡ true
    by Front = refl
    by At = ap (λ r. is_ge (ordering_reverse r)) less
    by Past = ap (λ r. is_gt (ordering_reverse r)) less
