-- The order of keys in a direction, and where a position stands in it.
use Rattle.std.proofs.Common.{◌≡◌, ℕ, true, true≢false, List, refl, sym, ap, ◌∙◌}
use Rattle.std.specs.declared.cmp.Ordering.{Ordering}
use Rattle.std.specs.declared.cmp.Ordering.TheVariants.{Less, Equal, Greater}
use Rattle.std.specs.Ordering.{nat_cmp, is_gt, is_ge, ordering_reverse}
use Rattle.std.specs.Cmp.{IsTotalOrder}
use Rattle.std.specs.Cmp.Lexicographic.{slice_cmp, nat_list_cmp_total}
use Rattle.std.specs.FinMap.{IsAntisymmetric, slice_cmp-IsAntisymmetric, nat_cmp-IsAntisymmetric}
use Rattle.hse_rows.specs.script.Cursor.{Direction, Position, forward, backward, front, at_key, past_key, direction_cmp, is_reached}
use Rattle.sorted_lists.specs.laws.Orders.{turned}

twice : (r : Ordering) → ordering_reverse (ordering_reverse r) ≡ r
twice Less = refl
twice Equal = refl
twice Greater = refl

turn-less : (r : Ordering) → ordering_reverse r ≡ Less → r ≡ Greater
turn-less r is = sym (twice r) ∙ ap ordering_reverse is

turn-equal : (r : Ordering) → ordering_reverse r ≡ Equal → r ≡ Equal
turn-equal r is = sym (twice r) ∙ ap ordering_reverse is

pub direction_order : (direction : Direction) → IsTotalOrder (direction_cmp direction)
direction_order forward = nat_list_cmp_total
direction_order backward = record {
  antisymm = λ x y. ap ordering_reverse (nat_list_cmp_total.antisymm x y);
  trans = λ x y z less more.
      ap ordering_reverse (turned nat_list_cmp_total z x Less
      (nat_list_cmp_total.trans z y x (turned nat_list_cmp_total y z Greater (turn-less (slice_cmp nat_cmp y z) more))
      (turned nat_list_cmp_total x y Greater (turn-less (slice_cmp nat_cmp x y) less))));
  congr = λ x y z tied. ap ordering_reverse (nat_list_cmp_total.congr x y z (turn-equal (slice_cmp nat_cmp x y) tied));
}

bytes_same : IsAntisymmetric (slice_cmp nat_cmp)
bytes_same = slice_cmp-IsAntisymmetric nat_cmp-IsAntisymmetric

pub key_same : (direction : Direction) (x y : List ℕ) → direction_cmp direction x y ≡ Equal → x ≡ y
key_same forward x y is = bytes_same x y is
key_same backward x y is = bytes_same x y (turn-equal (slice_cmp nat_cmp x y) is)

-- ---- a position in an order

module _ {R : List ℕ → List ℕ → Ordering} (o : IsTotalOrder R) (x y e : List ℕ) (less : R x y ≡ Less) where
  gt-up : is_gt (R x e) ≡ true → R y e ≡ Greater
  gt-up above = by (R x e) refl above
    where
      by : (r : Ordering) → R x e ≡ r → is_gt r ≡ true → R y e ≡ Greater
      by Less is e' = absurd (true≢false (sym e'))
      by Equal is e' = absurd (true≢false (sym e'))
      by Greater is e' = turned o e y Less (o.trans e x y (turned o x e Greater is) less)

  ge-up : is_ge (R x e) ≡ true → R y e ≡ Greater
  ge-up above = by (R x e) refl above
    where
      by : (r : Ordering) → R x e ≡ r → is_ge r ≡ true → R y e ≡ Greater
      by Less is e' = absurd (true≢false (sym e'))
      by Equal is e' = turned o e y Less (sym (o.congr x e y is) ∙ less)
      by Greater is e' = turned o e y Less (o.trans e x y (turned o x e Greater is) less)

-- what comes after a key that is reached is reached
pub reach-up : (direction : Direction) (position : Position) (x y : List ℕ) → direction_cmp direction x y ≡ Less
    → is_reached direction position x ≡ true → is_reached direction position y ≡ true
reach-up direction front x y less reached = refl
reach-up direction (at_key e) x y less reached = ap is_ge (ge-up (direction_order direction) x y e less reached)
reach-up direction (past_key e) x y less reached = ap is_gt (gt-up (direction_order direction) x y e less reached)
