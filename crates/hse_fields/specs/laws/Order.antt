-- A change that may stand behind the last one may so by its kind, and by its store.
use Rattle.std.specs.Prelude.{◌≡◌, ◌⊎◌, ℕ, ◌<◌, Bool, true, false, List, [], Option, Some, None, nat_lt, nat_le, ◌==◌, ◌||◌}
use Rattle.std.specs.Ordering.{ordering_then, is_lt, nat_cmp}
use Rattle.std.specs.declared.cmp.Ordering.{Ordering}
use Rattle.std.specs.declared.cmp.Ordering.TheVariants.{Less, Equal, Greater}
use Rattle.std.specs.Cmp.Lexicographic.{slice_cmp}
use Rattle.std.proofs.Common.{refl, arith, inl, inr, cond}
use Rattle.std.proofs.lemmas.Bool.{ltb-true, le-leb, lt-ltb, eqb-true}
use Rattle.hse_fields.specs.LogText.{Kind, Change}
use Rattle.hse_fields.specs.LogOrder.{rank, may_follow, kind_may_follow, store_may_follow}
use Rattle.hse_fields.specs.LogReading.{change}

then_cases : (x y : Bool) (o : Ordering) → is_lt (ordering_then (cond x Less (cond y Equal Greater)) o) ≡ true
    → (x ≡ true) ⊎ ((y ≡ true) × (is_lt o ≡ true))
then_cases true y o e = inl refl
then_cases false true o e = inr (refl, e)
then_cases false false o e = absurd cc

then_lt : (a b : ℕ) (o : Ordering) → is_lt (ordering_then (nat_cmp a b) o) ≡ true → (a < b) ⊎ ((a ≡ b) × (is_lt o ≡ true))
then_lt a b o e =
    elim (then_cases (nat_lt a b) (a == b) o e) [
      | inl h ↦ inl (ltb-true a b h)
      | inr h ↦ inr (eqb-true a b h.0, h.1)
    ]

or_left : (x y : Bool) → x ≡ true → (x || y) ≡ true
or_left true y e = refl
or_left false y e = absurd cc

pub or_right : (x y : Bool) → y ≡ true → (x || y) ≡ true
or_right true y e = refl
or_right false y e = e

pub kind_follows : (last : Option Change) (c : Change) → may_follow last c ≡ true → kind_may_follow last c.kind ≡ true
kind_follows None c e = refl
kind_follows (Some l) c e =
    elim (then_lt (rank l.kind) (rank c.kind) (ordering_then (nat_cmp l.store c.store) (slice_cmp nat_cmp l.name c.name)) e) [
      | inl h ↦ le-leb _ _ (omega arith)
      | inr h ↦ le-leb _ _ (omega (arith, h.0))
    ]

pub store_follows : (last : Option Change) (c : Change) → may_follow last c ≡ true → store_may_follow last c.kind c.store ≡ true
store_follows None c e = refl
store_follows (Some l) c e =
    elim (then_lt (rank l.kind) (rank c.kind) (ordering_then (nat_cmp l.store c.store) (slice_cmp nat_cmp l.name c.name)) e) [
      | inl h ↦ or_left (nat_lt (rank l.kind) (rank c.kind)) (nat_le l.store c.store) (lt-ltb _ _ h)
      | inr h ↦ or_right (nat_lt (rank l.kind) (rank c.kind)) (nat_le l.store c.store)
          (elim (then_lt l.store c.store (slice_cmp nat_cmp l.name c.name) h.1) [
            | inl less ↦ le-leb _ _ (omega arith)
            | inr same ↦ le-leb _ _ (omega (arith, same.0))
          ])
    ]

-- the order does not look at values
pub may_follow-value : (last : Option Change) (kind : Kind) (store : ℕ) (name value : List ℕ)
    → may_follow last (change kind store name []) ≡ may_follow last (change kind store name value)
may_follow-value None kind store name value = refl
may_follow-value (Some l) kind store name value = refl
