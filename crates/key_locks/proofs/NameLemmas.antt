-- Names that compare as equal are the same.
use Rattle.std.proofs.Common.{◌≡◌, ℕ, Bool, true, false, refl, ap, ◌∙◌, List, [], ◌∷◌, ◌&&◌, ◌||◌, nat_eq}
use mathlib.Core.Bool.{beq}
use Rattle.std.specs.List.{list_any}
use Rattle.key_locks.specs.Held.{has}
use Rattle.std.specs.declared.cmp.Ordering.{Ordering}
use Rattle.std.specs.declared.cmp.Ordering.TheVariants.{Less, Equal, Greater}
use Rattle.std.specs.Ordering.{nat_cmp, bool_cmp, is_eq, ordering_then}
use Rattle.std.specs.Cmp.{IsTotalOrder, then_total, on_total, nat_cmp_total, bool_cmp_total, eq_by_cmp_equiv, tied_then, unsigned_ties}
use Rattle.std.specs.Cmp.Lexicographic.{slice_cmp, nat_list_cmp_total, pointwise, texts_ties}
use Rattle.std.proofs.lemmas.Map.Lookups.{exact_unsigned, exact_bytes}
use Rattle.key_locks.specs.declared.name.Name.{Name}
use Rattle.key_locks.specs.Names.{name_cmp, name_eq}

pub name-total : IsTotalOrder name_cmp
name-total =
    then_total (on_total (λ (n : Name). n.store) nat_cmp_total)
    (then_total (on_total (λ (n : Name). n.bytes) nat_list_cmp_total) (on_total (λ (n : Name). n.is_key) bool_cmp_total))

then-equal : (a b : Ordering) → ordering_then a b ≡ Equal → (a ≡ Equal) × (b ≡ Equal)
then-equal Less b same = absurd cc
then-equal Equal b same = (refl, same)
then-equal Greater b same = absurd cc

bool-equal : (x y : Bool) → bool_cmp x y ≡ Equal → x ≡ y
bool-equal false false same = refl
bool-equal true true same = refl
bool-equal false true same = absurd cc
bool-equal true false same = absurd cc

equal-is : (a : Ordering) → is_eq a ≡ true → a ≡ Equal
equal-is Less same = absurd cc
equal-is Equal same = refl
equal-is Greater same = absurd cc

pub name-same : (x y : Name) → name_cmp x y ≡ Equal → x ≡ y
name-same x y same =
    let parts = then-equal (nat_cmp x.store y.store) _ same in
    let rest = then-equal (slice_cmp nat_cmp x.bytes y.bytes) (bool_cmp x.is_key y.is_key) parts.1 in
    let with_store : ℕ → Name = λ s. record { store = s; bytes = x.bytes; is_key = x.is_key } in
    let with_bytes : List ℕ → Name = λ b. record { store = y.store; bytes = b; is_key = x.is_key } in
    let with_kind : Bool → Name = λ k. record { store = y.store; bytes = y.bytes; is_key = k } in
    ap with_store (exact_unsigned x.store y.store parts.0) ∙ ap with_bytes (exact_bytes x.bytes y.bytes rest.0) ∙ ap with_kind (bool-equal x.is_key y.is_key rest.1)

pub same-name : (x y : Name) → is_eq (name_cmp x y) ≡ true → x ≡ y
same-name x y same = name-same x y (equal-is (name_cmp x y) same)

pub name-self : (x : Name) → is_eq (name_cmp x x) ≡ true
name-self x = (eq_by_cmp_equiv name-total).refl x

bool-ties : (x y : Bool) → beq x y ≡ is_eq (bool_cmp x y)
bool-ties true true = refl
bool-ties true false = refl
bool-ties false true = refl
bool-ties false false = refl

pub name-ties : (x y : Name) → name_eq x y ≡ is_eq (name_cmp x y)
name-ties x y =
    ap (λ a. a && (pointwise nat_eq x.bytes y.bytes && beq x.is_key y.is_key)) (unsigned_ties x.store y.store)
    ∙ ap (λ a. is_eq (nat_cmp x.store y.store) && (a && beq x.is_key y.is_key)) (texts_ties x.bytes y.bytes)
    ∙ ap (λ a. is_eq (nat_cmp x.store y.store) && (is_eq (slice_cmp nat_cmp x.bytes y.bytes) && a)) (bool-ties x.is_key y.is_key)
    ∙ ap (λ a. is_eq (nat_cmp x.store y.store) && a) (tied_then (slice_cmp nat_cmp x.bytes y.bytes) (bool_cmp x.is_key y.is_key))
    ∙ tied_then (nat_cmp x.store y.store) (ordering_then (slice_cmp nat_cmp x.bytes y.bytes) (bool_cmp x.is_key y.is_key))

pub has-ties : (name : Name) (names : List Name) → list_any (λ other. name_eq other name) names ≡ has names name
has-ties name [] = refl
has-ties name (n ∷ names) = ap (λ a. a || list_any (λ other. name_eq other name) names) (name-ties n name) ∙ ap (λ b. is_eq (name_cmp n name) || b) (has-ties name names)
