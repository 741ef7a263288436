-- One more source.
use Rattle.std.proofs.Common.{◌≡◌, ℕ, zero, suc, ◌+◌, ◌<◌, List, [], ◌∷◌, ◌++◌, length, map, take, Some, None, refl, sym, ap, ◌∙◌, append_assoc, arith}
use Rattle.std.specs.Prelude.{slice_get, flat_map}

none-some : {X : Type 0} (x : X) → None ≡ Some x → ⊥
none-some x is = cc

some-is : {X : Type 0} (x y : X) → Some x ≡ Some y → x ≡ y
some-is x y is = cc

module _ {X Y : Type 0} (f : X → Y) where
  take-suc : (xs : List X) (at : ℕ) (x : X) → slice_get xs at ≡ Some x → map f (take (suc at) xs) ≡ map f (take at xs) ++ f x ∷ []
  take-suc [] at x is = absurd (none-some x is)
  take-suc (y ∷ xs) zero x is = ap (λ (z : X). f z ∷ []) (some-is y x is)
  take-suc (y ∷ xs) (suc at) x is = ap (λ (l : List Y). f y ∷ l) (take-suc xs at x is)

  pub take-more : (xs : List X) (at : ℕ) (x : X) → slice_get xs at ≡ Some x → map f (take (at + 1) xs) ≡ map f (take at xs) ++ f x ∷ []
  take-more xs at x is =
      let next : at + 1 ≡ suc at = omega arith in
      ap (λ (n : ℕ). map f (take n xs)) next ∙ take-suc xs at x is

pub none-within : {X : Type 0} (xs : List X) (at : ℕ) → at < length xs → slice_get xs at ≡ None → ⊥
none-within [] at less is = omega (arith, less)
none-within (x ∷ xs) zero less is = none-some x (sym is)
none-within (x ∷ xs) (suc at) less is = none-within xs at (omega (arith, less)) is

append-nil : {X : Type 0} (xs : List X) → xs ++ [] ≡ xs
append-nil [] = refl
append-nil (x ∷ xs) = ap (λ l. x ∷ l) (append-nil xs)

module _ {X Y N : Type 0} (f : X → Y) (sets : N → List X) where
  map-join : (xs ys : List X) → map f (xs ++ ys) ≡ map f xs ++ map f ys
  map-join [] ys = refl
  map-join (x ∷ xs) ys = ap (λ (l : List Y). f x ∷ l) (map-join xs ys)

  flat-suc : (nodes : List N) (at : ℕ) (node : N) → slice_get nodes at ≡ Some node
      → map f (flat_map sets (take (suc at) nodes)) ≡ map f (flat_map sets (take at nodes)) ++ map f (sets node)
  flat-suc [] at node is = absurd (none-some node is)
  flat-suc (n ∷ nodes) zero node is = ap (map f) (append-nil (sets n)) ∙ ap (λ (x : N). map f (sets x)) (some-is n node is)
  flat-suc (n ∷ nodes) (suc at) node is =
      map-join (sets n) (flat_map sets (take (suc at) nodes))
      ∙ ap (λ (l : List Y). map f (sets n) ++ l) (flat-suc nodes at node is)
      ∙ sym (append_assoc (map f (sets n)) (map f (flat_map sets (take at nodes))) (map f (sets node)))
      ∙ ap (λ (l : List Y). l ++ map f (sets node)) (sym (map-join (sets n) (flat_map sets (take at nodes))))

  pub flat-more : (nodes : List N) (at : ℕ) (node : N) → slice_get nodes at ≡ Some node
      → map f (flat_map sets (take (at + 1) nodes)) ≡ map f (flat_map sets (take at nodes)) ++ map f (sets node)
  flat-more nodes at node is =
      let next : at + 1 ≡ suc at = omega arith in
      ap (λ (n : ℕ). map f (flat_map sets (take n nodes))) next ∙ flat-suc nodes at node is
