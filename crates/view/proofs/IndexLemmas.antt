-- The places of stores by name, as they are put one after another.
use Rattle.std.proofs.Common.{◌≡◌, ℕ, zero, suc, ◌+◌, ◌<◌, Bool, true, false, true≢false, cond, ◌||◌, List, [], ◌∷◌, ◌++◌, length, take, get_or, Option, Some, None, refl, sym, ap, ◌∙◌, subst, arith}
use Rattle.std.specs.Prelude.{is_some}
use Rattle.std.specs.List.{find, list_any}
use Rattle.std.specs.Option.{option_map}
use Rattle.std.specs.Cmp.Lexicographic.{same_text, nat_list_eq_equiv}
use Rattle.hse_rows.specs.writes.NormalForm.{same}
use Rattle.view.specs.declared.view_store.ViewStore.{ViewStore}
use Rattle.view.specs.Means.{AreApart}
use Rattle.view.specs.Index.{place_named}

some-none : {X : Type 0} (x : X) → Some x ≡ None → ⊥
some-none x e = true≢false (ap is_some e)

left-false : (a b : Bool) → (a || b) ≡ false → a ≡ false
left-false true b e = absurd (true≢false e)
left-false false b e = refl

right-false : (a b : Bool) → (a || b) ≡ false → b ≡ false
right-false true b e = absurd (true≢false e)
right-false false b e = e

any-at : {X : Type 0} (p : X → Bool) (xs : List X) (at : ℕ) (d : X) → list_any p xs ≡ false → at < length xs → p (get_or xs at d) ≡ false
any-at p [] at d none within = absurd (omega (arith, within))
any-at p (x ∷ xs) zero d none within = left-false (p x) (list_any p xs) none
any-at p (x ∷ xs) (suc at) d none within = any-at p xs at d (right-false (p x) (list_any p xs) none) (omega (arith, within))

mapped-none : (o : Option ℕ) → option_map (λ (n : ℕ). n + 1) o ≡ None → o ≡ None
mapped-none None e = refl
mapped-none (Some n) e = absurd (some-none (n + 1) e)

module _ {R : Type 0} (name : List ℕ) where
  -- one store more behind the others
  pub place-last : (stores : List (ViewStore R)) (store : ViewStore R) → (same store.name name ≡ true → place_named name stores ≡ None)
      → place_named name (stores ++ store ∷ []) ≡ cond (same store.name name) (Some (length stores)) (place_named name stores)
  place-last [] store apart = refl
  place-last (first ∷ stores) store apart =
      by (same first.name name) refl (same store.name name) refl
      (λ rest. place-last stores store rest)
    where
      by : (b : Bool) → same first.name name ≡ b → (c : Bool) → same store.name name ≡ c
          → ((same store.name name ≡ true → place_named name stores ≡ None)
          → place_named name (stores ++ store ∷ []) ≡ cond (same store.name name) (Some (length stores)) (place_named name stores))
          → cond b (Some 0) (option_map (λ (n : ℕ). n + 1) (place_named name (stores ++ store ∷ [])))
          ≡ cond c (Some (length (first ∷ stores))) (cond b (Some 0) (option_map (λ (n : ℕ). n + 1) (place_named name stores)))
      by true is true there rest =
          absurd (some-none 0 (sym (ap (λ (b : Bool). cond b (Some 0) (option_map (λ (n : ℕ). n + 1) (place_named name stores))) is) ∙ apart there))
      by true is false there rest = refl
      by false is true there rest =
          let none : place_named name stores ≡ None =
          mapped-none (place_named name stores)
          (sym (ap (λ (b : Bool). cond b (Some 0) (option_map (λ (n : ℕ). n + 1) (place_named name stores))) is) ∙ apart there) in
          ap (option_map (λ (n : ℕ). n + 1)) (rest (λ _. none) ∙ ap (λ (b : Bool). cond b (Some (length stores)) (place_named name stores)) there)
          ∙ ap Some (let more : length stores + 1 ≡ suc (length stores) = omega arith in more)
      by false is false there rest =
          ap (option_map (λ (n : ℕ). n + 1))
          (rest (λ yes. absurd (true≢false (sym yes ∙ there))) ∙ ap (λ (b : Bool). cond b (Some (length stores)) (place_named name stores)) there)

  -- what a place tells
  pub place-none : (stores : List (ViewStore R)) → place_named name stores ≡ None → find (λ s. same s.name name) stores ≡ None
  place-none [] none = refl
  place-none (store ∷ stores) none = by (λ rest. place-none stores rest) (same store.name name) refl
    where
      by : (place_named name stores ≡ None → find (λ s. same s.name name) stores ≡ None) → (b : Bool) → same store.name name ≡ b
          → cond b (Some store) (find (λ s. same s.name name) stores) ≡ None
      by rest true is = absurd (some-none 0 (sym (ap (λ (b : Bool). cond b (Some 0) (option_map (λ (n : ℕ). n + 1) (place_named name stores))) is) ∙ none))
      by rest false is =
          rest (mapped-none (place_named name stores)
          (sym (ap (λ (b : Bool). cond b (Some 0) (option_map (λ (n : ℕ). n + 1) (place_named name stores))) is) ∙ none))

  pub record IsThere (stores : List (ViewStore R)) (at : ℕ) : Type 0 where
    pub within : at < length stores
    pub found : (d : ViewStore R) → find (λ s. same s.name name) stores ≡ Some (get_or stores at d)

  abbrev Tells : List (ViewStore R) → Option ℕ → Type 0
  Tells stores None = Unit {0}
  Tells stores (Some at) = IsThere stores at

  tells : (stores : List (ViewStore R)) → Tells stores (place_named name stores)
  tells [] = tt
  tells (store ∷ stores) = by (same store.name name) refl (place_named name stores) (tells stores)
    where
      by : (b : Bool) → same store.name name ≡ b → (o : Option ℕ) → Tells stores o → Tells (store ∷ stores) (cond b (Some 0) (option_map (λ (n : ℕ). n + 1) o))
      by true is o there = record {
        within = omega arith;
        found = λ d. ap (λ (b : Bool). cond b (Some store) (find (λ s. same s.name name) stores)) is;
      }
      by false is None there = tt
      by false is (Some at) there =
          let within = there.within in
          let more : at + 1 ≡ suc at = omega arith in
          record {
            within = omega (arith, within);
            found = λ d.
                ap (λ (b : Bool). cond b (Some store) (find (λ s. same s.name name) stores)) is
                ∙ there.found d ∙ ap (λ (n : ℕ). Some (get_or (store ∷ stores) n d)) (sym more);
          }

  pub place-some : (stores : List (ViewStore R)) (at : ℕ) → place_named name stores ≡ Some at → IsThere stores at
  place-some stores at is = subst (Tells stores) is (tells stores)

-- no store before one has its name
pub apart-before : {R : Type 0} (name : List ℕ) (stores : List (ViewStore R)) (at : ℕ) (d : ViewStore R) → AreApart stores → at < length stores
    → same (get_or stores at d).name name ≡ true → place_named name (take at stores) ≡ None
apart-before name [] at d apart within is = absurd (omega (arith, within))
apart-before name (store ∷ stores) zero d apart within is = refl
apart-before name (store ∷ stores) (suc at) d apart within is =
    let there : at < length stores = omega (arith, within) in
    let other = any-at (λ (s : ViewStore _). same s.name store.name) stores at d apart.0 there in
    let here : same store.name name ≡ false =
    ap (same store.name) (sym (same_text (get_or stores at d).name name (sym is))) ∙ nat_list_eq_equiv.symm store.name (get_or stores at d).name ∙ other in
    (λ i. cond (here i) (Some 0) (option_map (λ (n : ℕ). n + 1) (apart-before name stores at d apart.2 there is i)))
