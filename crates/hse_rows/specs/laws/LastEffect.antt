-- The last effect of things in order: what the last one that touches a place leaves there. Writes at a key, rows in
-- order of number and whole histories are all read by it.
use Rattle.std.specs.Prelude.{◌≡◌, Bool, true, false, cond, ◌||◌, List, [], ◌∷◌, ◌++◌}
use Rattle.std.specs.List.{list_any}
use Rattle.std.proofs.Common.{refl, sym}
use Rattle.std.proofs.Math.Bool.{true≢false}

module _ {X V : Type 0} (touched : X → Bool) (left : X → V) where
  -- what one thing leaves where this was held
  abbrev pub effect : V → X → V
  effect held x = cond (touched x) (left x) held

  -- what these leave, one after another
  abbrev pub last_effect : V → List X → V
  last_effect held [] = held
  last_effect held (x ∷ xs) = last_effect (effect held x) xs

  pub last_effect-append : (held : V) (xs ys : List X) → last_effect held (xs ++ ys) ≡ last_effect (last_effect held xs) ys
  last_effect-append held [] ys = refl
  last_effect-append held (x ∷ xs) ys = last_effect-append (effect held x) xs ys

  -- where none touches, what was held stays
  pub last_effect_untouched : (held : V) (xs : List X) → list_any touched xs ≡ false → last_effect held xs ≡ held
  last_effect_untouched held [] none = refl
  last_effect_untouched held (x ∷ xs) none =
      elim (touched x) as (λ b. (b || list_any touched xs) ≡ false → last_effect (cond b (left x) held) xs ≡ held) [
        | true ↦ λ e. absurd (true≢false e)
        | false ↦ λ e. last_effect_untouched held xs e
      ] none

  -- where one touches, what was held does not matter
  pub last_effect_settled : (held other : V) (xs : List X) → list_any touched xs ≡ true → last_effect held xs ≡ last_effect other xs
  last_effect_settled held other [] some = absurd (true≢false (sym some))
  last_effect_settled held other (x ∷ xs) some =
      elim (touched x) as (λ b. (b || list_any touched xs) ≡ true → last_effect (cond b (left x) held) xs ≡ last_effect (cond b (left x) other) xs) [
        | true ↦ λ e. refl
        | false ↦ λ e. last_effect_settled held other xs e
      ] some

  -- two that leave the same where both touch may change places
  pub effects_swap : (held : V) (x y : X) → (touched x ≡ true → touched y ≡ true → left x ≡ left y)
      → effect (effect held x) y ≡ effect (effect held y) x
  effects_swap held x y same =
      elim (touched x) as (λ b. (b ≡ true → touched y ≡ true → left x ≡ left y)
      → cond (touched y) (left y) (cond b (left x) held) ≡ cond b (left x) (cond (touched y) (left y) held)) [
        | true ↦ λ e. at_y (touched y) (e refl)
        | false ↦ λ e. refl
      ] same
    where
      at_y : (b : Bool) → (b ≡ true → left x ≡ left y) → cond b (left y) (left x) ≡ left x
      at_y true e = sym (e refl)
      at_y false e = refl
