-- Writes of which the normal form has none are none.
use Rattle.std.proofs.Common.{◌≡◌, refl, sym, ap, ◌∙◌, arith, true≢false, ◌+◌, Bool, true, false, cond, List, [], ◌∷◌, length}
use Rattle.std.specs.List.{fold, list_any}
use Rattle.std.specs.declared.cmp.Ordering.{Ordering}
use Rattle.std.specs.Ordering.{is_lt}
use Rattle.hse_rows.specs.declared.write.Write.{Write}
use Rattle.hse_rows.specs.writes.Sorted.{placed, sorted}
use Rattle.hse_rows.specs.writes.NormalForm.{hides, lasting, write_cmp, normal_form}

len-placed : {X : Type 0} (cmp : X → X → Ordering) (xs : List X) (x : X) → length (placed cmp xs x) ≡ length xs + 1
len-placed cmp [] x = refl
len-placed cmp (y ∷ ys) x =
    let more = len-placed cmp ys x in
    elim (is_lt (cmp x y)) as (λ b. length (cond b (x ∷ y ∷ ys) (y ∷ placed cmp ys x)) ≡ length (y ∷ ys) + 1)
    [ true ↦ omega arith | false ↦ omega (arith, more) ]

len-fold : {X : Type 0} (cmp : X → X → Ordering) (all xs : List X) → length (fold (placed cmp) all xs) ≡ length all + length xs
len-fold cmp all [] = omega arith
len-fold cmp all (x ∷ xs) =
    let rest = len-fold cmp (placed cmp all x) xs in
    let here = len-placed cmp all x in
    omega (arith, rest, here)

lasting-none : (writes : List Write) → length (lasting writes) ≡ 0 → writes ≡ []
lasting-none [] is = refl
lasting-none (write ∷ later) is = absurd (by (list_any (λ l. hides l write) later) refl is (lasting-none later))
  where
    by : (b : Bool) → list_any (λ l. hides l write) later ≡ b → length (cond b (lasting later) (write ∷ lasting later)) ≡ 0
        → (length (lasting later) ≡ 0 → later ≡ []) → ⊥
    by true hidden is more = true≢false (sym hidden ∙ ap (list_any (λ l. hides l write)) (more is))
    by false hidden is more = omega (arith, is)

pub none-left : (writes : List Write) → length (normal_form writes) ≡ 0 → writes ≡ []
unfolding normal_form
none-left writes is =
    let len : length (sorted write_cmp (lasting writes)) ≡ 0 + length (lasting writes) = len-fold write_cmp [] (lasting writes) in
    lasting-none writes (omega (arith, is, len))

pub nothing-left : length (normal_form []) ≡ 0
unfolding normal_form
nothing-left = refl
