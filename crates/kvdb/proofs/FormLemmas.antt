-- What holds of writes holds of their normal form.
use Rattle.std.specs.List.{AllByRecursion, fold, list_any}
use Rattle.std.specs.Ordering.{is_lt}
use Rattle.std.proofs.Common.{◌≡◌, suc, ◌+◌, ◌≤◌, Bool, true, false, cond, List, [], ◌∷◌, length, refl, ap, arith}
use Rattle.hse_rows.specs.declared.write.Write.{Write}
use Rattle.hse_rows.specs.writes.NormalForm.{normal_form, lasting, hides, write_cmp}
use Rattle.hse_rows.specs.writes.Sorted.{placed}

module _ (P : Write → Type 0) where
  placed-all : (ys : List Write) (x : Write) → AllByRecursion P ys → P x → AllByRecursion P (placed write_cmp ys x)
  placed-all [] x all has = (has, tt)
  placed-all (y ∷ ys) x all has = by (is_lt (write_cmp x y)) (placed-all ys x all.1 has)
    where
      by : (b : Bool) → AllByRecursion P (placed write_cmp ys x) → AllByRecursion P (cond b (x ∷ y ∷ ys) (y ∷ placed write_cmp ys x))
      by true rest = (has, all)
      by false rest = (all.0, rest)

  fold-all : (xs ys : List Write) → AllByRecursion P ys → AllByRecursion P xs → AllByRecursion P (fold (placed write_cmp) ys xs)
  fold-all [] ys one other = one
  fold-all (x ∷ xs) ys one other = fold-all xs (placed write_cmp ys x) (placed-all ys x one other.0) other.1

  lasting-all : (ws : List Write) → AllByRecursion P ws → AllByRecursion P (lasting ws)
  lasting-all [] all = tt
  lasting-all (w ∷ ws) all = by (list_any (λ l. hides l w) ws) (lasting-all ws all.1)
    where
      by : (b : Bool) → AllByRecursion P (lasting ws) → AllByRecursion P (cond b (lasting ws) (w ∷ lasting ws))
      by true rest = rest
      by false rest = (all.0, rest)

  pub form-all : (ws : List Write) → AllByRecursion P ws → AllByRecursion P (normal_form ws)
  unfolding normal_form
  form-all ws all = fold-all (lasting ws) [] tt (lasting-all ws all)

-- ---- a normal form of some writes has some

length-placed : (ys : List Write) (x : Write) → length (placed write_cmp ys x) ≡ suc (length ys)
length-placed [] x = refl
length-placed (y ∷ ys) x = by (is_lt (write_cmp x y)) (length-placed ys x)
  where
    by : (b : Bool) → length (placed write_cmp ys x) ≡ suc (length ys) → length (cond b (x ∷ y ∷ ys) (y ∷ placed write_cmp ys x)) ≡ suc (suc (length ys))
    by true rest = refl
    by false rest = ap suc rest

length-fold : (xs ys : List Write) → length (fold (placed write_cmp) ys xs) ≡ length ys + length xs
length-fold [] ys = let e : length ys ≡ length ys + 0 = omega arith in e
length-fold (x ∷ xs) ys =
    let step : length (fold (placed write_cmp) (placed write_cmp ys x) xs) ≡ length (placed write_cmp ys x) + length xs = length-fold xs (placed write_cmp ys x) in
    omega (arith, step, length-placed ys x)

some-lasting : (w : Write) (ws : List Write) → 1 ≤ length (lasting (w ∷ ws))
some-lasting w [] = omega arith
some-lasting w (v ∷ ws) = by (list_any (λ l. hides l w) (v ∷ ws)) (some-lasting v ws)
  where
    by : (b : Bool) → 1 ≤ length (lasting (v ∷ ws)) → 1 ≤ length (cond b (lasting (v ∷ ws)) (w ∷ lasting (v ∷ ws)))
    by true rest = rest
    by false rest = omega arith

pub some-form : (w : Write) (ws : List Write) → 1 ≤ length (normal_form (w ∷ ws))
unfolding normal_form
some-form w ws = omega (arith, some-lasting w ws, length-fold (lasting (w ∷ ws)) [])
