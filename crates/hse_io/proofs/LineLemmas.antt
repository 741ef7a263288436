-- The first line of bytes by the place of their first line feed, and of bytes read piece by piece.
use Rattle.std.proofs.Common.{◌≡◌, ◌≢◌, ℕ, zero, suc, ◌+◌, ◌<◌, ◌≤◌, Bool, true, false, cond, eqb, List, [], ◌∷◌, length, get_or, take, drop, Option, Some, None, unwrap_or, refl, sym, ap, ◌∙◌, arith, add-one, length-take}
use Rattle.std.proofs.lemmas.Bool.{cond-true, cond-false, eqb-true, ne_eqb, eq-eqb}
use Rattle.memchr.specs.Find.{IsFirstByte, is_byte}
use Rattle.hse_io.specs.Lines.{first_line, after_line}

-- bytes without a line feed are one line
pub first_line-none : (xs : List ℕ) → ((k : ℕ) → k < length xs → get_or xs k 0 ≢ 10) → first_line xs ≡ xs
first_line-none [] none = refl
first_line-none (b ∷ rest) none =
    cond-false (eqb b 10) _ _ (ne_eqb b 10 (none 0 (omega arith)))
    ∙ ap (λ l. b ∷ l) (first_line-none rest (λ k h. none (suc k) (omega arith)))

-- the first line ends at the first line feed
pub length-first_line : (xs : List ℕ) (k : ℕ) → k < length xs → get_or xs k 0 ≡ 10 → ((j : ℕ) → j < k → get_or xs j 0 ≢ 10) → length (first_line xs) ≡ k
length-first_line [] k within feed before = absurd (omega arith)
length-first_line (b ∷ rest) zero within feed before = ap length (cond-true (eqb b 10) [] (b ∷ first_line rest) (eq-eqb b 10 feed))
length-first_line (b ∷ rest) (suc k) within feed before =
    ap length (cond-false (eqb b 10) [] (b ∷ first_line rest) (ne_eqb b 10 (before 0 (omega arith))))
    ∙ ap suc (length-first_line rest k (omega arith) feed (λ j h. before (suc j) (omega arith)))

-- what a search for a line feed says of the first line
pub length-first_line_found : (xs : List ℕ) (r : Option ℕ) → IsFirstByte (is_byte 10) xs r → unwrap_or r (length xs) ≡ length (first_line xs)
length-first_line_found xs None none = sym (ap length (first_line-none xs (λ k h is. none k (omega arith) h (eq-eqb _ 10 is))))
length-first_line_found xs (Some k) found =
    sym (length-first_line xs k found.0.high (eqb-true _ 10 found.1) (λ j h is. found.0.before j (omega arith) h (eq-eqb _ 10 is)))

-- the first line stands at the beginning
pub take-first_line : (xs : List ℕ) → take (length (first_line xs)) xs ≡ first_line xs
take-first_line [] = refl
take-first_line (b ∷ rest) = take_step (eqb b 10) b rest (take-first_line rest)
  where
    take_step : (feed : Bool) (b : ℕ) (rest : List ℕ) → take (length (first_line rest)) rest ≡ first_line rest
        → take (length (cond feed [] (b ∷ first_line rest))) (b ∷ rest) ≡ cond feed [] (b ∷ first_line rest)
    take_step true b rest e = refl
    take_step false b rest e = ap (λ l. b ∷ l) e

pub length-first_line_le : (xs : List ℕ) → length (first_line xs) ≤ length xs
length-first_line_le xs = omega (arith, length-take (length (first_line xs)) xs, ap length (take-first_line xs))

-- the bytes after the first line and its line feed
pub after_line-drop : (xs : List ℕ) → after_line xs ≡ drop (length (first_line xs) + 1) xs
after_line-drop [] = refl
after_line-drop (b ∷ rest) = rw add-one (drop_step (eqb b 10) b rest (after_line-drop rest))
  where
    drop_step : (feed : Bool) (b : ℕ) (rest : List ℕ) → after_line rest ≡ drop (length (first_line rest) + 1) rest
        → cond feed rest (after_line rest) ≡ drop (length (cond feed [] (b ∷ first_line rest))) rest
    drop_step true b rest e = refl
    drop_step false b rest e = e ∙ ap (λ n. drop n rest) (add-one (length (first_line rest)))
