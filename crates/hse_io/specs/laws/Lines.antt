-- The law of lines: the first line, and then the lines after it.
use Rattle.std.specs.Prelude.{◌≡◌, ◌≢◌, ℕ, ◌<◌, ◌≤◌, ◌==◌, if◌then◌else◌, Bool, true, false, List, [], ◌∷◌, length, refl}
use Rattle.std.proofs.Common.{ap, arith}
use Rattle.hse_io.specs.Lines.{first_line, after_line, onto_first, lines_of}

-- no bytes are no lines
pub lines_of-nil : lines_of [] ≡ []
lines_of-nil = refl

-- a line feed, or another first byte before the lines of the rest
pub lines_of-step : (feed : Bool) (b : ℕ) (rest line after : List ℕ)
    → lines_of rest ≡ line ∷ lines_of after
    → (if feed then [] ∷ lines_of rest else onto_first b (lines_of rest))
    ≡ (if feed then [] else b ∷ line) ∷ lines_of (if feed then rest else after)
lines_of-step true b rest line after later = refl
lines_of-step false b rest line after later = ap (onto_first b) later

-- a single byte
pub lines_of-last : (feed : Bool) (b : ℕ)
    → (if feed then [] ∷ lines_of [] else onto_first b (lines_of []))
    ≡ (if feed then [] else b ∷ []) ∷ lines_of (if feed then [] else [])
lines_of-last true b = refl
lines_of-last false b = refl

-- bytes are a first line and the lines after it
pub lines_of-first : (input : List ℕ) → input ≢ []
    → lines_of input ≡ first_line input ∷ lines_of (after_line input)
lines_of-first [] some = absurd (some refl)
lines_of-first (b ∷ []) some = lines_of-last (b == 10) b
lines_of-first (b ∷ c ∷ rest) some =
    lines_of-step (b == 10) b (c ∷ rest) (first_line (c ∷ rest)) (after_line (c ∷ rest))
    (lines_of-first (c ∷ rest) (λ e. cc))

-- after a first byte, a line feed or another
after_line-step : (feed : Bool) (rest : List ℕ) → length (after_line rest) ≤ length rest
    → length (if feed then rest else after_line rest) ≤ length rest
after_line-step true rest le = omega arith
after_line-step false rest le = le

-- what is left after a line is no longer than what stood there
pub length-after_line : (input : List ℕ) → length (after_line input) ≤ length input
length-after_line [] = omega arith
length-after_line (b ∷ rest) =
    let step = after_line-step (b == 10) rest (length-after_line rest) in omega arith

-- and shorter, where anything stood there
pub length-after_line_lt : (input : List ℕ) → input ≢ [] → length (after_line input) < length input
length-after_line_lt [] some = absurd (some refl)
length-after_line_lt (b ∷ rest) some =
    let step = after_line-step (b == 10) rest (length-after_line rest) in omega arith
