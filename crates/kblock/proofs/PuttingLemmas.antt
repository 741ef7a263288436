-- Pieces behind bytes, one after the other.
use Rattle.std.proofs.Common.{◌≡◌, ℕ, List, [], ◌∷◌, ◌++◌, ◌+◌, ap, ◌∙◌, append_assoc}
use Rattle.std.specs.Prelude.{replicate}
use Rattle.std.proofs.lemmas.List.{replicate_more}

pub two_pieces : (old a b one two : List ℕ) → one ≡ old ++ a → two ≡ one ++ b → two ≡ old ++ (a ++ b)
two_pieces old a b one two p q = q ∙ ap (λ (l : List ℕ). l ++ b) p ∙ append_assoc old a b

pub three_pieces : (old a b c one two three : List ℕ) → one ≡ old ++ a → two ≡ one ++ b → three ≡ two ++ c → three ≡ old ++ (a ++ (b ++ c))
three_pieces old a b c one two three p q r =
    two_pieces old a (b ++ c) one three p (two_pieces one b c two three q r)

pub four_pieces : (old a b c d one two three four : List ℕ) → one ≡ old ++ a → two ≡ one ++ b → three ≡ two ++ c → four ≡ three ++ d
    → four ≡ old ++ (a ++ (b ++ (c ++ d)))
four_pieces old a b c d one two three four p q r s =
    two_pieces old a (b ++ (c ++ d)) one four p (three_pieces one b c d two three four q r s)

pub one_zero_more : (n : ℕ) (old now next : List ℕ) → now ≡ old ++ replicate n 0 → next ≡ now ++ 0 ∷ [] → next ≡ old ++ replicate (n + 1) 0
one_zero_more n old now next p q =
    q ∙ ap (λ (l : List ℕ). l ++ 0 ∷ []) p ∙ append_assoc old (replicate n 0) (0 ∷ []) ∙ ap (λ (l : List ℕ). old ++ l) (replicate_more n 0)
