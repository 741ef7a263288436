-- Tests on bytes, as facts.
use Rattle.std.proofs.Common.{◌≡◌, ℕ, Bool, true, false, ◌&&◌, ◌||◌, List, [], ◌∷◌, refl, sym, ◌∙◌}
use Rattle.std.specs.Prelude.{nat_eq}
use Rattle.std.specs.Cmp.{first_so, second_so}
use Rattle.std.specs.Cmp.Lexicographic.{bytes_decides}
use Rattle.std.proofs.lemmas.Bool.{eqb-true, eq-eqb}
use Rattle.std.proofs.Math.Bool.{true≢false}
use Rattle.hse_rows.specs.writes.Change.{covers}
use Rattle.hse_rows.specs.writes.NormalForm.{same}

pub same_by_test : (one other : List ℕ) → same one other ≡ true → one ≡ other
same_by_test one other = (bytes_decides one other).0

pub same_to_test : (one other : List ℕ) → one ≡ other → same one other ≡ true
same_to_test one other = (bytes_decides one other).1

either_way : (a b c d : Bool) → a ≡ true → b ≡ true → (c || d) ≡ true → ((a && c) || (b && d)) ≡ true
either_way true true c d first second some = some
either_way false b c d first second some = absurd (true≢false (sym first))
either_way true false c d first second some = absurd (true≢false (sym second))

-- of two prefixes that cover one key, one begins with the other
pub one_begins : (one other key : List ℕ) → covers one key ≡ true → covers other key ≡ true → (covers one other || covers other one) ≡ true
one_begins [] other key first second = refl
one_begins (x ∷ xs) [] key first second = refl
one_begins (x ∷ xs) (y ∷ ys) [] first second = absurd (true≢false (sym first))
one_begins (x ∷ xs) (y ∷ ys) (k ∷ key) first second =
    let x_is : x ≡ k = eqb-true x k (first_so (nat_eq x k) (covers xs key) first) in
    let y_is : y ≡ k = eqb-true y k (first_so (nat_eq y k) (covers ys key) second) in
    either_way (nat_eq x y) (nat_eq y x) (covers xs ys) (covers ys xs)
    (eq-eqb x y (x_is ∙ sym y_is)) (eq-eqb y x (y_is ∙ sym x_is))
    (one_begins xs ys key (second_so (nat_eq x k) (covers xs key) first) (second_so (nat_eq y k) (covers ys key) second))
