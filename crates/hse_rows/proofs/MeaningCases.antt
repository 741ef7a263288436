-- Small cases of what rows say, worked by hand.
use Rattle.std.proofs.Common.{◌≡◌, ℕ, List, [], ◌∷◌, Some, None, refl}
use Rattle.std.specs.Prelude.{codes}
use Rattle.hse_rows.specs.declared.change.Change.{Change}
use Rattle.hse_rows.specs.declared.change.Change.TheVariants.{Put, Del, PDel}
use Rattle.hse_rows.specs.declared.row.Row.{Row}
use Rattle.hse_rows.specs.rows.Meaning.{own_at, covered_at, said, with_row}

abbrev numbered : ℕ → Change → Row
numbered number change = record { number = number; change = change }

abbrev mixed : List Row
mixed =
    numbered 2 (Put (codes "abc") (codes "1")) ∷ numbered 3 (PDel (codes "ab")) ∷ numbered 3 (Put (codes "abd") (codes "2"))
    ∷ numbered 1 (PDel (codes "a")) ∷ []

a_greater_number_hides : said (own_at (codes "abc") mixed) (covered_at (codes "abc") mixed) ≡ Some None
a_greater_number_hides = refl

a_row_of_the_same_number_counts : said (own_at (codes "abd") mixed) (covered_at (codes "abd") mixed) ≡ Some (Some (codes "2"))
a_row_of_the_same_number_counts = refl

a_short_prefix_covers_too : said (own_at (codes "ax") mixed) (covered_at (codes "ax") mixed) ≡ Some None
a_short_prefix_covers_too = refl

of_other_keys_nothing_is_said : said (own_at (codes "b") mixed) (covered_at (codes "b") mixed) ≡ None
of_other_keys_nothing_is_said = refl

a_new_row_stands_in_place_of_the_old :
    with_row (numbered 2 (PDel (codes "ab")) ∷ numbered 2 (Put (codes "k") (codes "1")) ∷ []) (numbered 3 (Del (codes "k")))
    ≡ numbered 2 (PDel (codes "ab")) ∷ numbered 3 (Del (codes "k")) ∷ []
a_new_row_stands_in_place_of_the_old = refl
