-- Along a path on which numbers fall, the first set that says something of a key says its newest row.
use Rattle.std.proofs.Common.{◌≡◌, ℕ, ◌+◌, ◌<◌, ◌≤◌, ◌==◌, Bool, true, false, cond, not, ltb, zero, suc, List, [], ◌∷◌, ◌++◌, drop, map, Option, Some, None, refl, sym, ap, ◌∙◌, subst, arith}
use Rattle.std.proofs.lemmas.List.{map-append}
use Rattle.std.proofs.lemmas.Bool.{lt-ltb, le-ltb, ltb-true, ltb-false}
use Rattle.std.specs.Prelude.{is_some, ◌/◌, ◌%◌}
use Rattle.std.proofs.Math.Nat.{div-one}
use Rattle.std.specs.Cmp.{second_so}
use Rattle.std.specs.List.{AllByRecursion, flat_map}
use Rattle.hse_rows.specs.declared.row.Row.{Row}
use Rattle.hse_rows.specs.writes.NormalForm.{rank}
use Rattle.hse_rows.specs.writes.Reach.{reaches}
use Rattle.hse_rows.specs.rows.Routing.{hash_of, routing_bytes}
use Rattle.hse_rows.specs.rows.Meaning.{is_own, is_covering, newer, own_at, greater, covered_at}
use Rattle.row_laws.specs.Sources.{all_rows, IsAbove, Falls}
use Rattle.row_laws.specs.Next.{row_lasting, lasting_at}
use Rattle.cn_tree.specs.Path.{digits_by, path_of, depths}
use Rattle.cn_tree.specs.Found.{row_said, or_farther, first_row, said_row}

-- ---- the newest of two lists

newer-none : (a : Option Row) → newer a None ≡ a
newer-none None = refl
newer-none (Some row) = refl

newer-assoc : (a b c : Option Row) → newer (newer a b) c ≡ newer a (newer b c)
newer-assoc None b c = refl
newer-assoc (Some a) None c = refl
newer-assoc (Some a) (Some b) None = newer-none (newer (Some a) (Some b))
newer-assoc (Some a) (Some b) (Some c) = by (ltb b.number a.number) (ltb c.number b.number) refl refl
  where
    first : (x y : Row) → y.number < x.number → newer (Some x) (Some y) ≡ Some x
    first x y less = ap (λ t. cond t (Some x) (Some y)) (lt-ltb y.number x.number less)

    second : (x y : Row) → x.number ≤ y.number → newer (Some x) (Some y) ≡ Some y
    second x y less = ap (λ t. cond t (Some x) (Some y)) (le-ltb y.number x.number less)

    by : (s t : Bool) → ltb b.number a.number ≡ s → ltb c.number b.number ≡ t
        → newer (cond s (Some a) (Some b)) (Some c) ≡ newer (Some a) (cond t (Some b) (Some c))
    by true true one two =
        let less = ltb-true b.number a.number one in
        let down = ltb-true c.number b.number two in
        first a c (omega (arith, less, down)) ∙ sym (first a b less)
    by true false one two = refl
    by false true one two = first b c (ltb-true c.number b.number two) ∙ sym (second a b (ltb-false b.number a.number one))
    by false false one two =
        let up = ltb-false b.number a.number one in
        let more = ltb-false c.number b.number two in
        second b c more ∙ sym (second a c (omega (arith, up, more)))

greater-none : (a : Option ℕ) → greater a None ≡ a
greater-none None = refl
greater-none (Some n) = refl

greater-assoc : (a b c : Option ℕ) → greater (greater a b) c ≡ greater a (greater b c)
greater-assoc None b c = refl
greater-assoc (Some a) None c = refl
greater-assoc (Some a) (Some b) None = greater-none (greater (Some a) (Some b))
greater-assoc (Some a) (Some b) (Some c) = by (ltb b a) (ltb c b) refl refl
  where
    first : (x y : ℕ) → y < x → greater (Some x) (Some y) ≡ Some x
    first x y less = ap (λ t. cond t (Some x) (Some y)) (lt-ltb y x less)

    second : (x y : ℕ) → x ≤ y → greater (Some x) (Some y) ≡ Some y
    second x y less = ap (λ t. cond t (Some x) (Some y)) (le-ltb y x less)

    by : (s t : Bool) → ltb b a ≡ s → ltb c b ≡ t → greater (cond s (Some a) (Some b)) (Some c) ≡ greater (Some a) (cond t (Some b) (Some c))
    by true true one two =
        let less = ltb-true b a one in
        let down = ltb-true c b two in
        first a c (omega (arith, less, down)) ∙ sym (first a b less)
    by true false one two = refl
    by false true one two = first b c (ltb-true c b two) ∙ sym (second a b (ltb-false b a one))
    by false false one two =
        let up = ltb-false b a one in
        let more = ltb-false c b two in
        second b c more ∙ sym (second a c (omega (arith, up, more)))

-- of what may be there
Where : {X : Type 0} → (X → Type 0) → Option X → Type 0
Where P None = Unit {0}
Where P (Some x) = P x

module _ (key : List ℕ) where
  own-append : (xs ys : List Row) → own_at key (xs ++ ys) ≡ newer (own_at key xs) (own_at key ys)
  own-append [] ys = refl
  own-append (x ∷ xs) ys =
      ap (newer (cond (is_own key x) (Some x) None)) (own-append xs ys)
      ∙ sym (newer-assoc (cond (is_own key x) (Some x) None) (own_at key xs) (own_at key ys))

  covered-append : (xs ys : List Row) → covered_at key (xs ++ ys) ≡ greater (covered_at key xs) (covered_at key ys)
  covered-append [] ys = refl
  covered-append (x ∷ xs) ys =
      ap (greater (cond (is_covering key x) (Some x.number) None)) (covered-append xs ys)
      ∙ sym (greater-assoc (cond (is_covering key x) (Some x.number) None) (covered_at key xs) (covered_at key ys))

  -- ---- what holds of each row that reaches the key holds of the newest

  where-newer : (P : Row → Type 0) (a b : Option Row) → Where P a → Where P b → Where P (newer a b)
  unfolding Where
  where-newer P None b one other = other
  where-newer P (Some a) None one other = one
  where-newer P (Some a) (Some b) one other =
      elim (ltb b.number a.number) as (λ t. Where P (cond t (Some a) (Some b))) [ true ↦ one | false ↦ other ]

  where-greater : (P : ℕ → Type 0) (a b : Option ℕ) → Where P a → Where P b → Where P (greater a b)
  unfolding Where
  where-greater P None b one other = other
  where-greater P (Some a) None one other = one
  where-greater P (Some a) (Some b) one other =
      elim (ltb b a) as (λ t. Where P (cond t (Some a) (Some b))) [ true ↦ one | false ↦ other ]

  where-cond : {X : Type 0} (P : X → Type 0) (b : Bool) (x : X) → (b ≡ true → P x) → Where P (cond b (Some x) None)
  unfolding Where
  where-cond P true x is = is refl
  where-cond P false x is = tt

  own-where : (P : Row → Type 0) (rows : List Row) → AllByRecursion (λ row. reaches row.change key ≡ true → P row) rows → Where P (own_at key rows)
  own-where P [] all = unfold Where in tt
  own-where P (row ∷ rows) all =
      where-newer P (cond (is_own key row) (Some row) None) (own_at key rows)
      (where-cond P (is_own key row) row (λ is. all.0 (second_so (not (rank row.change == 0)) (reaches row.change key) is)))
      (own-where P rows all.1)

  covered-where : (P : ℕ → Type 0) (rows : List Row) → AllByRecursion (λ row. reaches row.change key ≡ true → P row.number) rows → Where P (covered_at key rows)
  covered-where P [] all = unfold Where in tt
  covered-where P (row ∷ rows) all =
      where-greater P (cond (is_covering key row) (Some row.number) None) (covered_at key rows)
      (where-cond P (is_covering key row) row.number (λ is. all.0 (second_so (rank row.change == 0) (reaches row.change key) is)))
      (covered-where P rows all.1)

  Below : ℕ → List Row → Type 0
  Below n far = AllByRecursion (λ (other : Row). reaches other.change key ≡ true → other.number < n) far

  below-own : (n : ℕ) (far : List Row) (o : Row) → Below n far → own_at key far ≡ Some o → o.number < n
  unfolding Where Below
  below-own n far o below is = subst (Where (λ r. r.number < n)) is (own-where (λ r. r.number < n) far below)

  below-covered : (n : ℕ) (far : List Row) (m : ℕ) → Below n far → covered_at key far ≡ Some m → m < n
  unfolding Where Below
  below-covered n far m below is = subst (Where (λ k. k < n)) is (covered-where (λ k. k < n) far below)

  above-own : (near far : List Row) (r : Row) → IsAbove key near far → own_at key near ≡ Some r → Below r.number far
  unfolding Where Below
  above-own near far r above is = subst (Where (λ r. Below r.number far)) is (own-where (λ r. Below r.number far) near above)

  above-covered : (near far : List Row) (n : ℕ) → IsAbove key near far → covered_at key near ≡ Some n → Below n far
  unfolding Where Below
  above-covered near far n above is = subst (Where (λ k. Below k far)) is (covered-where (λ k. Below k far) near above)

  -- ---- one set before others

  first : (x y : Row) → y.number < x.number → newer (Some x) (Some y) ≡ Some x
  first x y less = ap (λ t. cond t (Some x) (Some y)) (lt-ltb y.number x.number less)

  hidden : (o : Row) (n : ℕ) → o.number < n → row_lasting (Some o) (Some n) ≡ None
  hidden o n less = ap (λ t. cond t None (Some o)) (lt-ltb o.number n less)

  shown : (o : Row) (n : ℕ) → n ≤ o.number → row_lasting (Some o) (Some n) ≡ Some o
  shown o n less = ap (λ t. cond t None (Some o)) (le-ltb o.number n less)

  hidden-more : (o : Row) (n : ℕ) (more : Option ℕ) → o.number < n → row_lasting (Some o) (greater (Some n) more) ≡ None
  hidden-more o n None less = hidden o n less
  hidden-more o n (Some m) less = by (ltb m n) refl
    where
      by : (t : Bool) → ltb m n ≡ t → row_lasting (Some o) (cond t (Some n) (Some m)) ≡ None
      by true is = hidden o n less
      by false is = let up = ltb-false m n is in hidden o m (omega (arith, less, up))

  shown-more : (r : Row) (cover more : Option ℕ) → ((m : ℕ) → more ≡ Some m → m < r.number) → row_lasting (Some r) (greater cover more) ≡ row_lasting (Some r) cover
  shown-more r None None below = refl
  shown-more r None (Some m) below = let less = below m refl in shown r m (omega (arith, less))
  shown-more r (Some n) None below = refl
  shown-more r (Some n) (Some m) below = by (ltb m n) refl
    where
      by : (t : Bool) → ltb m n ≡ t → row_lasting (Some r) (cond t (Some n) (Some m)) ≡ row_lasting (Some r) (Some n)
      by true is = refl
      by false is =
          let less = below m refl in
          let up = ltb-false m n is in
          shown r m (omega (arith, less)) ∙ sym (shown r n (omega (arith, less, up)))

  none-lasting : (cover : Option ℕ) → row_lasting None cover ≡ None
  none-lasting cover = refl

  one-before : (near far : List Row) (own : Option Row) (cover : Option ℕ) (more : Option (Option Row)) → own_at key near ≡ own → covered_at key near ≡ cover
      → (is_some (newer own (own_at key far)) ≡ true → IsAbove key near far)
      → said_row more ≡ row_lasting (own_at key far) (covered_at key far)
      → said_row (or_farther (row_said own cover) more) ≡ row_lasting (newer own (own_at key far)) (greater cover (covered_at key far))
  one-before near far None None more own cover falls rest = rest
  one-before near far None (Some n) more own cover falls rest = by (own_at key far) refl
    where
      by : (o : Option Row) → own_at key far ≡ o → None ≡ row_lasting o (greater (Some n) (covered_at key far))
      by None is = refl
      by (Some o) is =
          sym (hidden-more o n (covered_at key far)
          (below-own n far o (above-covered near far n (falls (ap is_some is)) cover) is))
  one-before near far (Some r) cover more own covered falls rest =
      let below : Below r.number far = above-own near far r (falls (some-newer (own_at key far))) own in
      sym (shown-more r cover (covered_at key far) (λ m. below-covered r.number far m below))
      ∙ ap (λ (o : Option Row). row_lasting o (greater cover (covered_at key far))) (sym (first-of below (own_at key far) refl))
    where
      some-newer : (o : Option Row) → is_some (newer (Some r) o) ≡ true
      some-newer None = refl
      some-newer (Some o) = elim (ltb o.number r.number) as (λ t. is_some (cond t (Some r) (Some o)) ≡ true) [ true ↦ refl | false ↦ refl ]

      first-of : Below r.number far → (o : Option Row) → own_at key far ≡ o → newer (Some r) o ≡ Some r
      first-of below None is = refl
      first-of below (Some o) is = first r o (below-own r.number far o below is)

  -- the first set that says something says the newest row
  pub first-lasting : (sources : List (List Row)) → Falls key sources → said_row (first_row key sources) ≡ lasting_at (all_rows sources) key
  first-lasting [] falls = refl
  first-lasting (rows ∷ farther) falls =
      one-before rows (all_rows farther) (own_at key rows) (covered_at key rows) (first_row key farther) refl refl
      (λ some. falls.0 (ap is_some (own-append rows (all_rows farther)) ∙ some))
      (first-lasting farther falls.1)
      ∙ (λ i. row_lasting (sym (own-append rows (all_rows farther)) i) (sym (covered-append rows (all_rows farther)) i))

  -- ---- along a path

  or-assoc : (a b c : Option (Option Row)) → or_farther (or_farther a b) c ≡ or_farther a (or_farther b c)
  or-assoc None b c = refl
  or-assoc (Some a) b c = refl

  pub first-append : (xs ys : List (List Row)) → first_row key (xs ++ ys) ≡ or_farther (first_row key xs) (first_row key ys)
  first-append [] ys = refl
  first-append (x ∷ xs) ys =
      ap (or_farther (row_said (own_at key x) (covered_at key x))) (first-append xs ys)
      ∙ sym (or-assoc (row_said (own_at key x) (covered_at key x)) (first_row key xs) (first_row key ys))

  -- one depth more, where the sets at it say this
  module _ {R : Type 0} (rows : R → List Row) (sets : ℕ → List R) (here : Option (Option Row)) where
    abbrev found : List ℕ → Option (Option Row)
    found depths = first_row key (map rows (flat_map sets depths))

    at : (e : ℕ) (rest : List ℕ) → here ≡ first_row key (map rows (sets e)) → found (e ∷ rest) ≡ or_farther here (found rest)
    at e rest is =
        ap (first_row key) (map-append rows (sets e) (flat_map sets rest))
        ∙ first-append (map rows (sets e)) (map rows (flat_map sets rest)) ∙ ap (λ h. or_farther h (found rest)) (sym is)

    pub first-depth : (d : ℕ) → d < 5 → here ≡ first_row key (map rows (sets d))
        → first_row key (map rows (flat_map sets (drop d depths))) ≡ or_farther here (first_row key (map rows (flat_map sets (drop (d + 1) depths))))
    first-depth zero in' is = at 0 (1 ∷ 2 ∷ 3 ∷ 4 ∷ []) is
    first-depth (suc zero) in' is = at 1 (2 ∷ 3 ∷ 4 ∷ []) is
    first-depth (suc (suc zero)) in' is = at 2 (3 ∷ 4 ∷ []) is
    first-depth (suc (suc (suc zero))) in' is = at 3 (4 ∷ []) is
    first-depth (suc (suc (suc (suc zero)))) in' is = at 4 [] is
    first-depth (suc (suc (suc (suc (suc d))))) in' is = absurd (omega arith)

pub digits-path : (prefix : ℕ) (key : List ℕ) → digits_by (hash_of (routing_bytes prefix key)) ≡ path_of prefix key
unfolding path_of
digits-path prefix key =
    let hash = hash_of (routing_bytes prefix key) in
    ap (λ (n : ℕ). n % 16 ∷ hash / 16 % 16 ∷ hash / 256 % 16 ∷ hash / 4096 % 16 ∷ []) (sym (div-one hash))
