-- The rows on a key's path say its value.
use Rattle.std.proofs.Common.{◌≡◌, ℕ, ◌<◌, ◌≤◌, Bool, true, false, true≢false, cond, ◌||◌, ltb, List, [], ◌∷◌, ◌++◌, Option, Some, None, refl, sym, ap, ◌∙◌, arith}
use Rattle.std.proofs.lemmas.Bool.{lt-ltb, le-ltb, ltb-true, ltb-false}
use Rattle.std.proofs.lemmas.List.Folds.{list_any-append}
use Rattle.std.specs.List.{list_any}
use Rattle.std.specs.FinMap as fin_map
use Rattle.hse_rows.specs.declared.row.Row.{Row}
use Rattle.hse_rows.specs.writes.Reach.{leaves}
use Rattle.hse_rows.specs.rows.Meaning.{contents_of, is_own, is_covering, newer, own_at, greater, covered_at, said, value_said}
use Rattle.row_laws.specs.Parts.{RowPart, rows_on, rows_off, rows_in, IsBelow, StandsOnPath}
use Rattle.row_laws.proofs.MeaningLemmas.{get-contents_of}
use Rattle.row_laws.proofs.RowSetLemmas.{greater-assoc}

or_left : (a b : Bool) → (a || b) ≡ false → a ≡ false
or_left true b e = absurd (true≢false e)
or_left false b e = refl

or_right : (a b : Bool) → (a || b) ≡ false → b ≡ false
or_right true b e = absurd (true≢false e)
or_right false b e = e

first : (x y : ℕ) → y < x → greater (Some x) (Some y) ≡ Some x
first x y less = ap (λ t. cond t (Some x) (Some y)) (lt-ltb y x less)

second : (x y : ℕ) → x ≤ y → greater (Some x) (Some y) ≡ Some y
second x y less = ap (λ t. cond t (Some x) (Some y)) (le-ltb y x less)

greater-swap : (a b : Option ℕ) → greater a b ≡ greater b a
greater-swap None None = refl
greater-swap None (Some b) = refl
greater-swap (Some a) None = refl
greater-swap (Some a) (Some b) = by (ltb b a) (ltb a b) refl refl
  where
    by : (s t : Bool) → ltb b a ≡ s → ltb a b ≡ t → cond s (Some a) (Some b) ≡ cond t (Some b) (Some a)
    by true true one two =
        let less = ltb-true b a one in
        let more = ltb-true a b two in
        absurd (omega (arith, less, more))
    by true false one two = refl
    by false true one two = refl
    by false false one two =
        let up = ltb-false b a one in
        let down = ltb-false a b two in
        let same : a ≡ b = omega (arith, up, down) in
        ap Some (sym same)

module _ (key : List ℕ) where
  pub covered-append : (xs ys : List Row) → covered_at key (xs ++ ys) ≡ greater (covered_at key xs) (covered_at key ys)
  covered-append [] ys = refl
  covered-append (x ∷ xs) ys =
      ap (greater (cond (is_covering key x) (Some x.number) None)) (covered-append xs ys)
      ∙ sym (greater-assoc (cond (is_covering key x) (Some x.number) None) (covered_at key xs) (covered_at key ys))

  own-past : (xs ys : List Row) → list_any (is_own key) xs ≡ false → own_at key (xs ++ ys) ≡ own_at key ys
  own-past [] ys none = refl
  own-past (x ∷ xs) ys none =
      ap (λ b. newer (cond b (Some x) None) (own_at key (xs ++ ys))) (or_left (is_own key x) (list_any (is_own key) xs) none)
      ∙ own-past xs ys (or_right (is_own key x) (list_any (is_own key) xs) none)

  own-before : (xs ys zs : List Row) → own_at key ys ≡ own_at key zs → own_at key (xs ++ ys) ≡ own_at key (xs ++ zs)
  own-before [] ys zs e = e
  own-before (x ∷ xs) ys zs e = ap (newer (cond (is_own key x) (Some x) None)) (own-before xs ys zs e)

  own-on_by : (b : Bool) (rows : List Row) (parts : List RowPart) → list_any (is_own key) (cond b [] rows ++ rows_off parts) ≡ false
      → (list_any (is_own key) (rows_off parts) ≡ false → own_at key (rows_in parts) ≡ own_at key (rows_on parts))
      → own_at key (rows ++ rows_in parts) ≡ own_at key (cond b rows [] ++ rows_on parts)
  own-on_by true rows parts none rest = own-before rows (rows_in parts) (rows_on parts) (rest none)
  own-on_by false rows parts none rest =
      let apart = sym (list_any-append (is_own key) rows (rows_off parts)) ∙ none in
      own-past rows (rows_in parts) (or_left (list_any (is_own key) rows) (list_any (is_own key) (rows_off parts)) apart)
      ∙ rest (or_right (list_any (is_own key) rows) (list_any (is_own key) (rows_off parts)) apart)

  own-on : (parts : List RowPart) → list_any (is_own key) (rows_off parts) ≡ false → own_at key (rows_in parts) ≡ own_at key (rows_on parts)
  own-on [] none = refl
  own-on (part ∷ parts) none = own-on_by part.0 part.1 parts none (own-on parts)

  turned : (a b c : Option ℕ) → greater a (greater b c) ≡ greater b (greater a c)
  turned a b c = sym (greater-assoc a b c) ∙ ap (λ (m : Option ℕ). greater m c) (greater-swap a b) ∙ greater-assoc b a c

  covered-parts_by : (b : Bool) (rows : List Row) (parts : List RowPart)
      → covered_at key (rows_in parts) ≡ greater (covered_at key (rows_on parts)) (covered_at key (rows_off parts))
      → covered_at key (rows ++ rows_in parts)
      ≡ greater (covered_at key (cond b rows [] ++ rows_on parts)) (covered_at key (cond b [] rows ++ rows_off parts))
  covered-parts_by true rows parts rest =
      covered-append rows (rows_in parts)
      ∙ ap (greater (covered_at key rows)) rest
      ∙ sym (greater-assoc (covered_at key rows) (covered_at key (rows_on parts)) (covered_at key (rows_off parts)))
      ∙ ap (λ (m : Option ℕ). greater m (covered_at key (rows_off parts))) (sym (covered-append rows (rows_on parts)))
  covered-parts_by false rows parts rest =
      covered-append rows (rows_in parts)
      ∙ ap (greater (covered_at key rows)) rest
      ∙ turned (covered_at key rows) (covered_at key (rows_on parts)) (covered_at key (rows_off parts))
      ∙ ap (greater (covered_at key (rows_on parts))) (sym (covered-append rows (rows_off parts)))

  covered-parts : (parts : List RowPart) → covered_at key (rows_in parts) ≡ greater (covered_at key (rows_on parts)) (covered_at key (rows_off parts))
  covered-parts [] = refl
  covered-parts (part ∷ parts) = covered-parts_by part.0 part.1 parts (covered-parts parts)

  said-on : (own : Option Row) (on off : Option ℕ)
      → ((row : Row) → own ≡ Some row → IsBelow row.number off → IsBelow row.number on)
      → value_said (said own (greater on off)) ≡ value_said (said own on)
  said-on None on off covered = none (greater on off) ∙ sym (none on)
    where
      none : (cover : Option ℕ) → value_said (said None cover) ≡ None
      none None = refl
      none (Some n) = refl
  said-on (Some row) None None covered = refl
  said-on (Some row) (Some m) None covered = refl
  said-on (Some row) None (Some n) covered =
      ap (λ t. cond t None (leaves row.change)) (le-ltb row.number n (not-less (ltb row.number n) refl))
    where
      not-less : (b : Bool) → ltb row.number n ≡ b → n ≤ row.number
      not-less true e = absurd (covered row refl (ltb-true row.number n e))
      not-less false e = ltb-false row.number n e
  said-on (Some row) (Some m) (Some n) covered = by (ltb n m) (ltb row.number n) refl refl
    where
      hidden : (x : ℕ) → row.number < x → value_said (said (Some row) (Some x)) ≡ None
      hidden x less = ap (λ t. cond t None (leaves row.change)) (lt-ltb row.number x less)

      shown : (x : ℕ) → x ≤ row.number → value_said (said (Some row) (Some x)) ≡ leaves row.change
      shown x up = ap (λ t. cond t None (leaves row.change)) (le-ltb row.number x up)

      by : (s t : Bool) → ltb n m ≡ s → ltb row.number n ≡ t
          → value_said (said (Some row) (cond s (Some m) (Some n))) ≡ value_said (said (Some row) (Some m))
      by true t one two = refl
      by false true one two = hidden n (ltb-true row.number n two) ∙ sym (hidden m (covered row refl (ltb-true row.number n two)))
      by false false one two =
          let up = ltb-false n m one in
          let low = ltb-false row.number n two in
          shown n low ∙ sym (shown m (omega (arith, up, low)))

  -- The rows on the key's path say its value.
  pub get-on_path : (parts : List RowPart) → StandsOnPath key parts
      → fin_map.get (contents_of (rows_in parts)) key ≡ fin_map.get (contents_of (rows_on parts)) key
  get-on_path parts stands =
      get-contents_of key (rows_in parts)
      ∙ (λ i. value_said (said (own-on parts stands.own i) (covered-parts parts i)))
      ∙ said-on (own_at key (rows_on parts)) (covered_at key (rows_on parts)) (covered_at key (rows_off parts)) stands.covered
      ∙ sym (get-contents_of key (rows_on parts))
