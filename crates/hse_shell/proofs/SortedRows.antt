-- Lists of rows whose keys strictly rise, in any total order, and what the place of a key among them tells.
-- `pair` gives a row's key and its value.
use Rattle.std.proofs.Common.{◌≡◌, Option, Some, None, ℕ, zero, suc, ◌<◌, ◌≤◌, Bool, true, false, cond, not, ◌&&◌, List, [], ◌∷◌, length, map, get_or, set, refl, ap, sym, ◌∙◌, subst, arith, add-one}
use lib.Dec.{T}
use Rattle.std.specs.declared.cmp.Ordering.{Ordering}
use Rattle.std.specs.declared.cmp.Ordering.TheVariants.{Less, Equal, Greater}
use Rattle.std.specs.Ordering.{is_lt, is_eq, eq_by_cmp, ordering_index, ordering_reverse}
use Rattle.std.specs.List.Sorted.{IsNonDecreasingBy}
use Rattle.std.proofs.lemmas.List.Sorted.{searchable_from_sorted}
use Rattle.std.specs.Cmp.{IsTotalOrder, alike_right, eq_by_cmp_equiv}
use Rattle.std.specs.List.{insert, remove, AllWithin}
use Rattle.std.specs.FinMap.{find, put, is_sorted, from_sorted, entries-insert, entries-from_sorted, same_entries_map, same_map, get-remove, get-from_sorted, IsAntisymmetric}
use Rattle.std.specs.FinMap as map
use Rattle.std.specs.FinMap.Entries.{by_order, below_all, where_key, is_sorted-put, is_sorted-where_key, find-where_key}

first : (a b : Bool) → T (a && b) → T a
first true b p = tt
first false b p = p

second : (a b : Bool) → T (a && b) → T b
second true b p = p
second false b p = absurd p

less : (r : Ordering) → T (is_lt r) → r ≡ Less
less Less p = refl
less Equal p = absurd p
less Greater p = absurd p

module _ {A K X : Type 0} {R : K → K → Ordering} (o : IsTotalOrder R) (pair : A → K × X) where
  turned : (x y : K) (r : Ordering) → R x y ≡ r → R y x ≡ ordering_reverse r
  turned x y r is = o.antisymm y x ∙ ap ordering_reverse is

  below_at : (y : K) (rows : List A) (i : ℕ) (d : A) → T (below_all R y (map pair rows)) → i < length rows → R y (pair (get_or rows i d)).0 ≡ Less
  below_at y [] i d below in' = absurd (omega arith)
  below_at y (row ∷ rows) zero d below in' = less _ (first _ _ below)
  below_at y (row ∷ rows) (suc i) d below in' =
      below_at y rows i d (second _ _ below) (omega arith)

  -- a key below the others is below each that ties with one of them
  before : (q y : K) (rows : List A) (i : ℕ) (d : A) → T (below_all R y (map pair rows)) → i < length rows → R (pair (get_or rows i d)).0 q ≡ Equal → R y q ≡ Less
  before q y rows i d below in' tied = sym (alike_right o _ q y tied) ∙ below_at y rows i d below in'

  -- the key's value, where a row at the place has the key
  pub find-found : (q : K) (rows : List A) (i : ℕ) (d : A) → T (is_sorted R (map pair rows)) → i < length rows → R (pair (get_or rows i d)).0 q ≡ Equal → find R q (map pair rows) ≡ Some (pair (get_or rows i d)).1
  find-found q [] i d rise in' tied = absurd (omega arith)
  find-found q (row ∷ rows) zero d rise in' tied =
      ap (λ r. cond (is_eq r) (Some (pair row).1) (find R q (map pair rows))) (turned _ q Equal tied)
  find-found q (row ∷ rows) (suc i) d rise in' tied =
      ap (λ r. cond (is_eq r) (Some (pair row).1) (find R q (map pair rows)))
      (turned _ q Less (before q (pair row).0 rows i d (first _ _ rise) (omega arith) tied))
      ∙ find-found q rows i d (second _ _ rise) (omega arith) tied

  -- a put there sets the row
  pub put-found : (q : K) (v : X) (rows : List A) (i : ℕ) (d new : A) → T (is_sorted R (map pair rows)) → i < length rows → R (pair (get_or rows i d)).0 q ≡ Equal → pair new ≡ ((pair (get_or rows i d)).0, v) → put R q v (map pair rows) ≡ map pair (set rows i new)
  put-found q v [] i d new rise in' tied is = absurd (omega arith)
  put-found q v (row ∷ rows) zero d new rise in' tied is =
      ap (λ r. by_order r ((q, v) ∷ pair row ∷ map pair rows) (((pair row).0, v) ∷ map pair rows) (pair row ∷ put R q v (map pair rows)))
      (turned _ q Equal tied)
      ∙ ap (λ e. e ∷ map pair rows) (sym is)
  put-found q v (row ∷ rows) (suc i) d new rise in' tied is =
      ap (λ r. by_order r ((q, v) ∷ pair row ∷ map pair rows) (((pair row).0, v) ∷ map pair rows) (pair row ∷ put R q v (map pair rows)))
      (turned _ q Less (before q (pair row).0 rows i d (first _ _ rise) (omega arith) tied))
      ∙ ap (λ es. pair row ∷ es) (put-found q v rows i d new (second _ _ rise) (omega arith) tied is)

  -- the rows before the place have lower keys, and those from it on higher ones
  pub record IsPlace (q : K) (rows : List A) (i : ℕ) : Type 0 where
    pub within : i ≤ length rows
    pub below : AllWithin (λ row. R (pair row).0 q ≡ Less) rows 0 i
    pub above : AllWithin (λ row. R (pair row).0 q ≡ Greater) rows i (length rows)

  later : (q : K) (row : A) (rows : List A) (i : ℕ) → IsPlace q (row ∷ rows) (suc i) → IsPlace q rows i
  later q row rows i place = record {
    within = let h = place.within in omega arith;
    below = λ k d low high. place.below (suc k) d (omega arith) (omega arith);
    above = λ k d low high. place.above (suc k) d (omega arith) (omega arith);
  }

  past : (q : K) (row : A) (rows : List A) → IsPlace q (row ∷ rows) zero → IsPlace q rows zero
  past q row rows place = record {
    within = omega arith;
    below = λ k d low high. absurd (omega arith);
    above = λ k d low high. place.above (suc k) d (omega arith) (omega arith);
  }

  -- no row has the key
  pub find-missing : (q : K) (rows : List A) (i : ℕ) → IsPlace q rows i → find R q (map pair rows) ≡ None
  find-missing q [] i place = refl
  find-missing q (row ∷ rows) zero place =
      ap (λ r. cond (is_eq r) (Some (pair row).1) (find R q (map pair rows)))
      (turned _ q Greater (place.above zero row (omega arith) (omega arith)))
      ∙ find-missing q rows zero (past q row rows place)
  find-missing q (row ∷ rows) (suc i) place =
      ap (λ r. cond (is_eq r) (Some (pair row).1) (find R q (map pair rows)))
      (turned _ q Less (place.below zero row (omega arith) (omega arith)))
      ∙ find-missing q rows i (later q row rows i place)

  -- a put inserts a row there
  pub put-missing : (q : K) (v : X) (rows : List A) (i : ℕ) (new : A) → IsPlace q rows i → pair new ≡ (q, v) → put R q v (map pair rows) ≡ map pair (insert rows i new)
  put-missing q v [] zero new place is = ap (λ e. e ∷ []) (sym is)
  put-missing q v [] (suc i) new place is = let h = place.within in absurd (omega arith)
  put-missing q v (row ∷ rows) zero new place is =
      ap (λ r. by_order r ((q, v) ∷ pair row ∷ map pair rows) (((pair row).0, v) ∷ map pair rows) (pair row ∷ put R q v (map pair rows)))
      (turned _ q Greater (place.above zero row (omega arith) (omega arith)))
      ∙ ap (λ e. e ∷ pair row ∷ map pair rows) (sym is)
  put-missing q v (row ∷ rows) (suc i) new place is =
      ap (λ r. by_order r ((q, v) ∷ pair row ∷ map pair rows) (((pair row).0, v) ∷ map pair rows) (pair row ∷ put R q v (map pair rows)))
      (turned _ q Less (place.below zero row (omega arith) (omega arith)))
      ∙ ap (λ es. pair row ∷ es) (put-missing q v rows i new (later q row rows i place) is)

  -- a put keeps the order
  pub is_sorted_after : (q : K) (v : X) (rows new : List A) → T (is_sorted R (map pair rows)) → put R q v (map pair rows) ≡ map pair new → T (is_sorted R (map pair new))
  is_sorted_after q v rows new rise is = subst (λ es. T (is_sorted R es)) is (is_sorted-put R o q v (map pair rows) rise)

  step : (rows : List A) (k : ℕ) (d : A) → T (is_sorted R (map pair rows)) → suc k < length rows → is_lt (R (pair (get_or rows (suc k) d)).0 (pair (get_or rows k d)).0) ≡ false
  step [] k d rise in' = absurd (omega arith)
  step (row ∷ rows) zero d rise in' =
      ap is_lt (turned _ _ Less (below_at (pair row).0 rows zero d (first _ _ rise) (omega arith)))
  step (row ∷ rows) (suc k) d rise in' = step rows k d (second _ _ rise) (omega arith)

  -- rows in order can be searched for a key
  pub searchable : (q : K) (rows : List A) → T (is_sorted R (map pair rows)) → IsNonDecreasingBy (λ row. ordering_index (R (pair row).0 q)) rows
  searchable q rows rise =
      searchable_from_sorted o (λ row. (pair row).0) rows q
      (λ k d low high. rw (add-one) (step rows k d rise (let h : suc k < length rows = omega arith in h)))

  -- an insert into a map of rows in order
  pub insert-from_sorted : (q : K) (v : X) (rows new : List A) → T (is_sorted R (map pair rows)) → put R q v (map pair rows) ≡ map pair new → map.insert (from_sorted {R = R} (map pair rows)) q v ≡ from_sorted (map pair new)
  insert-from_sorted q v rows new rise is =
      same_entries_map _ _
      (entries-insert o (from_sorted (map pair rows)) q v
      ∙ ap (put R q v) (entries-from_sorted R (map pair rows) rise)
      ∙ is ∙ sym (entries-from_sorted R (map pair new) (is_sorted_after q v rows new rise is)))

  -- the test that a removal of q keeps entries by
  abbrev pub other_than : K → K → Bool
  other_than q x = not (eq_by_cmp R q x)

  abbrev pub without : K → List (K × X) → List (K × X)
  without q es = where_key R (other_than q) es

  without_above : (q y : K) (rows : List A) → R y q ≡ Equal → T (below_all R y (map pair rows)) → without q (map pair rows) ≡ map pair rows
  without_above q y [] tied below = refl
  without_above q y (row ∷ rows) tied below =
      ap (λ r. cond (not (is_eq r)) (pair row ∷ without q (map pair rows)) (without q (map pair rows)))
      (sym (o.congr y q (pair row).0 tied) ∙ less _ (first _ _ below))
      ∙ ap (λ es. pair row ∷ es) (without_above q y rows tied (second _ _ below))

  -- a removal takes the row at the key's place
  pub without-found : (q : K) (rows : List A) (i : ℕ) (d : A) → T (is_sorted R (map pair rows)) → i < length rows → R (pair (get_or rows i d)).0 q ≡ Equal → without q (map pair rows) ≡ map pair (remove rows i)
  without-found q [] i d rise in' tied = absurd (omega arith)
  without-found q (row ∷ rows) zero d rise in' tied =
      ap (λ r. cond (not (is_eq r)) (pair row ∷ without q (map pair rows)) (without q (map pair rows))) (turned _ q Equal tied)
      ∙ without_above q (pair row).0 rows tied (first _ _ rise)
  without-found q (row ∷ rows) (suc i) d rise in' tied =
      ap (λ r. cond (not (is_eq r)) (pair row ∷ without q (map pair rows)) (without q (map pair rows)))
      (turned _ q Less (before q (pair row).0 rows i d (first _ _ rise) (omega arith) tied))
      ∙ ap (λ es. pair row ∷ es) (without-found q rows i d (second _ _ rise) (omega arith) tied)

  -- and none where no row has the key
  pub without-missing : (q : K) (rows : List A) (i : ℕ) → IsPlace q rows i → without q (map pair rows) ≡ map pair rows
  without-missing q [] i place = refl
  without-missing q (row ∷ rows) zero place =
      ap (λ r. cond (not (is_eq r)) (pair row ∷ without q (map pair rows)) (without q (map pair rows)))
      (turned _ q Greater (place.above zero row (omega arith) (omega arith)))
      ∙ ap (λ es. pair row ∷ es) (without-missing q rows zero (past q row rows place))
  without-missing q (row ∷ rows) (suc i) place =
      ap (λ r. cond (not (is_eq r)) (pair row ∷ without q (map pair rows)) (without q (map pair rows)))
      (turned _ q Less (place.below zero row (omega arith) (omega arith)))
      ∙ ap (λ es. pair row ∷ es) (without-missing q rows i (later q row rows i place))

  -- a removal keeps the order
  pub is_sorted_without : (q : K) (rows new : List A) → T (is_sorted R (map pair rows)) → without q (map pair rows) ≡ map pair new → T (is_sorted R (map pair new))
  is_sorted_without q rows new rise is = subst (λ es. T (is_sorted R es)) is (is_sorted-where_key R (other_than q) (map pair rows) rise)

  opposite : (b : Bool) (x y : Option X) → cond (not b) x y ≡ cond b y x
  opposite true x y = refl
  opposite false x y = refl

  -- a removal from a map of rows in order
  pub remove-from_sorted : IsAntisymmetric R → (q : K) (rows new : List A) → T (is_sorted R (map pair rows)) → without q (map pair rows) ≡ map pair new → map.remove (from_sorted {R = R} (map pair rows)) q ≡ from_sorted (map pair new)
  remove-from_sorted same q rows new rise is =
      same_map o same _ _ (λ x.
      get-remove o (from_sorted (map pair rows)) q x
      ∙ ap (cond (eq_by_cmp R x q) None) (get-from_sorted R (map pair rows) x rise)
      ∙ ap (λ b. cond b None (find R x (map pair rows))) ((eq_by_cmp_equiv o).symm x q)
      ∙ sym (opposite (eq_by_cmp R q x) (find R x (map pair rows)) None)
      ∙ sym (find-where_key R (other_than q) x (λ y t. ap (λ r. not (is_eq r)) (sym (alike_right o x y q t))) (map pair rows))
      ∙ ap (find R x) is
      ∙ sym (get-from_sorted R (map pair new) x (is_sorted_without q rows new rise is)))
