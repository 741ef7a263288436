-- The newest of some rows: one that is a key's own, or one that covers it, and what it leaves.
use Rattle.std.proofs.Common.{◌≡◌, ℕ, ◌+◌, ◌<◌, ◌≤◌, ◌==◌, Bool, true, false, true≢false, cond, not, ◌&&◌, ltb, List, [], ◌∷◌, ◌++◌, Option, Some, None, refl, sym, ap, ◌∙◌, arith}
use Rattle.std.specs.Prelude.{IfSome}
use Rattle.std.proofs.lemmas.Bool.Decides.{nat_tests}
use Rattle.std.proofs.lemmas.Bool.{lt-ltb, le-ltb, eqb-true}
use Rattle.std.specs.Ordering.{nat_cmp, is_lt, eq_by_cmp, ordering_then}
use Rattle.std.specs.List.{AllByRecursion}
use Rattle.std.specs.Cmp.{unsigned_ties, tied_then, first_so, second_so}
use Rattle.std.specs.Cmp.Lexicographic.{texts_ties, same_text, nat_list_eq_equiv}
use Rattle.hse_rows.specs.declared.change.Change.{Change}
use Rattle.hse_rows.specs.declared.change.Change.TheVariants.{Put, Del, PDel}
use Rattle.hse_rows.specs.declared.row.Row.{Row}
use Rattle.hse_rows.specs.writes.Change.{target, covers}
use Rattle.hse_rows.specs.writes.NormalForm.{rank, same}
use Rattle.hse_rows.specs.writes.Reach.{reaches, leaves}
use Rattle.hse_rows.specs.rows.Meaning.{apply_cmp, is_own, is_covering, newer, own_at, greater, covered_at, said, value_said}
use Rattle.ingest_tree.specs.declared.store_row.StoreRow.{StoreRow}
use Rattle.ingest_tree.specs.Rows.{store_row_cmp}

pub and-false : (b c : Bool) → c ≡ false → (b && c) ≡ false
and-false true c e = e
and-false false c e = refl

pub both : (a b : Bool) → a ≡ true → b ≡ true → (a && b) ≡ true
both a b one two = λ i. one i && two i

-- ---- rows of one key or prefix reach the same keys

pub tie-parts : (row other : StoreRow)
    → eq_by_cmp store_row_cmp row other
    ≡ ((row.store.0 == other.store.0) && ((rank row.row.change == rank other.row.change) && same (target row.row.change) (target other.row.change)))
tie-parts row other =
    sym (tied_then _ _)
    ∙ (λ i. sym (unsigned_ties row.store.0 other.store.0) i
    && (sym (tied_then _ _)
    ∙ (λ j. sym (unsigned_ties (rank row.row.change) (rank other.row.change)) j && sym (texts_ties (target row.row.change) (target other.row.change)) j)) i)

reaches-same : (one other : Change) (key : List ℕ) → rank one ≡ rank other → target one ≡ target other → reaches one key ≡ reaches other key
reaches-same (Put a v) (Put b w) key kind at = ap (λ (t : List ℕ). same t key) at
reaches-same (Put a v) (Del b) key kind at = ap (λ (t : List ℕ). same t key) at
reaches-same (Del a) (Put b w) key kind at = ap (λ (t : List ℕ). same t key) at
reaches-same (Del a) (Del b) key kind at = ap (λ (t : List ℕ). same t key) at
reaches-same (PDel a) (PDel b) key kind at = ap (λ (t : List ℕ). covers t key) at
reaches-same (Put a v) (PDel b) key kind at = absurd (omega (arith, kind))
reaches-same (Del a) (PDel b) key kind at = absurd (omega (arith, kind))
reaches-same (PDel a) (Put b w) key kind at = absurd (omega (arith, kind))
reaches-same (PDel a) (Del b) key kind at = absurd (omega (arith, kind))

pub tie-reaches : (row other : StoreRow) (key : List ℕ) → eq_by_cmp store_row_cmp row other ≡ true → reaches row.row.change key ≡ reaches other.row.change key
tie-reaches row other key tied =
    let parts = second_so (row.store.0 == other.store.0)
    ((rank row.row.change == rank other.row.change) && same (target row.row.change) (target other.row.change)) (sym (tie-parts row other) ∙ tied) in
    reaches-same row.row.change other.row.change key
    (eqb-true (rank row.row.change) (rank other.row.change)
    (first_so (rank row.row.change == rank other.row.change) (same (target row.row.change) (target other.row.change)) parts))
    (same_text (target row.row.change) (target other.row.change)
    (sym (second_so (rank row.row.change == rank other.row.change) (same (target row.row.change) (target other.row.change)) parts)))

-- two changes of one key are of one kind and target
pub own-alike : (one other : Change) (key : List ℕ) → (not (rank one == 0) && reaches one key) ≡ true → (not (rank other == 0) && reaches other key) ≡ true
    → ((rank one == rank other) && same (target one) (target other)) ≡ true
own-alike one other key a b = by one other a b
  where
    met : (x y : List ℕ) → same x key ≡ true → same y key ≡ true → same x y ≡ true
    met x y p q = ap (λ (t : List ℕ). same t y) (same_text x key (sym p)) ∙ ap (same key) (same_text y key (sym q)) ∙ nat_list_eq_equiv.refl key

    by : (one other : Change) → (not (rank one == 0) && reaches one key) ≡ true → (not (rank other == 0) && reaches other key) ≡ true
        → ((rank one == rank other) && same (target one) (target other)) ≡ true
    by (Put x v) (Put y w) p q = met x y p q
    by (Put x v) (Del y) p q = met x y p q
    by (Del x) (Put y w) p q = met x y p q
    by (Del x) (Del y) p q = met x y p q
    by (PDel x) other p q = absurd (true≢false (sym p))
    by (Put x v) (PDel y) p q = absurd (true≢false (sym q))
    by (Del x) (PDel y) p q = absurd (true≢false (sym q))

-- ---- the order in which rows apply

pub rank-small : (change : Change) → rank change ≤ 1
rank-small (PDel prefix) = omega arith
rank-small (Put key bytes) = omega arith
rank-small (Del key) = omega arith

not-before : (m n a b : ℕ) → a ≤ 1 → b ≤ 1 → is_lt (ordering_then (nat_cmp m n) (nat_cmp a b)) ≡ false → n + n + b ≤ m + m + a
not-before m n a b one two is = grind (arith, nat_tests, is)

-- a row that applies not before another
pub after-other : (row other : Row) → is_lt (apply_cmp row other) ≡ false
    → other.number + other.number + rank other.change ≤ row.number + row.number + rank row.change
after-other row other is =
    not-before row.number other.number (rank row.change) (rank other.change) (rank-small row.change) (rank-small other.change) is

pub own-rank : (change : Change) (key : List ℕ) → (not (rank change == 0) && reaches change key) ≡ true → rank change ≡ 1
own-rank (PDel prefix) key is = absurd (true≢false (sym is))
own-rank (Put own bytes) key is = refl
own-rank (Del own) key is = refl

-- ---- the newest of all

abbrev Below : ℕ → Option Row → Type 0
Below n found = IfSome found (λ (row : Row). row.number < n)

abbrev UpTo : ℕ → Option ℕ → Type 0
UpTo n found = IfSome found (λ (m : ℕ). m ≤ n)

newer-so : (P : Row → Type 0) (a b : Option Row) → IfSome a P → IfSome b P → IfSome (newer a b) P
newer-so P None b one two = two
newer-so P (Some a) None one two = one
newer-so P (Some a) (Some b) one two =
    elim (ltb b.number a.number) as (λ t. IfSome (cond t (Some a) (Some b)) P) [ true ↦ one | false ↦ two ]

greater-so : (P : ℕ → Type 0) (a b : Option ℕ) → IfSome a P → IfSome b P → IfSome (greater a b) P
greater-so P None b one two = two
greater-so P (Some a) None one two = one
greater-so P (Some a) (Some b) one two =
    elim (ltb b a) as (λ t. IfSome (cond t (Some a) (Some b)) P) [ true ↦ one | false ↦ two ]

own-first : (row : Row) (o : Option Row) → Below row.number o → newer (Some row) o ≡ Some row
own-first row None below = refl
own-first row (Some x) below = ap (λ t. cond t (Some row) (Some x)) (lt-ltb x.number row.number below)

own-second : (row : Row) (o : Option Row) → Below row.number o → newer o (Some row) ≡ Some row
own-second row None below = refl
own-second row (Some x) below =
    let up : x.number ≤ row.number = omega (arith, below) in
    ap (λ t. cond t (Some x) (Some row)) (le-ltb row.number x.number up)

cover-first : (n : ℕ) (o : Option ℕ) → UpTo n o → greater (Some n) o ≡ Some n
cover-first n None up = refl
cover-first n (Some m) up = by (ltb m n) refl
  where
    by : (t : Bool) → ltb m n ≡ t → cond t (Some n) (Some m) ≡ Some n
    by true is = refl
    by false is = ap Some (grind (arith, up, is))

cover-second : (n : ℕ) (o : Option ℕ) → UpTo n o → greater o (Some n) ≡ Some n
cover-second n None up = refl
cover-second n (Some m) up = ap (λ t. cond t (Some m) (Some n)) (le-ltb n m up)

module _ (key : List ℕ) (n : ℕ) where
  -- rows of the key are older, and prefix deletes over it are not newer
  abbrev pub OwnLess : Row → Type 0
  OwnLess row = is_own key row ≡ true → row.number < n

  abbrev pub CoverUpTo : Row → Type 0
  CoverUpTo row = is_covering key row ≡ true → row.number ≤ n

  if-own : (row : Row) → OwnLess row → (b : Bool) → is_own key row ≡ b → Below n (cond b (Some row) None)
  if-own row less true is = less is
  if-own row less false is = tt

  if-cover : (row : Row) → CoverUpTo row → (b : Bool) → is_covering key row ≡ b → UpTo n (cond b (Some row.number) None)
  if-cover row up true is = up is
  if-cover row up false is = tt

  pub own-below : (rows : List Row) → AllByRecursion OwnLess rows → Below n (own_at key rows)
  own-below [] all = tt
  own-below (row ∷ rows) all =
      newer-so _ (cond (is_own key row) (Some row) None) (own_at key rows) (if-own row all.0 (is_own key row) refl) (own-below rows all.1)

  pub cover-up_to : (rows : List Row) → AllByRecursion CoverUpTo rows → UpTo n (covered_at key rows)
  cover-up_to [] all = tt
  cover-up_to (row ∷ rows) all =
      greater-so _ (cond (is_covering key row) (Some row.number) None) (covered_at key rows) (if-cover row all.0 (is_covering key row) refl) (cover-up_to rows all.1)

-- ---- a row among others

module _ (key : List ℕ) (row : Row) (behind : List Row) where
  pub own-wins : is_own key row ≡ true → (front : List Row) → AllByRecursion (OwnLess key row.number) front → AllByRecursion (OwnLess key row.number) behind
      → own_at key (front ++ row ∷ behind) ≡ Some row
  own-wins own [] all less =
      ap (λ b. newer (cond b (Some row) None) (own_at key behind)) own ∙ own-first row (own_at key behind) (own-below key row.number behind less)
  own-wins own (y ∷ front) all less =
      ap (newer (cond (is_own key y) (Some y) None)) (own-wins own front all.1 less)
      ∙ own-second row (cond (is_own key y) (Some y) None) (if-own key row.number y all.0 (is_own key y) refl)

  pub cover-wins : is_covering key row ≡ true → (front : List Row) → AllByRecursion (CoverUpTo key row.number) front
      → AllByRecursion (CoverUpTo key row.number) behind → covered_at key (front ++ row ∷ behind) ≡ Some row.number
  cover-wins own [] all up =
      ap (λ b. greater (cond b (Some row.number) None) (covered_at key behind)) own
      ∙ cover-first row.number (covered_at key behind) (cover-up_to key row.number behind up)
  cover-wins own (y ∷ front) all up =
      ap (greater (cond (is_covering key y) (Some y.number) None)) (cover-wins own front all.1 up)
      ∙ cover-second row.number (cond (is_covering key y) (Some y.number) None) (if-cover key row.number y all.0 (is_covering key y) refl)

  pub own-passes : is_own key row ≡ false → (front : List Row) → own_at key (front ++ row ∷ behind) ≡ own_at key (front ++ behind)
  own-passes out [] = ap (λ b. newer (cond b (Some row) None) (own_at key behind)) out
  own-passes out (y ∷ front) = ap (newer (cond (is_own key y) (Some y) None)) (own-passes out front)

  pub cover-passes : is_covering key row ≡ false → (front : List Row) → covered_at key (front ++ row ∷ behind) ≡ covered_at key (front ++ behind)
  cover-passes out [] = ap (λ b. greater (cond b (Some row.number) None) (covered_at key behind)) out
  cover-passes out (y ∷ front) = ap (greater (cond (is_covering key y) (Some y.number) None)) (cover-passes out front)

-- ---- what the newest row leaves

pub said-own : (row : Row) (cover : Option ℕ) → UpTo row.number cover → value_said (said (Some row) cover) ≡ leaves row.change
said-own row None up = refl
said-own row (Some m) up = ap (λ t. value_said (Some (cond t None (leaves row.change)))) (le-ltb row.number m up)

pub said-cover : (own : Option Row) (n : ℕ) → Below n own → value_said (said own (Some n)) ≡ None
said-cover None n below = refl
said-cover (Some own) n below = ap (λ t. value_said (Some (cond t None (leaves own.change)))) (lt-ltb own.number n below)

pub leaves-none : (change : Change) → (rank change == 0) ≡ true → leaves change ≡ None
leaves-none (Put key bytes) delete = absurd (true≢false (sym delete))
leaves-none (Del key) delete = refl
leaves-none (PDel prefix) delete = refl
