-- Of prefix deletes with one prefix and one number, one says all.
use Rattle.std.proofs.Common.{◌≡◌, ℕ, ◌==◌, Bool, true, false, true≢false, cond, not, ltb, ◌&&◌, ◌||◌, List, [], ◌∷◌, Option, Some, None, refl, sym, ap, ◌∙◌, arith}
use Rattle.std.proofs.lemmas.Bool.{eqb-true}
use Rattle.std.specs.Cmp.{first_so, second_so}
use Rattle.std.specs.Cmp.Lexicographic.{bytes_decides}
use Rattle.std.specs.List.{AllByRecursion, filter, list_any}
use Rattle.hse_rows.specs.declared.change.Change.{Change}
use Rattle.hse_rows.specs.declared.change.Change.TheVariants.{Put, Del, PDel}
use Rattle.hse_rows.specs.declared.row.Row.{Row}
use Rattle.hse_rows.specs.writes.NormalForm.{rank, hides_change}
use Rattle.hse_rows.specs.rows.Newest.{is_twin, once_each}
use Rattle.row_laws.specs.Merging.{is_key_row, AreTwoKeys, AreOncePerNumber}
use Rattle.row_laws.specs.Step.{AgreesWith, AreAgreed}
use Rattle.row_laws.proofs.MarkLemmas.{Marked, later, later-assoc, top}
use Rattle.row_laws.proofs.MeaningLemmas.{stamp, rank-small, mark}
use Rattle.row_laws.proofs.StepLemmas.{swap-agreed}

some-twin : {C : Type 0} (row : Row) (xs : List Row) → list_any (is_twin row) xs ≡ true
    → ((x : Row) → is_twin row x ≡ true → C) → C
some-twin row [] some use' = absurd (true≢false (sym some))
some-twin {C} row (x ∷ xs) some use' =
    elim (is_twin row x) as (λ b. is_twin row x ≡ b → (b || list_any (is_twin row) xs) ≡ true → C) [
      | true ↦ λ is e. use' x is
      | false ↦ λ is e. some-twin row xs e use'
    ] refl some

-- what has a twin is a prefix delete
twin-prefix : (row : Row) (xs : List Row) → list_any (is_twin row) xs ≡ true → (rank row.change == 0) ≡ true
twin-prefix row xs some =
    some-twin row xs some
    (λ x is.
    first_so (rank row.change == 0) (x.number == row.number)
    (first_so ((rank row.change == 0) && (x.number == row.number)) (hides_change x.change row.change) is))

-- ---- what holds of all rows holds of those that are kept

pub each-once : (P : Row → Type 0) (rows : List Row) → AllByRecursion P rows → AllByRecursion P (once_each rows)
each-once P [] all = tt
each-once P (row ∷ rows) all =
    elim (list_any (is_twin row) rows) as (λ b. AllByRecursion P (cond b (once_each rows) (row ∷ once_each rows))) [
      | true ↦ each-once P rows all.1
      | false ↦ (all.0, each-once P rows all.1)
    ]

pub agreed-once : (rows : List Row) → AreAgreed rows → AreAgreed (once_each rows)
agreed-once [] agreed = tt
agreed-once (row ∷ rows) agreed =
    elim (list_any (is_twin row) rows) as (λ b. AreAgreed (cond b (once_each rows) (row ∷ once_each rows))) [
      | true ↦ agreed-once rows agreed.1
      | false ↦ (each-once (AgreesWith row) rows agreed.0, agreed-once rows agreed.1)
    ]

pub numbers-once : (rows : List Row) → AreOncePerNumber rows → AreOncePerNumber (once_each rows)
numbers-once [] once = tt
numbers-once (row ∷ rows) once =
    elim (list_any (is_twin row) rows) as (λ b. AreOncePerNumber (cond b (once_each rows) (row ∷ once_each rows))) [
      | true ↦ numbers-once rows once.1
      | false ↦ (each-once (AreTwoKeys row) rows once.0, numbers-once rows once.1)
    ]

-- ---- the rows of keys are all kept

pub keys-once : (rows : List Row) → filter is_key_row (once_each rows) ≡ filter is_key_row rows
keys-once [] = refl
keys-once (row ∷ rows) = by (keys-once rows) (list_any (is_twin row) rows) refl
  where
    by : filter is_key_row (once_each rows) ≡ filter is_key_row rows → (b : Bool) → list_any (is_twin row) rows ≡ b
        → filter is_key_row (cond b (once_each rows) (row ∷ once_each rows))
        ≡ cond (is_key_row row) (row ∷ filter is_key_row rows) (filter is_key_row rows)
    by rest true some =
        rest
        ∙ sym (ap (λ (b : Bool). cond (not b) (row ∷ filter is_key_row rows) (filter is_key_row rows)) (twin-prefix row rows some))
    by rest false none = ap (λ (xs : List Row). cond (is_key_row row) (row ∷ xs) xs) rest

-- so is the last of marks that prefix deletes do not have
pub top-keys-once : {V : Type 0} (marks : Row → Option (Marked V)) → ((row : Row) → (rank row.change == 0) ≡ true → marks row ≡ None)
    → (rows : List Row) → top marks (once_each rows) ≡ top marks rows
top-keys-once marks unmarked [] = refl
top-keys-once {V} marks unmarked (row ∷ rows) = by (top-keys-once marks unmarked rows) (list_any (is_twin row) rows) refl
  where
    by : top marks (once_each rows) ≡ top marks rows → (b : Bool) → list_any (is_twin row) rows ≡ b
        → top marks (cond b (once_each rows) (row ∷ once_each rows)) ≡ later (marks row) (top marks rows)
    by rest true some =
        rest
        ∙ sym (ap (λ (m : Option (Marked V)). later m (top marks rows)) (unmarked row (twin-prefix row rows some)))
    by rest false none = ap (later (marks row)) rest

-- ---- the last mark at a key stays

pub stamp-number : (row other : Row) → stamp row ≡ stamp other → row.number ≡ other.number
stamp-number row other tie =
    let one = rank-small row.change in
    let two = rank-small other.change in
    omega (arith, one, two, tie)

pub stamp-rank : (row other : Row) → stamp row ≡ stamp other → rank row.change ≡ rank other.change
stamp-rank row other tie =
    let one = rank-small row.change in
    let two = rank-small other.change in
    omega (arith, one, two, tie)

later-same : {V : Type 0} (m : Option (Marked V)) → later m m ≡ m
later-same None = refl
later-same (Some a) = same (ltb a.0 a.0)
  where
    same : (t : Bool) → cond t (Some a) (Some a) ≡ Some a
    same true = refl
    same false = refl

module _ (key : List ℕ) where
  marks-twin : (m n : ℕ) (one two : Change) → (rank one == 0) ≡ true → n ≡ m → hides_change two one ≡ true
      → mark key (record { number = n; change = two }) ≡ mark key (record { number = m; change = one })
  marks-twin m n (PDel p) (PDel q) is at hid =
      λ i. mark key (record { number = at i; change = PDel ((bytes_decides q p).0 hid i) })
  marks-twin m n (PDel p) (Put k v) is at hid = absurd (true≢false (sym hid))
  marks-twin m n (PDel p) (Del k) is at hid = absurd (true≢false (sym hid))
  marks-twin m n (Put k v) two is at hid = absurd (true≢false (sym is))
  marks-twin m n (Del k) two is at hid = absurd (true≢false (sym is))

  twin-mark : (row other : Row) → is_twin row other ≡ true → mark key other ≡ mark key row
  twin-mark row other is =
      let both = first_so ((rank row.change == 0) && (other.number == row.number)) (hides_change other.change row.change) is in
      marks-twin row.number other.number row.change other.change
      (first_so (rank row.change == 0) (other.number == row.number) both)
      (eqb-true other.number row.number (second_so (rank row.change == 0) (other.number == row.number) both))
      (second_so ((rank row.change == 0) && (other.number == row.number)) (hides_change other.change row.change) is)

  -- a row whose twin is there says no more
  absorbed : (row : Row) (xs : List Row) → AllByRecursion (AgreesWith row) xs → list_any (is_twin row) xs ≡ true
      → later (mark key row) (top (mark key) xs) ≡ top (mark key) xs
  absorbed row [] agrees some = absurd (true≢false (sym some))
  absorbed row (x ∷ xs) agrees some = by (absorbed row xs agrees.1) (is_twin row x) refl some
    where
      by : (list_any (is_twin row) xs ≡ true → later (mark key row) (top (mark key) xs) ≡ top (mark key) xs)
          → (b : Bool) → is_twin row x ≡ b → (b || list_any (is_twin row) xs) ≡ true
          → later (mark key row) (later (mark key x) (top (mark key) xs)) ≡ later (mark key x) (top (mark key) xs)
      by rest true is e =
          sym (later-assoc (mark key row) (mark key x) (top (mark key) xs))
          ∙ ap (λ l. later l (top (mark key) xs))
          (ap (later (mark key row)) (twin-mark row x is) ∙ later-same (mark key row) ∙ sym (twin-mark row x is))
      by rest false is e =
          sym (later-assoc (mark key row) (mark key x) (top (mark key) xs))
          ∙ ap (λ l. later l (top (mark key) xs))
          (swap-agreed key row x (λ tie at. agrees.0 (stamp-number row x tie) (stamp-rank row x tie) at))
          ∙ later-assoc (mark key x) (mark key row) (top (mark key) xs)
          ∙ ap (later (mark key x)) (rest e)

  pub top-once : (rows : List Row) → AreAgreed rows → top (mark key) (once_each rows) ≡ top (mark key) rows
  top-once [] agreed = refl
  top-once (row ∷ rows) agreed = by (top-once rows agreed.1) (list_any (is_twin row) rows) refl
    where
      by : top (mark key) (once_each rows) ≡ top (mark key) rows → (b : Bool) → list_any (is_twin row) rows ≡ b
          → top (mark key) (cond b (once_each rows) (row ∷ once_each rows)) ≡ later (mark key row) (top (mark key) rows)
      by rest true some = rest ∙ sym (absorbed row rows agreed.0 some)
      by rest false none = ap (later (mark key row)) rest
