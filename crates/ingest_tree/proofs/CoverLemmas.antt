-- The greatest number of a covering prefix delete, length by length.
use Rattle.std.proofs.Common.{◌≡◌, ℕ, suc, ◌<◌, ◌≤◌, ◌==◌, Bool, true, false, true≢false, cond, ◌&&◌, nat_lt, ltb, min, List, [], ◌∷◌, length, take, map, Option, Some, None, refl, ap, sym, ◌∙◌, arith}
use Rattle.std.proofs.lemmas.Bool.{lt-ltb, le-ltb, ltb-true, ltb-false}
use Rattle.std.proofs.lemmas.List.{length-take}
use Rattle.std.specs.Ordering.{is_eq}
use Rattle.std.specs.Option.{option_map}
use Rattle.std.specs.List.{AllByRecursion, filter, find}
use Rattle.std.specs.List.Sorted.{IsStrictlySortedBy}
use Rattle.std.specs.Cmp.Lexicographic.{bytes_decides}
use Rattle.hse_rows.specs.declared.change.Change.{Change}
use Rattle.hse_rows.specs.declared.change.Change.TheVariants.{Put, Del, PDel}
use Rattle.hse_rows.specs.writes.Change.{target, covers, Covers}
use Rattle.hse_rows.specs.laws.Covering.{covers-is}
use Rattle.hse_rows.specs.writes.NormalForm.{rank, same}
use Rattle.hse_rows.specs.rows.Meaning.{is_covering, greater, covered_at}
use Rattle.sorted_lists.specs.laws.Parts.{find-none}
use Rattle.ingest_tree.specs.declared.store_row.StoreRow.{StoreRow}
use Rattle.ingest_tree.specs.Rows.{row_numbered, store_row_cmp, rows_in}
use Rattle.ingest_tree.specs.Lengths.{IsInUse}
use Rattle.ingest_tree.specs.Covered.{covered_below, prefix_at}
use Rattle.ingest_tree.proofs.WalkLemmas.{ties, row-ties, alone}

-- ---- the greater of numbers

greater-none : (a : Option ℕ) → greater a None ≡ a
greater-none None = refl
greater-none (Some n) = refl

greater-assoc : (a b c : Option ℕ) → greater (greater a b) c ≡ greater a (greater b c)
greater-assoc None b c = refl
greater-assoc (Some a) None c = refl
greater-assoc (Some a) (Some b) None = greater-none (greater (Some a) (Some b))
greater-assoc (Some a) (Some b) (Some c) = by (ltb b a) (ltb c b) refl refl
  where
    first : (x y : ℕ) → y < x → greater (Some x) (Some y) ≡ Some x
    first x y less = ap (λ t. cond t (Some x) (Some y)) (lt-ltb y x less)

    second : (x y : ℕ) → x ≤ y → greater (Some x) (Some y) ≡ Some y
    second x y less = ap (λ t. cond t (Some x) (Some y)) (le-ltb y x less)

    by : (s t : Bool) → ltb b a ≡ s → ltb c b ≡ t → greater (cond s (Some a) (Some b)) (Some c) ≡ greater (Some a) (cond t (Some b) (Some c))
    by true true one two =
        let less = ltb-true b a one in
        let down = ltb-true c b two in
        first a c (omega (arith, less, down)) ∙ sym (first a b less)
    by true false one two = refl
    by false true one two = first b c (ltb-true c b two) ∙ sym (second a b (ltb-false b a one))
    by false false one two =
        let up = ltb-false b a one in
        let more = ltb-false c b two in
        second b c more ∙ sym (second a c (omega (arith, up, more)))

greater-turned : (a : ℕ) (b : Option ℕ) → greater (Some a) b ≡ greater b (Some a)
greater-turned a None = refl
greater-turned a (Some b) = by (ltb b a) (ltb a b) refl refl
  where
    by : (s t : Bool) → ltb b a ≡ s → ltb a b ≡ t → cond s (Some a) (Some b) ≡ cond t (Some b) (Some a)
    by true true one two = let low = ltb-true b a one in let high = ltb-true a b two in absurd (omega (arith, low, high))
    by true false one two = refl
    by false true one two = refl
    by false false one two =
        let low = ltb-false b a one in
        let high = ltb-false a b two in
        let tie : b ≡ a = omega (arith, low, high) in
        ap Some tie

-- ---- one length more

module _ (id : ℕ) (key : List ℕ) (n : ℕ) (short : n ≤ length key) where
  abbrev is_there : StoreRow → Bool
  is_there r = is_eq (store_row_cmp r (prefix_at id key n))

  ties-prefix : (r : StoreRow) → is_there r ≡ ((r.store.0 == id) && ((rank r.row.change == 0) && same (target r.row.change) (take n key)))
  ties-prefix r = ties r (prefix_at id key n) ∙ ap (λ b. (r.store.0 == id) && b) (row-ties r.row (row_numbered 0 (PDel (take n key))))

  abbrev covering : ℕ → ℕ → Change → Bool
  covering most number change = is_covering key (row_numbered number change) && nat_lt (length (target change)) most

  abbrev there : Change → Bool
  there change = (rank change == 0) && same (target change) (take n key)

  length-first : length (take n key) ≡ n
  length-first = let is = length-take n key in omega (arith, is, short)

  first-covers : (prefix : List ℕ) → prefix ≡ take n key → covers prefix key ≡ true
  first-covers prefix is =
      let size : length prefix ≡ n = ap length is ∙ length-first in
      (covers-is prefix key).1 (omega (arith, size, short), ap (λ m. take m key) size ∙ sym is)

  there-covers : (number : ℕ) (change : Change) → there change ≡ true → (covering (suc n) number change ≡ true) × (covering n number change ≡ false)
  there-covers number (Put k bytes) is = absurd (true≢false (sym is))
  there-covers number (Del k) is = absurd (true≢false (sym is))
  there-covers number (PDel prefix) is =
      let same_bytes = (bytes_decides prefix (take n key)).0 is in
      let size : length prefix ≡ n = ap length same_bytes ∙ length-first in (
        (λ i. first-covers prefix same_bytes i && lt-ltb (length prefix) (suc n) (omega (arith, size)) i),
        (λ i. first-covers prefix same_bytes i && le-ltb (length prefix) n (omega (arith, size)) i),
      )

  other-lengths : (prefix : List ℕ) → same prefix (take n key) ≡ false → covers prefix key ≡ true → nat_lt (length prefix) (suc n) ≡ nat_lt (length prefix) n
  other-lengths prefix apart covering = by (nat_lt (length prefix) (suc n)) (nat_lt (length prefix) n) refl refl
    where
      first : Covers prefix key
      first = (covers-is prefix key).0 covering

      by : (s t : Bool) → nat_lt (length prefix) (suc n) ≡ s → nat_lt (length prefix) n ≡ t → s ≡ t
      by true true one two = refl
      by false false one two = refl
      by false true one two = let high = ltb-false (length prefix) (suc n) one in let low = ltb-true (length prefix) n two in absurd (omega (arith, high, low))
      by true false one two =
          let high = ltb-true (length prefix) (suc n) one in
          let low = ltb-false (length prefix) n two in
          let size : length prefix ≡ n = omega (arith, high, low) in
          absurd (true≢false (sym ((bytes_decides prefix (take n key)).1 (sym first.1 ∙ ap (λ m. take m key) size)) ∙ apart))

  apart-covers : (number : ℕ) (change : Change) → there change ≡ false → covering (suc n) number change ≡ covering n number change
  apart-covers number (Put k bytes) is = refl
  apart-covers number (Del k) is = refl
  apart-covers number (PDel prefix) is = by (covers prefix key) refl
    where
      by : (b : Bool) → covers prefix key ≡ b → (b && nat_lt (length prefix) (suc n)) ≡ (b && nat_lt (length prefix) n)
      by true covering = other-lengths prefix is covering
      by false covering = refl

  abbrev numbers : Option StoreRow → Option ℕ
  numbers found = option_map (λ (r : StoreRow). r.row.number) found

  -- the prefix deletes that are shorter than one length more are those that are shorter, and that of the length
  pub covered-step : (rows : List StoreRow) → IsStrictlySortedBy store_row_cmp rows
      → covered_below id key (suc n) rows ≡ greater (covered_below id key n rows) (numbers (find is_there rows))
  unfolding IsStrictlySortedBy
  covered-step [] rise = refl
  covered-step (r ∷ rows) rise =
      by (r.store.0 == id) (there r.row.change) refl (ties-prefix r) (there-covers r.row.number r.row.change) (apart-covers r.row.number r.row.change) (covered-step rows rise.1)
      ∙ ap (λ b. greater (covered_below id key n (r ∷ rows)) (numbers (cond b (Some r) (find is_there rows)))) (sym (ties-prefix r))
    where
      by : (s t : Bool) → there r.row.change ≡ t → is_there r ≡ (s && t)
          → (there r.row.change ≡ true → (covering (suc n) r.row.number r.row.change ≡ true) × (covering n r.row.number r.row.change ≡ false))
          → (there r.row.change ≡ false → covering (suc n) r.row.number r.row.change ≡ covering n r.row.number r.row.change)
          → covered_below id key (suc n) rows ≡ greater (covered_below id key n rows) (numbers (find is_there rows))
          → greater (cond (s && covering (suc n) r.row.number r.row.change) (Some r.row.number) None) (covered_below id key (suc n) rows)
          ≡ greater (greater (cond (s && covering n r.row.number r.row.change) (Some r.row.number) None) (covered_below id key n rows))
          (numbers (cond (s && t) (Some r) (find is_there rows)))
      by false t at tie one two more = more
      by true false at tie one two more =
          (λ i. greater (cond (two at i) (Some r.row.number) None) (more i))
          ∙ sym (greater-assoc (cond (covering n r.row.number r.row.change) (Some r.row.number) None) (covered_below id key n rows) (numbers (find is_there rows)))
      by true true at tie one two more =
          (λ i. greater (cond ((one at).0 i) (Some r.row.number) None) (more i))
          ∙ ap (λ f. greater (Some r.row.number) (greater (covered_below id key n rows) (numbers f)))
          (find-none is_there rows (alone (prefix_at id key n) r rows tie rise.0))
          ∙ ap (greater (Some r.row.number)) (greater-none (covered_below id key n rows))
          ∙ greater-turned r.row.number (covered_below id key n rows)
          ∙ ap (λ b. greater (greater (cond b (Some r.row.number) None) (covered_below id key n rows)) (Some r.row.number)) (sym (one at).1)

-- ---- the least length, and the greatest

module _ (id : ℕ) (key : List ℕ) where
  none-shorter : (shortest longest number : ℕ) (change : Change) → IsInUse shortest longest change → (is_covering key (row_numbered number change) && nat_lt (length (target change)) shortest) ≡ false
  none-shorter shortest longest number (Put k bytes) use' = refl
  none-shorter shortest longest number (Del k) use' = refl
  none-shorter shortest longest number (PDel prefix) use' =
      ap (λ b. covers prefix key && b) (le-ltb (length prefix) shortest use'.0) ∙ none (covers prefix key)
    where
      none : (b : Bool) → (b && false) ≡ false
      none true = refl
      none false = refl

  and-false : (b : Bool) → (b && false) ≡ false
  and-false true = refl
  and-false false = refl

  pub covered-first : (shortest longest : ℕ) (rows : List StoreRow) → AllByRecursion (λ (r : StoreRow). IsInUse shortest longest r.row.change) rows
      → covered_below id key shortest rows ≡ None
  covered-first shortest longest [] all = refl
  covered-first shortest longest (r ∷ rows) all =
      ap (λ b. greater (cond ((r.store.0 == id) && b) (Some r.row.number) None) (covered_below id key shortest rows))
      (none-shorter shortest longest r.row.number r.row.change all.0)
      ∙ ap (λ b. greater (cond b (Some r.row.number) None) (covered_below id key shortest rows)) (and-false (r.store.0 == id))
      ∙ covered-first shortest longest rows all.1

  all-shorter : (shortest longest most number : ℕ) (change : Change) → min (length key) longest < most → IsInUse shortest longest change
      → (is_covering key (row_numbered number change) && nat_lt (length (target change)) most) ≡ is_covering key (row_numbered number change)
  all-shorter shortest longest most number (Put k bytes) long use' = refl
  all-shorter shortest longest most number (Del k) long use' = refl
  all-shorter shortest longest most number (PDel prefix) long use' = by (covers prefix key) refl
    where
      by : (b : Bool) → covers prefix key ≡ b → (b && nat_lt (length prefix) most) ≡ b
      by true covering =
          let first = ((covers-is prefix key).0 covering).0 in
          let most_long = use'.1 in
          lt-ltb (length prefix) most (omega (arith, first, most_long, long))
      by false covering = refl

  pub covered-last : (shortest longest most : ℕ) (rows : List StoreRow) → min (length key) longest < most
      → AllByRecursion (λ (r : StoreRow). IsInUse shortest longest r.row.change) rows
      → covered_below id key most rows ≡ covered_at key (rows_in id rows)
  covered-last shortest longest most [] long all = refl
  covered-last shortest longest most (r ∷ rows) long all =
      by (r.store.0 == id) (all-shorter shortest longest most r.row.number r.row.change long all.0) (covered-last shortest longest most rows long all.1)
    where
      by : (s : Bool) → (is_covering key (row_numbered r.row.number r.row.change) && nat_lt (length (target r.row.change)) most) ≡ is_covering key (row_numbered r.row.number r.row.change)
          → covered_below id key most rows ≡ covered_at key (rows_in id rows)
          → greater (cond (s && (is_covering key r.row && nat_lt (length (target r.row.change)) most)) (Some r.row.number) None) (covered_below id key most rows)
          ≡ covered_at key (map (λ (r : StoreRow). r.row) (cond s (r ∷ filter (λ (r : StoreRow). r.store.0 == id) rows) (filter (λ (r : StoreRow). r.store.0 == id) rows)))
      by true same more = λ i. greater (cond (same i) (Some r.row.number) None) (more i)
      by false same more = more
