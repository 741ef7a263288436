-- The prefixes that cover a key, by their lengths.
use Rattle.std.proofs.Common.{◌≡◌, ℕ, suc, ◌<◌, ◌≤◌, ◌==◌, Bool, true, false, true≢false, cond, ltb, List, [], ◌∷◌, length, get_or, take, min, Option, Some, None, refl, sym, ap, ◌∙◌, arith, eq-eqb}
use Rattle.std.proofs.lemmas.Bool.{lt-ltb, le-ltb, ltb-true, ltb-false, eqb-true}
use Rattle.std.proofs.lemmas.List.{length-take}
use Rattle.std.specs.declared.cmp.Ordering.{Ordering}
use Rattle.std.specs.declared.cmp.Ordering.TheVariants.{Less, Equal, Greater}
use Rattle.std.specs.Ordering.{nat_cmp, is_eq}
use Rattle.std.specs.Cmp.{IsTotalOrder, on_total}
use Rattle.std.specs.Cmp.Lexicographic.{slice_cmp, nat_list_cmp_total}
use Rattle.std.specs.FinMap.{IsAntisymmetric, slice_cmp-IsAntisymmetric, nat_cmp-IsAntisymmetric}
use Rattle.std.proofs.lemmas.Cmp.{tied_itself}
use Rattle.std.specs.List.{AllByRecursion, filter, find}
use Rattle.std.specs.List.Sorted.{IsStrictlySortedBy}
use Rattle.hse_rows.specs.writes.Change.{covers}
use Rattle.hse_rows.specs.laws.Covering.{covers-is}
use Rattle.hse_rows.specs.writes.Lengths.{IsPrefixLength}
use Rattle.hse_rows.specs.rows.Meaning.{greater, covered_at}
use Rattle.sorted_lists.specs.laws.Lists.{each-weaker, filter-all}
use Rattle.prefix_delete.specs.declared.entry.Entry.{Entry}
use Rattle.prefix_delete.specs.Prefixes.{prefix_cmp, probe, rows_of, number_in, number_at, IsUsed}

pub prefix_order : IsTotalOrder prefix_cmp
prefix_order = on_total (λ (entry : Entry). entry.prefix) nat_list_cmp_total

same_bytes : IsAntisymmetric (slice_cmp nat_cmp)
same_bytes = slice_cmp-IsAntisymmetric nat_cmp-IsAntisymmetric

-- ---- the greater of numbers

greater-none : (a : Option ℕ) → greater a None ≡ a
greater-none None = refl
greater-none (Some n) = refl

first : (x y : ℕ) → y < x → greater (Some x) (Some y) ≡ Some x
first x y less = ap (λ t. cond t (Some x) (Some y)) (lt-ltb y x less)

second : (x y : ℕ) → x ≤ y → greater (Some x) (Some y) ≡ Some y
second x y less = ap (λ t. cond t (Some x) (Some y)) (le-ltb y x less)

greater-assoc : (a b c : Option ℕ) → greater (greater a b) c ≡ greater a (greater b c)
greater-assoc None b c = refl
greater-assoc (Some a) None c = refl
greater-assoc (Some a) (Some b) None = greater-none (greater (Some a) (Some b))
greater-assoc (Some a) (Some b) (Some c) = by (ltb b a) (ltb c b) refl refl
  where
    by : (s t : Bool) → ltb b a ≡ s → ltb c b ≡ t → greater (cond s (Some a) (Some b)) (Some c) ≡ greater (Some a) (cond t (Some b) (Some c))
    by true true one two =
        let less = ltb-true b a one in
        let down = ltb-true c b two in
        first a c (omega (arith, less, down)) ∙ sym (first a b less)
    by true false one two = refl
    by false true one two = first b c (ltb-true c b two) ∙ sym (second a b (ltb-false b a one))
    by false false one two =
        let up = ltb-false b a one in
        let more = ltb-false c b two in
        second b c more ∙ sym (second a c (omega (arith, up, more)))

greater-swap : (a b : Option ℕ) → greater a b ≡ greater b a
greater-swap None b = sym (greater-none b)
greater-swap (Some a) None = refl
greater-swap (Some a) (Some b) = by (ltb b a) refl (ltb a b) refl
  where
    by : (s : Bool) → ltb b a ≡ s → (t : Bool) → ltb a b ≡ t → cond s (Some a) (Some b) ≡ cond t (Some b) (Some a)
    by true one true two = let less = ltb-true b a one in let more = ltb-true a b two in absurd (omega (arith, less, more))
    by true one false two = refl
    by false one true two = refl
    by false one false two = let up = ltb-false b a one in let down = ltb-false a b two in ap Some (let e : b ≡ a = omega (arith, up, down) in e)

-- ---- by length

module _ (key : List ℕ) where
  abbrev cover : List Entry → Option ℕ
  cover entries = covered_at key (rows_of entries)

  abbrev one : Entry → Option ℕ
  one entry = cond (covers entry.prefix key) (Some entry.number) None

  abbrev shorter : ℕ → List Entry → List Entry
  shorter n xs = filter (λ entry. ltb (length entry.prefix) n) xs

  abbrev exact : ℕ → List Entry → List Entry
  exact n xs = filter (λ entry. length entry.prefix == n) xs

  pub split : (n : ℕ) (xs : List Entry)
      → cover (filter (λ entry. ltb (length entry.prefix) (suc n)) xs)
      ≡ greater (cover (filter (λ entry. ltb (length entry.prefix) n) xs)) (cover (filter (λ entry. length entry.prefix == n) xs))
  split n [] = refl
  split n (x ∷ xs) =
      by (split n xs) (ltb (length x.prefix) (suc n)) refl (ltb (length x.prefix) n) refl (length x.prefix == n) refl
    where
      by : cover (shorter (suc n) xs) ≡ greater (cover (shorter n xs)) (cover (exact n xs))
          → (s : Bool) → ltb (length x.prefix) (suc n) ≡ s → (t : Bool) → ltb (length x.prefix) n ≡ t → (u : Bool) → (length x.prefix == n) ≡ u
          → cover (cond s (x ∷ shorter (suc n) xs) (shorter (suc n) xs)) ≡ greater (cover (cond t (x ∷ shorter n xs) (shorter n xs))) (cover (cond u (x ∷ exact n xs) (exact n xs)))
      by rest true a true b false c = ap (greater (one x)) rest ∙ sym (greater-assoc (one x) (cover (shorter n xs)) (cover (exact n xs)))
      by rest true a false b true c =
          ap (greater (one x)) rest ∙ sym (greater-assoc (one x) (cover (shorter n xs)) (cover (exact n xs)))
          ∙ ap (λ g. greater g (cover (exact n xs))) (greater-swap (one x) (cover (shorter n xs)))
          ∙ greater-assoc (cover (shorter n xs)) (one x) (cover (exact n xs))
      by rest false a false b false c = rest
      by rest true a true b true c = let h = ltb-true (length x.prefix) n b in let e = eqb-true (length x.prefix) n c in absurd (omega (arith, h, e))
      by rest true a false b false c =
          let h = ltb-true (length x.prefix) (suc n) a in
          let k = ltb-false (length x.prefix) n b in
          absurd (true≢false (sym (eq-eqb (length x.prefix) n (let e : length x.prefix ≡ n = omega (arith, h, k) in e)) ∙ c))
      by rest false a true b u c =
          let h = ltb-false (length x.prefix) (suc n) a in
          let k = ltb-true (length x.prefix) n b in
          absurd (omega (arith, h, k))
      by rest false a false b true c =
          let h = ltb-false (length x.prefix) (suc n) a in
          let e = eqb-true (length x.prefix) n c in
          absurd (omega (arith, h, e))

  -- none of this length covers
  pub none-exact : (n : ℕ) (xs : List Entry) → AllByRecursion (λ (y : Entry). length y.prefix ≡ n → covers y.prefix key ≡ true → ⊥) xs
      → cover (filter (λ entry. length entry.prefix == n) xs) ≡ None
  none-exact n [] all = refl
  none-exact n (x ∷ xs) all = by (none-exact n xs all.1) (length x.prefix == n) refl (covers x.prefix key) refl
    where
      by : cover (exact n xs) ≡ None → (u : Bool) → (length x.prefix == n) ≡ u → (v : Bool) → covers x.prefix key ≡ v → cover (cond u (x ∷ exact n xs) (exact n xs)) ≡ None
      by rest true c true d = absurd (all.0 (eqb-true (length x.prefix) n c) d)
      by rest true c false d = ap (λ b. greater (cond b (Some x.number) None) (cover (exact n xs))) d ∙ rest
      by rest false c v d = rest

  -- a covering prefix is the front of the key of its length
  pub covering-front : (prefix : List ℕ) → covers prefix key ≡ true → (length prefix ≤ length key) × (take (length prefix) key ≡ prefix)
  covering-front prefix is = (covers-is prefix key).0 is

  -- and the one of a length stands where a search finds it
  pub exact-found : (n : ℕ) (xs : List Entry) → IsStrictlySortedBy prefix_cmp xs → n ≤ length key
      → cover (filter (λ entry. length entry.prefix == n) xs) ≡ number_at xs (take n key)
  unfolding IsStrictlySortedBy
  exact-found n [] rise long = refl
  exact-found n (x ∷ xs) rise long = by (exact-found n xs rise.1 long) (slice_cmp nat_cmp x.prefix (take n key)) refl
    where
      long-front : length (take n key) ≡ n
      long-front = length-take n key ∙ (let e : min n (length key) ≡ n = omega (arith, long) in e)

      tied : x.prefix ≡ take n key → (y : Entry) → prefix_cmp x y ≡ Less → length y.prefix ≡ n → covers y.prefix key ≡ true → ⊥
      tied is y less len covering =
          let back : y.prefix ≡ take n key = sym (covering-front y.prefix covering).1 ∙ ap (λ (m : ℕ). take m key) len in
          let e : Less ≡ Equal = sym less ∙ ap (slice_cmp nat_cmp x.prefix) (back ∙ sym is) ∙ tied_itself nat_list_cmp_total x.prefix in
          absurd cc

      here : x.prefix ≡ take n key → cover (cond (length x.prefix == n) (x ∷ exact n xs) (exact n xs)) ≡ Some x.number
      here is =
          let len : length x.prefix ≡ n = ap length is ∙ long-front in
          let covering : covers x.prefix key ≡ true = (covers-is x.prefix key).1 (omega (arith, len, long), ap (λ (m : ℕ). take m key) len ∙ sym is) in
          ap (λ b. cover (cond b (x ∷ exact n xs) (exact n xs))) (eq-eqb (length x.prefix) n len)
          ∙ ap (λ b. greater (cond b (Some x.number) None) (cover (exact n xs))) covering
          ∙ ap (greater (Some x.number)) (none-exact n xs (each-weaker (tied is) xs rise.0))

      apart : (r : Ordering) → slice_cmp nat_cmp x.prefix (take n key) ≡ r → is_eq r ≡ false
          → (u : Bool) → (length x.prefix == n) ≡ u → (v : Bool) → covers x.prefix key ≡ v → cover (cond u (x ∷ exact n xs) (exact n xs)) ≡ cover (exact n xs)
      apart r is off true c true d =
          let front : x.prefix ≡ take n key = sym (covering-front x.prefix d).1 ∙ ap (λ (m : ℕ). take m key) (eqb-true (length x.prefix) n c) in
          absurd (true≢false (sym (ap is_eq (sym is ∙ ap (slice_cmp nat_cmp x.prefix) (sym front) ∙ tied_itself nat_list_cmp_total x.prefix)) ∙ off))
      apart r is off true c false d = ap (λ b. greater (cond b (Some x.number) None) (cover (exact n xs))) d
      apart r is off false c v d = refl

      by : cover (exact n xs) ≡ number_at xs (take n key) → (r : Ordering) → slice_cmp nat_cmp x.prefix (take n key) ≡ r
          → cover (cond (length x.prefix == n) (x ∷ exact n xs) (exact n xs)) ≡ number_in (cond (is_eq (slice_cmp nat_cmp x.prefix (take n key))) (Some x) (find (λ entry. is_eq (prefix_cmp entry (probe (take n key)))) xs))
      by rest Equal is =
          here (same_bytes x.prefix (take n key) is)
          ∙ sym (ap (λ c. number_in (cond (is_eq c) (Some x) (find (λ entry. is_eq (prefix_cmp entry (probe (take n key)))) xs))) is)
      by rest Less is =
          apart Less is refl (length x.prefix == n) refl (covers x.prefix key) refl ∙ rest
          ∙ sym (ap (λ c. number_in (cond (is_eq c) (Some x) (find (λ entry. is_eq (prefix_cmp entry (probe (take n key)))) xs))) is)
      by rest Greater is =
          apart Greater is refl (length x.prefix == n) refl (covers x.prefix key) refl ∙ rest
          ∙ sym (ap (λ c. number_in (cond (is_eq c) (Some x) (find (λ entry. is_eq (prefix_cmp entry (probe (take n key)))) xs))) is)

  -- a prefix longer than the key does not cover it
  pub too-long : (n : ℕ) (xs : List Entry) → length key < n → cover (filter (λ entry. length entry.prefix == n) xs) ≡ None
  too-long n xs long = none-exact n xs (each xs)
    where
      off : (y : Entry) → length y.prefix ≡ n → covers y.prefix key ≡ true → ⊥
      off y len covering = let short = (covering-front y.prefix covering).0 in omega (arith, short, len, long)

      each : (ys : List Entry) → AllByRecursion (λ (y : Entry). length y.prefix ≡ n → covers y.prefix key ≡ true → ⊥) ys
      each [] = tt
      each (y ∷ ys) = (off y, each ys)

  -- and none has a length that is not in use
  pub not-used : (used : List Bool) (n : ℕ) (xs : List Entry) → AllByRecursion (IsUsed used) xs → get_or used n false ≡ false
      → cover (filter (λ entry. length entry.prefix == n) xs) ≡ None
  not-used used n xs all off =
      none-exact n xs
      (each-weaker (λ y is len covering. true≢false (sym is ∙ ap (λ (m : ℕ). get_or used m false) len ∙ off)) xs all)

-- no prefix has fewer than 0 bytes, and all have fewer than 33
pub shorter-none : (xs : List Entry) → filter (λ entry. ltb (length entry.prefix) 0) xs ≡ []
shorter-none [] = refl
shorter-none (x ∷ xs) = ap (λ b. cond b (x ∷ filter (λ entry. ltb (length entry.prefix) 0) xs) (filter (λ entry. ltb (length entry.prefix) 0) xs)) (le-ltb (length x.prefix) 0 (omega arith)) ∙ shorter-none xs

pub shorter-all : (xs : List Entry) → AllByRecursion (λ (entry : Entry). IsPrefixLength (length entry.prefix)) xs → filter (λ entry. ltb (length entry.prefix) 33) xs ≡ xs
shorter-all xs all =
    filter-all (λ entry. ltb (length entry.prefix) 33) xs
    (each-weaker (λ e within. lt-ltb (length e.prefix) 33 (let h = within.1 in omega (arith, h))) xs all)
