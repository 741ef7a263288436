-- What a merge gives next is the first of what is left of the list of merged rows.
use mathlib.Core.List.{reverse_aux}
use Rattle.std.proofs.Common.{◌≡◌, ℕ, zero, suc, ◌<◌, ◌≤◌, ◌⊎◌, append_assoc, inl, inr, Bool, true, false, true≢false, cond, ltb, List, [], ◌∷◌, ◌++◌, reverse, Option, Some, None, refl, sym, ap, ◌∙◌, subst, arith}
use Rattle.std.proofs.lemmas.Bool.{ltb-true, ltb-false}
use Rattle.std.specs.Prelude.{slice_get}
use Rattle.std.specs.declared.cmp.Ordering.{Ordering}
use Rattle.std.specs.declared.cmp.Ordering.TheVariants.{Less, Equal, Greater}
use Rattle.std.specs.Ordering.{nat_cmp, ordering_reverse}
use Rattle.std.specs.Cmp.Lexicographic.{slice_cmp}
use Rattle.std.specs.List.{AllByRecursion, filter}
use Rattle.std.specs.List.Sorted.{IsStrictlySortedBy}
use Rattle.hse_rows.specs.declared.row.Row.{Row}
use Rattle.hse_rows.specs.writes.Change.{target}
use Rattle.hse_rows.specs.rows.Newest.{row_cmp, newest}
use Rattle.hse_rows.specs.rows.RowSets.{AreRows}
use Rattle.hse_rows.specs.rows.Meaning.{is_own, newer, own_at}
use Rattle.hse_rows.specs.script.Cursor.{Direction, Position, forward, backward, directed, direction_cmp, is_reached, first_of}
use Rattle.row_laws.specs.Sources.{all_rows}
use Rattle.row_laws.specs.Merging.{is_key_row, key_rows, next_by, AreTwoKeys, AreOncePerNumber}
use Rattle.row_laws.specs.Next.{lasting_at, OwnFalls}
use Rattle.sorted_lists.specs.laws.Lists.{each-weaker}
use Rattle.sorted_lists.specs.laws.Orders.{turned}
use Rattle.merge.specs.First.{IsFirstIn}
use Rattle.merge.proofs.OrderLemmas.{direction_order, same_key, tied_key}
use Rattle.merge.proofs.SourceLemmas.{own-target, keyed-own, keys-cmp, all-at, own-index, index-own}
use Rattle.merge.proofs.HeadLemmas.{two-less, two-tied}
use Rattle.merge.proofs.SoonLemmas.{first-same}

-- ---- a list in the order of a direction

module _ (direction : Direction) where
  abbrev pub Rises : List Row → Type 0
  Rises [] = Unit {0}
  Rises (x ∷ xs) = AllByRecursion (λ (y : Row). direction_cmp direction (target x.change) (target y.change) ≡ Less) xs × Rises xs

  abbrev pub HasKey : List ℕ → List Row → Type 0
  HasKey key [] = ⊥
  HasKey key (x ∷ xs) = (target x.change ≡ key) ⊎ HasKey key xs

  above : (x : Row) (key : List ℕ) (xs : List Row) → AllByRecursion (λ (y : Row). direction_cmp direction (target x.change) (target y.change) ≡ Less) xs
      → HasKey key xs → direction_cmp direction (target x.change) key ≡ Less
  above x key [] all has = absurd has
  above x key (y ∷ ys) all has = elim has [
    | inl eq ↦ ap (direction_cmp direction (target x.change)) (sym eq) ∙ all.0
    | inr more ↦ above x key ys all.1 more
  ]

  none-of : (o : Option Row) → ((r : Row) → o ≡ Some r → ⊥) → o ≡ None
  none-of None contra = refl
  none-of (Some r) contra = absurd (contra r refl)

  pub walk : (has : List ℕ → Option Row) (asked : List ℕ → Bool) (xs : List Row) → Rises xs
      → AllByRecursion (λ (x : Row). has (target x.change) ≡ Some x) xs
      → ((key : List ℕ) → asked key ≡ true → (r : Row) → has key ≡ Some r → HasKey key xs)
      → IsFirstIn direction has asked (first_of (filter (λ (row : Row). asked (target row.change)) xs))
  walk has asked [] rise held within = λ key asks. none-of (has key) (λ r is. within key asks r is)
  walk has asked (x ∷ xs) rise held within = by (walk has asked xs rise.1 held.1) (asked (target x.change)) refl
    where
      rest : asked (target x.change) ≡ false → (key : List ℕ) → asked key ≡ true → (r : Row) → has key ≡ Some r → HasKey key xs
      rest off key asks r is = elim (within key asks r is) [
        | inl eq ↦ absurd (true≢false (sym asks ∙ ap asked (sym eq) ∙ off))
        | inr more ↦ more
      ]

      below : (key : List ℕ) → direction_cmp direction key (target x.change) ≡ Less → HasKey key (x ∷ xs) → ⊥
      below key less here = elim here [
        | inl eq ↦ two-tied (direction_cmp direction key (target x.change)) less
            (ap (λ (k : List ℕ). direction_cmp direction k (target x.change)) (sym eq) ∙ tied_key direction (target x.change))
        | inr more ↦ two-less (direction_cmp direction key (target x.change)) less
            (turned (direction_order direction) (target x.change) key Less (above x key xs rise.0 more))
      ]

      by : (((key : List ℕ) → asked key ≡ true → (r : Row) → has key ≡ Some r → HasKey key xs)
          → IsFirstIn direction has asked (first_of (filter (λ (row : Row). asked (target row.change)) xs)))
          → (b : Bool) → asked (target x.change) ≡ b
          → IsFirstIn direction has asked (first_of (cond b (x ∷ filter (λ (row : Row). asked (target row.change)) xs) (filter (λ (row : Row). asked (target row.change)) xs)))
      by more true is = (is, held.0, λ key asks less. none-of (has key) (λ r there. below key less (within key asks r there)))
      by more false is = more (rest is)

  pub first-unique : (f : List ℕ → Option Row) (asked : List ℕ → Bool) (one other : Option Row)
      → IsFirstIn direction f asked one → IsFirstIn direction f asked other → one ≡ other
  first-unique f asked None None a b = refl
  first-unique f asked None (Some y) a b = sym (a (target y.change) b.0) ∙ b.1
  first-unique f asked (Some x) None a b = sym a.1 ∙ b (target x.change) a.0
  first-unique f asked (Some x) (Some y) a b = by (direction_cmp direction (target x.change) (target y.change)) refl
    where
      by : (r : Ordering) → direction_cmp direction (target x.change) (target y.change) ≡ r → Some x ≡ Some y
      by Less is = let none : Some x ≡ None = sym a.1 ∙ b.2 (target x.change) a.0 is in absurd cc
      by Greater is =
          let none : Some y ≡ None = sym b.1 ∙ a.2 (target y.change) b.0 (turned (direction_order direction) (target x.change) (target y.change) Greater is) in
          absurd cc
      by Equal is = sym a.1 ∙ ap f (same_key direction (target x.change) (target y.change) is) ∙ b.1

-- ---- a set of rows of keys

both-each : (P Q R : Row → Type 0) → ((x : Row) → P x → Q x → R x) → (xs : List Row) → AllByRecursion P xs → AllByRecursion Q xs → AllByRecursion R xs
both-each P Q R so [] one two = tt
both-each P Q R so (x ∷ xs) one two = (so x one.0 two.0, both-each P Q R so xs one.1 two.1)

index-each : (P : Row → Type 0) (xs : List Row) → ((i : ℕ) (r : Row) → slice_get xs i ≡ Some r → P r) → AllByRecursion P xs
index-each P [] so = tt
index-each P (x ∷ xs) so = (so 0 x refl, index-each P xs (λ i r is. so (suc i) r is))

up-rises : (xs : List Row) → IsStrictlySortedBy row_cmp xs → AllByRecursion (λ x. is_key_row x ≡ true) xs → Rises forward xs
unfolding IsStrictlySortedBy
up-rises [] rise keys = tt
up-rises (x ∷ xs) rise keys = (
  both-each _ _ _ (λ y less keyed. sym (keys-cmp x y keys.0 keyed) ∙ less) xs rise.0 keys.1,
  up-rises xs rise.1 keys.1,
)

held-each : (xs : List Row) → IsStrictlySortedBy row_cmp xs → AllByRecursion (λ x. is_key_row x ≡ true) xs
    → AllByRecursion (λ (x : Row). own_at (target x.change) xs ≡ Some x) xs
held-each xs rise keys =
    index-each _ xs (λ i r is. index-own (target r.change) xs i r rise is (keyed-own r (all-at (λ x. is_key_row x ≡ true) xs i r keys is)))

index-has : (direction : Direction) (key : List ℕ) (xs : List Row) (i : ℕ) (r : Row) → slice_get xs i ≡ Some r → target r.change ≡ key → HasKey direction key xs
index-has direction key [] i r is at = let e : None ≡ Some r = is in absurd cc
index-has direction key (x ∷ xs) zero r is at = inl (ap (λ (y : Row). target y.change) (let e : Some x ≡ Some r = is in let s : x ≡ r = cc in s) ∙ at)
index-has direction key (x ∷ xs) (suc i) r is at = inr (index-has direction key xs i r is at)

own-has : (direction : Direction) (key : List ℕ) (xs : List Row) (r : Row) → own_at key xs ≡ Some r → HasKey direction key xs
own-has direction key xs r is =
    let stands = own-index key xs r is in
    index-has direction key xs stands.index r stands.there (own-target r key stands.own)

-- ---- the other way round

each-last : (P : Row → Type 0) (xs : List Row) (x : Row) → AllByRecursion P xs → P x → AllByRecursion P (xs ++ x ∷ [])
each-last P [] x all last = (last, tt)
each-last P (y ∷ ys) x all last = (all.0, each-last P ys x all.1 last)

rises-last : (xs : List Row) (x : Row) → Rises backward xs → AllByRecursion (λ (y : Row). direction_cmp backward (target y.change) (target x.change) ≡ Less) xs
    → Rises backward (xs ++ x ∷ [])
rises-last [] x rise all = (tt, tt)
rises-last (y ∷ ys) x rise all = (each-last _ ys x rise.0 all.0, rises-last ys x rise.1 all.1)

has-left : (key : List ℕ) (xs ys : List Row) → HasKey backward key xs → HasKey backward key (xs ++ ys)
has-left key [] ys has = absurd has
has-left key (x ∷ xs) ys has = elim has [ inl eq ↦ inl eq | inr more ↦ inr (has-left key xs ys more) ]

has-right : (key : List ℕ) (xs ys : List Row) → HasKey backward key ys → HasKey backward key (xs ++ ys)
has-right key [] ys has = has
has-right key (x ∷ xs) ys has = inr (has-right key xs ys has)

module _ (turn : (x : Row) (xs : List Row) → reverse (x ∷ xs) ≡ reverse xs ++ x ∷ []) where
  each-reverse : (P : Row → Type 0) (xs : List Row) → AllByRecursion P xs → AllByRecursion P (reverse xs)
  each-reverse P [] all = tt
  each-reverse P (x ∷ xs) all = subst (AllByRecursion P) (sym (turn x xs)) (each-last P (reverse xs) x (each-reverse P xs all.1) all.0)

  rises-reverse : (xs : List Row) → Rises forward xs → Rises backward (reverse xs)
  rises-reverse [] rise = tt
  rises-reverse (x ∷ xs) rise =
      subst (Rises backward) (sym (turn x xs))
      (rises-last (reverse xs) x (rises-reverse xs rise.1)
      (each-reverse _ xs (each-weaker (λ y less. ap ordering_reverse (turned (direction_order forward) (target x.change) (target y.change) Less less)) xs rise.0)))

  has-reverse : (key : List ℕ) (xs : List Row) → HasKey forward key xs → HasKey backward key (reverse xs)
  has-reverse key [] has = absurd has
  has-reverse key (x ∷ xs) has =
      subst (HasKey backward key) (sym (turn x xs))
      (elim has [ inl eq ↦ has-right key (reverse xs) (x ∷ []) (inl eq) | inr more ↦ has-left key (reverse xs) (x ∷ []) (has-reverse key xs more) ])

-- ---- no number has a key twice

two-apart : (x y : Row) → row_cmp x y ≡ Less → AreTwoKeys x y
two-apart x y less number one two at =
    two-tied (slice_cmp nat_cmp (target x.change) (target y.change)) (sym (keys-cmp x y one two) ∙ less)
    (ap (λ (k : List ℕ). slice_cmp nat_cmp k (target y.change)) at ∙ tied_key forward (target y.change))

once-source : (xs : List Row) → IsStrictlySortedBy row_cmp xs → AreOncePerNumber xs
unfolding IsStrictlySortedBy
once-source [] rise = tt
once-source (x ∷ xs) rise = (each-weaker (two-apart x) xs rise.0, once-source xs rise.1)

each-append : (P : Row → Type 0) (xs ys : List Row) → AllByRecursion P xs → AllByRecursion P ys → AllByRecursion P (xs ++ ys)
each-append P [] ys one two = two
each-append P (x ∷ xs) ys one two = (one.0, each-append P xs ys one.1 two)

once-append : (xs ys : List Row) → AreOncePerNumber xs → AreOncePerNumber ys → AllByRecursion (λ (x : Row). AllByRecursion (AreTwoKeys x) ys) xs
    → AreOncePerNumber (xs ++ ys)
once-append [] ys one two all = two
once-append (x ∷ xs) ys one two all = (each-append (AreTwoKeys x) xs ys one.0 all.0, once-append xs ys one.1 two all.1)

-- the newest of a key's rows has at least the number of each
IsMost : ℕ → Option Row → Type 0
IsMost n None = ⊥
IsMost n (Some z) = n ≤ z.number

most-left : (x : Row) (o : Option Row) → IsMost x.number (newer (Some x) o)
unfolding IsMost
most-left x None = omega arith
most-left x (Some y) = by (ltb y.number x.number) refl
  where
    by : (b : Bool) → ltb y.number x.number ≡ b → IsMost x.number (cond b (Some x) (Some y))
    by true is = omega arith
    by false is = let up = ltb-false y.number x.number is in up

most-right : (n : ℕ) (o p : Option Row) → IsMost n p → IsMost n (newer o p)
unfolding IsMost
most-right n o None most = absurd most
most-right n None (Some y) most = most
most-right n (Some x) (Some y) most = by (ltb y.number x.number) refl
  where
    by : (b : Bool) → ltb y.number x.number ≡ b → IsMost n (cond b (Some x) (Some y))
    by true is = let less = ltb-true y.number x.number is in omega (arith, less, most)
    by false is = most

own-most : (key : List ℕ) (xs : List Row) → AllByRecursion (λ (y : Row). is_own key y ≡ true → IsMost y.number (own_at key xs)) xs
own-most key [] = tt
own-most key (x ∷ xs) = (
  λ own. subst (λ b. IsMost x.number (newer (cond b (Some x) None) (own_at key xs))) (sym own) (most-left x (own_at key xs)),
  each-weaker (λ y most own. most-right y.number (cond (is_own key x) (Some x) None) (own_at key xs) (most own)) xs (own-most key xs),
)

across : (rows far : List Row) → IsStrictlySortedBy row_cmp rows
    → ((key : List ℕ) (own other : Row) → own_at key rows ≡ Some own → own_at key far ≡ Some other → other.number < own.number)
    → AllByRecursion (λ (x : Row). AllByRecursion (AreTwoKeys x) far) rows
across rows far rise falls = index-each _ rows (λ i x is. each x i is)
  where
    one : (x y : Row) (i : ℕ) → slice_get rows i ≡ Some x → (is_own (target x.change) y ≡ true → IsMost y.number (own_at (target x.change) far)) → AreTwoKeys x y
    one x y i is most number kx ky at =
        let mine : is_own (target x.change) y ≡ true = subst (λ (k : List ℕ). is_own k y ≡ true) (sym at) (keyed-own y ky) in
        by (own_at (target x.change) far) refl (most mine)
      where
        by : (o : Option Row) → own_at (target x.change) far ≡ o → IsMost y.number o → ⊥
        by None e most' = unfold IsMost in most'
        by (Some z) e most' =
            let up : y.number ≤ z.number = unfold IsMost in most' in
            let down = falls (target x.change) x z (index-own (target x.change) rows i x rise is (keyed-own x kx)) e in
            omega (arith, up, down, number)

    each : (x : Row) (i : ℕ) → slice_get rows i ≡ Some x → AllByRecursion (AreTwoKeys x) far
    each x i is = each-weaker (λ y most. one x y i is most) far (own-most (target x.change) far)

pub once-all : (sources : List (List Row)) → AllByRecursion AreRows sources → ((key : List ℕ) → OwnFalls key sources) → AreOncePerNumber (all_rows sources)
once-all [] known falls = tt
once-all (rows ∷ farther) known falls =
    once-append rows (all_rows farther) (once-source rows known.0.rising) (once-all farther known.1 (λ key. (falls key).1))
    (across rows (all_rows farther) known.0.rising (λ key. (falls key).0))

-- ---- the list of merged rows

kept-each : (xs : List Row) → AllByRecursion (λ x. is_key_row x ≡ true) (filter is_key_row xs)
kept-each [] = tt
kept-each (x ∷ xs) =
    elim (is_key_row x) as (λ b. is_key_row x ≡ b → AllByRecursion (λ y. is_key_row y ≡ true) (cond b (x ∷ filter is_key_row xs) (filter is_key_row xs)))
    [ true ↦ λ is. (is, kept-each xs) | false ↦ λ is. kept-each xs ] refl

module _ (turn : (x : Row) (xs : List Row) → reverse (x ∷ xs) ≡ reverse xs ++ x ∷ []) where
  listed : (direction : Direction) (position : Position) (xs : List Row) → IsStrictlySortedBy row_cmp xs → AllByRecursion (λ x. is_key_row x ≡ true) xs
      → IsFirstIn direction (λ key. own_at key xs) (is_reached direction position)
      (first_of (filter (λ (row : Row). is_reached direction position (target row.change)) (directed direction xs)))
  listed forward position xs rise keys =
      walk forward (λ key. own_at key xs) (is_reached forward position) xs (up-rises xs rise keys) (held-each xs rise keys)
      (λ key asks r is. own-has forward key xs r is)
  listed backward position xs rise keys =
      walk backward (λ key. own_at key xs) (is_reached backward position) (reverse xs) (rises-reverse turn xs (up-rises xs rise keys))
      (each-reverse turn _ xs (held-each xs rise keys))
      (λ key asks r is. has-reverse turn key xs (own-has forward key xs r is))

  -- the row of the first key is the first of what is left of the list
  pub first-listed : (direction : Direction) (position : Position) (rows : List Row) (found : Option Row)
      → IsStrictlySortedBy row_cmp (key_rows rows) → ((key : List ℕ) → own_at key (key_rows rows) ≡ lasting_at rows key)
      → IsFirstIn direction (lasting_at rows) (is_reached direction position) found → found ≡ next_by direction position rows
  first-listed direction position rows found rise lasting first =
      first-unique direction (lasting_at rows) (is_reached direction position) found (next_by direction position rows) first
      (first-same direction (λ key. own_at key (key_rows rows)) (lasting_at rows) (is_reached direction position) (next_by direction position rows)
      (λ key asks. lasting key) (listed direction position (key_rows rows) rise (kept-each (newest rows))))

reverse-onto : (xs ys : List Row) → reverse_aux xs ys ≡ reverse_aux xs [] ++ ys
reverse-onto [] ys = refl
reverse-onto (x ∷ xs) ys =
    reverse-onto xs (x ∷ ys) ∙ sym (append_assoc (reverse_aux xs []) (x ∷ []) ys) ∙ ap (λ (l : List Row). l ++ ys) (sym (reverse-onto xs (x ∷ [])))

pub reverse-more : (x : Row) (xs : List Row) → reverse (x ∷ xs) ≡ reverse xs ++ x ∷ []
reverse-more x xs = reverse-onto xs (x ∷ [])
