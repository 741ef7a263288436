-- The first pair of what is left of a cursor's list.
use Rattle.std.proofs.Common.{◌≡◌, ℕ, Bool, true, false, true≢false, cond, ◌&&◌, T, List, [], ◌∷◌, ◌++◌, reverse, Option, Some, None, refl, sym, ap, ◌∙◌, append_assoc}
use mathlib.Core.List.{reverse_aux}
use Rattle.std.specs.Cmp.{first_so, second_so}
use Rattle.std.specs.List.{filter}
use Rattle.std.specs.declared.cmp.Ordering.{Ordering}
use Rattle.std.specs.declared.cmp.Ordering.TheVariants.{Less, Equal, Greater}
use Rattle.std.specs.Ordering.{nat_cmp, is_lt, is_eq, ordering_reverse}
use Rattle.std.specs.Cmp.Lexicographic.{slice_cmp, nat_list_cmp_total}
use Rattle.std.proofs.lemmas.Cmp.{tied_itself}
use Rattle.std.specs.FinMap as fin_map
use Rattle.std.specs.FinMap.{IsAntisymmetric, slice_cmp-IsAntisymmetric, nat_cmp-IsAntisymmetric}
use Rattle.std.specs.FinMap.Entries.{below_all, is_sorted, is_sorted-where_key, find-where_key}
use Rattle.sorted_lists.specs.laws.Orders.{turned}
use Rattle.sorted_lists.specs.laws.Parts.{filter-append}
use Rattle.hse_rows.specs.writes.Change.{covers}
use Rattle.hse_rows.specs.script.Cursor.{CursorState, Direction, forward, backward, Pair, directed, direction_cmp, is_reached, is_in_range, first_of, read_by}
use Rattle.cursors.specs.Pairs.{is_asked}

abbrev key_cmp : List ℕ → List ℕ → Ordering
key_cmp = slice_cmp nat_cmp

same_key : IsAntisymmetric key_cmp
same_key = slice_cmp-IsAntisymmetric nat_cmp-IsAntisymmetric

is-true : (b : Bool) → T b → b ≡ true
is-true true h = refl
is-true false h = absurd h

less-is : (r : Ordering) → is_lt r ≡ true → r ≡ Less
less-is Less h = refl
less-is Equal h = absurd (true≢false (sym h))
less-is Greater h = absurd (true≢false (sym h))

abbrev Has : List Pair → Pair → Type 0
Has es y = fin_map.find key_cmp y.0 es ≡ Some y.1

no-pair : {X : Type 0} (x : X) → None ≡ Some x → ⊥
no-pair x is = cc

some-same : {X : Type 0} (x y : X) → Some x ≡ Some y → x ≡ y
some-same x y is = cc

below-found : (k : List ℕ) (es : List Pair) (y : Pair) → below_all key_cmp k es ≡ true → Has es y → key_cmp k y.0 ≡ Less
below-found k [] y below has = absurd (no-pair y.1 has)
below-found k (e ∷ es) y below has =
    below-by (λ late. below-found k es y (second_so (is_lt (key_cmp k e.0)) (below_all key_cmp k es) below) late) (key_cmp y.0 e.0) refl
  where
    head : key_cmp k e.0 ≡ Less
    head = less-is (key_cmp k e.0) (first_so (is_lt (key_cmp k e.0)) (below_all key_cmp k es) below)

    late : (r : Ordering) → key_cmp y.0 e.0 ≡ r → is_eq r ≡ false → Has es y
    late r is apart = sym (ap (λ (b : Bool). cond b (Some e.1) (fin_map.find key_cmp y.0 es)) (ap is_eq is ∙ apart)) ∙ has

    below-by : (Has es y → key_cmp k y.0 ≡ Less) → (r : Ordering) → key_cmp y.0 e.0 ≡ r → key_cmp k y.0 ≡ Less
    below-by rest Equal is = ap (key_cmp k) (same_key y.0 e.0 is) ∙ head
    below-by rest Less is = rest (late Less is refl)
    below-by rest Greater is = rest (late Greater is refl)

has-head : (e : Pair) (es : List Pair) → Has (e ∷ es) e
has-head e es = ap (λ (r : Ordering). cond (is_eq r) (Some e.1) (fin_map.find key_cmp e.0 es)) (tied_itself nat_list_cmp_total e.0)

module _ (e : Pair) (es : List Pair) (sorted : is_sorted key_cmp (e ∷ es) ≡ true) where
  above : (y : Pair) → Has es y → key_cmp e.0 y.0 ≡ Less
  above y has = below-found e.0 es y (first_so (below_all key_cmp e.0 es) (is_sorted key_cmp es) sorted) has

  rest-sorted : is_sorted key_cmp es ≡ true
  rest-sorted = second_so (below_all key_cmp e.0 es) (is_sorted key_cmp es) sorted

  has-tail : (y : Pair) → Has es y → Has (e ∷ es) y
  has-tail y has =
      ap (λ (r : Ordering). cond (is_eq r) (Some e.1) (fin_map.find key_cmp y.0 es)) (turned nat_list_cmp_total e.0 y.0 Less (above y has)) ∙ has

  -- a pair of the list is the first, or stands in the rest
  parted : {C : Type 0} (x : Pair) → Has (e ∷ es) x → (e ≡ x → C) → (Has es x → C) → C
  parted {C} x has one other = by (key_cmp x.0 e.0) refl
    where
      late : (r : Ordering) → key_cmp x.0 e.0 ≡ r → is_eq r ≡ false → C
      late r is apart =
          other (sym (ap (λ (b : Bool). cond b (Some e.1) (fin_map.find key_cmp x.0 es)) (ap is_eq is ∙ apart)) ∙ has)

      by : (r : Ordering) → key_cmp x.0 e.0 ≡ r → C
      by Equal is =
          let value : e.1 ≡ x.1 =
          some-same e.1 x.1 (sym (ap (λ (r : Ordering). cond (is_eq r) (Some e.1) (fin_map.find key_cmp x.0 es)) is) ∙ has) in
          one (λ i. (sym (same_key x.0 e.0 is) i, value i))
      by Less is = late Less is refl
      by Greater is = late Greater is refl

first-up : (ys : List Pair) (x : Pair) → is_sorted key_cmp ys ≡ true → Has ys x
    → ((y : Pair) → Has ys y → key_cmp y.0 x.0 ≡ Less → ⊥) → first_of ys ≡ Some x
first-up [] x sorted has none = absurd (no-pair x.1 has)
first-up (e ∷ es) x sorted has none =
    parted e es sorted x has (λ is. ap Some is) (λ late. absurd (none e (has-head e es) (above e es sorted x late)))

reverse-onto : (xs ys : List Pair) → reverse_aux xs ys ≡ reverse_aux xs [] ++ ys
reverse-onto [] ys = refl
reverse-onto (x ∷ xs) ys =
    reverse-onto xs (x ∷ ys) ∙ sym (append_assoc (reverse_aux xs []) (x ∷ []) ys) ∙ ap (λ (l : List Pair). l ++ ys) (sym (reverse-onto xs (x ∷ [])))

reverse-more : (x : Pair) (xs : List Pair) → reverse (x ∷ xs) ≡ reverse xs ++ x ∷ []
reverse-more x xs = reverse-onto xs (x ∷ [])

first-append : (xs ys : List Pair) (x : Pair) → first_of xs ≡ Some x → first_of (xs ++ ys) ≡ Some x
first-append [] ys x is = absurd (no-pair x is)
first-append (y ∷ xs) ys x is = is

first-down : (ys : List Pair) (x : Pair) → is_sorted key_cmp ys ≡ true → Has ys x
    → ((y : Pair) → Has ys y → key_cmp x.0 y.0 ≡ Less → ⊥) → first_of (reverse ys) ≡ Some x
first-down [] x sorted has none = absurd (no-pair x.1 has)
first-down (e ∷ []) x sorted has none = parted e [] sorted x has (λ is. ap Some is) (λ late. absurd (no-pair x.1 late))
first-down (e ∷ z ∷ zs) x sorted has none =
    let second = has-head z zs in
    parted e (z ∷ zs) sorted x has
    (λ is.
    absurd (none z (has-tail e (z ∷ zs) sorted z second)
    (ap (λ (p : Pair). key_cmp p.0 z.0) (sym is) ∙ above e (z ∷ zs) sorted z second)))
    (λ late.
    ap first_of (reverse-more e (z ∷ zs))
    ∙ first-append (reverse (z ∷ zs)) (e ∷ []) x
    (first-down (z ∷ zs) x (rest-sorted e (z ∷ zs) sorted) late (λ y there. none y (has-tail e (z ∷ zs) sorted y there))))

first-directed : (direction : Direction) (ys : List Pair) (x : Pair) → is_sorted key_cmp ys ≡ true → Has ys x
    → ((y : Pair) → Has ys y → direction_cmp direction y.0 x.0 ≡ Less → ⊥) → first_of (directed direction ys) ≡ Some x
first-directed forward ys x sorted has none = first-up ys x sorted has none
first-directed backward ys x sorted has none =
    first-down ys x sorted has (λ y there less. none y there (ap ordering_reverse (turned nat_list_cmp_total x.0 y.0 Less less)))

none-directed : (direction : Direction) (ys : List Pair) → ((y : Pair) → Has ys y → ⊥) → first_of (directed direction ys) ≡ None
none-directed forward [] none = refl
none-directed backward [] none = refl
none-directed direction (e ∷ es) none = absurd (none e (has-head e es))

filter-reverse : (p : Pair → Bool) (xs : List Pair) → filter p (reverse xs) ≡ reverse (filter p xs)
filter-reverse p [] = refl
filter-reverse p (x ∷ xs) =
    ap (filter p) (reverse-more x xs) ∙ filter-append p (reverse xs) (x ∷ []) ∙ ap (λ (l : List Pair). l ++ filter p (x ∷ [])) (filter-reverse p xs)
    ∙ elim (p x) as (λ (b : Bool). reverse (filter p xs) ++ cond b (x ∷ []) [] ≡ reverse (cond b (x ∷ filter p xs) (filter p xs))) [
      | true ↦ sym (reverse-more x (filter p xs))
      | false ↦ append_nil (reverse (filter p xs))
    ]
  where
    append_nil : (l : List Pair) → l ++ [] ≡ l
    append_nil [] = refl
    append_nil (y ∷ l) = ap (λ (m : List Pair). y ∷ m) (append_nil l)

filter-directed : (direction : Direction) (p : Pair → Bool) (xs : List Pair) → filter p (directed direction xs) ≡ directed direction (filter p xs)
filter-directed forward p xs = refl
filter-directed backward p xs = filter-reverse p xs

record Kept (one two : Bool) (got : Option (List ℕ)) (value : List ℕ) : Type 0 where
  first : one ≡ true
  second : two ≡ true
  is : got ≡ Some value

kept : (one two : Bool) (got : Option (List ℕ)) (value : List ℕ) → cond one (cond two got None) None ≡ Some value → Kept one two got value
kept true true got value is = record { first = refl; second = refl; is = is }
kept true false got value is = absurd (no-pair value is)
kept false two got value is = absurd (no-pair value is)

module _ (c : CursorState) where
  abbrev wanted : List ℕ → Bool
  wanted key = is_reached c.direction c.position key && is_in_range c.last key

  abbrev left : List Pair
  left = filter (λ pair. wanted pair.0) (filter (λ pair. covers c.prefix pair.0) (fin_map.entries c.contents))

  left-sorted : is_sorted key_cmp left ≡ true
  left-sorted =
      is-true (is_sorted key_cmp left)
      (is_sorted-where_key key_cmp wanted (filter (λ pair. covers c.prefix pair.0) (fin_map.entries c.contents))
      (is_sorted-where_key key_cmp (covers c.prefix) (fin_map.entries c.contents) (fin_map.entries_sorted c.contents)))

  left-found : (key : List ℕ) → fin_map.find key_cmp key left ≡ cond (wanted key) (cond (covers c.prefix key) (fin_map.get c.contents key) None) None
  left-found key =
      find-where_key key_cmp wanted key (λ x is. ap wanted (sym (same_key key x is))) (filter (λ pair. covers c.prefix pair.0) (fin_map.entries c.contents))
      ∙ ap (λ (o : Option (List ℕ)). cond (wanted key) o None)
      (find-where_key key_cmp (covers c.prefix) key (λ x is. ap (covers c.prefix) (sym (same_key key x is))) (fin_map.entries c.contents)
      ∙ ap (λ (o : Option (List ℕ)). cond (covers c.prefix key) o None) (sym (fin_map.get-entries c.contents key)))

  left-parts : (y : Pair) → Has left y → Kept (wanted y.0) (covers c.prefix y.0) (fin_map.get c.contents y.0) y.1
  left-parts y has = kept (wanted y.0) (covers c.prefix y.0) (fin_map.get c.contents y.0) y.1 (sym (left-found y.0) ∙ has)

  both : (a b : Bool) → a ≡ true → b ≡ true → (a && b) ≡ true
  both a b one two = (λ i. one i && two i)

  asked : (y : Pair) → Has left y → is_asked c.prefix c.last y.0 ≡ true
  asked y has =
      let parts = left-parts y has in
      both (covers c.prefix y.0) (is_in_range c.last y.0) parts.second
      (second_so (is_reached c.direction c.position y.0) (is_in_range c.last y.0) parts.first)

  reached : (y : Pair) → Has left y → is_reached c.direction c.position y.0 ≡ true
  reached y has = first_so (is_reached c.direction c.position y.0) (is_in_range c.last y.0) (left-parts y has).first

  read-left : read_by c ≡ first_of (directed c.direction left)
  read-left =
      ap first_of (filter-directed c.direction (λ pair. wanted pair.0) (filter (λ pair. covers c.prefix pair.0) (fin_map.entries c.contents)))

  pub read-some : (key value : List ℕ) → fin_map.get c.contents key ≡ Some value → is_asked c.prefix c.last key ≡ true
      → is_reached c.direction c.position key ≡ true
      → ((other held : List ℕ) → fin_map.get c.contents other ≡ Some held → is_asked c.prefix c.last other ≡ true
      → is_reached c.direction c.position other ≡ true → direction_cmp c.direction other key ≡ Less → ⊥)
      → read_by c ≡ Some (key, value)
  read-some key value held asks reaches none =
      read-left
      ∙ first-directed c.direction left (key, value) left-sorted
      (left-found key
      ∙ (λ i.
      cond (both (is_reached c.direction c.position key) (is_in_range c.last key) reaches (second_so (covers c.prefix key) (is_in_range c.last key) asks) i)
      (cond (first_so (covers c.prefix key) (is_in_range c.last key) asks i) (fin_map.get c.contents key) None) None)
      ∙ held)
      (λ y has less. none y.0 y.1 (left-parts y has).is (asked y has) (reached y has) less)

  pub read-none : ((other held : List ℕ) → fin_map.get c.contents other ≡ Some held → is_asked c.prefix c.last other ≡ true
      → is_reached c.direction c.position other ≡ true → ⊥) → read_by c ≡ None
  read-none none = read-left ∙ none-directed c.direction left (λ y has. none y.0 y.1 (left-parts y has).is (asked y has) (reached y has))
