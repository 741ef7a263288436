-- Parts in a row, and which of them a row belongs to.
use Rattle.std.proofs.Common.{◌≡◌, ℕ, zero, suc, ◌+◌, ◌<◌, ◌≤◌, Bool, true, false, true≢false, cond, List, [], ◌∷◌, ◌++◌, length, get_or, take, drop, Some, refl, ap, sym, ◌∙◌, subst, arith, append_assoc, append-nil}
use Rattle.std.proofs.lemmas.Grind.{flat_map-append}
use Rattle.std.proofs.lemmas.List.{length-append}
use Rattle.std.proofs.lemmas.Option.{slice_get-get_or}
use Rattle.std.specs.declared.cmp.Ordering.{Ordering}
use Rattle.std.specs.declared.cmp.Ordering.TheVariants.{Less, Equal, Greater}
use Rattle.std.specs.Ordering.{is_lt, is_eq, is_gt}
use Rattle.std.specs.List.{AllByRecursion, flat_map, filter, find, slice_get}
use Rattle.std.specs.List.Sorted.{IsStrictlySortedBy}
use Rattle.sorted_lists.specs.Places.{with_one}
use Rattle.sorted_lists.specs.laws.Parts.{rising-front, rising-rest, before-below, from-above, with_one-front, with_one-rest, filter-append, find-rest, find-front}
use Rattle.sorted_lists.specs.laws.Lists.{each-weaker, filter-all, filter-none}
use Rattle.sorted_lists.specs.laws.Orders.{turned}
use Rattle.ingest_tree.specs.declared.store_row.StoreRow.{StoreRow}
use Rattle.ingest_tree.specs.Rows.{store_row_cmp}
use Rattle.ingest_tree.specs.Parts.{IsChild, IsWithin}
use Rattle.ingest_tree.proofs.OrderLemmas.{order, alike}

abbrev Rising : List StoreRow → Type 0
Rising xs = IsStrictlySortedBy store_row_cmp xs

greater-is : (r : Ordering) → is_gt r ≡ true → r ≡ Greater
greater-is Less is = absurd (true≢false (sym is))
greater-is Equal is = absurd (true≢false (sym is))
greater-is Greater is = refl

begins-with : {X : Type 0} (xs : List X) (h : X) → slice_get xs 0 ≡ Some h → xs ≡ h ∷ drop 1 xs
begins-with [] h at = absurd cc
begins-with (x ∷ xs) h at = ap (λ y. y ∷ xs) cc

module _ {X : Type 0} (rows : X → List StoreRow) where
  flat-from : (ps : List X) (i : ℕ) (d : X) → i < length ps → flat_map rows (drop i ps) ≡ rows (get_or ps i d) ++ flat_map rows (drop (suc i) ps)
  flat-from [] i d in' = absurd (omega arith)
  flat-from (p ∷ ps) zero d in' = refl
  flat-from (p ∷ ps) (suc i) d in' = flat-from ps i d (omega arith)

  flat-cut : (ps : List X) (i : ℕ) → flat_map rows ps ≡ flat_map rows (take i ps) ++ flat_map rows (drop i ps)
  flat-cut ps zero = refl
  flat-cut [] (suc i) = refl
  flat-cut (p ∷ ps) (suc i) = ap (λ l. rows p ++ l) (flat-cut ps i) ∙ sym (append_assoc (rows p) (flat_map rows (take i ps)) (flat_map rows (drop i ps)))

  -- one part among the others
  pub flat-split : (ps : List X) (i : ℕ) (d : X) → i < length ps
      → flat_map rows ps ≡ flat_map rows (take i ps) ++ (rows (get_or ps i d) ++ flat_map rows (drop (suc i) ps))
  flat-split ps i d in' = flat-cut ps i ∙ ap (λ l. flat_map rows (take i ps) ++ l) (flat-from ps i d in')

  from-head : (ps : List X) (i : ℕ) (d : X) (h : StoreRow) → i < length ps → slice_get (rows (get_or ps i d)) 0 ≡ Some h
      → flat_map rows (drop i ps) ≡ h ∷ (drop 1 (rows (get_or ps i d)) ++ flat_map rows (drop (suc i) ps))
  from-head ps i d h in' at =
      flat-from ps i d in' ∙ ap (λ l. l ++ flat_map rows (drop (suc i) ps)) (begins-with (rows (get_or ps i d)) h at)

  -- a part that begins behind a row stands above it, with all that follow
  pub narrow-behind : (ps : List X) (i : ℕ) (d : X) (h x : StoreRow) → Rising (flat_map rows ps) → i < length ps
      → slice_get (rows (get_or ps i d)) 0 ≡ Some h → is_gt (store_row_cmp h x) ≡ true
      → AllByRecursion (λ other. store_row_cmp x other ≡ Less) (flat_map rows (drop i ps))
  narrow-behind ps i d h x rise in' at up =
      let head = from-head ps i d h in' at in
      let rest : Rising (flat_map rows (drop i ps)) = rising-rest order (flat_map rows (take i ps)) (flat_map rows (drop i ps)) (subst Rising (flat-cut ps i) rise) in
      subst (AllByRecursion (λ other. store_row_cmp x other ≡ Less)) (sym head)
      (from-above order h (drop 1 (rows (get_or ps i d)) ++ flat_map rows (drop (suc i) ps)) x (subst Rising head rest) (greater-is (store_row_cmp h x) up))

  -- what stands before one that does not is below it
  pub narrow-before : (ps : List X) (i : ℕ) (d : X) (h x : StoreRow) → Rising (flat_map rows ps) → i < length ps
      → slice_get (rows (get_or ps i d)) 0 ≡ Some h → is_gt (store_row_cmp h x) ≡ false
      → AllByRecursion (λ other. store_row_cmp other x ≡ Less) (flat_map rows (take i ps))
  narrow-before ps i d h x rise in' at up =
      before-below order (flat_map rows (take i ps)) h (drop 1 (rows (get_or ps i d)) ++ flat_map rows (drop (suc i) ps)) x
      (subst Rising (flat-cut ps i ∙ ap (λ l. flat_map rows (take i ps) ++ l) (from-head ps i d h in' at)) rise) up

  none-behind : (ps : List X) → flat_map rows (drop (length ps) ps) ≡ []
  none-behind [] = refl
  none-behind (p ∷ ps) = none-behind ps

  pub all-within : (ps : List X) (x : StoreRow) → 0 < length ps → IsWithin rows ps x 0 (length ps)
  all-within ps x some = record {
    some = some;
    within = omega arith;
    before = tt;
    behind = subst (AllByRecursion (λ other. store_row_cmp x other ≡ Less)) (sym (none-behind ps)) tt;
  }

  pub one-within : (ps : List X) (x : StoreRow) (low high : ℕ) → IsWithin rows ps x low high → high ≤ suc low → IsChild rows ps x low
  one-within ps x low high in' near =
      let some = in'.some in
      let same : high ≡ suc low = omega (arith, some, near) in
      let within = in'.within in
      record {
        within = omega (arith, some, within);
        before = in'.before;
        behind = subst (λ n. AllByRecursion (λ other. store_row_cmp x other ≡ Less) (flat_map rows (drop n ps))) same in'.behind;
      }

  -- a row more in the part that it belongs to
  pub with-child : (ps : List X) (x : StoreRow) (i : ℕ) (d : X) → IsChild rows ps x i
      → with_one store_row_cmp (flat_map rows ps) x
      ≡ flat_map rows (take i ps) ++ (with_one store_row_cmp (rows (get_or ps i d)) x ++ flat_map rows (drop (suc i) ps))
  with-child ps x i d child =
      ap (λ l. with_one store_row_cmp l x) (flat-split ps i d child.within)
      ∙ with_one-rest order (flat_map rows (take i ps)) (rows (get_or ps i d) ++ flat_map rows (drop (suc i) ps)) x child.before
      ∙ ap (λ l. flat_map rows (take i ps) ++ l) (with_one-front order (rows (get_or ps i d)) (flat_map rows (drop (suc i) ps)) x child.behind)

  -- rows of a part rise
  pub rising-child : (ps : List X) (i : ℕ) (d : X) → i < length ps → Rising (flat_map rows ps) → Rising (rows (get_or ps i d))
  rising-child ps i d in' rise =
      rising-front order (rows (get_or ps i d)) (flat_map rows (drop (suc i) ps))
      (rising-rest order (flat_map rows (take i ps)) (rows (get_or ps i d) ++ flat_map rows (drop (suc i) ps))
      (subst Rising (flat-split ps i d in') rise))

  module _ (ps : List X) (x : StoreRow) (low high m : ℕ) (d : X) (p : X) (rise : Rising (flat_map rows ps)) (in' : IsWithin rows ps x low high) (is : p ≡ get_or ps m d) (begins : 0 < length (rows p)) where
    head : slice_get (rows (get_or ps m d)) 0 ≡ Some (get_or (rows p) 0 x)
    head = ap (λ q. slice_get (rows q) 0) (sym is) ∙ slice_get-get_or (rows p) 0 x begins

    pub narrowed-behind : low < m → m < high → ((row : StoreRow) → slice_get (rows p) 0 ≡ Some row → is_gt (store_row_cmp row x) ≡ true) → IsWithin rows ps x low m
    narrowed-behind above below up =
        let within = in'.within in
        let inside : m < length ps = omega (arith, below, within) in
        record {
          some = above;
          within = omega (arith, below, within);
          before = in'.before;
          behind = narrow-behind ps m d (get_or (rows p) 0 x) x rise inside head (up (get_or (rows p) 0 x) (slice_get-get_or (rows p) 0 x begins));
        }

    pub narrowed-before : m < high → ((row : StoreRow) → slice_get (rows p) 0 ≡ Some row → is_gt (store_row_cmp row x) ≡ false) → IsWithin rows ps x m high
    narrowed-before below up =
        let within = in'.within in
        let inside : m < length ps = omega (arith, below, within) in
        record {
          some = below;
          within = within;
          before = narrow-before ps m d (get_or (rows p) 0 x) x rise inside head (up (get_or (rows p) 0 x) (slice_get-get_or (rows p) 0 x begins));
          behind = in'.behind;
        }

pub got : {X : Type 0} (ps : List X) (m : ℕ) (p : X) → slice_get ps m ≡ Some p → (d : X) → get_or ps m d ≡ p
got [] m p at d = absurd cc
got (q ∷ ps) zero p at d = cc
got (q ∷ ps) (suc m) p at d = got ps m p at d

-- what holds by the part at a place
pub at-place : {X C : Type 0} (ps : List X) (m : ℕ) → m < length ps → ((p : X) → slice_get ps m ≡ Some p → p ≡ get_or ps m p → C) → C
at-place [] m in' k = absurd (omega (arith, in'))
at-place (p ∷ ps) zero in' k = k p refl refl
at-place (p ∷ ps) (suc m) in' k = at-place ps m (omega (arith, in')) k

-- ---- a place in one part among others

pub get-rest : {X : Type 0} (xs ys : List X) (i : ℕ) → slice_get (xs ++ ys) (length xs + i) ≡ slice_get ys i
get-rest [] ys i = (let same : 0 + i ≡ i = omega arith in ap (slice_get ys) same)
get-rest (x ∷ xs) ys i = (let same : suc (length xs) + i ≡ suc (length xs + i) = omega arith in ap (slice_get (x ∷ xs ++ ys)) same) ∙ get-rest xs ys i

pub get-front : {X : Type 0} (xs ys : List X) (i : ℕ) (x : X) → slice_get xs i ≡ Some x → slice_get (xs ++ ys) i ≡ Some x
get-front [] ys i x at = absurd cc
get-front (y ∷ xs) ys zero x at = at
get-front (y ∷ xs) ys (suc i) x at = get-front xs ys i x at

module _ {X : Type 0} (rows : X → List StoreRow) (ps : List X) (i : ℕ) (p : X) (in' : i < length ps) (is : p ≡ get_or ps i p) where
  around : flat_map rows ps ≡ flat_map rows (take i ps) ++ (rows p ++ flat_map rows (drop (suc i) ps))
  around = flat-split rows ps i p in' ∙ ap (λ q. flat_map rows (take i ps) ++ (rows q ++ flat_map rows (drop (suc i) ps))) (sym is)

  pub get-child : (j : ℕ) (x : StoreRow) → slice_get (rows p) j ≡ Some x → slice_get (flat_map rows ps) (length (flat_map rows (take i ps)) + j) ≡ Some x
  get-child j x at =
      ap (λ l. slice_get l (length (flat_map rows (take i ps)) + j)) around
      ∙ get-rest (flat_map rows (take i ps)) (rows p ++ flat_map rows (drop (suc i) ps)) j
      ∙ get-front (rows p) (flat_map rows (drop (suc i) ps)) j x at

  pub rising-part : Rising (flat_map rows ps) → Rising (rows p)
  rising-part rise = subst (λ q. Rising (rows q)) (sym is) (rising-child rows ps i p in' rise)

  module _ (x : StoreRow) (child : IsChild rows ps x i) where
    -- what a walk finds
    pub find-child : find (λ row. is_eq (store_row_cmp row x)) (flat_map rows ps) ≡ find (λ row. is_eq (store_row_cmp row x)) (rows p)
    find-child =
        ap (find (λ row. is_eq (store_row_cmp row x))) around
        ∙ find-rest (λ row. is_eq (store_row_cmp row x)) (flat_map rows (take i ps)) (rows p ++ flat_map rows (drop (suc i) ps))
        (each-weaker (λ row less. ap is_eq less) (flat_map rows (take i ps)) child.before)
        ∙ find-front (λ row. is_eq (store_row_cmp row x)) (rows p) (flat_map rows (drop (suc i) ps))
        (each-weaker (λ row less. ap is_eq (turned order x row Less less)) (flat_map rows (drop (suc i) ps)) child.behind)

    -- how many rows are before
    pub count-child : length (filter (λ row. is_lt (store_row_cmp row x)) (flat_map rows ps))
        ≡ length (flat_map rows (take i ps)) + length (filter (λ row. is_lt (store_row_cmp row x)) (rows p))
    count-child =
        let before = λ (row : StoreRow). is_lt (store_row_cmp row x) in
        let front : filter before (flat_map rows (take i ps)) ≡ flat_map rows (take i ps) =
        filter-all before (flat_map rows (take i ps)) (each-weaker (λ row less. ap is_lt less) (flat_map rows (take i ps)) child.before) in
        let back : filter before (flat_map rows (drop (suc i) ps)) ≡ [] =
        filter-none before (flat_map rows (drop (suc i) ps)) (each-weaker (λ row less. ap is_lt (turned order x row Less less)) (flat_map rows (drop (suc i) ps)) child.behind) in
        ap (λ l. length (filter before l)) around
        ∙ ap length (filter-append before (flat_map rows (take i ps)) (rows p ++ flat_map rows (drop (suc i) ps))
        ∙ (λ k. front k ++ filter-append before (rows p) (flat_map rows (drop (suc i) ps)) k)
        ∙ ap (λ l. flat_map rows (take i ps) ++ (filter before (rows p) ++ l)) back
        ∙ ap (λ l. flat_map rows (take i ps) ++ l) (append-nil (filter before (rows p))))
        ∙ length-append (flat_map rows (take i ps)) (filter before (rows p))

    -- the rows of the parts with what that part became
    pub with-grown : (qs : List X) → flat_map rows qs ≡ with_one store_row_cmp (rows p) x
        → flat_map rows ((take i ps ++ qs) ++ drop (suc i) ps) ≡ with_one store_row_cmp (flat_map rows ps) x
    with-grown qs grown =
        flat_map-append rows (take i ps ++ qs) (drop (suc i) ps)
        ∙ ap (λ l. l ++ flat_map rows (drop (suc i) ps)) (flat_map-append rows (take i ps) qs ∙ ap (λ l. flat_map rows (take i ps) ++ l) grown)
        ∙ append_assoc (flat_map rows (take i ps)) (with_one store_row_cmp (rows p) x) (flat_map rows (drop (suc i) ps))
        ∙ ap (λ q. flat_map rows (take i ps) ++ (with_one store_row_cmp (rows q) x ++ flat_map rows (drop (suc i) ps))) is
        ∙ sym (with-child rows ps x i p child)

-- a spot's part is that of each row that stands there
pub child-alike : {X : Type 0} (rows : X → List StoreRow) (ps : List X) (x y : StoreRow) (i : ℕ) → x.store ≡ y.store → x.row.change ≡ y.row.change
    → IsChild rows ps x i → IsChild rows ps y i
child-alike rows ps x y i one two child = record {
  within = child.within;
  before = each-weaker (λ other less. alike other y other x refl refl (sym one) (sym two) ∙ less) (flat_map rows (take i ps)) child.before;
  behind = each-weaker (λ other less. alike y other x other (sym one) (sym two) refl refl ∙ less) (flat_map rows (drop (suc i) ps)) child.behind;
}

-- ---- counts

pub count-front : {X : Type 0} (rows : X → List StoreRow) (ps : List X) (i : ℕ) → length (flat_map rows (take i ps)) ≤ length (flat_map rows ps)
count-front rows [] zero = omega arith
count-front rows [] (suc i) = omega arith
count-front rows (p ∷ ps) zero = omega arith
count-front rows (p ∷ ps) (suc i) =
    let rest = count-front rows ps i in
    let one = length-append (rows p) (flat_map rows (take i ps)) in
    let two = length-append (rows p) (flat_map rows ps) in
    omega (arith, rest, one, two)

pub filter-shorter : {X : Type 0} (p : X → Bool) (xs : List X) → length (filter p xs) ≤ length xs
filter-shorter p [] = omega arith
filter-shorter p (x ∷ xs) =
    let rest = filter-shorter p xs in
    elim (p x) as (λ b. length (cond b (x ∷ filter p xs) (filter p xs)) ≤ suc (length xs)) [ true ↦ omega (arith, rest) | false ↦ omega (arith, rest) ]
