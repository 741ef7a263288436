-- One source: its rows by index, and the row that comes next from a place.
use Rattle.std.proofs.Common.{◌≡◌, ℕ, zero, suc, ◌<◌, ◌≤◌, ◌==◌, Bool, true, false, true≢false, cond, not, ◌&&◌, ltb, List, [], ◌∷◌, length, Option, Some, None, refl, sym, ap, ◌∙◌, subst, arith}
use Rattle.std.proofs.lemmas.Bool.{ltb-true, ltb-false}
use Rattle.std.specs.Prelude.{slice_get}
use Rattle.std.specs.declared.cmp.Ordering.{Ordering}
use Rattle.std.specs.declared.cmp.Ordering.TheVariants.{Less, Equal, Greater}
use Rattle.std.specs.Ordering.{nat_cmp}
use Rattle.std.specs.Cmp.{first_so}
use Rattle.std.proofs.lemmas.Cmp.{tied_itself}
use Rattle.std.specs.Cmp.Lexicographic.{slice_cmp, nat_list_cmp_total, bytes_decides}
use Rattle.std.specs.List.{AllByRecursion, filter}
use Rattle.std.specs.List.Sorted.{IsStrictlySortedBy}
use Rattle.hse_rows.specs.declared.change.Change.{Change}
use Rattle.hse_rows.specs.declared.change.Change.TheVariants.{Put, Del, PDel}
use Rattle.hse_rows.specs.declared.row.Row.{Row}
use Rattle.hse_rows.specs.writes.Change.{target}
use Rattle.hse_rows.specs.writes.NormalForm.{rank}
use Rattle.hse_rows.specs.writes.Reach.{reaches}
use Rattle.hse_rows.specs.rows.Newest.{row_cmp}
use Rattle.hse_rows.specs.rows.Meaning.{is_own, newer, own_at}
use Rattle.row_laws.specs.Merging.{is_key_row}

-- ---- rows of keys

own-key_by : (change : Change) (key : List ℕ) → (not (rank change == 0) && reaches change key) ≡ true → target change ≡ key
own-key_by (PDel prefix) key is = absurd (true≢false (sym is))
own-key_by (Put own bytes) key is = (bytes_decides own key).0 is
own-key_by (Del own) key is = (bytes_decides own key).0 is

pub own-target : (row : Row) (key : List ℕ) → is_own key row ≡ true → target row.change ≡ key
own-target row key is = own-key_by row.change key is

pub own-keyed : (row : Row) (key : List ℕ) → is_own key row ≡ true → is_key_row row ≡ true
own-keyed row key is = first_so (is_key_row row) (reaches row.change key) is

keyed-own_by : (change : Change) → not (rank change == 0) ≡ true → (not (rank change == 0) && reaches change (target change)) ≡ true
keyed-own_by (PDel prefix) is = absurd (true≢false (sym is))
keyed-own_by (Put own bytes) is = (bytes_decides own own).1 refl
keyed-own_by (Del own) is = (bytes_decides own own).1 refl

pub keyed-own : (row : Row) → is_key_row row ≡ true → is_own (target row.change) row ≡ true
keyed-own row is = keyed-own_by row.change is

keys-cmp_by : (m n : ℕ) (a b : Change) → not (rank a == 0) ≡ true → not (rank b == 0) ≡ true
    → row_cmp (record { number = m; change = a }) (record { number = n; change = b }) ≡ slice_cmp nat_cmp (target a) (target b)
keys-cmp_by m n (PDel prefix) b one two = absurd (true≢false (sym one))
keys-cmp_by m n (Put a v) (PDel prefix) one two = absurd (true≢false (sym two))
keys-cmp_by m n (Del a) (PDel prefix) one two = absurd (true≢false (sym two))
keys-cmp_by m n (Put a v) (Put b w) one two = refl
keys-cmp_by m n (Put a v) (Del b) one two = refl
keys-cmp_by m n (Del a) (Put b w) one two = refl
keys-cmp_by m n (Del a) (Del b) one two = refl

-- rows of keys are in the order of their keys
pub keys-cmp : (a b : Row) → is_key_row a ≡ true → is_key_row b ≡ true → row_cmp a b ≡ slice_cmp nat_cmp (target a.change) (target b.change)
keys-cmp a b one two = keys-cmp_by a.number b.number a.change b.change one two

key-prefix_by : (m n : ℕ) (a b : Change) → not (rank a == 0) ≡ true → not (rank b == 0) ≡ false
    → row_cmp (record { number = m; change = a }) (record { number = n; change = b }) ≡ Greater
key-prefix_by m n (PDel prefix) b one two = absurd (true≢false (sym one))
key-prefix_by m n (Put a v) (PDel prefix) one two = refl
key-prefix_by m n (Del a) (PDel prefix) one two = refl
key-prefix_by m n a (Put b w) one two = absurd (true≢false two)
key-prefix_by m n a (Del b) one two = absurd (true≢false two)

-- and behind prefix deletes
pub key-prefix : (a b : Row) → is_key_row a ≡ true → is_key_row b ≡ false → row_cmp a b ≡ Greater
key-prefix a b one two = key-prefix_by a.number b.number a.change b.change one two

no-less : (r : Ordering) → r ≡ Less → r ≡ Greater → ⊥
no-less r less greater = let e : Less ≡ Greater = sym less ∙ greater in absurd cc

less-tied : (r : Ordering) → r ≡ Less → r ≡ Equal → ⊥
less-tied r less tied = let e : Less ≡ Equal = sym less ∙ tied in absurd cc

pub some-is : (x y : Row) → Some x ≡ Some y → x ≡ y
some-is x y is = cc

-- ---- rows by index

pub all-at : (P : Row → Type 0) (xs : List Row) (i : ℕ) (a : Row) → AllByRecursion P xs → slice_get xs i ≡ Some a → P a
all-at P [] i a all is = let e : None ≡ Some a = is in absurd cc
all-at P (x ∷ xs) zero a all is = subst P (some-is x a is) all.0
all-at P (x ∷ xs) (suc i) a all is = all-at P xs i a all.1 is

pub sorted-at : (xs : List Row) (i j : ℕ) (a b : Row) → IsStrictlySortedBy row_cmp xs → slice_get xs i ≡ Some a → slice_get xs j ≡ Some b → i < j
    → row_cmp a b ≡ Less
unfolding IsStrictlySortedBy
sorted-at [] i j a b rise one two less = let e : None ≡ Some a = one in absurd cc
sorted-at (x ∷ xs) i zero a b rise one two less = absurd (omega arith)
sorted-at (x ∷ xs) zero (suc j) a b rise one two less =
    subst (λ (y : Row). row_cmp y b ≡ Less) (some-is x a one) (all-at (λ y. row_cmp x y ≡ Less) xs j b rise.0 two)
sorted-at (x ∷ xs) (suc i) (suc j) a b rise one two less = sorted-at xs i j a b rise.1 one two (omega arith)

-- where the key's own row stands
pub record Stands (key : List ℕ) (rows : List Row) (row : Row) : Type 0 where
  pub index : ℕ
  pub there : slice_get rows index ≡ Some row
  pub own : is_own key row ≡ true

further : (key : List ℕ) (x : Row) (xs : List Row) (r : Row) → Stands key xs r → Stands key (x ∷ xs) r
further key x xs r stands = record { index = suc stands.index; there = stands.there; own = stands.own }

pub own-index : (key : List ℕ) (rows : List Row) (r : Row) → own_at key rows ≡ Some r → Stands key rows r
own-index key [] r is = let e : None ≡ Some r = is in absurd cc
own-index key (x ∷ xs) r is = by (own-index key xs r) (is_own key x) refl (own_at key xs) refl is
  where
    here : is_own key x ≡ true → Some x ≡ Some r → Stands key (x ∷ xs) r
    here own e = record { index = 0; there = e; own = subst (λ (y : Row). is_own key y ≡ true) (some-is x r e) own }

    by : (own_at key xs ≡ Some r → Stands key xs r)
        → (b : Bool) → is_own key x ≡ b → (o : Option Row) → own_at key xs ≡ o → newer (cond b (Some x) None) o ≡ Some r → Stands key (x ∷ xs) r
    by more true own None rest e = here own e
    by more true own (Some y) rest e =
        elim (ltb y.number x.number) as (λ t. cond t (Some x) (Some y) ≡ Some r → Stands key (x ∷ xs) r) [
          | true ↦ λ s. here own s
          | false ↦ λ s. further key x xs r (more (rest ∙ s))
        ] e
    by more false own o rest e = further key x xs r (more (rest ∙ e))

both-own : (key : List ℕ) (a b : Row) → is_own key a ≡ true → is_own key b ≡ true → row_cmp a b ≡ Equal
both-own key a b one two =
    keys-cmp a b (own-keyed a key one) (own-keyed b key two)
    ∙ (λ i. slice_cmp nat_cmp (own-target a key one i) (own-target b key two i))
    ∙ tied_itself nat_list_cmp_total key

some-newer : (x y : Row) → newer (Some x) (Some y) ≡ None → ⊥
some-newer x y e =
    elim (ltb y.number x.number) as (λ t. cond t (Some x) (Some y) ≡ None → ⊥) [ true ↦ λ s. absurd cc | false ↦ λ s. absurd cc ] e

none-there : (key : List ℕ) (r : Row) (xs : List Row) (i : ℕ) → is_own key r ≡ true → slice_get xs i ≡ Some r → own_at key xs ≡ None → ⊥
none-there key r [] i own is e = let s : None ≡ Some r = is in absurd cc
none-there key r (x ∷ xs) i own is e = by (λ k. none-there key r xs k own) (is_own key x) refl (own_at key xs) refl e i is
  where
    by : ((k : ℕ) → slice_get xs k ≡ Some r → own_at key xs ≡ None → ⊥)
        → (b : Bool) → is_own key x ≡ b → (o : Option Row) → own_at key xs ≡ o → newer (cond b (Some x) None) o ≡ None
        → (k : ℕ) → slice_get (x ∷ xs) k ≡ Some r → ⊥
    by more true mine None rest e k is = let s : Some x ≡ None = e in absurd cc
    by more true mine (Some y) rest e k is = some-newer x y e
    by more false mine (Some y) rest e k is = let s : Some y ≡ None = e in absurd cc
    by more false mine None rest e zero is = true≢false (sym own ∙ ap (is_own key) (sym (some-is x r is)) ∙ mine)
    by more false mine None rest e (suc k) is = more k is rest

-- of two indexes, the lesser, the same, or the greater
pub three : {C : Type 0} (m n : ℕ) → (m < n → C) → (m ≡ n → C) → (n < m → C) → C
three {C} m n low same high = by (ltb m n) refl (ltb n m) refl
  where
    by : (s : Bool) → ltb m n ≡ s → (t : Bool) → ltb n m ≡ t → C
    by true a t b = low (ltb-true m n a)
    by false a true b = high (ltb-true n m b)
    by false a false b = let up = ltb-false m n a in let down = ltb-false n m b in same (omega (arith, up, down))

pub index-own : (key : List ℕ) (rows : List Row) (i : ℕ) (r : Row) → IsStrictlySortedBy row_cmp rows → slice_get rows i ≡ Some r → is_own key r ≡ true
    → own_at key rows ≡ Some r
index-own key rows i r rise is own = by (own_at key rows) refl
  where
    by : (o : Option Row) → own_at key rows ≡ o → o ≡ Some r
    by None e = absurd (none-there key r rows i own is e)
    by (Some y) e =
        let stands = own-index key rows y e in
        three stands.index i
        (λ less. absurd (less-tied (row_cmp y r) (sorted-at rows stands.index i y r rise stands.there is less) (both-own key y r stands.own own)))
        (λ eq. sym stands.there ∙ ap (slice_get rows) eq ∙ is)
        (λ less. absurd (less-tied (row_cmp r y) (sorted-at rows i stands.index r y rise is stands.there less) (both-own key r y own stands.own)))

-- ---- a test that parts the rows

pub record IsCutAt (t : Row → Bool) (rows : List Row) (p : ℕ) : Type 0 where
  pub within : p ≤ length rows
  pub front : (i : ℕ) (r : Row) → slice_get rows i ≡ Some r → i < p → t r ≡ true
  pub rest : (i : ℕ) (r : Row) → slice_get rows i ≡ Some r → p ≤ i → t r ≡ false

pub cut-is : (t : Row → Bool) (rows : List Row) (p : ℕ) → IsCutAt t rows p → length (filter t rows) ≡ p
cut-is t [] p cut = let h = cut.within in omega (arith, h)
cut-is t (x ∷ xs) zero cut =
    ap (λ b. length (cond b (x ∷ filter t xs) (filter t xs))) (cut.rest 0 x refl (omega arith))
    ∙ cut-is t xs zero (record {
      within = omega arith;
      front = λ i r is less. absurd (omega (arith, less));
      rest = λ i r is more. cut.rest (suc i) r is (omega arith);
    })
cut-is t (x ∷ xs) (suc p) cut =
    let h = cut.within in
    ap (λ b. length (cond b (x ∷ filter t xs) (filter t xs))) (cut.front 0 x refl (omega arith))
    ∙ ap suc (cut-is t xs p (record {
      within = omega (arith, h);
      front = λ i r is less. cut.front (suc i) r is (omega (arith, less));
      rest = λ i r is more. cut.rest (suc i) r is (omega (arith, more));
    }))

-- what stands before a row of the front is of the front
unfoldable pub IsFront : (Row → Bool) → List Row → Type 0
IsFront t rows = (i j : ℕ) (a b : Row) → slice_get rows i ≡ Some a → slice_get rows j ≡ Some b → i < j → t b ≡ true → t a ≡ true

pub front-cut : (t : Row → Bool) (rows : List Row) → IsFront t rows → IsCutAt t rows (length (filter t rows))
unfolding IsFront
front-cut t [] goes = record {
  within = omega arith;
  front = λ i r is less. absurd (let e : None ≡ Some r = is in cc);
  rest = λ i r is more. absurd (let e : None ≡ Some r = is in cc);
}
front-cut t (x ∷ xs) goes = by (front-cut t xs) (t x) refl
  where
    later : IsFront t xs
    later i j a b one two less = goes (suc i) (suc j) a b one two (omega (arith, less))

    none : t x ≡ false → (k : ℕ) (r : Row) → slice_get xs k ≡ Some r → (b : Bool) → t r ≡ b → b ≡ false
    none is k r e true on = absurd (true≢false (sym (goes 0 (suc k) x r refl e (omega arith) on) ∙ is))
    none is k r e false off = refl

    by : (IsFront t xs → IsCutAt t xs (length (filter t xs))) → (b : Bool) → t x ≡ b → IsCutAt t (x ∷ xs) (length (cond b (x ∷ filter t xs) (filter t xs)))
    by more true is =
        let cut = more later in
        let h = cut.within in
        record {
          within = omega (arith, h);
          front = λ i r. elim i as (λ k. slice_get (x ∷ xs) k ≡ Some r → k < suc (length (filter t xs)) → t r ≡ true) [
            | zero ↦ λ e less. ap t (sym (some-is x r e)) ∙ is
            | suc k ↦ λ e less. cut.front k r e (omega (arith, less))
          ];
          rest = λ i r. elim i as (λ k. slice_get (x ∷ xs) k ≡ Some r → suc (length (filter t xs)) ≤ k → t r ≡ false) [
            | zero ↦ λ e more. absurd (omega (arith, more))
            | suc k ↦ λ e more. cut.rest k r e (omega (arith, more))
          ];
        }
    by more false is =
        let off : (i : ℕ) (r : Row) → slice_get (x ∷ xs) i ≡ Some r → t r ≡ false = λ i r. elim i as (λ k. slice_get (x ∷ xs) k ≡ Some r → t r ≡ false) [
          | zero ↦ λ e. ap t (sym (some-is x r e)) ∙ is
          | suc k ↦ λ e. none is k r e (t r) refl
        ] in
        let zeroed : length (filter t xs) ≡ 0 = cut-is t xs zero (record {
          within = omega arith;
          front = λ i r e less. absurd (omega (arith, less));
          rest = λ i r e more. off (suc i) r e;
        }) in
        subst (IsCutAt t (x ∷ xs)) (sym zeroed) (record {
          within = omega arith;
          front = λ i r e less. absurd (omega (arith, less));
          rest = λ i r e more. off i r e;
        })
