-- Marks stand to each other as their rows do, where they differ.
use Rattle.std.proofs.Common.{◌≡◌, ℕ, zero, suc, ◌+◌, ◌*◌, ◌-◌, ◌^◌, ◌<◌, List, [], ◌∷◌, get_or, drop, min, inl, inr, true≢false, refl, sym, ◌∙◌, ap, arith}
use Rattle.std.proofs.Math.Nat.{min-le_left, min-le_right, min-eq_left, le-min, pow-suc}
use Rattle.std.proofs.lemmas.Nat.{mul-le}
use Rattle.std.proofs.lemmas.Bool.{cases_order}
use Rattle.std.proofs.lemmas.List.{get_or-drop}
use Rattle.std.specs.Cmp.{nat_cmp_is}
use Rattle.std.specs.declared.cmp.Ordering.{Ordering}
use Rattle.std.specs.declared.cmp.Ordering.TheVariants.{Less, Equal, Greater}
use Rattle.std.specs.Ordering.{nat_cmp, ordering_then, is_lt, is_gt}
use Rattle.std.specs.Cmp.Lexicographic.{slice_cmp, nat_list_cmp_total}
use Rattle.sorted_lists.specs.laws.Orders.{turned}
use Rattle.hse_rows.specs.writes.Change.{target}
use Rattle.hse_rows.specs.writes.NormalForm.{rank}
use Rattle.hse_rows.specs.rows.Newest.{row_cmp}
use Rattle.ingest_tree.specs.declared.store_row.StoreRow.{StoreRow}
use Rattle.ingest_tree.specs.Rows.{store_row_cmp}
use Rattle.ingest_tree.specs.Marks.{front, front_of}

pos : (n : ℕ) → 0 < 256 ^ n
pos zero = omega arith
pos (suc n) = let rest = pos n in let e = pow-suc 256 n in omega (arith, rest, e)

front-none : (n : ℕ) → front n [] ≡ 0
unfolding front
front-none zero = refl
front-none (suc n) =
    let rest = front-none n in
    let le = min-le_left (front n []) (256 ^ n - 1) in
    omega (arith, rest, le)

min-less : (a b m : ℕ) → min a m < min b m → a < b
min-less a b m less = elim (cases_order a b) [
  | inl same ↦
      let e : min a m ≡ min b m = ap (λ k. min k m) same in
      absurd (omega (arith, e, less))
  | inr (inl below) ↦ below
  | inr (inr above) ↦
      let one = min-le_left b m in
      let two = min-le_right b m in
      let more = le-min {k = min b m} {a = a} {b = m} (omega (arith, one, above)) two in
      absurd (omega (arith, more, less))
]

less-at : (x y : ℕ) → x < y → nat_cmp x y ≡ Less
less-at x y less = sym (nat_cmp_is x y Less less)

same-at : (x y : ℕ) → x ≡ y → nat_cmp x y ≡ Equal
same-at x y same = sym (nat_cmp_is x y Equal same)

after : {X : Type 0} (i : ℕ) (xs : List X) → drop 1 (drop i xs) ≡ drop (suc i) xs
after zero xs = refl
after (suc i) [] = refl
after (suc i) (x ∷ xs) = after i xs

-- the smaller number is that of the smaller bytes
pub below : (n : ℕ) (a b : List ℕ) → front n a < front n b → slice_cmp nat_cmp a b ≡ Less
unfolding front
below zero a b less = absurd (omega (arith, less))
below (suc n) [] [] less = absurd (omega (arith, less))
below (suc n) [] (y ∷ ys) less = refl
below (suc n) (x ∷ xs) [] less = absurd (let none = front-none (suc n) in omega (arith, none, less))
below (suc n) (x ∷ xs) (y ∷ ys) less = elim (cases_order x y) [
  | inl same ↦
      let e : x * 256 ^ n ≡ y * 256 ^ n = ap (λ k. k * 256 ^ n) same in
      let rest : min (front n xs) (256 ^ n - 1) < min (front n ys) (256 ^ n - 1) = omega (arith, less, e) in
      ap (λ o. ordering_then o (slice_cmp nat_cmp xs ys)) (same-at x y same)
      ∙ below n xs ys (min-less (front n xs) (front n ys) (256 ^ n - 1) rest)
  | inr (inl under) ↦ ap (λ o. ordering_then o (slice_cmp nat_cmp xs ys)) (less-at x y under)
  | inr (inr over) ↦
      let some = pos n in
      let more = mul-le (suc y) (256 ^ n) x (256 ^ n) over (omega arith) in
      let step : suc y * 256 ^ n ≡ 256 ^ n + y * 256 ^ n = omega arith in
      let most = min-le_right (front n ys) (256 ^ n - 1) in
      absurd (omega (arith, less, more, step, most, some))
]

cmp-less : (x y : ℕ) → nat_cmp x y ≡ Less → x < y
cmp-less x y is = elim (cases_order x y) [
  | inl same ↦ absurd (true≢false (ap is_lt (sym is ∙ same-at x y same)))
  | inr (inl less) ↦ less
  | inr (inr more) ↦ absurd (true≢false (ap is_lt (sym is ∙ sym (nat_cmp_is x y Greater more))))
]

cmp-more : (x y : ℕ) → nat_cmp x y ≡ Greater → y < x
cmp-more x y is = elim (cases_order x y) [
  | inl same ↦ absurd (true≢false (ap is_gt (sym is ∙ same-at x y same)))
  | inr (inl less) ↦ absurd (true≢false (ap is_gt (sym is ∙ less-at x y less)))
  | inr (inr more) ↦ more
]

above : (n : ℕ) (a b : List ℕ) → front n b < front n a → slice_cmp nat_cmp a b ≡ Greater
above n a b less = turned nat_list_cmp_total b a Less (below n b a less)

then-less : (o p q : Ordering) → (p ≡ Less → q ≡ Less) → ordering_then o p ≡ Less → ordering_then o q ≡ Less
then-less Less p q so is = refl
then-less Equal p q so is = so is
then-less Greater p q so is = is

then-more : (o p q : Ordering) → (p ≡ Greater → q ≡ Greater) → ordering_then o p ≡ Greater → ordering_then o q ≡ Greater
then-more Less p q so is = is
then-more Equal p q so is = so is
then-more Greater p q so is = refl

-- how the mark of a row stands to that of another
abbrev marks_cmp : StoreRow → StoreRow → Ordering
marks_cmp a b = ordering_then (nat_cmp a.store.0 b.store.0) (nat_cmp (front_of a.row.change) (front_of b.row.change))

pub marks-less : (a b : StoreRow) → marks_cmp a b ≡ Less → store_row_cmp a b ≡ Less
marks-less a b is =
    then-less (nat_cmp a.store.0 b.store.0) (nat_cmp (front_of a.row.change) (front_of b.row.change)) (row_cmp a.row b.row)
    (λ less. below 8 (rank a.row.change ∷ target a.row.change) (rank b.row.change ∷ target b.row.change)
    (cmp-less (front_of a.row.change) (front_of b.row.change) less))
    is

pub marks-more : (a b : StoreRow) → marks_cmp a b ≡ Greater → store_row_cmp a b ≡ Greater
marks-more a b is =
    then-more (nat_cmp a.store.0 b.store.0) (nat_cmp (front_of a.row.change) (front_of b.row.change)) (row_cmp a.row b.row)
    (λ more. above 8 (rank a.row.change ∷ target a.row.change) (rank b.row.change ∷ target b.row.change)
    (cmp-more (front_of a.row.change) (front_of b.row.change) more))
    is

-- ---- the number of the first bytes

small : (n : ℕ) (bytes : List ℕ) → front n bytes < 256 ^ n → min (front n bytes) (256 ^ n - 1) ≡ front n bytes
small n bytes less = min-eq_left (omega (arith, less))

-- one digit more
pub digit : (n i : ℕ) (bytes : List ℕ) (d : ℕ) → front n (drop (suc i) bytes) < 256 ^ n → d ≡ get_or bytes i 0
    → front (suc n) (drop i bytes) ≡ d * 256 ^ n + front n (drop (suc i) bytes)
unfolding front
digit n i bytes d less is =
    ap (λ b. b * 256 ^ n + min (front n (drop 1 (drop i bytes))) (256 ^ n - 1)) (get_or-drop i bytes 0 0 ∙ ap (λ k. get_or bytes k 0) (omega arith) ∙ sym is)
    ∙ ap (λ l. d * 256 ^ n + min (front n l) (256 ^ n - 1)) (after i bytes)
    ∙ ap (λ k. d * 256 ^ n + k) (small n (drop (suc i) bytes) less)

pub front-with : (first : ℕ) (bytes : List ℕ) (a b c d e f g : ℕ)
    → (a ≡ get_or bytes 0 0) → (b ≡ get_or bytes 1 0) → (c ≡ get_or bytes 2 0) → (d ≡ get_or bytes 3 0)
    → (e ≡ get_or bytes 4 0) → (f ≡ get_or bytes 5 0) → (g ≡ get_or bytes 6 0)
    → (a < 256) → (b < 256) → (c < 256) → (d < 256) → (e < 256) → (f < 256) → (g < 256)
    → first * 72057594037927936 + (a * 281474976710656 + b * 1099511627776 + c * 4294967296) + (d * 16777216 + e * 65536 + f * 256 + g) ≡ front 8 (first ∷ bytes)
unfolding front
front-with first bytes a b c d e f g ai bi ci di ei fi gi small-a small-b small-c small-d small-e small-f small-g =
    let g' : front 1 (drop 6 bytes) ≡ g * 256 ^ 0 + 0 = digit 0 6 bytes g (omega arith) gi in
    let f' : front 2 (drop 5 bytes) ≡ f * 256 ^ 1 + front 1 (drop 6 bytes) = digit 1 5 bytes f (omega (arith, g', small-g)) fi in
    let e' : front 3 (drop 4 bytes) ≡ e * 256 ^ 2 + front 2 (drop 5 bytes) = digit 2 4 bytes e (omega (arith, f', g', small-g, small-f)) ei in
    let d' : front 4 (drop 3 bytes) ≡ d * 256 ^ 3 + front 3 (drop 4 bytes) = digit 3 3 bytes d (omega (arith, e', f', g', small-g, small-f, small-e)) di in
    let c' : front 5 (drop 2 bytes) ≡ c * 256 ^ 4 + front 4 (drop 3 bytes) = digit 4 2 bytes c (omega (arith, d', e', f', g', small-g, small-f, small-e, small-d)) ci in
    let b' : front 6 (drop 1 bytes) ≡ b * 256 ^ 5 + front 5 (drop 2 bytes) = digit 5 1 bytes b (omega (arith, c', d', e', f', g', small-g, small-f, small-e, small-d, small-c)) bi in
    let a' : front 7 bytes ≡ a * 256 ^ 6 + front 6 (drop 1 bytes) = digit 6 0 bytes a (omega (arith, b', c', d', e', f', g', small-g, small-f, small-e, small-d, small-c, small-b)) ai in
    let all : front 8 (first ∷ bytes) ≡ first * 256 ^ 7 + front 7 bytes =
    digit 7 0 (first ∷ bytes) first (omega (arith, a', b', c', d', e', f', g', small-g, small-f, small-e, small-d, small-c, small-b, small-a)) refl in
    omega (arith, all, a', b', c', d', e', f', g')
