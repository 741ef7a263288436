-- Stores in the order of their names.
use Rattle.std.specs.List.{fold}
use Rattle.std.specs.Ordering.{nat_cmp, on, is_lt}
use Rattle.std.specs.Cmp.Lexicographic.{slice_cmp}
use Rattle.std.specs.declared.cmp.Ordering.{Ordering}
use Rattle.std.proofs.Common.{◌≡◌, ℕ, zero, suc, ◌+◌, ◌<◌, Bool, true, false, cond, List, [], ◌∷◌, ◌++◌, length, take, drop, map, refl, sym, ◌∙◌, ap, arith, append_assoc}
use Rattle.std.proofs.Math.Seq.{drop-nil}
use Rattle.hse_rows.specs.writes.Sorted.{placed, sorted}
use Rattle.hse_rows.specs.states.State.{Store, State}
use Rattle.hse_rows.specs.machine.Replies.{Listed}
use Rattle.hse_rows.specs.machine.CoreReply.{by_name}
use Rattle.view.specs.declared.view_store.ViewStore.{ViewStore}
use Rattle.hse_rows.specs.declared.row.Row.{Row}
use Rattle.ingest_tree.specs.declared.store_row.StoreRow.{StoreRow}
use Rattle.view.specs.Views.{ViewState}
use Rattle.view.specs.Means.{state_of, store_in}
use Rattle.kvdb.specs.Listing.{line_as, line_cmp, line_of}
use Rattle.kvdb.specs.declared.listing.StoreLine.{StoreLine}

-- a sort does not see what its key does not
module _ {X Y K : Type 0} (f : X → Y) (key : Y → K) (cmp : K → K → Ordering) where
  placed-map : (xs : List X) (x : X) → map f (placed (on (λ (v : X). key (f v)) cmp) xs x) ≡ placed (on key cmp) (map f xs) (f x)
  placed-map [] x = refl
  placed-map (y ∷ ys) x = by (is_lt (cmp (key (f x)) (key (f y)))) (placed-map ys x)
    where
      by : (b : Bool) → map f (placed (on (λ (v : X). key (f v)) cmp) ys x) ≡ placed (on key cmp) (map f ys) (f x)
          → map f (cond b (x ∷ y ∷ ys) (y ∷ placed (on (λ (v : X). key (f v)) cmp) ys x))
          ≡ cond b (f x ∷ f y ∷ map f ys) (f y ∷ placed (on key cmp) (map f ys) (f x))
      by true rest = refl
      by false rest = ap (λ (l : List Y). f y ∷ l) rest

  fold-map : (xs ys : List X) → map f (fold (placed (on (λ (v : X). key (f v)) cmp)) ys xs) ≡ fold (placed (on key cmp)) (map f ys) (map f xs)
  fold-map [] ys = refl
  fold-map (x ∷ xs) ys =
      fold-map xs (placed (on (λ (v : X). key (f v)) cmp) ys x)
      ∙ ap (λ (l : List Y). fold (placed (on key cmp)) l (map f xs)) (placed-map ys x)

  pub sorted-map : (xs : List X) → map f (sorted (on (λ (v : X). key (f v)) cmp) xs) ≡ sorted (on key cmp) (map f xs)
  sorted-map xs = fold-map xs []

-- a store, as it is listed
abbrev listed : Store → Listed
listed store = record { name = store.name; mode = store.mode; prefix_length = store.prefix_length }

lines-listed : {R : Type 0} (rows : R → List Row) (layers : List (List StoreRow)) (stores : List (ViewStore R))
    → map line_as (map line_of stores) ≡ map listed (map (store_in rows layers) stores)
lines-listed rows layers [] = refl
lines-listed rows layers (store ∷ stores) =
    ap (λ (l : List Listed). line_as (line_of store) ∷ l) (lines-listed rows layers stores)

-- the lines are those of the state
pub lines_by_name : {R : Type 0} (rows : R → List Row) (view : ViewState R) (state : State) → state_of rows view ≡ state
    → map line_as (sorted line_cmp (map line_of view.stores)) ≡ by_name state
lines_by_name rows view state same =
    sorted-map line_as (λ (l : Listed). l.name) (slice_cmp nat_cmp) (map line_of view.stores)
    ∙ ap (sorted (on (λ (l : Listed). l.name) (slice_cmp nat_cmp)))
    (lines-listed rows view.layers view.stores ∙ ap (λ (s : State). map listed s.stores) same)
    ∙ sym (sorted-map listed (λ (l : Listed). l.name) (slice_cmp nat_cmp) state.stores)

-- all were put
pub all_put : {R : Type 0} (lines : List StoreLine) (rest : List (ViewStore R)) (all : List StoreLine) → length rest < 1
    → fold (placed line_cmp) lines (map line_of rest) ≡ all → lines ≡ all
all_put lines [] all few is = is
all_put lines (store ∷ rest) all few is = absurd (let e : ⊥ = omega (arith, few) in e)

-- ---- one place further

drop-zero : (xs : List StoreLine) → drop 0 xs ≡ xs
drop-zero [] = refl
drop-zero (x ∷ xs) = refl

take-zero : (xs : List StoreLine) → take 0 xs ≡ []
take-zero [] = refl
take-zero (x ∷ xs) = refl

split : (at : ℕ) (xs : List StoreLine) (first : StoreLine) (more : List StoreLine) → drop at xs ≡ first ∷ more
    → (take (suc at) xs ≡ take at xs ++ first ∷ []) × (drop (suc at) xs ≡ more)
split at [] first more is = absurd (let e : [] ≡ first ∷ more = sym (drop-nil at) ∙ is in cc)
split zero (x ∷ xs) first more is =
    let head : x ≡ first = cc in
    let tail : xs ≡ more = cc in
    (ap (λ (l : List StoreLine). x ∷ l) (take-zero xs) ∙ ap (λ (y : StoreLine). y ∷ []) head, drop-zero xs ∙ tail)
split (suc at) (x ∷ xs) first more is =
    let rest = split at xs first more is in (ap (λ (l : List StoreLine). x ∷ l) rest.0, rest.1)

pub passed : (lines rest more : List StoreLine) (first line : StoreLine) (at : ℕ) → rest ≡ first ∷ more → rest ≡ drop at lines
    → is_lt (line_cmp line first) ≡ false → take at lines ++ placed line_cmp rest line ≡ placed line_cmp lines line
    → (more ≡ drop (at + 1) lines) × (take (at + 1) lines ++ placed line_cmp more line ≡ placed line_cmp lines line)
passed lines rest more first line at parts is above so_far =
    let next = split at lines first more (sym is ∙ parts) in
    let one : at + 1 ≡ suc at = omega arith in
    let step : placed line_cmp rest line ≡ first ∷ placed line_cmp more line =
    ap (λ (l : List StoreLine). placed line_cmp l line) parts
    ∙ ap (λ (b : Bool). cond b (line ∷ first ∷ more) (first ∷ placed line_cmp more line)) above in (
      sym (ap (λ (n : ℕ). drop n lines) one ∙ next.1),
      ap (λ (n : ℕ). take n lines ++ placed line_cmp more line) one
          ∙ ap (λ (l : List StoreLine). l ++ placed line_cmp more line) next.0
          ∙ append_assoc (take at lines) (first ∷ []) (placed line_cmp more line)
          ∙ ap (λ (l : List StoreLine). take at lines ++ l) (sym step)
          ∙ so_far,
    )

-- the place is here
pub found_here : (lines rest more : List StoreLine) (first line : StoreLine) (at : ℕ) → rest ≡ first ∷ more → rest ≡ drop at lines
    → is_lt (line_cmp line first) ≡ true → take at lines ++ placed line_cmp rest line ≡ placed line_cmp lines line
    → take at lines ++ line ∷ drop at lines ≡ placed line_cmp lines line
found_here lines rest more first line at parts is below so_far =
    let step : placed line_cmp rest line ≡ line ∷ rest =
    ap (λ (l : List StoreLine). placed line_cmp l line) parts
    ∙ ap (λ (b : Bool). cond b (line ∷ first ∷ more) (first ∷ placed line_cmp more line)) below
    ∙ ap (λ (l : List StoreLine). line ∷ l) (sym parts) in
    ap (λ (l : List StoreLine). take at lines ++ line ∷ l) (sym is) ∙ ap (λ (l : List StoreLine). take at lines ++ l) (sym step) ∙ so_far

-- or behind all
pub found_behind : (lines rest : List StoreLine) (line : StoreLine) (at : ℕ) → rest ≡ [] → rest ≡ drop at lines
    → take at lines ++ placed line_cmp rest line ≡ placed line_cmp lines line → take at lines ++ line ∷ drop at lines ≡ placed line_cmp lines line
found_behind lines rest line at none is so_far =
    ap (λ (l : List StoreLine). take at lines ++ line ∷ l) (sym is ∙ none)
    ∙ ap (λ (l : List StoreLine). take at lines ++ placed line_cmp l line) (sym none)
    ∙ so_far
