-- The places of positions.
use Rattle.std.proofs.Common.{◌≡◌, ℕ, zero, suc, ◌<◌, ◌==◌, Bool, true, false, true≢false, not, ◌||◌, cond, List, [], ◌∷◌, length, get_or, set, take, map, Option, Some, None, refl, sym, ap, ◌∙◌, arith}
use Rattle.std.specs.Prelude.{slice_get}
use Rattle.std.specs.declared.cmp.Ordering.{Ordering}
use Rattle.std.specs.declared.cmp.Ordering.TheVariants.{Less, Equal, Greater}
use Rattle.std.specs.Ordering.{nat_cmp, is_lt, is_gt, is_ge, ordering_reverse}
use Rattle.std.specs.Cmp.Lexicographic.{slice_cmp}
use Rattle.std.specs.List.{filter}
use Rattle.std.specs.List.Sorted.{IsStrictlySortedBy}
use Rattle.hse_rows.specs.declared.row.Row.{Row}
use Rattle.hse_rows.specs.writes.Change.{target}
use Rattle.hse_rows.specs.writes.NormalForm.{rank}
use Rattle.hse_rows.specs.rows.Newest.{row_cmp}
use Rattle.hse_rows.specs.rows.Meaning.{own_at}
use Rattle.hse_rows.specs.rows.RowSets.{is_before, place_of}
use Rattle.hse_rows.specs.script.Cursor.{forward, backward, front, at_key, past_key, is_reached}
use Rattle.sorted_lists.specs.laws.Lists.{filter-alike}
use Rattle.merge.specs.Places.{stands_before, place_by, passed, all_placed}
use Rattle.merge.specs.First.{IsFirstIn}
use Rattle.merge.proofs.OrderLemmas.{tied_key}
use Rattle.merge.proofs.SourceLemmas.{some-is}
use Rattle.merge.proofs.SoonLemmas.{head-first, head-passed}

reached-first : (f : List ℕ → Option Row) (asked : List ℕ → Bool) (o : Option Row) (h : Row) → IsFirstIn forward f asked o → o ≡ Some h
    → asked (target h.change) ≡ true
reached-first f asked None h first is = let e : None ≡ Some h = is in absurd cc
reached-first f asked (Some x) h first is = ap (λ (r : Row). asked (target r.change)) (sym (some-is x h is)) ∙ first.0

not-below : (r : Ordering) → is_ge r ≡ true → r ≡ Less → ⊥
not-below r up less = true≢false (sym up ∙ ap is_ge less)

module _ (edge : List ℕ) (rows : List Row) where
  lt-at : (r : Ordering) → is_lt r ≡ not (is_ge r)
  lt-at Less = refl
  lt-at Equal = refl
  lt-at Greater = refl

  lt-past : (r : Ordering) → is_lt r ≡ is_gt (ordering_reverse r)
  lt-past Less = refl
  lt-past Equal = refl
  lt-past Greater = refl

  le-at : (r : Ordering) → not (is_gt r) ≡ is_ge (ordering_reverse r)
  le-at Less = refl
  le-at Equal = refl
  le-at Greater = refl

  pub place-at : place_of edge rows ≡ place_by forward (at_key edge) rows
  place-at =
      ap length (filter-alike (is_before edge) (stands_before forward (at_key edge))
      (λ row. ap (λ b. (rank row.change == 0) || b) (lt-at (slice_cmp nat_cmp (target row.change) edge))) rows)

  pub place-back-past : place_of edge rows ≡ place_by backward (past_key edge) rows
  place-back-past =
      ap length (filter-alike (is_before edge) (stands_before backward (past_key edge))
      (λ row. ap (λ b. (rank row.change == 0) || b) (lt-past (slice_cmp nat_cmp (target row.change) edge))) rows)

  place-back-at : place_by forward (past_key edge) rows ≡ place_by backward (at_key edge) rows
  place-back-at =
      ap length (filter-alike (stands_before forward (past_key edge)) (stands_before backward (at_key edge))
      (λ row. ap (λ b. (rank row.change == 0) || b) (le-at (slice_cmp nat_cmp (target row.change) edge))) rows)

  pub place-past : IsStrictlySortedBy row_cmp rows → passed forward edge rows (place_of edge rows) ≡ place_by forward (past_key edge) rows
  place-past rise =
      ap (passed forward edge rows) place-at
      ∙ head-passed forward (at_key edge) rows rise edge (ap is_ge (tied_key forward edge))
      (λ h there less.
      not-below (slice_cmp nat_cmp (target h.change) edge)
      (reached-first (λ key. own_at key rows) (is_reached forward (at_key edge)) (slice_get rows (place_by forward (at_key edge) rows)) h
      (head-first forward (at_key edge) rows rise) there) less)

  pub place-upto : IsStrictlySortedBy row_cmp rows → passed forward edge rows (place_of edge rows) ≡ place_by backward (at_key edge) rows
  place-upto rise = place-past rise ∙ place-back-at

none-below : (x : List ℕ) → is_lt (slice_cmp nat_cmp x []) ≡ false
none-below [] = refl
none-below (b ∷ x) = refl

pub place-front : (rows : List Row) → place_of [] rows ≡ place_by forward front rows
place-front rows =
    ap length (filter-alike (is_before []) (stands_before forward front)
    (λ row. ap (λ b. (rank row.change == 0) || b) (none-below (target row.change))) rows)

or-true : (b : Bool) → b || true ≡ true
or-true true = refl
or-true false = refl

pub place-end : (rows : List Row) → length rows ≡ place_by backward front rows
place-end [] = refl
place-end (row ∷ rows) =
    ap suc (place-end rows)
    ∙ ap (λ (b : Bool). length (cond b (row ∷ filter (stands_before backward front) rows) (filter (stands_before backward front) rows)))
    (sym (or-true (rank row.change == 0)))

-- ---- one source more

module _ {X : Type 0} (place : List Row → ℕ) (rows : X → List Row) where
  pub place-more : (sources : List X) (places : List ℕ) (at : ℕ) (source : X) → at < length sources → length sources ≡ length places
      → source ≡ get_or sources at source
      → set (all_placed place (map rows (take at sources)) places) at (place (rows source)) ≡ all_placed place (map rows (take (suc at) sources)) places
  place-more [] places at source less same is = absurd (omega (arith, less))
  place-more (s ∷ sources) [] at source less same is = absurd (omega (arith, same))
  place-more (s ∷ sources) (p ∷ places) zero source less same is = ap (λ (x : X). place (rows x) ∷ places) is
  place-more (s ∷ sources) (p ∷ places) (suc at) source less same is =
      ap (λ l. place (rows s) ∷ l) (place-more sources places at source (omega (arith, less)) (omega (arith, same)) is)

pub placed-all : (place : List Row → ℕ) (sources : List (List Row)) (places : List ℕ) → length sources ≡ length places
    → all_placed place sources places ≡ map place sources
placed-all place [] [] same = refl
placed-all place [] (p ∷ places) same = absurd (omega (arith, same))
placed-all place (rows ∷ sources) [] same = absurd (omega (arith, same))
placed-all place (rows ∷ sources) (p ∷ places) same = ap (λ l. place rows ∷ l) (placed-all place sources places (omega (arith, same)))
