-- Where the numbers of all rows that reach a key fall, those of its own rows do.
use Rattle.std.proofs.Common.{◌≡◌, ℕ, Bool, true, ◌||◌, List, [], ◌∷◌, ◌++◌, Some, sym, ap, ◌∙◌, subst}
use Rattle.std.specs.Prelude.{is_some}
use Rattle.std.proofs.lemmas.List.Folds.{list_any-append}
use Rattle.std.specs.Cmp.{second_so}
use Rattle.std.specs.List.{AllByRecursion, list_any}
use Rattle.hse_rows.specs.declared.row.Row.{Row}
use Rattle.hse_rows.specs.writes.Reach.{reaches}
use Rattle.hse_rows.specs.rows.Meaning.{is_own, own_at}
use Rattle.row_laws.specs.Merging.{is_key_row}
use Rattle.row_laws.specs.Sources.{all_rows, Falls}
use Rattle.row_laws.specs.Next.{OwnFalls}
use Rattle.row_laws.proofs.SourceLemmas.{is_some-own}
use Rattle.row_laws.proofs.EntryLemmas.{Given, own-given}

module _ (key : List ℕ) where
  -- what holds of each row holds of the key's own newest row, which reaches the key
  own-so : (P : Row → Type 0) (rows : List Row) → AllByRecursion P rows → (own : Row) → own_at key rows ≡ Some own → (reaches own.change key ≡ true) × P own
  own-so P rows all own is =
      let given : Given (λ row. (is_own key row ≡ true) × P row) (Some own) =
      subst (Given (λ row. (is_own key row ≡ true) × P row)) is (own-given key P rows all) in
      (second_so (is_key_row own) (reaches own.change key) given.0, given.1)

  some-here : (rows more : List Row) (own : Row) → own_at key rows ≡ Some own → is_some (own_at key (rows ++ more)) ≡ true
  some-here rows more own is =
      is_some-own key (rows ++ more)
      ∙ list_any-append (is_own key) rows more
      ∙ ap (λ (b : Bool). b || list_any (is_own key) more) (sym (is_some-own key rows) ∙ ap is_some is)

  pub own-falls : (sources : List (List Row)) → Falls key sources → OwnFalls key sources
  own-falls [] falls = tt
  own-falls (rows ∷ farther) falls = (
    λ own other is there.
        let near = own-so _ rows (falls.0 (some-here rows (all_rows farther) own is)) own is in
        let far = own-so _ (all_rows farther) (near.1 near.0) other there in
        far.1 far.0,
    own-falls farther falls.1,
  )
