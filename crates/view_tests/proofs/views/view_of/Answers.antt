use Rattle.std.proofs.Common.{◌≡◌, ℕ, ◌≤◌, List, [], ◌∷◌, ◌++◌, refl, sym, ap, ◌∙◌, subst}
use Rattle.std.specs.List.{AllByRecursion}
use Rattle.hse_rows.specs.declared.row.Row.{Row}
use Rattle.hse_rows.specs.declared.store.Mode.TheVariants.{Plain}
use Rattle.ingest_tree.specs.declared.store_row.StoreRow.{StoreRow}
use Rattle.cn_tree.specs.Path.{path_of}
use Rattle.cn_tree.specs.Tree.{sets_on}
use Rattle.view.specs.declared.view_store.ViewStore.{ViewStore}
use Rattle.view.specs.Views.{view_of, rest_of}
use Rattle.view.specs.Means.{layer_rows, IsView}
use Rattle.view_tests.proofs.views.view_of.Goals as goal

each-all : {X : Type 0} (P : X → Type 0) → ((x : X) → P x) → (xs : List X) → AllByRecursion P xs
each-all P all [] = tt
each-all P all (x ∷ xs) = (all x, each-all P all xs)

each-row : (n : ℕ) (layer : List StoreRow) → AllByRecursion (λ (row : StoreRow). row.row.number ≤ n) layer
    → AllByRecursion (λ (row : Row). row.number ≤ n) ((layer_rows layer ++ []) ++ [])
each-row n [] all = tt
each-row n (row ∷ layer) all = (all.0, each-row n layer all.1)

-- a store without sets
abbrev bare : {X : Type 0} → List ℕ → ViewStore X
bare name = record { name = name; id = record { 0 = 1 }; mode = Plain; prefix = 2; tree = record { prefix_length = 2; nodes = [] } }

bare-view : {X : Type 0} (rows : X → List Row) (number : ℕ) (active : List StoreRow) (name : List ℕ)
    → AllByRecursion (λ (row : StoreRow). row.row.number ≤ number) active
    → IsView rows (view_of number active (rest_of (bare name ∷ []) []))
unfolding sets_on path_of
bare-view rows number active name low = record {
  apart = (refl, refl, tt);
  numbers = each-row number active low;
  layers = (each-all _ (λ row. tt) (layer_rows active), tt);
  routed = (record { prefix = refl; stands = tt; falls = λ key. tt; shown = λ key own is below. absurd below }, tt);
}

pub of-requires : goal.of-requires
of-requires c =
    let items : c.push.new.self.items ≡ bare c.args.name ∷ [] =
    c.in_ok-push.ensures.items
    ∙ (λ i. c.new-stores.ensures.items i ++ record { name = c.args.name; id = record { 0 = 1 }; mode = Plain; prefix = 2; tree = c.empty.ensures i } ∷ []) in
    subst (λ rest. IsView (λ (set : List Row). set) (view_of c.args.number c.args.active rest)) (λ i. rest_of (sym items i) (sym c.new.ensures.items i))
    (bare-view (λ (set : List Row). set) c.args.number c.args.active c.args.name c.requires)
