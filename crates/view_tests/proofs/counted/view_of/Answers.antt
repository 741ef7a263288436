use Rattle.std.proofs.Common.{◌≡◌, ℕ, ◌≤◌, true, List, [], ◌∷◌, ◌++◌, refl, sym, ap, ◌∙◌, subst, append-nil}
use Rattle.std.specs.List.{AllByRecursion}
use Rattle.hse_rows.specs.declared.row.Row.{Row}
use Rattle.hse_rows.specs.declared.store.Mode.TheVariants.{Plain}
use Rattle.cn_tree.specs.Path.{path_of}
use Rattle.cn_tree.specs.Tree.{TreeState, sets_on, in_front}
use Rattle.view.specs.declared.view_store.ViewStore.{ViewStore}
use Rattle.view.specs.Views.{view_of, rest_of}
use Rattle.view.specs.Means.{IsView}
use Rattle.view.specs.Routed.{FitsStore, StandsAt}
use Rattle.sorted_lists.specs.laws.Lists.{each-weaker}
use Rattle.view_tests.proofs.counted.view_of.Goals as goal

each-all : {X : Type 0} (P : X → Type 0) → ((x : X) → P x) → (xs : List X) → AllByRecursion P xs
each-all P all [] = tt
each-all P all (x ∷ xs) = (all x, each-all P all xs)

-- a store with one set, at the root
abbrev rooted : {X : Type 0} → List ℕ → X → ViewStore X
rooted name set =
    record { name = name; id = record { 0 = 1 }; mode = Plain; prefix = 0; tree = record { prefix_length = 0; nodes = in_front [] [] set } }

abbrev IsOldPut : Row → Type 0
IsOldPut row = (row.number ≤ 1) × FitsStore 0 row.change

alone : (rows : List Row) → ((rows ++ []) ++ []) ++ [] ≡ rows
alone rows = append-nil ((rows ++ []) ++ []) ∙ append-nil (rows ++ []) ∙ append-nil rows

rooted-view : {X : Type 0} (rows : X → List Row) (name : List ℕ) (set : X) → AllByRecursion IsOldPut (rows set)
    → IsView rows (view_of 1 [] (rest_of (rooted name set ∷ []) []))
unfolding sets_on path_of
rooted-view rows name set puts = record {
  apart = (refl, refl, tt);
  numbers =
      subst (AllByRecursion (λ (row : Row). row.number ≤ 1)) (sym (alone (rows set)))
      (each-weaker {P = IsOldPut} (λ (row : Row) is. is.0) (rows set) puts);
  layers = (tt, tt);
  routed = (
    record {
      prefix = refl;
      stands = (
        subst (AllByRecursion (StandsAt 0 [])) (sym (append-nil (rows set)))
            (each-weaker {P = IsOldPut} {Q = StandsAt 0 []} (λ (row : Row) is. record { routes = λ long. refl; fits = is.1 }) (rows set) puts),
        tt,
      );
      falls = λ key. (λ own. each-all _ (λ row reached. tt) (rows set), tt);
      shown = λ key own is below. absurd below;
    },
    tt,
  );
}

pub of-requires : goal.of-requires
of-requires g c =
    let rows = g.R.RowSet.rows in
    let items : c.push.new.self.items ≡ rooted c.args.name c.args.set ∷ [] =
    c.in_ok-push.ensures.items
    ∙ (λ i. c.new-stores.ensures.items i ++ record { name = c.args.name; id = record { 0 = 1 }; mode = Plain; prefix = 0; tree = c.in_ok-tree.ensures i } ∷ []) in
    subst (IsView rows) (λ i. view_of 1 (sym c.empty.ensures i) (rest_of (sym items i) (sym c.new.ensures.items i)))
    (rooted-view rows c.args.name c.args.set c.requires)
