use Rattle.std.proofs.Common.{◌∙◌, sym, ap, refl, true≢false}
use Rattle.std.specs.Option.{option_map}
use Rattle.view.specs.Means.{store_in}
use Rattle.view.proofs.ViewLemmas.{named-store}
use Rattle.view.proofs.view.View.get.Goals as goal

pub returns-in-None-clause-refused : goal.returns-in-None-clause-refused
returns-in-None-clause-refused g c =
    named-store g.R.RowSet.rows c.args.self.now c.args.store.now
    ∙ ap (option_map (store_in g.R.RowSet.rows c.args.self.now.layers)) (sym c.in-None.ensures.store)

pub returns-then-not-is_key-clause-refused : goal.returns-then-not-is_key-clause-refused
returns-then-not-is_key-clause-refused g c = record {
  store = store_in g.R.RowSet.rows c.args.self.now.layers c.in-Some.found.now;
  named =
      named-store g.R.RowSet.rows c.args.self.now c.args.store.now
      ∙ ap (option_map (store_in g.R.RowSet.rows c.args.self.now.layers)) (sym c.in-Some.ensures.store);
  given_is = refl;
  outside = λ is. true≢false (sym (c.is_key.ensures.1 is) ∙ c.if-not-is_key.true);
}

pub returns-else-not-is_key-clause-value : goal.returns-else-not-is_key-clause-value
returns-else-not-is_key-clause-value g c = record {
  store = store_in g.R.RowSet.rows c.args.self.now.layers c.in-Some.found.now;
  named =
      named-store g.R.RowSet.rows c.args.self.now c.args.store.now
      ∙ ap (option_map (store_in g.R.RowSet.rows c.args.self.now.layers)) (sym c.in-Some.ensures.store);
  within = c.is_key.ensures.0 c.if-not-is_key.false;
  holds = c.value.ensures;
}
