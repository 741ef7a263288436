use Rattle.std.proofs.Common.{◌∙◌, sym, ap, subst, refl, true≢false}
use Rattle.std.specs.List.{find}
use Rattle.std.specs.Option.{option_map}
use Rattle.std.specs.FinMap as fin_map
use Rattle.hse_rows.specs.writes.NormalForm.{same}
use Rattle.hse_rows.specs.rows.Meaning.{contents_of}
use Rattle.view.specs.declared.view_store.ViewStore.{ViewStore}
use Rattle.view.specs.Views.{layers_with}
use Rattle.view.specs.Means.{store_rows, IsView}
use Rattle.transactions.specs.Txns.{TxnKept, IsTxn}
use Rattle.transactions.proofs.ReadLemmas.{read_store, named-read, contents-read}
use Rattle.transactions.proofs.txn.Txn.read.Goals as goal

pub returns-in-None-clause-refused : goal.returns-in-None-clause-refused
returns-in-None-clause-refused g c =
    let named = λ (s : ViewStore g.row.R.Denot). same s.name c.args.store.now in
    named-read g.R.RowSet.rows c.args.self.now c.args.store.now
    ∙ ap (option_map (read_store g.R.RowSet.rows c.args.self.now))
    (ap (λ (t : TxnKept g.row.R.Denot). find named t.view.stores) (sym c.self.view_is) ∙ sym c.in-None.ensures.store)

pub returns-then-not-is_key-clause-refused : goal.returns-then-not-is_key-clause-refused
returns-then-not-is_key-clause-refused g c =
    let named = λ (s : ViewStore g.row.R.Denot). same s.name c.args.store.now in
    record {
      store = read_store g.R.RowSet.rows c.args.self.now c.in-Some.found.now;
      named =
          named-read g.R.RowSet.rows c.args.self.now c.args.store.now
          ∙ ap (option_map (read_store g.R.RowSet.rows c.args.self.now))
          (ap (λ (t : TxnKept g.row.R.Denot). find named t.view.stores) (sym c.self.view_is) ∙ sym c.in-Some.ensures.store);
      given_is = refl;
      outside = λ is. true≢false (sym (c.is_key.ensures.1 is) ∙ c.if-not-is_key.true);
    }

pub returns-else-not-is_key-clause-value : goal.returns-else-not-is_key-clause-value
returns-else-not-is_key-clause-value g c =
    let rows = g.R.RowSet.rows in
    let named = λ (s : ViewStore g.row.R.Denot). same s.name c.args.store.now in
    let is = subst IsTxn c.self.view_is c.self.invariant in
    let known = subst (λ (t : TxnKept g.row.R.Denot). IsView rows t.view) c.self.view_is c.number-number.ensures.known in
    let found = ap (λ (t : TxnKept g.row.R.Denot). find named t.view.stores) (sym c.self.view_is) ∙ sym c.in-Some.ensures.store in
    let own = c.as_ref.ensures.value ∙ ap (λ (t : TxnKept g.row.R.Denot). t.own) c.self.view_is in
    let layers = ap (λ (t : TxnKept g.row.R.Denot). t.view.layers) c.self.view_is in
    record {
      store = read_store rows c.args.self.now c.in-Some.found.now;
      named = named-read rows c.args.self.now c.args.store.now ∙ ap (option_map (read_store rows c.args.self.now)) found;
      within = c.is_key.ensures.0 c.if-not-is_key.false;
      holds =
          c.value.ensures
          ∙ (λ i. fin_map.get (contents_of (store_rows rows (layers_with (own i) (layers i)) c.in-Some.found.now)) c.args.key.now)
          ∙ ap (λ contents. fin_map.get contents c.args.key.now)
          (contents-read rows c.args.self.now.view known c.in-Some.found.now c.args.store.now found c.args.self.now.own c.args.self.now.writes
          c.newer_layers_go_over.ensures.within is.means);
    }
