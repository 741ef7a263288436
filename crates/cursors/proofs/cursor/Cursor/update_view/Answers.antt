use Rattle.std.proofs.Common.{◌≡◌, ◌==◌, List, None, refl, sym, ap, ◌∙◌}
use Rattle.std.specs.List.{find}
use Rattle.std.specs.Option.{option_map}
use Rattle.view.specs.declared.view_store.ViewStore.{ViewStore}
use Rattle.view.specs.Views.{layers_with}
use Rattle.view.specs.Means.{store_rows}
use Rattle.view.specs.Merges.{sources_of}
use Rattle.hse_rows.specs.declared.row.Row.{Row}
use Rattle.hse_rows.specs.rows.Meaning.{contents_of}
use Rattle.hse_rows.specs.script.Cursor.{updated}
use Rattle.row_laws.specs.Sources.{all_rows}
use Rattle.cursors.specs.Cursors.{CursorKept, meant}
use Rattle.cursors.proofs.cursor.Cursor.update_view.Goals as goal

pub invariant_of-self : goal.invariant_of-self
invariant_of-self g c =
    c.look-self-inside.ensures.pair _ (sym c.asked-asked.ensures.direction) (sym c.asked-asked.ensures.filter) (sym c.key.ensures ∙ sym c.asked-asked.ensures.last) refl
    (ap (λ (s : List (List Row)). contents_of (all_rows s)) c.look-self-inside.ensures.sources)

pub returns-clause-updated : goal.returns-clause-updated
returns-clause-updated g c =
    let rows = g.R.RowSet.rows in
    let found = c.in-Some.found.now in
    let sources : c.look-self-inside.new.merged.sources ≡ sources_of rows (layers_with (option_map (λ own. own.now) c.as_ref.result) c.args.view.layers) found =
    c.look-self-inside.ensures.sources ∙ c.in_ok-merged.ensures in
    let contents =
    ap (λ (s : List (List Row)). contents_of (all_rows s)) sources
    ∙ ap contents_of (c.stores_are_merged.ensures.rows (layers_with (option_map (λ own. own.now) c.as_ref.result) c.args.view.layers) found)
    ∙ ap (λ own. contents_of (store_rows rows (layers_with own c.args.view.layers) found)) c.as_ref.ensures.value in
    record {
      store = found;
      found =
          ap (λ (k : CursorKept). find (λ (s : ViewStore g.row.R.Denot). s.id.0 == k.store) c.args.view.stores) (sym c.self.view_is)
          ∙ sym c.in-Some.ensures.store;
      meant_is =
          (λ i. record {
            owner = None;
            store = c.self.inside.store.0;
            direction = c.self.inside.scope.direction;
            prefix = c.self.inside.scope.prefix;
            contents = contents i;
            position = c.self.inside.position;
            last = c.self.inside.last;
          })
          ∙ ap (λ (k : CursorKept). updated (meant k) (contents_of (store_rows rows (layers_with c.args.own c.args.view.layers) found))) c.self.view_is;
    }
