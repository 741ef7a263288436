use Rattle.std.proofs.Common.{◌≡◌, List, None, refl, sym, ap, ◌∙◌}
use Rattle.std.specs.Option.{option_map}
use Rattle.cursors.specs.Starts.{ScopeState}
use Rattle.view.specs.Views.{layers_with}
use Rattle.view.specs.Means.{store_rows}
use Rattle.view.specs.Merges.{sources_of}
use Rattle.hse_rows.specs.declared.row.Row.{Row}
use Rattle.hse_rows.specs.rows.Meaning.{contents_of}
use Rattle.row_laws.specs.Sources.{all_rows}
use Rattle.cursors.proofs.cursor.Cursor.create.Goals as goal

pub invariant_of-result : goal.invariant_of-result
invariant_of-result g c =
    c.look-next.ensures.pair _ (sym c.asked.ensures.direction) (sym c.asked.ensures.filter) (sym c.key.ensures ∙ sym c.asked.ensures.last) refl
    (ap (λ (s : List (List Row)). contents_of (all_rows s)) c.look-next.ensures.sources)

pub returns-clause-made : goal.returns-clause-made
returns-clause-made g c =
    let rows = g.R.RowSet.rows in
    let found = c.in-Some.found.now in
    let sources : c.look-next.new.merged.sources ≡ sources_of rows (layers_with (option_map (λ own. own.now) c.as_ref.result) c.args.view.layers) found =
    c.look-next.ensures.sources ∙ c.in_ok-merged.ensures in
    let contents =
    ap (λ (s : List (List Row)). contents_of (all_rows s)) sources
    ∙ ap contents_of (c.stores_are_merged.ensures.rows (layers_with (option_map (λ own. own.now) c.as_ref.result) c.args.view.layers) found)
    ∙ ap (λ own. contents_of (store_rows rows (layers_with own c.args.view.layers) found)) c.as_ref.ensures.value in
    record {
      store = found;
      named = sym c.in-Some.ensures.store;
      meant_is = λ i. record {
        owner = None;
        store = found.id.0;
        direction = (ap (λ (s : ScopeState). s.direction) c.in_ok-scope.ensures) i;
        prefix = (ap (λ (s : ScopeState). s.prefix) c.in_ok-scope.ensures) i;
        contents = contents i;
        position = c.in_ok-position.ensures i;
        last = c.in_ok-last.ensures i;
      };
    }
