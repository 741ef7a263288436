use Rattle.std.proofs.Common.{◌∙◌, sym, ap, map}
use Rattle.std.specs.FinMap as fin_map
use Rattle.hse_rows.specs.rows.Meaning.{contents_of}
use Rattle.row_laws.specs.Next.{value_left}
use Rattle.ingest_tree.specs.Rows.{rows_in}
use Rattle.view.specs.Routed.{tree_rows}
use Rattle.std.specs.Option.{option_map}
use Rattle.view.specs.Views.{layers_with}
use Rattle.view.proofs.TreeLemmas.{get-tree}
use Rattle.view.proofs.ViewLemmas.{said_or, get-layers}
use Rattle.view.proofs.view.View.value.Goals as goal

pub returns-in-Nothing : goal.returns-in-Nothing
returns-in-Nothing g c =
    let rows = g.R.RowSet.rows in
    let tree = c.args.store.now.tree in
    let far = tree_rows rows tree in
    let layers = map (rows_in c.args.store.now.id.0) (layers_with (option_map _ c.args.own) c.args.self.now.layers) in
    c.value_of.ensures
    ∙ ap value_left c.find.ensures
    ∙ sym (get-tree rows c.args.key.now tree c.nodes-nodes.ensures.known c.args.store.now.prefix c.requires.routed
    c.first_sources_decide.ensures.paths c.merged_rows_are_entries.ensures.values)
    ∙ ap (λ said. said_or said (fin_map.get (contents_of far) c.args.key.now)) c.in-Nothing.ensures
    ∙ sym (get-layers c.first_sources_decide.ensures.decide c.first_sources_decide.ensures.layers c.args.key.now layers far c.requires.over)

pub returns-in-Absent : goal.returns-in-Absent
returns-in-Absent g c =
    let far = tree_rows g.R.RowSet.rows c.args.store.now.tree in
    let layers = map (rows_in c.args.store.now.id.0) (layers_with (option_map _ c.args.own) c.args.self.now.layers) in
    ap (λ said. said_or said (fin_map.get (contents_of far) c.args.key.now)) c.in-Absent.ensures
    ∙ sym (get-layers c.first_sources_decide.ensures.decide c.first_sources_decide.ensures.layers c.args.key.now layers far c.requires.over)

pub returns-in-Value : goal.returns-in-Value
returns-in-Value g c =
    let far = tree_rows g.R.RowSet.rows c.args.store.now.tree in
    let layers = map (rows_in c.args.store.now.id.0) (layers_with (option_map _ c.args.own) c.args.self.now.layers) in
    ap (λ said. said_or said (fin_map.get (contents_of far) c.args.key.now)) c.in-Value.ensures
    ∙ sym (get-layers c.first_sources_decide.ensures.decide c.first_sources_decide.ensures.layers c.args.key.now layers far c.requires.over)
