use Rattle.std.proofs.Common.{sym, subst, List}
use Rattle.std.specs.Option.{option_map}
use Rattle.hse_rows.specs.declared.row.Row.{Row}
use Rattle.row_laws.specs.Next.{OwnFalls}
use Rattle.view.specs.Views.{layers_with}
use Rattle.cursors.proofs.cursor.merged_of.Goals as goal

pub new-requires : goal.new-requires
new-requires g c = λ key.
    subst (λ (s : List (List Row)). OwnFalls key s) (sym c.in_ok-sources.ensures)
    (c.stores_are_merged.ensures.falls (layers_with (option_map (λ own. own.now) c.args.own) c.args.view.now.layers) c.args.store.now
    c.requires c.nodes-nodes.ensures.known key)
