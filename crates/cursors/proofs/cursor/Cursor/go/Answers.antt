use Rattle.std.proofs.Common.{List, refl, sym, ap, ◌∙◌}
use Rattle.std.specs.Option.{option_map}
use Rattle.hse_rows.specs.declared.row.Row.{Row}
use Rattle.hse_rows.specs.rows.Meaning.{contents_of}
use Rattle.hse_rows.specs.script.Cursor.{at_key}
use Rattle.row_laws.specs.Sources.{all_rows}
use Rattle.cursors.specs.Cursors.{CursorKept, with_position}
use Rattle.cursors.proofs.cursor.Cursor.go.Goals as goal

pub invariant_of-self : goal.invariant_of-self
invariant_of-self g c =
    c.look-self-inside.ensures.pair _ (sym c.asked-asked.ensures.direction) (sym c.asked-asked.ensures.filter) (sym c.key.ensures ∙ sym c.asked-asked.ensures.last) refl
    (ap (λ (s : List (List Row)). contents_of (all_rows s)) c.look-self-inside.ensures.sources)

pub returns : goal.returns
returns g c =
    (λ i. record {
      store = c.self.inside.store.0;
      direction = c.self.inside.scope.direction;
      prefix = c.self.inside.scope.prefix;
      sources = c.look-self-inside.ensures.sources i;
      position = c.set.ensures i;
      last = c.set-2.ensures i;
    })
    ∙ ap (λ (k : CursorKept). with_position k (at_key c.args.key.now) (option_map (λ last. last.now) c.args.last)) c.self.view_is
