use Rattle.std.proofs.Common.{sym, ap, ◌∙◌}
use Rattle.hse_rows.specs.script.Cursor.{forward}
use Rattle.row_laws.specs.Next.{position_of}
use Rattle.merge.specs.Places.{direction_of, place_by, passed}
use Rattle.merge.proofs.SeekLemmas.{place-past, place-upto}
use Rattle.merge.proofs.seeks.place_to.Goals as goal

pub returns-then-past : goal.returns-then-past
returns-then-past g c =
    c.place_past.ensures ∙ ap (passed forward c.args.edge.now (g.R.RowSet.rows c.args.source.now)) c.place-at.ensures
    ∙ place-past c.args.edge.now (g.R.RowSet.rows c.args.source.now) c.known.ensures.rising
    ∙ (λ i. place_by (direction_of (sym c.if-reverse.false i)) (position_of (sym c.if-past.true i) c.args.edge.now) (g.R.RowSet.rows c.args.source.now))

pub returns-then-reverse-2 : goal.returns-then-reverse-2
returns-then-reverse-2 g c =
    c.place_past-then-reverse-2.ensures ∙ ap (passed forward c.args.edge.now (g.R.RowSet.rows c.args.source.now)) c.place-at.ensures
    ∙ place-upto c.args.edge.now (g.R.RowSet.rows c.args.source.now) c.known.ensures.rising
    ∙ (λ i. place_by (direction_of (sym c.if-reverse-2.true i)) (position_of (sym c.if-past.false i) c.args.edge.now) (g.R.RowSet.rows c.args.source.now))
