use Rattle.std.proofs.Common.{◌+◌, ◌-◌, ◌/◌, subst, sym, ◌∙◌, arith}
use Rattle.sorted_lists.specs.laws.Lists.{each-at}
use Rattle.ingest_tree.specs.Rows.{row_at}
use Rattle.ingest_tree.proofs.PartLemmas.{one-within, narrowed-behind, narrowed-before}
use Rattle.ingest_tree.proofs.search.child_at.Goals as goal

pub loop-high-preserved-then-begins_behind : goal.loop-high-preserved-then-begins_behind
loop-high-preserved-then-begins_behind g c =
    let within = c.loop-high.invariant.within in
    let apart = c.loop-high-test.true in
    let middle = c.loop-high.low + (c.loop-high.high - c.loop-high.low) / 2 in
    let piece = c.index-pieces-middle.result in
    let is = c.index-pieces-middle.is in
    narrowed-behind g.P.Piece.rows c.args.pieces.now (row_at c.args.spot) c.loop-high.low c.loop-high.high
    middle piece piece c.requires.rising c.loop-high.invariant is
    (g.met.P.Piece.begins piece
    (subst g.P.Piece.sound (sym is) (each-at g.P.Piece.sound c.args.pieces.now middle piece c.requires.sound (omega (arith, apart, within)))))
    (omega (arith, apart)) (omega (arith, apart))
    (λ row first. sym (c.begins_behind.ensures row first) ∙ c.if-begins_behind.true)

pub loop-high-preserved : goal.loop-high-preserved
loop-high-preserved g c =
    let within = c.loop-high.invariant.within in
    let apart = c.loop-high-test.true in
    let middle = c.loop-high.low + (c.loop-high.high - c.loop-high.low) / 2 in
    let piece = c.index-pieces-middle.result in
    let is = c.index-pieces-middle.is in
    narrowed-before g.P.Piece.rows c.args.pieces.now (row_at c.args.spot) c.loop-high.low c.loop-high.high
    middle piece piece c.requires.rising c.loop-high.invariant is
    (g.met.P.Piece.begins piece
    (subst g.P.Piece.sound (sym is) (each-at g.P.Piece.sound c.args.pieces.now middle piece c.requires.sound (omega (arith, apart, within)))))
    (omega (arith, apart))
    (λ row first. sym (c.begins_behind.ensures row first) ∙ c.if-begins_behind.false)

pub returns : goal.returns
returns g c =
    let near = c.loop-high-test.false in
    let some = c.loop-high.invariant.some in
    one-within g.P.Piece.rows c.args.pieces.now (row_at c.args.spot) c.loop-high.low c.loop-high.high c.loop-high.invariant (omega (arith, near, some))
