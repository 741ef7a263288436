use Rattle.std.proofs.Common.{Some, sym, ap, ◌∙◌, subst}
use Rattle.hse_rows.specs.script.Cursor.{Pair, key_by, found_by}
use Rattle.cursors.specs.Cursors.{CursorKept, meant}
use Rattle.cursors.specs.Pairs.{IsNextPair}
use Rattle.cursors.proofs.cursor.Cursor.found.Goals as goal

pub returns-in-Some : goal.returns-in-Some
returns-in-Some g c =
    let next = subst (IsNextPair _ c.self.inside.merged) c.in-Some.is c.self.invariant in
    ap (λ (p : Pair). Some p.0) (c.pair_in.ensures.pair next.pair next.there)
    ∙ ap key_by (sym next.reads)
    ∙ ap (λ (k : CursorKept). found_by (meant k)) c.self.view_is
