use Rattle.std.proofs.Common.{sym, subst}
use Rattle.cursors.specs.Cursors.{CursorKept, IsPairAt}
use Rattle.cursors.proofs.cursor.Cursor.pair.Goals as goal

pub returns : goal.returns
returns g c = λ pair there.
    c.pair_in.ensures.pair pair (subst (λ (k : CursorKept). IsPairAt k.sources c.args.source c.args.at pair) (sym c.self.view_is) there)
