use Rattle.std.proofs.Common.{Some, refl, sym, ap, ◌∙◌}
use Rattle.hse_rows.specs.script.Cursor.{moved}
use Rattle.cursors.specs.Cursors.{meant}
use Rattle.cursors.proofs.cursor.Cursor.read.Goals as goal

pub returns-in-Some : goal.returns-in-Some
returns-in-Some g c =
    let is = c.in-Some.ensures in
    let old = meant c.args.self.now in (
      (refl, λ _. tt, ap meant is.new_is ∙ ap (moved old) (sym is.reads)),
      record { pair = ap Some (c.pair.ensures is.pair is.there) ∙ sym is.reads; after = tt },
    )
