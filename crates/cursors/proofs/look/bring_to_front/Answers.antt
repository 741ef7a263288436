use Rattle.std.proofs.Common.{sym, subst}
use Rattle.hse_rows.specs.script.Cursor.{front}
use Rattle.merge.specs.Places.{direction_of}
use Rattle.cursors.specs.Pairs.{IsBrought}
use Rattle.cursors.proofs.LookLemmas.{brought-front}
use Rattle.cursors.proofs.look.bring_to_front.Goals as goal

pub returns : goal.returns
returns g c =
    subst (λ b. IsBrought (direction_of b) front c.args.merged.now.sources c.seek.new.self) (sym c.if-reverse.false)
    (brought-front c.args.merged.now.sources c.seek.new.self c.args.merged.now.last c.seek.ensures)
