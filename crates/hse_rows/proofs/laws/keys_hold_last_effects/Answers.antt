use Rattle.hse_rows.specs.laws.Holding.{get-contents_after_all}
use Rattle.hse_rows.proofs.laws.keys_hold_last_effects.Goals as goal

pub returns : goal.returns
returns c = get-contents_after_all
