use Rattle.hse_rows.proofs.OverlapLemmas.{overlaps_turned}
use Rattle.hse_rows.proofs.laws.overlaps_go_both_ways.Goals as goal

pub returns : goal.returns
returns c = overlaps_turned
