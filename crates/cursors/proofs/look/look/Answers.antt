use Rattle.std.proofs.Common.{◌∙◌, subst}
use Rattle.merge.specs.Places.{direction_of}
use Rattle.cursors.specs.Marks.{position_by}
use Rattle.cursors.specs.Starts.{StartsSame}
use Rattle.cursors.proofs.LookLemmas.{brought-ahead}
use Rattle.cursors.proofs.look.look.Goals as goal

pub returns-clause-sources : goal.returns-clause-sources
returns-clause-sources g c = c.next_pair.ensures.sources ∙ c.bring.ensures.same_sources

pub returns-clause-pair : goal.returns-clause-pair
returns-clause-pair g c =
    λ cursor way filter last stands holds.
    c.next_pair.ensures.pair cursor way filter last
    (brought-ahead cursor (direction_of c.args.asked.reverse) c.args.asked.filter.now (position_by c.start-stand.result.0 c.start-stand.result.1.now) c.args.position.now
    c.args.merged.now.sources c.bring.new.merged c.bring.ensures
    (subst (StartsSame (direction_of c.args.asked.reverse) c.args.asked.filter.now (position_by c.start-stand.result.0 c.start-stand.result.1.now)) c.parts-stand.ensures c.start-stand.ensures)
    way filter stands holds)
