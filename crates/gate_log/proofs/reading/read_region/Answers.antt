use Rattle.gate_log.specs.Places.{region_of}
use Rattle.gate_log.proofs.reading.read_region.Goals as goal

pub returns-clause-found : goal.returns-clause-found
returns-clause-found g c = λ tells.
    c.found_in.ensures.found (region_of c.args.region.now (g.D.Device.seen c.args.disk.now)) (c.in_ok-front.ensures.found tells)

pub returns-clause-inside : goal.returns-clause-inside
returns-clause-inside g c = c.found_in.ensures.inside c.args.region.now.size c.in_ok-front.ensures.inside
