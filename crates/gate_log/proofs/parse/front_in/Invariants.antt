use Rattle.std.proofs.Common.{◌≡◌, ◌<◌, ◌++◌, length}
use Rattle.gate_log.specs.Gates.{open_part, AreFramed}
use Rattle.gate_log.specs.Reading.{payloads_of}
use Rattle.gate_log.proofs.parse.front_in.Given as goal

abbrev pub invariant-loop-rest : goal.invariant-loop-rest
invariant-loop-rest l = record {
  spelled : l.region ≡ open_part l.sequence (payloads_of l.batches.items) ++ l.rest;
  framed : AreFramed (payloads_of l.batches.items);
  gate : 0 < length l.rest;
}

abbrev pub decreases-loop-rest : goal.decreases-loop-rest
decreases-loop-rest l = length l.rest
