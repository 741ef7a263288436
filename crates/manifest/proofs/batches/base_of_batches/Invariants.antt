use Rattle.std.proofs.Common.{◌≡◌, ◌+◌, ◌<◌, ◌^◌, length, Some, None}
use Rattle.std.specs.List.{sum_by}
use Rattle.gate_log.specs.Gates.{first_gate}
use Rattle.gate_log.specs.Places.{need_of}
use Rattle.gate_log.specs.Reading.{payloads_of}
use Rattle.manifest.specs.Half.{entries_of}
use Rattle.manifest.specs.Views.{metadata_as}
use Rattle.manifest.proofs.batches.base_of_batches.Given as goal

abbrev pub invariant-loop-rest : goal.invariant-loop-rest
invariant-loop-rest l = record {
  fits : l.gate + sum_by need_of (payloads_of l.rest) < 2 ^ 64;
  read : entries_of l.most (Some (metadata_as l.base)) l.gate (payloads_of l.rest)
      ≡ entries_of l.most None first_gate (payloads_of l.batches);
}

abbrev pub decreases-loop-rest : goal.decreases-loop-rest
decreases-loop-rest l = length l.rest
