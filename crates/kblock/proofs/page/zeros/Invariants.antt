use Rattle.std.proofs.Common.{◌≡◌, length}
use Rattle.hse_fields.specs.BlockReading.{zeros_of}
use Rattle.kblock.proofs.page.zeros.Given as goal

abbrev pub invariant-loop-rest : goal.invariant-loop-rest
invariant-loop-rest l = zeros_of l.rest ≡ zeros_of l.bytes

abbrev pub decreases-loop-rest : goal.decreases-loop-rest
decreases-loop-rest l = length l.rest
