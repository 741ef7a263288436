use Rattle.std.proofs.Common.{◌≡◌, ◌+◌, ◌≤◌, ◌^◌, length}
use Rattle.hse_rows.specs.machine.TakenRuns.{numbers_of, runs_as}
use Rattle.wal.specs.Numbering.{free_from, taken_from}
use Rattle.wal.proofs.expected.first_free.Given as goal

abbrev pub invariant-loop-rest : goal.invariant-loop-rest
invariant-loop-rest l = record {
  small : l.next ≤ 2 ^ 62 + 1;
  number : free_from l.next (numbers_of (runs_as l.rest)) ≡ free_from l.fn.next (numbers_of (runs_as l.taken));
  taken : taken_from l.next (numbers_of (runs_as l.rest)) ≡ taken_from l.fn.next (numbers_of (runs_as l.taken));
}

abbrev pub decreases-loop-rest : goal.decreases-loop-rest
decreases-loop-rest l = length l.rest
