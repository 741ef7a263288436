use Rattle.std.proofs.Common.{◌≡◌, ◌+◌, ◌≤◌, List, drop}
use Rattle.std.specs.List.{sum_by}
use Rattle.gate_log.specs.Places.{need_of, tail_of}
use Rattle.gate_log.specs.Reading.{payloads_of}
use Rattle.hse_fields.specs.LogText.{Entry}
use Rattle.wal.specs.Expected.{numbers_as}
use Rattle.wal.specs.Replaying.{batches_of}
use Rattle.wal.specs.Taking.{Takes}
use Rattle.wal.proofs.BatchesLoop.{with_beginning}
use Rattle.wal.proofs.reader.Reader.batches.Given as goal

abbrev pub invariant-loop-batch : goal.invariant-loop-batch
invariant-loop-batch g l = record {
  entries : List Entry;
  read : with_beginning entries (batches_of l.self.live.now l.self.most (numbers_as l.expected) l.gate (payloads_of (drop l.batch-index l.batches)))
      ≡ batches_of l.self.live.now l.self.most (numbers_as l.self.expected) 9 (payloads_of l.batches);
  takes : Takes (g.S.TakeCommits.took l.fn.commits) (g.S.TakeCommits.took l.commits) entries;
  tail : l.gate + sum_by need_of (payloads_of (drop l.batch-index l.batches)) ≡ tail_of (payloads_of l.batches);
  sized : l.gate + l.expected.room ≤ 9 + l.self.expected.room;
}
