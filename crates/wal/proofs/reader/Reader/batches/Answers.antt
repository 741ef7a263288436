use Rattle.std.proofs.Common.{◌≡◌, ◌∙◌, ◌++◌, ◌+◌, [], ℕ, List, length, ap, sym, subst, arith}
use Rattle.std.proofs.lemmas.Result.{err_from_is_err_and}
use Rattle.gate_log.specs.Places.{need_of}
use Rattle.gate_log.specs.Reading.{payloads_of}
use Rattle.hse_fields.specs.LogReading.{payload_of}
use Rattle.wal.specs.Expected.{numbers_as}
use Rattle.wal.specs.Given.{Refuses}
use Rattle.wal.specs.Numbering.{numbering}
use Rattle.wal.specs.Replaying.{before, batches_of}
use Rattle.wal.proofs.BatchesLoop.{begins, goes_on, stops, is_done, tail_goes_on, tail_is_done}
use Rattle.wal.proofs.EntriesLoop.{takes_none, takes_more}
use Rattle.wal.proofs.reader.Reader.batches.Goals as goal

pub loop-batch-init : goal.loop-batch-init
loop-batch-init g c = record {
  entries = [];
  read = begins _;
  takes = takes_none (g.S.TakeCommits.took c.args.commits.now);
  tail = search;
  sized = omega arith;
}

pub returns-in_err-expected-clause-gives : goal.returns-in_err-expected-clause-gives
returns-in_err-expected-clause-gives g c =
    let p = err_from_is_err_and c.from_residual.result c.from_residual.ensures.1 in
    let batch = c.batch-item.result in
    let bytes : c.deref.result.now ≡ batch.bytes.items = c.deref.ensures.value in
    let end : c.loop-batch.gate + 5 + c.len.result ≡ c.loop-batch.gate + need_of batch.bytes.items =
    omega (arith, c.len.ensures, c.deref.ensures.len, ap length bytes) in
    let fault = c.in_err-expected.field-0.0 in
    let here = subst (λ (l : List ℕ). Refuses fault (before (c.loop-batch.gate + 5 + c.len.result) (payload_of (numbering c.args.self.live.now) c.args.self.most (numbers_as c.loop-batch.expected) l))) bytes c.in_err-expected.ensures.gives in
    let refused = subst (λ (e : ℕ). Refuses fault (before e (payload_of (numbering c.args.self.live.now) c.args.self.most (numbers_as c.loop-batch.expected) batch.bytes.items))) end here in
    rw (p.1, p.2) (stops fault c.args.self.live.now c.args.self.most c.loop-batch.invariant.entries (numbers_as c.loop-batch.expected) c.loop-batch.gate c.args.batches.now c.loop-batch.batch-index batch (batches_of c.args.self.live.now c.args.self.most (numbers_as c.args.self.expected) 9 (payloads_of c.args.batches.now)) c.loop-batch-test.true c.batch-item.is refused c.loop-batch.invariant.read)

pub loop-batch-preserved : goal.loop-batch-preserved
loop-batch-preserved g c =
    let batch = c.batch-item.result in
    let bytes : c.deref.result.now ≡ batch.bytes.items = c.deref.ensures.value in
    let end : c.loop-batch.gate + 5 + c.len.result ≡ c.loop-batch.gate + need_of batch.bytes.items =
    omega (arith, c.len.ensures, c.deref.ensures.len, ap length bytes) in
    let so_far = c.loop-batch.invariant in
    let more = c.in_ok-expected.ensures.gives in
    let here = ap (λ (l : List ℕ). before (c.loop-batch.gate + 5 + c.len.result) (payload_of (numbering c.args.self.live.now) c.args.self.most (numbers_as c.loop-batch.expected) l)) (sym bytes) ∙ more.1 in
    let read = ap (λ (e : ℕ). before e (payload_of (numbering c.args.self.live.now) c.args.self.most (numbers_as c.loop-batch.expected) batch.bytes.items)) (sym end) ∙ here in
    let tail = tail_goes_on c.args.batches.now c.loop-batch.batch-index batch c.loop-batch-test.true c.batch-item.is in
    record {
      entries = so_far.entries ++ more.0;
      read = rw end
          (goes_on c.args.self.live.now c.args.self.most so_far.entries (numbers_as c.loop-batch.expected) c.loop-batch.gate c.args.batches.now c.loop-batch.batch-index batch more.0 (numbers_as c.in_ok-expected.expected) (batches_of c.args.self.live.now c.args.self.most (numbers_as c.args.self.expected) 9 (payloads_of c.args.batches.now)) c.loop-batch-test.true c.batch-item.is read so_far.read);
      takes = takes_more (g.S.TakeCommits.took c.args.commits.now) (g.S.TakeCommits.took c.loop-batch.commits) (g.S.TakeCommits.took c.batch.new.commits) so_far.entries more.0 so_far.takes more.2;
      tail = omega (arith, end, tail, so_far.tail);
      sized = omega (arith, c.in_ok-expected.ensures.sized, ap length bytes, end, so_far.sized);
    }

pub returns-clause-gives : goal.returns-clause-gives
returns-clause-gives g c = (
  c.loop-batch.invariant.entries,
  is_done c.args.self.live.now c.args.self.most c.loop-batch.invariant.entries (numbers_as c.loop-batch.expected) c.loop-batch.gate c.args.batches.now c.loop-batch.batch-index (batches_of c.args.self.live.now c.args.self.most (numbers_as c.args.self.expected) 9 (payloads_of c.args.batches.now)) c.loop-batch-test.false c.loop-batch.invariant.read,
  c.loop-batch.invariant.takes,
)

pub returns-clause-sized : goal.returns-clause-sized
returns-clause-sized g c =
    let none = tail_is_done c.args.batches.now c.loop-batch.batch-index c.loop-batch-test.false in
    omega (arith, none, c.loop-batch.invariant.tail, c.loop-batch.invariant.sized)
