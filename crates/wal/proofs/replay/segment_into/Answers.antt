use Rattle.std.proofs.Common.{◌≡◌, ◌+◌, List, Ok, refl, ap, sym, subst, arith}
use Rattle.std.proofs.lemmas.Result.{err_from_is_err_and}
use Rattle.gate_log.specs.Places.{tail_of}
use Rattle.gate_log.specs.Reading.{payloads_of, LiesInside}
use Rattle.gate_log.specs.declared.found.Payload.{Payload}
use Rattle.gate_log.specs.declared.front.End.{End}
use Rattle.hse_fields.specs.LogText.{Entry}
use Rattle.hse_rows.specs.machine.TakenRuns.{numbers_of, runs_as}
use Rattle.wal.specs.Charges.{charges}
use Rattle.wal.specs.Expected.{numbers_as}
use Rattle.wal.specs.Numbering.{Numbers}
use Rattle.wal.specs.Replaying.{segment_of, starting}
use Rattle.wal.specs.laws.Batches.{batches_follow}
use Rattle.wal.specs.laws.Numbering.{all_charges}
use Rattle.wal.proofs.SegmentLemmas.{result_within, segment_is}
use Rattle.wal.proofs.SoundLemmas.{numbers_from}
use Rattle.wal.proofs.replay.segment_into.Goals as goal

pub returns-in_err-last-clause-within : goal.returns-in_err-last-clause-within
returns-in_err-last-clause-within g c = λ place is.
    let p = err_from_is_err_and c.from_residual.result c.from_residual.ensures.1 in
    let inside = subst (λ (bs : List Payload). LiesInside c.args.size (payloads_of bs) c.args.front.end) (sym c.deref.ensures.value) c.requires.inside in
    result_within c.from_residual.result c.in_err-last.field-0.0 c.args.live.now c.args.most (numbers_from c.args.next (numbers_of (runs_as c.args.taken.now)) c.saturating_sub-room.result)
    c.args.size place (payloads_of c.deref.result.now) c.args.front.end (rw (p.1, p.2) refl) inside c.in_err-last.ensures.gives is

pub overflow_sub-result : goal.overflow_sub-result
overflow_sub-result g c =
    let read = c.in_ok-last.ensures.gives in
    let start = numbers_from c.args.next (numbers_of (runs_as c.args.taken.now)) c.saturating_sub-room.result in
    let last = numbers_as c.in_ok-last.last in
    let follow = batches_follow c.args.live.now c.args.most start 9 (payloads_of c.deref.result.now) (read.0, last) read.1 in
    let all : charges read.0 + c.in_ok-last.last.room ≡ c.saturating_sub-room.result = all_charges c.args.live.now start last read.0 follow in
    omega (arith, all)

pub returns-clause-says : goal.returns-clause-says
returns-clause-says g c =
    let read = c.in_ok-last.ensures.gives in
    let start = numbers_from c.args.next (numbers_of (runs_as c.args.taken.now)) c.saturating_sub-room.result in
    let last = numbers_as c.in_ok-last.last in
    let follow = batches_follow c.args.live.now c.args.most start 9 (payloads_of c.deref.result.now) (read.0, last) read.1 in
    let all : charges read.0 + c.in_ok-last.last.room ≡ c.saturating_sub-room.result = all_charges c.args.live.now start last read.0 follow in
    let inside = subst (LiesInside c.args.size (payloads_of c.args.front.batches.items)) c.in-Closed.is c.requires.inside in
    let tail = ap (λ (batches : List Payload). tail_of (payloads_of batches)) c.deref.ensures.value in
    let x : List Entry × Numbers = (read.0, last) in
    record {
      entries = read.0;
      last = last;
      is = subst (λ (end : End). segment_of c.args.live.now c.args.most (starting c.args.next (numbers_of (runs_as c.args.taken.now)) c.args.size) (payloads_of c.args.front.batches.items) end ≡ Ok x)
          (sym c.in-Closed.is)
          (segment_is c.args.live.now c.args.most c.args.next (numbers_of (runs_as c.args.taken.now)) c.args.size c.saturating_sub-room.result c.deref.result.now c.args.front.batches.items c.in-Closed.tail x
          c.saturating_sub-room.ensures c.deref.ensures.value read.1);
      taken = read.2;
      sequence = refl;
      closed = c.in-Closed.is;
      charges = omega (arith, all);
      next = refl;
      placed = omega (arith, all, inside.0, tail, c.in_ok-last.ensures.sized);
    }
