use Rattle.std.proofs.Common.{List, Err, refl, sym, ap, subst, ◌∙◌}
use Rattle.std.specs.FinMap as map
use Rattle.std.proofs.lemmas.Bool.{iff_false}
use Rattle.gate_log.specs.Places.{region_of}
use Rattle.gate_log.specs.Reading.{payloads_of}
use Rattle.wal.specs.Logged.{entries_of}
use Rattle.wal.specs.Replaying.{IsReplay}
use Rattle.wal.specs.declared.commit.Commit.{Commit}
use Rattle.wal.specs.declared.segment.SegmentFault.{SegmentFault}
use Rattle.hse_shell.specs.Stored.{device_size, log_region, live_stores, longest_value, first_numbers, replayed, IsRefusedAt, of_sequence}
use Rattle.hse_shell.proofs.ReplayLemmas.{refused_batches, replay_of}
use Rattle.hse_shell.proofs.replay.replay.Goals as goal

pub returns-then-not-is_log_sequence-clause-opening :
    goal.returns-then-not-is_log_sequence-clause-opening
returns-then-not-is_log_sequence-clause-opening c image as_long is =
    let front = c.args.front in
    of_sequence front.sequence (payloads_of front.batches.items) front.end as_long is
    (iff_false c.is_log_sequence.ensures c.if-not-is_log_sequence.true) refl

pub returns-in-Err-Damaged-clause-opening : goal.returns-in-Err-Damaged-clause-opening
returns-in-Err-Damaged-clause-opening c image as_long is =
    let read = subst (λ (fault : SegmentFault). IsReplay (region_of log_region image) live_stores longest_value (first_numbers device_size) (Err fault))
    c.in-Err-Damaged.field-0-is (c.in-Err-Damaged.ensures.read (region_of log_region image) is) in
    subst (IsRefusedAt image) (sym c.in-Err-Damaged.place-is)
    (refused_batches image c.args.front c.in-Err-Damaged.place as_long (c.is_log_sequence.ensures.0 c.if-not-is_log_sequence.false) is read)

pub returns-clause-opening : goal.returns-clause-opening
returns-clause-opening c image as_long is =
    replay_of image c.args.front c.in-Ok.segment c.in-Ok-rows_of.rows as_long (c.is_log_sequence.ensures.0 c.if-not-is_log_sequence.false)
    (c.in-Ok.ensures.read (region_of log_region image) is) c.in-Ok.ensures.sound.sequence (c.in-Ok.ensures.sound.consecutive refl)
    (c.in-Ok-rows_of.ensures ∙ ap (λ (commits : List Commit). replayed map.empty (entries_of commits)) c.deref.ensures.value)
