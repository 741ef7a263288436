-- A start's writes, and a crash in one of them.
use Rattle.std.proofs.Common.{◌≡◌, ◌+◌, ◌≤◌, List, [], ◌∷◌, ℕ, length, arith, ap, ◌∙◌}
use Rattle.media_disk.specs.Content.{put_at}
use Rattle.gate_log.specs.Gates.{open_gate, started_text}
use Rattle.gate_log.proofs.PutLemmas.{put_before, put_over}
use Rattle.gate_log.proofs.StartLemmas.{opening, length_opening, head_wider, started, crash_first, crash_second, crash_last}
use Rattle.gate_log.specs.laws.Ranges.{torn_twice, torn_wider}
use Rattle.gate_log.proofs.starting.start.Goals as goal

pub returns-in_err-close_head-clause-others : goal.returns-in_err-close_head-clause-others
returns-in_err-close_head-clause-others g c told =
    head_wider c.args.region.now (omega (arith, c.requires.size)) _ _ (c.close_head.ensures.others told)

pub returns-in_err-write_and_sync-clause-others : goal.returns-in_err-write_and_sync-clause-others
returns-in_err-write_and_sync-clause-others g c told =
    torn_twice _ _ _ _ _ (head_wider c.args.region.now (omega (arith, c.requires.size)) _ _ (c.close_head.ensures.others told))
    (torn_wider c.args.region.now.at c.args.region.now.size _ _ _ _ (omega arith) (omega arith) (c.write_and_sync.ensures.others told))

pub returns-in_err-write_and_sync-clause-crash : goal.returns-in_err-write_and_sync-clause-crash
returns-in_err-write_and_sync-clause-crash g c told apart =
    crash_second g.D.Device g.met.D.Disk.counts_now g.met.D.Disk.only_now told c.args.region.now c.requires.size c.args.sequence
    c.args.disk.now c.close_head.new.disk c.close_head.ensures.calls.forward (c.close_head.ensures.crash told apart)
    c.write_and_sync.new.disk (c.in_ok-close_head.ensures.closed told) (c.in_ok-close_head.ensures.apart told apart)
    c.write_and_sync.ensures.calls.forward _ (omega arith) (c.write_and_sync.ensures.crash told)

pub returns-in_err-write_and_sync-2-clause-others : goal.returns-in_err-write_and_sync-2-clause-others
returns-in_err-write_and_sync-2-clause-others g c told =
    torn_twice _ _ _ _ _
    (torn_twice _ _ _ _ _ (head_wider c.args.region.now (omega (arith, c.requires.size)) _ _ (c.close_head.ensures.others told))
    (torn_wider c.args.region.now.at c.args.region.now.size _ _ _ _ (omega arith) (omega arith) (c.write_and_sync.ensures.others told)))
    (torn_wider c.args.region.now.at c.args.region.now.size _ _ _ _ (omega arith) (omega arith) (c.write_and_sync-2.ensures.others told))

pub returns-in_err-write_and_sync-2-clause-crash : goal.returns-in_err-write_and_sync-2-clause-crash
returns-in_err-write_and_sync-2-clause-crash g c told apart =
    let long = length_opening c.args.sequence in
    let inside : c.args.region.now.at + c.args.region.now.size ≤ length (g.D.Device.seen c.close_head.new.disk) =
    omega (arith, g.met.D.Disk.as_long c.close_head.new.disk told) in
    let second : g.D.Device.seen c.write_and_sync.new.disk
    ≡ put_at (g.D.Device.seen c.close_head.new.disk) (c.args.region.now.at + 1) (opening c.args.sequence) =
    c.in_ok-write_and_sync.ensures.written told
    ∙ ap (λ (l : List ℕ). put_at (g.D.Device.seen c.close_head.new.disk) (c.args.region.now.at + 1) l) c.write_u64.ensures in
    let others =
    torn_twice _ _ _ _ _ (head_wider c.args.region.now (omega (arith, c.requires.size)) _ _ (c.close_head.ensures.others told))
    (torn_wider c.args.region.now.at c.args.region.now.size _ _ _ _ (omega arith) (omega arith) (c.write_and_sync.ensures.others told)) in
    crash_last g.D.Device g.met.D.Disk.counts_now g.met.D.Disk.only_now told c.args.region.now c.requires.size c.args.sequence
    c.args.disk.now c.close_head.new.disk c.close_head.ensures.calls.forward (c.close_head.ensures.crash told apart)
    c.write_and_sync.new.disk (c.in_ok-close_head.ensures.closed told) (c.in_ok-close_head.ensures.apart told apart)
    c.write_and_sync.ensures.calls.forward _ (omega arith) (c.write_and_sync.ensures.crash told)
    c.write_and_sync-2.new.disk c.ranges.sequence.fits inside others (c.in_ok-write_and_sync.ensures.durable told) second
    c.write_and_sync-2.ensures.calls.forward (c.write_and_sync-2.ensures.crash told)

pub returns-clause-started : goal.returns-clause-started
returns-clause-started g c told =
    let long = length_opening c.args.sequence in
    let inside : c.args.region.now.at + c.args.region.now.size ≤ length (g.D.Device.seen c.close_head.new.disk) =
    omega (arith, g.met.D.Disk.as_long c.close_head.new.disk told) in
    let second : g.D.Device.seen c.write_and_sync.new.disk
    ≡ put_at (g.D.Device.seen c.close_head.new.disk) (c.args.region.now.at + 1) (opening c.args.sequence) =
    c.in_ok-write_and_sync.ensures.written told
    ∙ ap (λ (l : List ℕ). put_at (g.D.Device.seen c.close_head.new.disk) (c.args.region.now.at + 1) l) c.write_u64.ensures in
    started c.args.region.now (omega (arith, c.requires.size)) c.args.sequence _ _ c.requires.size inside second _ c.ranges.sequence.fits
    (c.write_and_sync.ensures.others told).as_long (c.in_ok-write_and_sync-2.ensures.written told)

pub returns-clause-others : goal.returns-clause-others
returns-clause-others g c told =
    torn_twice _ _ _ _ _
    (torn_twice _ _ _ _ _ (head_wider c.args.region.now (omega (arith, c.requires.size)) _ _ (c.close_head.ensures.others told))
    (torn_wider c.args.region.now.at c.args.region.now.size _ _ _ _ (omega arith) (omega arith) (c.write_and_sync.ensures.others told)))
    (torn_wider c.args.region.now.at c.args.region.now.size _ _ _ _ (omega arith) (omega arith) (c.write_and_sync-2.ensures.others told))

pub returns-clause-crash : goal.returns-clause-crash
returns-clause-crash g c told apart =
    let long = length_opening c.args.sequence in
    let inside : c.args.region.now.at + c.args.region.now.size ≤ length (g.D.Device.seen c.close_head.new.disk) =
    omega (arith, g.met.D.Disk.as_long c.close_head.new.disk told) in
    let second : g.D.Device.seen c.write_and_sync.new.disk
    ≡ put_at (g.D.Device.seen c.close_head.new.disk) (c.args.region.now.at + 1) (opening c.args.sequence) =
    c.in_ok-write_and_sync.ensures.written told
    ∙ ap (λ (l : List ℕ). put_at (g.D.Device.seen c.close_head.new.disk) (c.args.region.now.at + 1) l) c.write_u64.ensures in
    let others =
    torn_twice _ _ _ _ _ (head_wider c.args.region.now (omega (arith, c.requires.size)) _ _ (c.close_head.ensures.others told))
    (torn_wider c.args.region.now.at c.args.region.now.size _ _ _ _ (omega arith) (omega arith) (c.write_and_sync.ensures.others told)) in
    crash_last g.D.Device g.met.D.Disk.counts_now g.met.D.Disk.only_now told c.args.region.now c.requires.size c.args.sequence
    c.args.disk.now c.close_head.new.disk c.close_head.ensures.calls.forward (c.close_head.ensures.crash told apart)
    c.write_and_sync.new.disk (c.in_ok-close_head.ensures.closed told) (c.in_ok-close_head.ensures.apart told apart)
    c.write_and_sync.ensures.calls.forward _ (omega arith) (c.write_and_sync.ensures.crash told)
    c.write_and_sync-2.new.disk c.ranges.sequence.fits inside others (c.in_ok-write_and_sync.ensures.durable told) second
    c.write_and_sync-2.ensures.calls.forward (c.write_and_sync-2.ensures.crash told)

pub returns-clause-bytes : goal.returns-clause-bytes
returns-clause-bytes g c told =
    let long = length_opening c.args.sequence in
    let inside : c.args.region.now.at + c.args.region.now.size ≤ length (g.D.Device.seen c.close_head.new.disk) =
    omega (arith, g.met.D.Disk.as_long c.close_head.new.disk told) in
    let second : g.D.Device.seen c.write_and_sync.new.disk
    ≡ put_at (g.D.Device.seen c.close_head.new.disk) (c.args.region.now.at + 1) (opening c.args.sequence) =
    c.in_ok-write_and_sync.ensures.written told
    ∙ ap (λ (l : List ℕ). put_at (g.D.Device.seen c.close_head.new.disk) (c.args.region.now.at + 1) l) c.write_u64.ensures in
    c.in_ok-write_and_sync-2.ensures.written told
    ∙ ap (λ (l : List ℕ). put_at l c.args.region.now.at (open_gate ∷ [])) second
    ∙ put_before (g.D.Device.seen c.close_head.new.disk) (open_gate ∷ []) (opening c.args.sequence) c.args.region.now.at (omega (arith, c.requires.size))
    ∙ put_over (g.D.Device.seen c.args.disk.now) (g.D.Device.seen c.close_head.new.disk) (started_text c.args.sequence) c.args.region.now.at 1
    (omega (arith, long)) (c.close_head.ensures.others told)
