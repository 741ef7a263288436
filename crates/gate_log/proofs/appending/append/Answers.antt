-- An append's writes, and a crash in one of them.
use Rattle.std.proofs.Common.{subst, ◌≡◌, ◌+◌, ◌≤◌, List, [], ◌∷◌, ℕ, length, arith, ap, ◌∙◌}
use Rattle.media_disk.specs.Content.{put_at}
use Rattle.media_disk.specs.laws.Leaves.{leaves_more, leaves_joined}
use Rattle.gate_log.specs.Framed.{framed}
use Rattle.gate_log.specs.Gates.{open_gate}
use Rattle.gate_log.specs.Places.{need_of}
use Rattle.gate_log.specs.laws.Spelling.{length-framed}
use Rattle.gate_log.proofs.AppendLemmas.{crash_behind, crash_at, appended}
use Rattle.gate_log.proofs.PutLemmas.{put_before}
use Rattle.gate_log.specs.laws.Ranges.{torn_twice, torn_wider}
use Rattle.gate_log.proofs.appending.append.Goals as goal

pub returns-in_err-write_and_sync-clause-others : goal.returns-in_err-write_and_sync-clause-others
returns-in_err-write_and_sync-clause-others g c told =
    let long : length c.framed.result.now ≡ need_of c.args.batch.now = ap length c.framed.ensures.spelled ∙ length-framed c.args.batch.now in
    torn_wider _ _ _ _ _ _ (omega arith) (omega arith) (c.write_and_sync.ensures.others told)

pub returns-in_err-write_and_sync-clause-crash : goal.returns-in_err-write_and_sync-clause-crash
returns-in_err-write_and_sync-clause-crash g c told sequence payloads tail gated apart =
    let long : length c.framed.result.now ≡ need_of c.args.batch.now = ap length c.framed.ensures.spelled ∙ length-framed c.args.batch.now in
    leaves_more g.D.Device _ _ _ _ (c.write_and_sync.ensures.crash told)
    (crash_behind c.args.region.now c.args.tail.now.place sequence payloads c.args.batch.now _ _ tail gated _ (omega arith) apart)

pub returns-in_err-write_and_sync-2-clause-others : goal.returns-in_err-write_and_sync-2-clause-others
returns-in_err-write_and_sync-2-clause-others g c told =
    let long : length c.framed.result.now ≡ need_of c.args.batch.now = ap length c.framed.ensures.spelled ∙ length-framed c.args.batch.now in
    torn_twice _ _ _ _ _
    (torn_wider _ _ _ _ _ _ (omega arith) (omega arith) (c.write_and_sync.ensures.others told))
    (torn_wider _ _ _ _ _ _ (omega arith) (omega arith) (c.write_and_sync-2.ensures.others told))

pub returns-in_err-write_and_sync-2-clause-crash : goal.returns-in_err-write_and_sync-2-clause-crash
returns-in_err-write_and_sync-2-clause-crash g c told sequence payloads tail gated apart =
    let long : length c.framed.result.now ≡ need_of c.args.batch.now = ap length c.framed.ensures.spelled ∙ length-framed c.args.batch.now in
    let wider = torn_wider c.args.region.now.at c.args.region.now.size _ _ _ _ (omega arith) (omega arith) (c.write_and_sync.ensures.others told) in
    let inside : c.args.region.now.at + c.args.region.now.size ≤ length (g.D.Device.seen c.args.disk.now) = omega (arith, g.met.D.Disk.as_long c.args.disk.now told) in
    let written =
    subst (λ (l : List ℕ). g.D.Device.seen c.write_and_sync.new.disk ≡ put_at (g.D.Device.seen c.args.disk.now) (c.args.region.now.at + c.args.tail.now.place + 1) l)
    c.framed.ensures.spelled (c.in_ok-write_and_sync.ensures.written told) in
    leaves_joined g.D.Device _ _ _ _ c.write_and_sync.ensures.calls.forward
    (leaves_more g.D.Device _ _ _ _ (c.write_and_sync.ensures.crash told)
    (crash_behind c.args.region.now c.args.tail.now.place sequence payloads c.args.batch.now _ _ tail gated _ (omega arith) apart))
    (leaves_more g.D.Device _ _ _ _ (c.write_and_sync-2.ensures.crash told)
    (crash_at c.args.region.now c.args.tail.now.place sequence payloads c.args.batch.now _ _ tail gated inside (omega arith) c.framed.ensures.fits
    (length-framed c.args.batch.now) _ written wider _ (c.in_ok-write_and_sync.ensures.durable told)))

pub returns-clause-appended : goal.returns-clause-appended
returns-clause-appended g c told sequence payloads tail gated =
    let long : length c.framed.result.now ≡ need_of c.args.batch.now = ap length c.framed.ensures.spelled ∙ length-framed c.args.batch.now in
    let wider = torn_wider c.args.region.now.at c.args.region.now.size _ _ _ _ (omega arith) (omega arith) (c.write_and_sync.ensures.others told) in
    let inside : c.args.region.now.at + c.args.region.now.size ≤ length (g.D.Device.seen c.args.disk.now) = omega (arith, g.met.D.Disk.as_long c.args.disk.now told) in
    let written =
    subst (λ (l : List ℕ). g.D.Device.seen c.write_and_sync.new.disk ≡ put_at (g.D.Device.seen c.args.disk.now) (c.args.region.now.at + c.args.tail.now.place + 1) l)
    c.framed.ensures.spelled (c.in_ok-write_and_sync.ensures.written told) in
    appended c.args.region.now c.args.tail.now.place sequence payloads c.args.batch.now _ (g.D.Device.pending c.args.disk.now) tail gated inside (omega arith) c.framed.ensures.fits
    (length-framed c.args.batch.now) _ written _ wider.as_long (c.in_ok-write_and_sync-2.ensures.written told)

pub returns-clause-others : goal.returns-clause-others
returns-clause-others g c told =
    let long : length c.framed.result.now ≡ need_of c.args.batch.now = ap length c.framed.ensures.spelled ∙ length-framed c.args.batch.now in
    torn_twice _ _ _ _ _
    (torn_wider _ _ _ _ _ _ (omega arith) (omega arith) (c.write_and_sync.ensures.others told))
    (torn_wider _ _ _ _ _ _ (omega arith) (omega arith) (c.write_and_sync-2.ensures.others told))

pub returns-clause-crash : goal.returns-clause-crash
returns-clause-crash g c told sequence payloads tail gated apart =
    let long : length c.framed.result.now ≡ need_of c.args.batch.now = ap length c.framed.ensures.spelled ∙ length-framed c.args.batch.now in
    let wider = torn_wider c.args.region.now.at c.args.region.now.size _ _ _ _ (omega arith) (omega arith) (c.write_and_sync.ensures.others told) in
    let inside : c.args.region.now.at + c.args.region.now.size ≤ length (g.D.Device.seen c.args.disk.now) = omega (arith, g.met.D.Disk.as_long c.args.disk.now told) in
    let written =
    subst (λ (l : List ℕ). g.D.Device.seen c.write_and_sync.new.disk ≡ put_at (g.D.Device.seen c.args.disk.now) (c.args.region.now.at + c.args.tail.now.place + 1) l)
    c.framed.ensures.spelled (c.in_ok-write_and_sync.ensures.written told) in
    leaves_joined g.D.Device _ _ _ _ c.write_and_sync.ensures.calls.forward
    (leaves_more g.D.Device _ _ _ _ (c.write_and_sync.ensures.crash told)
    (crash_behind c.args.region.now c.args.tail.now.place sequence payloads c.args.batch.now _ _ tail gated _ (omega arith) apart))
    (leaves_more g.D.Device _ _ _ _ (c.write_and_sync-2.ensures.crash told)
    (crash_at c.args.region.now c.args.tail.now.place sequence payloads c.args.batch.now _ _ tail gated inside (omega arith) c.framed.ensures.fits
    (length-framed c.args.batch.now) _ written wider _ (c.in_ok-write_and_sync.ensures.durable told)))

pub returns-clause-bytes : goal.returns-clause-bytes
returns-clause-bytes g c told =
    let inside : c.args.region.now.at + c.args.region.now.size ≤ length (g.D.Device.seen c.args.disk.now) = omega (arith, g.met.D.Disk.as_long c.args.disk.now told) in
    let written =
    subst (λ (l : List ℕ). g.D.Device.seen c.write_and_sync.new.disk ≡ put_at (g.D.Device.seen c.args.disk.now) (c.args.region.now.at + c.args.tail.now.place + 1) l)
    c.framed.ensures.spelled (c.in_ok-write_and_sync.ensures.written told) in
    c.in_ok-write_and_sync-2.ensures.written told
    ∙ ap (λ (l : List ℕ). put_at l (c.args.region.now.at + c.args.tail.now.place) (open_gate ∷ [])) written
    ∙ put_before (g.D.Device.seen c.args.disk.now) (open_gate ∷ []) (framed c.args.batch.now) (c.args.region.now.at + c.args.tail.now.place) (omega arith)
