use Rattle.std.proofs.Common.{◌≡◌, ◌+◌, ◌≤◌, ◌∙◌, ℕ, List, [], ◌∷◌, sym, ap, subst, arith}
use Rattle.media_disk.specs.Content.{put_at}
use Rattle.media_disk.specs.laws.Leaves.{leaves_more, leaves_joined}
use Rattle.gate_log.specs.Framed.{framed}
use Rattle.gate_log.specs.Gates.{open_gate, started_text}
use Rattle.gate_log.specs.Places.{IsApart, tail_of}
use Rattle.device_layout.specs.Layouts.{half_of}
use Rattle.hse_rows.specs.machine.Sizes.{device_block}
use Rattle.recovery.specs.Formatting.{IsStopped}
use Rattle.recovery.specs.Image.{log_region}
use Rattle.recovery.proofs.FormatLemmas.{before_region, filled}
use Rattle.recovery.proofs.StopLemmas.{stopped_within}
use Rattle.recovery.proofs.forming.fill.Goals as goal

pub returns-in-Err-Device-clause-crash : goal.returns-in-Err-Device-clause-crash
returns-in-Err-Device-clause-crash g c = λ told block spelled is none.
    let now = c.args.disk.now in
    let tail : c.args.tail.place ≡ tail_of [] = c.requires.tail in
    let low : device_block ≤ (half_of c.args.layout 1).at = omega arith in
    let crash = rw c.half.ensures at (c.append.ensures.crash told 1 [] tail) in
    leaves_more g.D.Device now c.append.new.disk _ (IsStopped c.args.layout)
    (crash is.second (subst (IsApart (half_of c.args.layout 1)) (sym none) tt))
    (λ image left. stopped_within c.args.layout c.requires.good block spelled (half_of c.args.layout 1) (g.D.Device.seen now) image (g.D.Device.pending now)
    low is.head is.long none left.0)

pub returns-in_err-start-clause-crash : goal.returns-in_err-start-clause-crash
returns-in_err-start-clause-crash g c = λ told block spelled is none.
    let now = c.args.disk.now in
    let added = c.append.new.disk in
    let P = IsStopped c.args.layout in
    let tail : c.args.tail.place ≡ tail_of [] = c.requires.tail in
    let low : device_block ≤ (half_of c.args.layout 1).at = omega arith in
    let low_log : device_block ≤ (log_region c.args.layout).at = omega arith in
    let crash = rw c.half.ensures at (c.append.ensures.crash told 1 [] tail) in
    let first = leaves_more g.D.Device now added _ P
    (crash is.second (subst (IsApart (half_of c.args.layout 1)) (sym none) tt))
    (λ image left. stopped_within c.args.layout c.requires.good block spelled (half_of c.args.layout 1) (g.D.Device.seen now) image (g.D.Device.pending now)
    low is.head is.long none left.0) in
    let torn = rw c.half.ensures at (c.append.ensures.others told) in
    let empty = c.in-Ok.ensures.durable told in
    let second = rw c.segment.ensures at (c.start.ensures.crash told) in
    leaves_joined g.D.Device now added c.start.new.disk P c.append.ensures.calls.forward first
    (leaves_more g.D.Device added c.start.new.disk _ P
    (second (subst (IsApart (log_region c.args.layout)) (sym empty) tt))
    (λ image left. stopped_within c.args.layout c.requires.good block spelled (log_region c.args.layout) (g.D.Device.seen added) image (g.D.Device.pending added)
    low_log (before_region (half_of c.args.layout 1) (g.D.Device.seen now) (g.D.Device.seen added) low torn ∙ is.head) (torn.as_long ∙ is.long) empty left.0))

pub returns-clause-filled : goal.returns-clause-filled
returns-clause-filled g c = λ told block is.
    let tail : c.args.tail.place ≡ tail_of [] = c.requires.tail in
    let added = (rw c.half.ensures at (c.in-Ok.ensures.appended told 1 [] tail)) is.second in
    let first = rw c.half.ensures at (c.append.ensures.others told) in
    let second = rw c.segment.ensures at (c.start.ensures.others told) in
    let started = rw c.segment.ensures at (c.in_ok-start.ensures.started told) in
    filled c.args.layout block c.args.base.now (g.D.Device.seen c.args.disk.now) (g.D.Device.seen c.append.new.disk) (g.D.Device.seen c.start.new.disk)
    is first added.gated second started.gated

pub returns-clause-crash : goal.returns-clause-crash
returns-clause-crash g c = λ told block spelled is none.
    let now = c.args.disk.now in
    let added = c.append.new.disk in
    let P = IsStopped c.args.layout in
    let tail : c.args.tail.place ≡ tail_of [] = c.requires.tail in
    let low : device_block ≤ (half_of c.args.layout 1).at = omega arith in
    let low_log : device_block ≤ (log_region c.args.layout).at = omega arith in
    let crash = rw c.half.ensures at (c.append.ensures.crash told 1 [] tail) in
    let first = leaves_more g.D.Device now added _ P
    (crash is.second (subst (IsApart (half_of c.args.layout 1)) (sym none) tt))
    (λ image left. stopped_within c.args.layout c.requires.good block spelled (half_of c.args.layout 1) (g.D.Device.seen now) image (g.D.Device.pending now)
    low is.head is.long none left.0) in
    let torn = rw c.half.ensures at (c.append.ensures.others told) in
    let empty = c.in-Ok.ensures.durable told in
    let second = rw c.segment.ensures at (c.start.ensures.crash told) in
    leaves_joined g.D.Device now added c.start.new.disk P c.append.ensures.calls.forward first
    (leaves_more g.D.Device added c.start.new.disk _ P
    (second (subst (IsApart (log_region c.args.layout)) (sym empty) tt))
    (λ image left. stopped_within c.args.layout c.requires.good block spelled (log_region c.args.layout) (g.D.Device.seen added) image (g.D.Device.pending added)
    low_log (before_region (half_of c.args.layout 1) (g.D.Device.seen now) (g.D.Device.seen added) low torn ∙ is.head) (torn.as_long ∙ is.long) empty left.0))

pub returns-clause-bytes : goal.returns-clause-bytes
returns-clause-bytes g c = λ told.
    let log = (log_region c.args.layout).at in
    let frame = open_gate ∷ framed c.args.base.now in
    let added : g.D.Device.seen c.append.new.disk ≡ put_at (g.D.Device.seen c.args.disk.now) ((half_of c.args.layout 1).at + c.args.tail.place) frame =
    rw c.half.ensures at (c.in-Ok.ensures.bytes told) in
    let started : g.D.Device.seen c.start.new.disk ≡ put_at (g.D.Device.seen c.append.new.disk) log (started_text 1) =
    rw c.segment.ensures at (c.in_ok-start.ensures.bytes told) in
    started
    ∙ ap (λ (l : List ℕ). put_at l log (started_text 1))
    (added ∙ ap (λ (n : ℕ). put_at (g.D.Device.seen c.args.disk.now) ((half_of c.args.layout 1).at + n) frame) c.requires.tail)
