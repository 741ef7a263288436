use Rattle.std.proofs.Common.{◌≡◌, [], ◌+◌, ◌-◌, ◌≤◌, ◌<◌, ◌^◌, ℕ, sym, subst, arith}
use Rattle.media_disk.specs.laws.Leaves.{leaves_more, leaves_joined}
use Rattle.gate_log.specs.Places.{IsApart, need_of, tail_of}
use Rattle.gate_log.specs.laws.Ranges.{torn_twice}
use Rattle.gate_log.specs.laws.Regions.{other_region}
use Rattle.device_layout.specs.Layouts.{half_of}
use Rattle.manifest.specs.Half.{Holds}
use Rattle.manifest.proofs.HeadLemmas.{half_apart}
use Rattle.manifest.proofs.RollLemmas.{is_small, start_crash, base_crash, new_holds, apart_back}
use Rattle.manifest.proofs.manifest.Manifest.roll.Goals as goal

pub returns-in_default-clause-crash : goal.returns-in_default-clause-crash
returns-in_default-clause-crash g c = λ told before after held read apart.
    let m = c.args.self.now in
    let size : 10 ≤ m.layout.manifest = omega (arith, m.good.params.half.least) in
    let small : m.sequence < 2 ^ 62 = is_small m.sequence (c.can_roll.ensures.0 c.if-not-can_roll.false) in
    let crash = rw c.half-region.ensures at (c.start.ensures.crash told) in
    leaves_more g.D.Device c.args.disk.now c.start.new.disk _ _
    (crash (half_apart m.layout m.half m.one (g.D.Device.pending c.args.disk.now) apart).1)
    (start_crash m.layout m.half m.sequence m.tail.place m.one size small (g.D.Device.seen c.args.disk.now) before held (g.D.Device.pending c.args.disk.now) c.args.base.now after apart)

pub returns-in_err-append-clause-crash : goal.returns-in_err-append-clause-crash
returns-in_err-append-clause-crash g c = λ told before after held read apart.
    let m = c.args.self.now in
    let size : 10 ≤ m.layout.manifest = omega (arith, m.good.params.half.least) in
    let small : m.sequence < 2 ^ 62 = is_small m.sequence (c.can_roll.ensures.0 c.if-not-can_roll.false) in
    let crash = rw c.half-region.ensures at (c.start.ensures.crash told) in
    let started = rw c.half-region.ensures at (c.in-Ok.ensures.started told) in
    let torn = rw c.half-region.ensures at (c.start.ensures.others told) in
    let none = c.in-Ok.ensures.durable told in
    let tail : c.in-Ok.tail.place ≡ tail_of [] = c.in-Ok.ensures.tail in
    let second = rw c.half-region.ensures at (c.append.ensures.crash told (m.sequence + 1) [] tail) in
    leaves_joined g.D.Device c.args.disk.now c.start.new.disk c.append.new.disk _ c.start.ensures.calls.forward
    (leaves_more g.D.Device c.args.disk.now c.start.new.disk _ _
    (crash (half_apart m.layout m.half m.one (g.D.Device.pending c.args.disk.now) apart).1)
    (start_crash m.layout m.half m.sequence m.tail.place m.one size small (g.D.Device.seen c.args.disk.now) before held (g.D.Device.pending c.args.disk.now) c.args.base.now after apart))
    (leaves_more g.D.Device c.start.new.disk c.append.new.disk _ _
    (second started.gated (subst (IsApart (half_of m.layout (1 - m.half))) (sym none) tt))
    (base_crash m.layout m.half m.sequence m.tail.place m.one size small (g.D.Device.seen c.args.disk.now) before held (g.D.Device.pending c.args.disk.now)
    (g.D.Device.seen c.start.new.disk) (g.D.Device.pending c.start.new.disk) c.args.base.now after torn none read))

pub returns-clause-rolled : goal.returns-clause-rolled
returns-clause-rolled g c = λ told before after held read.
    let m = c.args.self.now in
    let size : 10 ≤ m.layout.manifest = omega (arith, m.good.params.half.least) in
    let small : m.sequence < 2 ^ 62 = is_small m.sequence (c.can_roll.ensures.0 c.if-not-can_roll.false) in
    let started = rw c.half-region.ensures at (c.in-Ok.ensures.started told) in
    let first = rw c.half-region.ensures at (c.start.ensures.others told) in
    let more = rw c.half-region.ensures at (c.append.ensures.others told) in
    let torn = torn_twice (half_of m.layout (1 - m.half)).at m.layout.manifest (g.D.Device.seen c.args.disk.now) (g.D.Device.seen c.start.new.disk) (g.D.Device.seen c.append.new.disk) first more in
    let same = other_region (half_of m.layout (1 - m.half)) (half_of m.layout m.half) (g.D.Device.seen c.args.disk.now) (g.D.Device.seen c.append.new.disk)
    (apart_back m.layout m.half m.one) torn in
    let tail : c.in-Ok.tail.place ≡ tail_of [] = c.in-Ok.ensures.tail in
    let written = (rw c.half-region.ensures at (c.in_ok-append.ensures.appended told (m.sequence + 1) [] tail)) started.gated in
    let place : 10 - 1 + need_of c.args.base.now ≡ c.append.new.tail.place = omega (arith, tail, c.in_ok-append.ensures.answer.0) in
    subst (λ (p : ℕ). Holds m.layout (1 - m.half) (m.sequence + 1) p (g.D.Device.seen c.append.new.disk) after) place
    (new_holds m.layout m.half m.sequence m.tail.place m.one size small (g.D.Device.seen c.args.disk.now) before held
    (g.D.Device.seen c.append.new.disk) c.args.base.now after same written.gated read)

pub returns-clause-crash : goal.returns-clause-crash
returns-clause-crash g c = λ told before after held read apart.
    let m = c.args.self.now in
    let size : 10 ≤ m.layout.manifest = omega (arith, m.good.params.half.least) in
    let small : m.sequence < 2 ^ 62 = is_small m.sequence (c.can_roll.ensures.0 c.if-not-can_roll.false) in
    let crash = rw c.half-region.ensures at (c.start.ensures.crash told) in
    let started = rw c.half-region.ensures at (c.in-Ok.ensures.started told) in
    let torn = rw c.half-region.ensures at (c.start.ensures.others told) in
    let none = c.in-Ok.ensures.durable told in
    let tail : c.in-Ok.tail.place ≡ tail_of [] = c.in-Ok.ensures.tail in
    let second = rw c.half-region.ensures at (c.append.ensures.crash told (m.sequence + 1) [] tail) in
    leaves_joined g.D.Device c.args.disk.now c.start.new.disk c.append.new.disk _ c.start.ensures.calls.forward
    (leaves_more g.D.Device c.args.disk.now c.start.new.disk _ _
    (crash (half_apart m.layout m.half m.one (g.D.Device.pending c.args.disk.now) apart).1)
    (start_crash m.layout m.half m.sequence m.tail.place m.one size small (g.D.Device.seen c.args.disk.now) before held (g.D.Device.pending c.args.disk.now) c.args.base.now after apart))
    (leaves_more g.D.Device c.start.new.disk c.append.new.disk _ _
    (second started.gated (subst (IsApart (half_of m.layout (1 - m.half))) (sym none) tt))
    (base_crash m.layout m.half m.sequence m.tail.place m.one size small (g.D.Device.seen c.args.disk.now) before held (g.D.Device.pending c.args.disk.now)
    (g.D.Device.seen c.start.new.disk) (g.D.Device.pending c.start.new.disk) c.args.base.now after torn none read))
