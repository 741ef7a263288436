use Rattle.std.proofs.Common.{◌≡◌, ◌++◌, ◌∷◌, [], ◌≤◌, arith, ◌-◌}
use Rattle.media_disk.specs.laws.Leaves.{leaves_more}
use Rattle.gate_log.specs.Places.{tail_of}
use Rattle.gate_log.specs.laws.Regions.{other_region}
use Rattle.gate_log.specs.laws.Spelling.{tail_of-push}
use Rattle.device_layout.specs.Layouts.{half_of}
use Rattle.manifest.proofs.HeadLemmas.{halves_apart, half_apart}
use Rattle.manifest.proofs.LogLemmas.{holds_after, entries_push, log_crash}
use Rattle.manifest.proofs.manifest.Manifest.log.Goals as goal

pub returns-in_err-append-clause-crash : goal.returns-in_err-append-clause-crash
returns-in_err-append-clause-crash g c = λ told before after held read apart.
    let m = c.args.self.now in
    let size : 10 ≤ m.layout.manifest = omega (arith, m.good.params.half.least) in
    let crash = rw c.half-half.ensures at (c.append.ensures.crash told m.sequence held.payloads held.tail) in
    leaves_more g.D.Device c.args.disk.now c.append.new.disk _ _
    (crash held.gated (half_apart m.layout m.half m.one (g.D.Device.pending c.args.disk.now) apart).0)
    (log_crash m.layout m.half m.sequence m.tail.place m.one size (g.D.Device.seen c.args.disk.now) (g.D.Device.pending c.args.disk.now)
    before after c.args.batch.now held read apart)

pub returns-clause-logged : goal.returns-clause-logged
returns-clause-logged g c = λ told before after held read.
    let m = c.args.self.now in
    let size : 10 ≤ m.layout.manifest = omega (arith, m.good.params.half.least) in
    let written = (rw c.half-half.ensures at (c.in_ok-append.ensures.appended told m.sequence held.payloads held.tail)) held.gated in
    let torn = rw c.half-half.ensures at (c.append.ensures.others told) in
    let other = other_region (half_of m.layout m.half) (half_of m.layout (1 - m.half)) (g.D.Device.seen c.args.disk.now) (g.D.Device.seen c.append.new.disk)
    (halves_apart m.layout m.half m.one) torn in
    let place : c.append.new.tail.place ≡ tail_of (held.payloads ++ c.args.batch.now ∷ []) =
    omega (arith, tail_of-push held.payloads c.args.batch.now, held.tail, c.in_ok-append.ensures.answer.0) in
    holds_after m.layout m.half m.sequence m.tail.place m.one size (g.D.Device.seen c.args.disk.now) (g.D.Device.seen c.append.new.disk)
    before after (held.payloads ++ c.args.batch.now ∷ []) held other written.gated
    (entries_push m.layout.stores 9 _ held.payloads c.args.batch.now before after held.says read) c.append.new.tail.place place

pub returns-clause-crash : goal.returns-clause-crash
returns-clause-crash g c = λ told before after held read apart.
    let m = c.args.self.now in
    let size : 10 ≤ m.layout.manifest = omega (arith, m.good.params.half.least) in
    let crash = rw c.half-half.ensures at (c.append.ensures.crash told m.sequence held.payloads held.tail) in
    leaves_more g.D.Device c.args.disk.now c.append.new.disk _ _
    (crash held.gated (half_apart m.layout m.half m.one (g.D.Device.pending c.args.disk.now) apart).0)
    (log_crash m.layout m.half m.sequence m.tail.place m.one size (g.D.Device.seen c.args.disk.now) (g.D.Device.pending c.args.disk.now)
    before after c.args.batch.now held read apart)
