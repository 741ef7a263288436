use Rattle.std.proofs.Common.{◌≡◌, ◌∙◌, ℕ, List, length, drop, ap, arith}
use Rattle.std.proofs.lemmas.List.{take_at, length-take}
use Rattle.media_disk.specs.Content.{part}
use Rattle.recovery.proofs.superblocks.read_block.Goals as goal

pub returns-clause-block : goal.returns-clause-block
returns-clause-block g c = λ told.
    let seen : List ℕ = g.D.Device.seen c.args.disk.now in
    let read : c.read.new.into ≡ part (g.D.Device.seen c.args.disk.now) 0 (length c.deref_mut.result.now) = c.in_ok-read.ensures.read told in
    let many : length c.deref_mut.result.now ≡ 4096 = omega (arith, ap length c.deref_mut.ensures.value, c.deref_mut.ensures.len, c.in_ok-block.ensures.len, c.in_ok-block.block.ok.0) in
    let long : length c.read.new.into ≡ c.in_ok-block.block.len =
    omega (
      arith,
      ap length read,
      many,
      length-take (length c.deref_mut.result.now) (drop 0 (g.D.Device.seen c.args.disk.now)),
      g.met.D.Disk.as_long c.args.disk.now told,
      c.requires,
      c.in_ok-block.ensures.len,
      c.in_ok-block.block.ok.0,
    ) in
    take_at c.read.new.into (drop (length c.read.new.into) c.in_ok-block.block.items) c.in_ok-block.block.len long
    ∙ read ∙ ap (part (g.D.Device.seen c.args.disk.now) 0) many
