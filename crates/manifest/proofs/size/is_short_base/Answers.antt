use Rattle.std.proofs.Common.{arith}
use Rattle.std.proofs.lemmas.List.{length-map}
use Rattle.manifest.specs.Views.{metadata_as}
use Rattle.hse_rows.specs.machine.TakenRuns.{run_as}
use Rattle.manifest.specs.laws.Sizes.{base_length_of}
use Rattle.manifest.proofs.size.is_short_base.Goals as goal

pub returns-then-runs : goal.returns-then-runs
returns-then-runs c =
    let text = base_length_of (metadata_as c.args.base.now) in
    (λ is. absurd cc, λ short. absurd (omega (arith, text, length-map c.args.base.now.taken.items run_as, c.len-runs.ensures, c.if-runs.true, short)))

pub returns-then-size-ge-TOO_LONG : goal.returns-then-size-ge-TOO_LONG
returns-then-size-ge-TOO_LONG c =
    let text = base_length_of (metadata_as c.args.base.now) in
    (λ is. absurd cc, λ short. absurd (omega (arith, text, length-map c.args.base.now.taken.items run_as, c.len-runs.ensures, c.if-size-ge-TOO_LONG.true, short)))

pub returns : goal.returns
returns c =
    let text = base_length_of (metadata_as c.args.base.now) in
    let said = rw c.deref.ensures.value at c.have_room.ensures in (
      λ is. omega (arith, text, length-map c.args.base.now.taken.items run_as, c.len-runs.ensures, said.0 is),
      λ short. said.1 (omega (arith, text, length-map c.args.base.now.taken.items run_as, c.len-runs.ensures, short)),
    )
