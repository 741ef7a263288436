use Rattle.std.proofs.Common.{◌≡◌, ◌∙◌, List, ℕ, sym, arith}
use Rattle.hse_fields.specs.BlockText.{KeyEntry}
use Rattle.hse_fields.specs.BlockReading.{count_in}
use Rattle.kblock.specs.Entries.{entry_of}
use Rattle.kblock.proofs.NthLemmas.{first_read, nth_behind, nth_here}
use Rattle.kblock.proofs.nth.nth_in.Goals as goal

pub first_key-requires : goal.first_key-requires
first_key-requires c =
    first_read (count_in c.args.page.now) c.loop.counter c.loop.rest.now c.loop.invariant.readable (omega (arith, c.loop-test.true, c.requires.within))

pub loop-preserved : goal.loop-preserved
loop-preserved c =
    let first : KeyEntry × List ℕ = (entry_of c.first_key.result.0, c.first_key.result.1.now) in
    let b = nth_behind (count_in c.args.page.now) c.loop.counter c.loop.rest.now c.loop.invariant.readable c.args.at first c.loop-test.true c.requires.within c.first_key.ensures in
    record { readable = b.0; found = b.1 ∙ c.loop.invariant.found }

pub first_key-requires-2 : goal.first_key-requires-2
first_key-requires-2 c =
    first_read (count_in c.args.page.now) c.loop.counter c.loop.rest.now c.loop.invariant.readable (omega (arith, c.loop.auto.counter-end, c.requires.within))

pub returns : goal.returns
returns c =
    let first : KeyEntry × List ℕ = (entry_of c.first_key-2.result.0, c.first_key-2.result.1.now) in
    let here : c.args.at ≡ c.loop.counter = omega (arith, c.loop.auto.counter-end, c.loop-test.false) in
    sym c.loop.invariant.found
    ∙ nth_here (count_in c.args.page.now) c.loop.counter c.loop.rest.now c.loop.invariant.readable c.args.at first here c.requires.within c.first_key-2.ensures
