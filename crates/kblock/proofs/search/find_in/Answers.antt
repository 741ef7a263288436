use Rattle.std.proofs.Common.{◌≡◌, ◌∙◌, List, ℕ, sym, true, false}
use Rattle.hse_fields.specs.BlockText.{KeyEntry}
use Rattle.kblock.specs.Entries.{entry_of}
use Rattle.kblock.specs.Opened.{has_key}
use Rattle.kblock.proofs.KeyLemmas.{can_be_read, is_here, is_behind, is_nowhere}
use Rattle.kblock.proofs.search.find_in.Goals as goal

pub returns-in_default : goal.returns-in_default
returns-in_default c =
    absurd (can_be_read c.args.key.now c.args.count c.loop.counter c.loop.rest.now c.in_default.field-0.left c.loop-test.true c.loop.invariant.readable c.in_default.ensures)

pub returns-then-is_same : goal.returns-then-is_same
returns-then-is_same c =
    let first : KeyEntry × List ℕ = (entry_of c.in-Ok.entry, c.in-Ok.behind.now) in
    let same : has_key c.args.key.now first.0 ≡ true = sym c.is_same.ensures ∙ c.if-is_same.true in
    sym (is_here c.args.key.now c.args.count c.loop.counter c.loop.rest.now first c.loop-test.true c.in-Ok.ensures c.loop.invariant.readable same)
    ∙ c.loop.invariant.found

pub loop-preserved : goal.loop-preserved
loop-preserved c =
    let first : KeyEntry × List ℕ = (entry_of c.in-Ok.entry, c.in-Ok.behind.now) in
    let other : has_key c.args.key.now first.0 ≡ false = sym c.is_same.ensures ∙ c.if-is_same.false in
    let behind = is_behind c.args.key.now c.args.count c.loop.counter c.loop.rest.now first c.loop-test.true c.in-Ok.ensures c.loop.invariant.readable other in
    record { readable = behind.0; found = behind.1 ∙ c.loop.invariant.found }

pub returns : goal.returns
returns c =
    sym (is_nowhere c.args.key.now c.args.count c.loop.counter c.loop.rest.now c.loop-test.false) ∙ c.loop.invariant.found
