use Rattle.std.proofs.Common.{◌≡◌, ◌∙◌, ◌-◌, ◌≤◌, length, None, ap, sym, arith}
use Rattle.std.specs.Prelude.{slice_get}
use Rattle.kblock.specs.Entries.{entry_of}
use Rattle.kvset.specs.Keys.{keys_in}
use Rattle.kvset.proofs.KeyLemmas.{counted, some_in}
use Rattle.kvset.proofs.PartLemmas.{last_in, some_parts}
use Rattle.kvset.proofs.reading.last_of.Goals as goal

some : (c : goal.After-len) → 1 ≤ length (keys_in c.in-Some.part.now)
some c =
    some_in 0 c.args.parts.now (length c.args.parts.now - 1) c.in-Some.part.now c.requires.numbered (sym c.in-Some.ensures.value)

pub overflow_sub-len : goal.overflow_sub-len
overflow_sub-len c = omega (arith, some c, c.len.ensures.count, counted c.in-Some.part.now.block)

pub entry-requires : goal.entry-requires
entry-requires c = omega (arith, some c, c.len.ensures.count, counted c.in-Some.part.now.block)

pub returns-in-Some : goal.returns-in-Some
returns-in-Some c =
    let parts = c.args.parts.now in
    let part = c.in-Some.part.now in
    let is = sym c.in-Some.ensures.value in
    let whole : length (keys_in part) - 1 ≡ c.len.result - 1 = omega (arith, c.len.ensures.count, counted part.block) in
    let found = ap (slice_get (keys_in part)) whole ∙ c.entry.ensures in
    let long = some_parts parts (length parts - 1) part is in
    sym (last_in None 0 parts (length parts - 1) part (entry_of c.entry.result) c.requires.numbered (omega (arith, long)) is found)
