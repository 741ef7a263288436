use Rattle.std.proofs.Common.{◌∙◌, ◌-◌, ap, sym, arith}
use Rattle.std.specs.List.{find}
use Rattle.kblock.specs.Opened.{has_key}
use Rattle.kvset.specs.Keys.{keys_in}
use Rattle.kvset.specs.declared.keys.KeyPart.{KeyPart}
use Rattle.kvset.proofs.KeyLemmas.{got, key_in, no_key}
use Rattle.kvset.proofs.keys.find_key.Goals as goal

pub returns-then-behind-eq0 : goal.returns-then-behind-eq0
returns-then-behind-eq0 c =
    (no_key c.args.parts.now c.requires c.args.key c.parts_to-behind.result c.if-behind-eq0.true c.parts_to-behind.ensures.above).0

pub returns : goal.returns
returns c =
    let parts = c.args.parts.now in
    let behind = c.parts_to-behind.result in
    let i = behind - 1 in
    let part = c.index-parts-behind.result in
    let here = got parts i _ part (omega (arith, c.if-behind-eq0.false, c.parts_to-behind.ensures.within)) c.index-parts-behind.is in
    c.find.ensures
    ∙ ap (λ (q : KeyPart). find (has_key c.args.key.now) (keys_in q)) (sym c.index-parts-behind.is)
    ∙ (key_in parts c.requires c.args.key behind i part (omega (arith, c.if-behind-eq0.false)) here c.parts_to-behind.ensures.below c.parts_to-behind.ensures.above).0
