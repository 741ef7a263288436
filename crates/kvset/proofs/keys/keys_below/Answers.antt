use Rattle.std.proofs.Common.{◌≡◌, ◌∙◌, ◌+◌, ◌-◌, ℕ, ap, arith}
use Rattle.kblock.specs.Placing.{count_below}
use Rattle.kvset.specs.Keys.{all_keys}
use Rattle.kvset.proofs.KeyLemmas.{few_below, got, key_in, no_key}
use Rattle.kvset.proofs.keys.keys_below.Goals as goal

pub returns-then-behind-eq0 : goal.returns-then-behind-eq0
returns-then-behind-eq0 c =
    (no_key c.args.parts.now c.requires c.args.edge c.parts_to-behind.result c.if-behind-eq0.true c.parts_to-behind.ensures.above).1

sum_is : (c : goal.After-place) → c.index-parts-behind.result.before + c.place.result ≡ count_below c.args.edge.now (all_keys c.args.parts.now)
sum_is c =
    let parts = c.args.parts.now in
    let behind = c.parts_to-behind.result in
    let i = behind - 1 in
    let part = c.index-parts-behind.result in
    let here = got parts i _ part (omega (arith, c.if-behind-eq0.false, c.parts_to-behind.ensures.within)) c.index-parts-behind.is in
    ap (λ (n : ℕ). part.before + n) c.place.ensures
    ∙ (key_in parts c.requires c.args.edge behind i part (omega (arith, c.if-behind-eq0.false)) here c.parts_to-behind.ensures.below c.parts_to-behind.ensures.above).1

pub overflow_add-result : goal.overflow_add-result
overflow_add-result c =
    let sum = sum_is c in
    omega (arith, sum, few_below c.args.edge.now (all_keys c.args.parts.now), c.requires.few)

pub returns : goal.returns
returns c = sum_is c
