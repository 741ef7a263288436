use Rattle.std.proofs.Common.{◌≡◌, ◌∙◌, ap, arith}
use Rattle.kblock.specs.Placing.{count_below}
use Rattle.kvset.specs.Keys.{all_keys}
use Rattle.kvset.specs.Parts.{values_in}
use Rattle.kvset.proofs.KeyLemmas.{few_below}
use Rattle.kvset.proofs.RowLemmas.{placed}
use Rattle.kvset.proofs.parts.place_of.Goals as goal

below : (c : goal.After-keys_below) → c.keys_below.result ≡ count_below c.args.edge.now (all_keys c.args.parts.now.keys.items)
below c = c.keys_below.ensures ∙ ap (λ l. count_below c.args.edge.now (all_keys l)) c.deref.ensures.value

pub overflow_add-result : goal.overflow_add-result
overflow_add-result c =
    let p = c.args.parts.now in
    omega (arith, below c, few_below c.args.edge.now (all_keys p.keys.items), c.requires.keys.few, c.requires.few, c.len.ensures.count)

pub returns : goal.returns
returns c =
    let p = c.args.parts.now in
    let rows = placed p.prefixes (all_keys p.keys.items) (values_in p) c.args.edge.now in
    omega (arith, below c, rows, c.len.ensures.count)
