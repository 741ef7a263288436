use Rattle.std.proofs.Common.{◌∙◌, sym}
use Rattle.kvset.specs.Keys.{all_keys}
use Rattle.kvset.specs.Parts.{values_in}
use Rattle.kvset.proofs.RowLemmas.{covered_found}
use Rattle.kvset.proofs.parts.covering.Goals as goal

pub returns : goal.returns
returns c =
    let p = c.args.parts.now in
    c.covers.ensures ∙ sym (covered_found p.prefixes (all_keys p.keys.items) (values_in p) c.args.key.now)
