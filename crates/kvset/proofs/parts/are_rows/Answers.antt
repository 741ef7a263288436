use Rattle.kvset.specs.Keys.{all_keys}
use Rattle.kvset.specs.Parts.{values_in}
use Rattle.kvset.proofs.RowLemmas.{are_rows}
use Rattle.kvset.proofs.parts.are_rows.Goals as goal

pub returns : goal.returns
returns c =
    let p = c.args.parts.now in
    are_rows (values_in p) p.prefixes (all_keys p.keys.items) c.len-count.ensures.known c.requires.keys.keys
