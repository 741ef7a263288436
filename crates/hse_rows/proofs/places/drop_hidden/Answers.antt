use Rattle.std.proofs.Common.{rules}
use Rattle.std.proofs.lemmas.Fn.{filter_same}
use Rattle.hse_rows.specs.writes.NormalForm.{stays}
use Rattle.hse_rows.proofs.places.drop_hidden.Goals as goal

pub returns-clause-items : goal.returns-clause-items
returns-clause-items c =
    filter_same _ (stays c.args.later.now) _ (λ x b f' k. search rules) _ _ c.retain.ensures.filtered
