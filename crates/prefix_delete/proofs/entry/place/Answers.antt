use Rattle.std.proofs.Common.{rules}
use Rattle.std.proofs.lemmas.Fn.{always_returns_same}
use Rattle.prefix_delete.specs.Prefixes.{prefix_cmp, probe}
use Rattle.prefix_delete.proofs.entry.place.Goals as goal

pub returns-clause-position : goal.returns-clause-position
returns-clause-position c =
    c.binary_search_by.ensures.position (λ entry. prefix_cmp entry (probe c.args.prefix.now))
    (always_returns_same _ _ _ (λ a r f' k. search rules))
