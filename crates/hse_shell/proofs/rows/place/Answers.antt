use Rattle.std.proofs.Common.{rules}
use Rattle.std.specs.Ordering.{nat_cmp}
use Rattle.std.specs.Cmp.Lexicographic.{slice_cmp}
use Rattle.std.proofs.lemmas.Fn.{always_returns_same}
use Rattle.hse_shell.proofs.rows.place.Goals as goal

pub returns-clause-position : goal.returns-clause-position
returns-clause-position c =
    c.binary_search_by.ensures.position (λ row. slice_cmp nat_cmp row.key.items c.args.key.now)
    (always_returns_same _ _ _ (λ a r f' k. search rules))
