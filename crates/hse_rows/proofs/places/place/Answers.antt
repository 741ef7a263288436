use Rattle.std.proofs.Common.{rules}
use Rattle.std.proofs.lemmas.Fn.{always_returns_same}
use Rattle.hse_rows.specs.writes.NormalForm.{write_cmp}
use Rattle.hse_rows.proofs.places.place.Goals as goal

pub returns-clause-position : goal.returns-clause-position
returns-clause-position c =
    c.binary_search_by.ensures.position
    (λ w. write_cmp w (record { store = c.args.store; change = c.args.change.now }))
    (always_returns_same _ _ _ (λ a r f' k. search rules))
