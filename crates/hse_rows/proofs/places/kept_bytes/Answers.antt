use Rattle.std.proofs.Common.{ap, sym, ◌∙◌, ◌-◌}
use Rattle.hse_rows.proofs.WriteLemmas.{is_of_key}
use Rattle.hse_rows.proofs.ChargeLemmas.{bytes_of, kept-found, kept-missing}
use Rattle.hse_rows.proofs.places.kept_bytes.Goals as goal

pub returns-in-Ok : goal.returns-in-Ok
returns-in-Ok c =
    (λ i. c.requires.counted i - (c.bytes.ensures ∙ ap bytes_of (sym c.index-writes-at.is)) i)
    ∙ kept-found c.args.writes.now (record { store = c.args.store; change = c.args.change.now }) c.in-Ok.at _
    (is_of_key _ c.in_default.not-PDel) c.requires.rising c.in-Ok.ensures.bound c.in-Ok.ensures.position c.index-writes-at.is

pub returns-in-Err : goal.returns-in-Err
returns-in-Err c =
    c.requires.counted
    ∙ kept-missing c.args.writes.now (record { store = c.args.store; change = c.args.change.now }) c.in-Err.field-0
    (is_of_key _ c.in_default.not-PDel) c.requires.rising c.in-Err.ensures.bound c.in-Err.ensures.position
