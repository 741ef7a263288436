use Rattle.std.proofs.Common.{ap, ◌∙◌, ◌+◌, ◌++◌, ◌∷◌, []}
use Rattle.std.specs.List.{filter}
use Rattle.hse_rows.specs.writes.Change.{write_of}
use Rattle.hse_rows.specs.writes.NormalForm.{stays, normal_form}
use Rattle.hse_rows.specs.writes.Charge.{writes_bytes}
use Rattle.hse_rows.proofs.ChargeLemmas.{next-bytes}
use Rattle.hse_rows.proofs.write_set.WriteSet.bytes_with.Goals as goal

pub returns : goal.returns
returns c =
    let x = write_of c.args.store c.args.change.now in
    (λ i. (c.kept_bytes-kept.ensures ∙ ap (λ l. writes_bytes (filter (stays x) l)) c.deref.ensures.value) i + c.bytes.ensures i)
    ∙ next-bytes _ x c.self.invariant.rising
    ∙ ap (λ l. writes_bytes (normal_form (l ++ x ∷ []))) c.self.view_is
