use Rattle.std.proofs.Common.{◌≡◌, ◌∙◌, ◌-◌, sym, ap, length, Some, ℕ, List}
use Rattle.std.specs.Prelude.{slice_get}
use Rattle.hse_fields.specs.BlockGiven.{lent}
use Rattle.prefix_delete.proofs.ReadingLoop.{last_is}
use Rattle.prefix_delete.proofs.reading.last_of.Goals as goal

pub returns-in-Some : goal.returns-in-Some
returns-in-Some c =
    let entries = c.args.entries.now in
    let is : slice_get entries (length entries - 1) ≡ Some c.in-Some.entry.now = sym c.in-Some.ensures.value in
    ap (λ (l : List ℕ). Some l) c.bytes.ensures.value ∙ sym (last_is (lent c.args.last) entries c.in-Some.entry.now is)
