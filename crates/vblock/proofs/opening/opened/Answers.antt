use Rattle.std.proofs.Common.{◌≡◌, subst, List, ℕ, Ok}
use Rattle.hse_fields.specs.BlockReading.{values_with}
use Rattle.vblock.specs.Opened.{values_in}
use Rattle.vblock.proofs.opening.opened.Goals as goal

pub returns-in-Ok : goal.returns-in-Ok
returns-in-Ok c =
    let head = c.args.head in
    subst (λ (b : List ℕ). values_with c.args.most head b ≡ Ok (values_in head.used head.count b)) c.deref.ensures.value c.in-Ok.ensures.told
