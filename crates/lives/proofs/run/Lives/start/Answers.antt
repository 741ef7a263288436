use Rattle.std.proofs.Common.{◌∷◌, ◌++◌, [], List, refl, sym, ap, ◌∙◌, subst}
use Rattle.hse_io.specs.declared.outcome.Mark.{Mark}
use Rattle.recovery.specs.Keeps.{IsBarrier}
use Rattle.lives.proofs.ReopenLemmas.{opened, untouched}
use Rattle.lives.proofs.run.Lives.start.Goals as goal

pub returns-in_default-clause-device : goal.returns-in_default-clause-device
returns-in_default-clause-device g c = untouched g.D.Device c.args.disk

pub returns-in-Ok-start-clause-opens : goal.returns-in-Ok-start-clause-opens
returns-in-Ok-start-clause-opens g c told =
    let device = c.in-Ok-start.ensures.device in
    opened g.D.Device (g.D.Device.seen c.args.disk) _ c.number.result c.moment.result device.between device.new refl
    (c.push_reserved.ensures.items ∙ ap (λ (marks : List Mark). marks ++ record { life = 0; number = c.number.result; moment = c.moment.result } ∷ []) c.in-Ok.ensures.items)
    (c.number.ensures.number ∙ ap (λ view. view.number) c.view.ensures) device.left
    (subst (λ (n : _). IsBarrier g.D.Device device.between device.new n) (sym c.moment.ensures) device.barrier)
    (c.in-Ok-start.ensures.opens told)
