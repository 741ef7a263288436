use Rattle.std.proofs.Common.{◌≡◌, ◌+◌, ℕ, None, refl, ◌∙◌, ap, arith, drop}
use Rattle.std.proofs.lemmas.List.{drop-append-le}
use Rattle.hse_shell.specs.Change.{del}
use Rattle.hse_shell.specs.Machine.{key_refusal, log_refusal}
use Rattle.hse_shell.proofs.EngineLemmas.{Stands-committed, del_is_logged}
use Rattle.hse_shell.proofs.RefusalLemmas.{del_refused}
use Rattle.hse_shell.proofs.engine.Engine.del.Goals as goal

pub returns-in-Some-clause-answers : goal.returns-in-Some-clause-answers
returns-in-Some-clause-answers c m s =
    del_refused m c.args.self.now s c.args.key.now _ (c.in-Some.ensures.refusal m (del c.args.key.now) s c.charge_of_del-need.ensures)

pub returns-clause-answers : goal.returns-clause-answers
returns-clause-answers c m s =
    let admitted : key_refusal c.args.key.now (log_refusal m (del c.args.key.now)) ≡ None = c.in_default.ensures.refusal m (del c.args.key.now) s c.charge_of_del-need.ensures in
    record {
      step = (admitted, omega (arith, s.number), refl);
      stands = Stands-committed c.args.self.now _ m _ s c.remove.ensures refl
          (ap (λ (n : ℕ). c.args.self.now.charges + n) c.charge_of_del-need.ensures) refl
          (ap (λ l. drop 4 l) c.in-Ok.ensures.written ∙ drop-append-le 4 c.args.self.now.waiting.items _ c.args.self.now.headed)
          (del_is_logged c.args.key.now c.requires c.in_default.ensures.short);
    }
