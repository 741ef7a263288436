use Rattle.std.proofs.Common.{◌≡◌, ◌+◌, ◌≤◌, ℕ, None, refl, subst, ◌∙◌, ap, arith, drop}
use Rattle.std.proofs.lemmas.List.{drop-append-le}
use Rattle.hse_shell.specs.Change.{put}
use Rattle.hse_shell.specs.Machine.{key_refusal, log_refusal, room}
use Rattle.hse_shell.proofs.EngineLemmas.{Stands-committed, put_is_logged}
use Rattle.hse_shell.proofs.RefusalLemmas.{put_refused}
use Rattle.hse_shell.proofs.engine.Engine.put.Goals as goal

pub returns-in-Some-clause-answers : goal.returns-in-Some-clause-answers
returns-in-Some-clause-answers c m s =
    put_refused m c.args.self.now s c.args.key.now c.args.value.now _ (c.in-Some.ensures.refusal m (put c.args.key.now c.args.value.now) s c.charge_of_put-need.ensures)

pub returns-clause-answers : goal.returns-clause-answers
returns-clause-answers c m s =
    let admitted : key_refusal c.args.key.now (log_refusal m (put c.args.key.now c.args.value.now)) ≡ None = c.in_default.ensures.refusal m (put c.args.key.now c.args.value.now) s c.charge_of_put-need.ensures in
    record {
      step = (admitted, omega (arith, s.number), refl);
      stands = Stands-committed c.args.self.now _ m _ s c.in-Ok-put.ensures.written refl
          (ap (λ (n : ℕ). c.args.self.now.charges + n) c.charge_of_put-need.ensures) refl
          (ap (λ l. drop 4 l) c.in-Ok.ensures.written ∙ drop-append-le 4 c.args.self.now.waiting.items _ c.args.self.now.headed)
          (put_is_logged c.args.key.now c.args.value.now c.args.self.now.charges c.requires.some c.in_default.ensures.short (subst (λ (n : ℕ). c.args.self.now.charges + n ≤ room) c.charge_of_put-need.ensures c.in_default.ensures.fits));
    }
