use Rattle.std.proofs.Common.{◌≡◌, ℕ, List, [], ◌∷◌, refl, arith}
use Rattle.std.proofs.lemmas.Result.{err_from_is_err_and}
use Rattle.shell_text.specs.declared.line.Actor.{Actor}
use Rattle.shell_text.specs.Words.{actor_of}
use Rattle.shell_text.proofs.PartLemmas.{word_fails, key_fails}
use Rattle.shell_text.proofs.ShapeLemmas.{of_key}
use Rattle.shell_text.proofs.fields.of_key.Goals as goal

pub returns-in_err-who : goal.returns-in_err-who
returns-in_err-who c =
    word_fails (λ (x : Actor). actor_of x) of_key c.args.words.now 0 _ _ c.from_residual.result (err_from_is_err_and c.from_residual.result c.from_residual.ensures.1) c.in_err-who.ensures
    (omega (arith, c.in-len1-up.len_at_least)) (λ of. (of.0, refl))

pub returns-in_err-store : goal.returns-in_err-store
returns-in_err-store c =
    key_fails c.args.words.now _ c.from_residual-in_err-store.result (err_from_is_err_and c.from_residual-in_err-store.result c.from_residual-in_err-store.ensures.1) c.in_err-store.ensures
