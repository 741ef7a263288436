use Rattle.std.proofs.Common.{◌≡◌, ℕ, List, [], ◌∷◌, refl, arith}
use Rattle.std.proofs.lemmas.Result.{err_from_is_err_and}
use Rattle.shell_text.specs.declared.line.Actor.{Actor}
use Rattle.shell_text.specs.Words.{actor_of, item, name}
use Rattle.shell_text.proofs.PartLemmas.{word_fails}
use Rattle.shell_text.proofs.ShapeLemmas.{of_pair}
use Rattle.shell_text.proofs.fields.of_pair.Goals as goal

pub returns-in_err-who : goal.returns-in_err-who
returns-in_err-who c =
    word_fails (λ (x : Actor). actor_of x) of_pair c.args.words.now 0 _ _ c.from_residual.result (err_from_is_err_and c.from_residual.result c.from_residual.ensures.1) c.in_err-who.ensures
    (omega (arith, c.in-len4.len_at_least)) (λ of. (of.0, refl))

pub returns-in_err-store : goal.returns-in_err-store
returns-in_err-store c =
    word_fails (λ (x : List ℕ). name x) of_pair c.args.words.now 1 _ _ c.from_residual-in_err-store.result (err_from_is_err_and c.from_residual-in_err-store.result c.from_residual-in_err-store.ensures.1) c.in_err-store.ensures
    (omega (arith, c.in-len4.len_at_least)) (λ of. (of.1, refl))

pub returns-in_err-key : goal.returns-in_err-key
returns-in_err-key c =
    word_fails (λ (x : List ℕ). item x) of_pair c.args.words.now 2 _ _ c.from_residual-in_err-key.result (err_from_is_err_and c.from_residual-in_err-key.result c.from_residual-in_err-key.ensures.1) c.in_err-key.ensures
    (omega (arith, c.in-len4.len_at_least)) (λ of. (of.2, refl))

pub returns-in_err-value : goal.returns-in_err-value
returns-in_err-value c =
    word_fails (λ (x : List ℕ). item x) of_pair c.args.words.now 3 _ _ c.from_residual-in_err-value.result (err_from_is_err_and c.from_residual-in_err-value.result c.from_residual-in_err-value.ensures.1) c.in_err-value.ensures
    (omega (arith, c.in-len4.len_at_least)) (λ of. (of.3, refl))
