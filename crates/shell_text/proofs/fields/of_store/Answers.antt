use Rattle.std.proofs.Common.{◌≡◌, ℕ, List, [], ◌∷◌, refl, arith}
use Rattle.std.proofs.lemmas.Result.{err_from_is_err_and}
use Rattle.hse_rows.specs.declared.store.Mode.{Mode}
use Rattle.shell_text.specs.Words.{mode_of, name, number}
use Rattle.shell_text.proofs.PartLemmas.{word_fails}
use Rattle.shell_text.proofs.ShapeLemmas.{of_store}
use Rattle.shell_text.proofs.fields.of_store.Goals as goal

pub returns-in_err-store : goal.returns-in_err-store
returns-in_err-store c =
    word_fails (λ (x : List ℕ). name x) of_store c.args.words.now 0 _ _ c.from_residual.result (err_from_is_err_and c.from_residual.result c.from_residual.ensures.1) c.in_err-store.ensures
    (omega (arith, c.in-len3.len_at_least)) (λ of. (of.0, refl))

pub returns-in_err-access : goal.returns-in_err-access
returns-in_err-access c =
    word_fails (λ (x : Mode). mode_of x) of_store c.args.words.now 1 _ _ c.from_residual-in_err-access.result (err_from_is_err_and c.from_residual-in_err-access.result c.from_residual-in_err-access.ensures.1) c.in_err-access.ensures
    (omega (arith, c.in-len3.len_at_least)) (λ of. (of.1, refl))

pub returns-in_err-prefix : goal.returns-in_err-prefix
returns-in_err-prefix c =
    word_fails (λ (x : ℕ). number x) of_store c.args.words.now 2 _ _ c.from_residual-in_err-prefix.result (err_from_is_err_and c.from_residual-in_err-prefix.result c.from_residual-in_err-prefix.ensures.1) c.in_err-prefix.ensures
    (omega (arith, c.in-len3.len_at_least)) (λ of. (of.2, refl))
