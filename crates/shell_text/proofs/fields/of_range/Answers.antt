use Rattle.std.proofs.Common.{◌≡◌, ℕ, List, [], ◌∷◌, refl, arith}
use Rattle.std.proofs.lemmas.Result.{err_from_is_err_and}
use Rattle.shell_text.specs.Words.{item, name}
use Rattle.shell_text.proofs.PartLemmas.{word_fails}
use Rattle.shell_text.proofs.ShapeLemmas.{of_range}
use Rattle.shell_text.proofs.fields.of_range.Goals as goal

pub returns-in_err-cursor : goal.returns-in_err-cursor
returns-in_err-cursor c =
    word_fails (λ (x : List ℕ). name x) of_range c.args.words.now 0 _ _ c.from_residual.result (err_from_is_err_and c.from_residual.result c.from_residual.ensures.1) c.in_err-cursor.ensures
    (omega (arith, c.in-len3.len_at_least)) (λ of. (of.0, refl))

pub returns-in_err-first : goal.returns-in_err-first
returns-in_err-first c =
    word_fails (λ (x : List ℕ). item x) of_range c.args.words.now 1 _ _ c.from_residual-in_err-first.result (err_from_is_err_and c.from_residual-in_err-first.result c.from_residual-in_err-first.ensures.1) c.in_err-first.ensures
    (omega (arith, c.in-len3.len_at_least)) (λ of. (of.1, refl))

pub returns-in_err-last : goal.returns-in_err-last
returns-in_err-last c =
    word_fails (λ (x : List ℕ). item x) of_range c.args.words.now 2 _ _ c.from_residual-in_err-last.result (err_from_is_err_and c.from_residual-in_err-last.result c.from_residual-in_err-last.ensures.1) c.in_err-last.ensures
    (omega (arith, c.in-len3.len_at_least)) (λ of. (of.2, refl))
