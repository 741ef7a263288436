use Rattle.std.proofs.Common.{◌≡◌, ℕ, List, [], ◌∷◌, refl, arith}
use Rattle.std.proofs.lemmas.Result.{err_from_is_err_and}
use Rattle.shell_text.specs.Words.{item, name}
use Rattle.shell_text.proofs.PartLemmas.{word_fails}
use Rattle.shell_text.proofs.ShapeLemmas.{of_seek}
use Rattle.shell_text.proofs.fields.of_seek.Goals as goal

pub returns-in_err-cursor : goal.returns-in_err-cursor
returns-in_err-cursor c =
    word_fails (λ (x : List ℕ). name x) of_seek c.args.words.now 0 _ _ c.from_residual.result (err_from_is_err_and c.from_residual.result c.from_residual.ensures.1) c.in_err-cursor.ensures
    (omega (arith, c.in-len2.len_at_least)) (λ of. (of.0, refl))

pub returns-in_err-key : goal.returns-in_err-key
returns-in_err-key c =
    word_fails (λ (x : List ℕ). item x) of_seek c.args.words.now 1 _ _ c.from_residual-in_err-key.result (err_from_is_err_and c.from_residual-in_err-key.result c.from_residual-in_err-key.ensures.1) c.in_err-key.ensures
    (omega (arith, c.in-len2.len_at_least)) (λ of. (of.1, refl))
