use Rattle.std.proofs.Common.{◌≡◌, ℕ, List, [], ◌∷◌, refl, arith}
use Rattle.std.proofs.lemmas.Result.{err_from_is_err_and}
use Rattle.shell_text.specs.Words.{name}
use Rattle.shell_text.proofs.PartLemmas.{word_fails}
use Rattle.shell_text.proofs.ShapeLemmas.{one_name}
use Rattle.shell_text.proofs.fields.one_name.Goals as goal

pub returns-in_err-text : goal.returns-in_err-text
returns-in_err-text c =
    word_fails (λ (x : List ℕ). name x) one_name c.args.words.now 0 _ _ c.from_residual.result (err_from_is_err_and c.from_residual.result c.from_residual.ensures.1) c.in_err-text.ensures
    (omega (arith, c.in-len1.len_at_least)) (λ of. (of, refl))
