use Rattle.std.proofs.lemmas.Result.{err_from_is_err_and}
use Rattle.shell_text.specs.declared.verb.Verb.TheVariants as verb
use Rattle.shell_text.proofs.PartLemmas.{line_fails}
use Rattle.shell_text.proofs.ShapeLemmas.{of_key}
use Rattle.shell_text.proofs.write_lines.get.Goals as goal

pub returns-in_err-who : goal.returns-in_err-who
returns-in_err-who c =
    line_fails verb.Get of_key _ _ c.from_residual.result (err_from_is_err_and c.from_residual.result c.from_residual.ensures.1) c.in_err-who.ensures
    (λ of says. (of, says.1))
