use Rattle.std.proofs.lemmas.Result.{err_from_is_err_and}
use Rattle.shell_text.specs.declared.verb.Verb.TheVariants as verb
use Rattle.shell_text.proofs.PartLemmas.{line_fails}
use Rattle.shell_text.proofs.ShapeLemmas.{of_seek}
use Rattle.shell_text.proofs.cursor_lines.seek.Goals as goal

pub returns-in_err-cursor : goal.returns-in_err-cursor
returns-in_err-cursor c =
    line_fails verb.Seek of_seek _ _ c.from_residual.result (err_from_is_err_and c.from_residual.result c.from_residual.ensures.1) c.in_err-cursor.ensures
    (λ of says. (of, says.1))
