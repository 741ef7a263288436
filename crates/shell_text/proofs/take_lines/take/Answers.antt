use Rattle.std.proofs.lemmas.Result.{err_from_is_err_and}
use Rattle.shell_text.specs.declared.verb.Verb.TheVariants as verb
use Rattle.shell_text.specs.Grammar.{taking}
use Rattle.shell_text.proofs.PartLemmas.{line_fails}
use Rattle.shell_text.proofs.take_lines.take.Goals as goal

pub returns-in_err-wish : goal.returns-in_err-wish
returns-in_err-wish c =
    line_fails verb.Take taking _ _ c.from_residual.result (err_from_is_err_and c.from_residual.result c.from_residual.ensures.1) c.in_err-wish.ensures
    (λ of says. (of, says.1))
