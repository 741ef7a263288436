use Rattle.std.proofs.Common.{ℕ, List}
use Rattle.std.proofs.lemmas.Result.{err_from_is_err_and}
use Rattle.shell_text.specs.declared.verb.Verb.TheVariants as verb
use Rattle.shell_text.proofs.PartLemmas.{named_fails}
use Rattle.shell_text.proofs.name_lines.named.Goals as goal

pub returns-in_err-name : goal.returns-in_err-name
returns-in_err-name c =
    named_fails c.args.verb c.requires _ _ c.from_residual.result (err_from_is_err_and c.from_residual.result c.from_residual.ensures.1) c.in_err-name.ensures
