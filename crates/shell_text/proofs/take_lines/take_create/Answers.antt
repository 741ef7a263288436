use Rattle.std.proofs.lemmas.Result.{err_from_is_err_and}
use Rattle.shell_text.proofs.ReadingLemmas.{handed_on}
use Rattle.shell_text.proofs.TakeLemmas.{only_create}
use Rattle.shell_text.proofs.take_lines.take_create.Goals as goal

pub returns-in_err-store : goal.returns-in_err-store
returns-in_err-store c =
    handed_on _ _ c.from_residual.result _ (err_from_is_err_and c.from_residual.result c.from_residual.ensures.1) c.in_err-store.ensures (only_create _)
