use Rattle.std.proofs.Common.{sym, ◌∙◌}
use Rattle.std.proofs.lemmas.Bool.{false≢true}
use Rattle.hse_shell.proofs.GrammarLemmas.{key_word}
use Rattle.hse_shell.proofs.command.parse_key.Goals as goal

pub returns-else-is_word : goal.returns-else-is_word
returns-else-is_word c = record {
  cases = λ key is.
      false≢true (sym c.if-is_word.false ∙ c.is_word.ensures.1 (key_word _ _ _ key c.in_ok-key.ensures.cases is));
}
