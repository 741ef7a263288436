use Rattle.std.proofs.Common.{sym, ◌∙◌}
use Rattle.std.proofs.lemmas.Bool.{false≢true}
use Rattle.hse_shell.proofs.GrammarLemmas.{put_words, no_put_unspaced}
use Rattle.hse_shell.proofs.command.parse_put.Goals as goal

pub returns-in_err-key : goal.returns-in_err-key
returns-in_err-key c = record {
  cases = rw c.from_residual-in_err-key.ensures (λ key value is. no_put_unspaced _ _ key value c.in_ok-behind.ensures.cases c.in_err-key.ensures.cases is);
}

pub returns-then-not-is_word : goal.returns-then-not-is_word
returns-then-not-is_word c = record {
  cases = λ key value is.
      let words = put_words _ _ _ _ key value c.in_ok-behind.ensures.cases c.in_ok-key.ensures.cases.0 c.in_ok-key.ensures.cases.1 is in
      false≢true (sym c.if-not-is_word.true ∙ c.is_word.ensures.1 words.0);
}

pub returns-else-is_word : goal.returns-else-is_word
returns-else-is_word c = record {
  cases = λ key value is.
      let words = put_words _ _ _ _ key value c.in_ok-behind.ensures.cases c.in_ok-key.ensures.cases.0 c.in_ok-key.ensures.cases.1 is in
      false≢true (sym c.if-is_word.false ∙ c.is_word-2.ensures.1 words.1);
}
