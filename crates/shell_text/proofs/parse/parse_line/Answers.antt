use Rattle.std.proofs.Common.{ap, sym, ◌∙◌}
use Rattle.std.proofs.lemmas.Bool.{false≢true}
use Rattle.shell_text.specs.Texts.{texts}
use Rattle.shell_text.proofs.LineLemmas.{line_read}
use Rattle.shell_text.proofs.parse.parse_line.Goals as goal

pub returns-in-Ok : goal.returns-in-Ok
returns-in-Ok c = record {
  meaning =
      line_read c.args.bytes.now _ c.read.result
      (λ silent. false≢true (sym c.if-is_silent.false ∙ c.is_silent.ensures.1 silent))
      (ap texts c.deref.ensures.value ∙ c.in-Ok.ensures)
      c.read.ensures;
  silent = λ is. absurd (false≢true (sym c.if-is_silent.false ∙ c.is_silent.ensures.1 is));
}
