-- The search's answer is the first line's length.
use Rattle.std.proofs.Common.{◌∙◌, ap, take}
use Rattle.hse_io.proofs.LineLemmas.{length-first_line_found, take-first_line}
use Rattle.hse_io.proofs.line.line_length.Goals as goal

pub returns-clause-value : goal.returns-clause-value
returns-clause-value c = c.unwrap_or.ensures ∙ length-first_line_found c.args.bytes.now c.memchr.result c.memchr.ensures

pub returns-clause-taken : goal.returns-clause-taken
returns-clause-taken c =
    let bytes = c.args.bytes.now in
    ap (λ n. take n bytes) (c.unwrap_or.ensures ∙ length-first_line_found bytes c.memchr.result c.memchr.ensures) ∙ take-first_line bytes
