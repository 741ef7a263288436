-- The line at the end of the input.
use Rattle.std.proofs.Common.{sym, ap, ◌∙◌, length}
use Rattle.std.proofs.lemmas.Bool.{eqb-false}
use Rattle.hse_io.proofs.TakesLemmas.{takes_last}
use Rattle.hse_io.proofs.std_source.StdSourceSource.read_line.Goals as goal

pub returns-in-InputEnd-2-clause-takes : goal.returns-in-InputEnd-2-clause-takes
returns-in-InputEnd-2-clause-takes g c =
    let some = eqb-false (length c.bytes.result.now) 0 (sym c.is_empty.ensures ∙ c.if-is_empty.false) in
    takes_last c.steps.into c.step.new.into c.args.self.now.told c.steps.self.told c.step.new.self.told c.steps.invariant.one_line
    c.steps.invariant.room c.steps.invariant.kept (rw c.in-InputEnd-2.is at c.in_ok-step.ensures.reads)
    (λ none. some (ap length c.bytes.ensures.value ∙ none))
