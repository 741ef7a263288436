-- The line is the first one, and what is left comes after it.
use Rattle.std.proofs.Common.{◌-◌, length, take, drop, sym, ap, ◌∙◌}
use Rattle.std.proofs.lemmas.Bool.{eqb-false}
use Rattle.std.proofs.lemmas.List.{take_rest}
use Rattle.hse_io.proofs.TakesLemmas.{takes_first}
use Rattle.hse_io.proofs.mem_source.MemSource.take_line.Goals as goal

pub returns-clause-takes : goal.returns-clause-takes
returns-clause-takes c =
    let inside = c.self.inside in
    let bytes = c.deref.result.now in
    let slice = take (length bytes - inside.at) (drop inside.at bytes) in
    rw (← c.self.view_is) (takes_first inside.bytes.items slice c.append_line.new.self inside.at c.in-Some.count c.min.result
    (take_rest bytes inside.at ∙ ap (drop inside.at) c.deref.ensures.value) (eqb-false _ 0 (sym c.is_empty.ensures ∙ c.if-is_empty.false))
    c.in-Some.ensures.count (rw c.clear.ensures at c.in-Some.ensures.appended) c.in-Some.ensures.fits c.min.ensures)
