use Rattle.std.proofs.Common.{sym, subst}
use Rattle.hse_rows.specs.writes.Change.{change_of}
use Rattle.hse_rows.specs.machine.CoreRefusal.{change_refusal}
use Rattle.engine_state.specs.Says.{Fronts}
use Rattle.engine_state.proofs.lengths.change_fault.Goals as goal

pub returns-in-PDel : goal.returns-in-PDel
returns-in-PDel c sizes store most length =
    subst (λ change. Fronts c.prefix_fault.result (change_refusal sizes store (change_of change))) (sym c.in-PDel.is) (c.prefix_fault.ensures store length)
