use Rattle.std.proofs.Common.{◌≡◌, sym, ap, ◌∙◌, subst, arith, ℕ, ◌+◌}
use Rattle.hse_rows.specs.transactions.Moves as moves
use Rattle.hse_rows.specs.machine.Core.{number_of, with_move}
use Rattle.engine_state.specs.Serves.{ViewServes}
use Rattle.engine_state.specs.Stores.{SaysCreate, FrontsBy, create_front}
use Rattle.engine_state.proofs.SoundLemmas.{view-number}
use Rattle.engine_state.proofs.StoreLemmas.{created}
use Rattle.engine_state.proofs.state.EngineState.prepare_create.Goals as goal

pub overflow_cast-prefix : goal.overflow_cast-prefix
overflow_cast-prefix g c = omega (arith, c.create_fault.ensures.prefix c.in_default.is)

pub view_created-requires-clause-number : goal.view_created-requires-clause-number
view_created-requires-clause-number g c = c.create_fault.ensures.number c.in_default.is

pub view_created-requires-clause-named : goal.view_created-requires-clause-named
view_created-requires-clause-named g c = c.create_fault.ensures.named c.in_default.is

pub returns-in-Some-clause-prepared : goal.returns-in-Some-clause-prepared
returns-in-Some-clause-prepared g c m sound s =
    subst (λ r. FrontsBy SaysCreate r (create_front m c.args.name.now c.args.prefix)) c.in-Some.is (c.create_fault.ensures.front m s)

pub returns-clause-prepared : goal.returns-clause-prepared
returns-clause-prepared g c m sound s =
    let view = c.args.self.now.view in
    let name = c.args.name.now in
    let number : view.number ≡ number_of m = view-number g.R.RowSet view m s.view in (
      subst (λ r. FrontsBy SaysCreate r (create_front m name c.args.prefix)) c.in_default.is (c.create_fault.ensures.front m s),
      c.number-number.ensures.number ∙ ap (λ v. v.number) c.in-Ok.ensures ∙ ap (λ (n : ℕ). n + 1) number,
      subst (λ v. ViewServes g.R.RowSet v (with_move m (moves.create name c.args.mode c.args.prefix))) (sym c.in-Ok.ensures)
          (created g.R.RowSet c.stores_come_and_go.ensures view m sound c.number-last.ensures.known s.view name c.args.mode c.args.prefix
          (c.create_fault.ensures.named c.in_default.is)),
    )

pub returns-clause-number : goal.returns-clause-number
returns-clause-number g c = ap (λ v. v.number) c.in-Ok.ensures

pub returns-clause-within : goal.returns-clause-within
returns-clause-within g c =
    let number : c.in-Ok.view.number ≡ c.args.self.now.view.number + 1 = ap (λ v. v.number) c.in-Ok.ensures in
    omega (arith, number, c.create_fault.ensures.number c.in_default.is)

pub returns-clause-prefix : goal.returns-clause-prefix
returns-clause-prefix g c = c.create_fault.ensures.prefix c.in_default.is
