use Rattle.std.proofs.Common.{◌∙◌, List, length, sym, ap}
use Rattle.hse_rows.specs.states.State.{State}
use Rattle.hse_rows.specs.laws.Folding.{folded-number}
use Rattle.hse_rows.specs.machine.Log.{Frozen}
use Rattle.hse_rows.specs.machine.Replies.{figures}
use Rattle.hse_rows.specs.machine.CoreReply.{figures_of}
use Rattle.kvdb.proofs.TurnLemmas.{figures_same}
use Rattle.kvdb.proofs.engine.Kvdb.info.Goals as goal

pub returns : goal.returns
returns g c m s =
    ap figures (figures_same (figures_of m) _
    (sym (folded-number m.timeline.base m.timeline.history) ∙ sym (ap (λ (x : State). x.number) s.state.view.state) ∙ sym c.number.ensures)
    (ap (λ (l : List Frozen). length l) s.frozen)
    (sym s.state.charge ∙ sym c.charge.ensures)
    (sym s.free)
    (sym s.manifest))
