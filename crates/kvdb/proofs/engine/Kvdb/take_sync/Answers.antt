use Rattle.std.proofs.Common.{◌≡◌, ◌∙◌, false, refl, sym, ap}
use Rattle.hse_rows.specs.states.State.{State}
use Rattle.hse_rows.specs.laws.Folding.{folded-number}
use Rattle.kvdb.specs.Serves.{IsHome}
use Rattle.kvdb.proofs.TurnLemmas.{side_in, took_sync}
use Rattle.kvdb.proofs.engine.Kvdb.take_sync.Goals as goal

pub returns-clause-takes : goal.returns-clause-takes
returns-clause-takes g c m sound s =
    let whole : m.is_broken ≡ false = sym s.state.is_broken ∙ sym c.is_broken.ensures ∙ c.if-is_broken.false in
    let home : IsHome g.D.Device c.in-In-replace.back m = side_in g.D.Device _ _ m (sym c.replace.ensures.value ∙ c.in-In-replace.is) s.side in
    took_sync g.D.Device c.args.self.now _ m _ c.in-Ok.batch c.commits_are_a_payload.ensures sound s whole home
    (c.number-number.ensures ∙ ap (λ (x : State). x.number) s.state.view.state ∙ folded-number m.timeline.base m.timeline.history)
    (c.in-Ok.ensures.hands m _ whole s.state) c.replace.ensures.after refl refl refl refl refl refl
