use Rattle.std.proofs.Common.{◌≡◌, true, false, sym, ◌∙◌}
use Rattle.kvdb.specs.Taking.{wish_as}
use Rattle.turn_phases.proofs.DeviceLemmas.{device_in_engine, leaves_at, none_held}
use Rattle.turn_phases.proofs.TurnLemmas.{whole, whole_badly, never_broken, up_to_turn}
use Rattle.turn_phases.proofs.phases.TurnPhases.whole_turn.Goals as goal

pub returns-then-failed-clause-turns : goal.returns-then-failed-clause-turns
returns-then-failed-clause-turns g c m s =
    let t = c.in-Ok.ensures.takes m s.sound s.engine in
    let fails : c.run-ran.result.has_failed ≡ true = sym c.failed.ensures ∙ c.if-failed.true in
    whole_badly g.D.Device m (wish_as c.args.what.now) c.in-Ok.turn c.run-ran.result _ _ _ _ c.steps_keep_states_sound.ensures.calls
    c.steps_keep_states_sound.ensures.failures c.steps_keep_states_sound.ensures.refusals s.sound t (c.run-ran.ensures.ran _ t.turns) fails
    (c.run-ran.ensures.works _ t.turns fails) (c.mark_broken.ensures.marked _ (t.turns.out, t.turns.phase) t.serves) c.end_turn-broken.ensures.ends
    (none_held c.args.self.now.db.side c.args.self.now.held c.in-Ok.turn.back c.args.self.now.paired c.in-Ok.ensures.given)

pub returns-then-failed-clause-crash : goal.returns-then-failed-clause-crash
returns-then-failed-clause-crash g c m s told =
    let t = c.in-Ok.ensures.takes m s.sound s.engine in
    leaves_at g.D.Device c.in-Ok.turn.back.disk c.run-ran.result.back.disk _ _ _
    (device_in_engine c.args.self.now.db.side c.args.self.now.held c.args.self.now.paired c.in-Ok.turn.back c.in-Ok.ensures.given) (device_in_engine _ _ _ c.run-ran.result.back c.end_turn-broken.ensures.home)
    (up_to_turn g.D.Device c.in-Ok.turn _ _ _ t.turns (c.run-ran.ensures.crash _ t.turns told))

pub returns-in-Ok-end_turn-clause-turns : goal.returns-in-Ok-end_turn-clause-turns
returns-in-Ok-end_turn-clause-turns g c m s =
    let t = c.in-Ok.ensures.takes m s.sound s.engine in
    let fine : c.run-ran.result.has_failed ≡ false = sym c.failed.ensures ∙ c.if-failed.false in
    whole g.D.Device m (wish_as c.args.what.now) c.in-Ok.turn c.run-ran.result _ _ _ c.steps_keep_states_sound.ensures.calls
    s.sound t (c.run-ran.ensures.ran _ t.turns) fine c.in-Ok-end_turn.ensures.ends
    (none_held c.args.self.now.db.side c.args.self.now.held c.in-Ok.turn.back c.args.self.now.paired c.in-Ok.ensures.given)

pub returns-in-Ok-end_turn-clause-crash : goal.returns-in-Ok-end_turn-clause-crash
returns-in-Ok-end_turn-clause-crash g c m s told =
    let t = c.in-Ok.ensures.takes m s.sound s.engine in
    leaves_at g.D.Device c.in-Ok.turn.back.disk c.run-ran.result.back.disk _ _ _
    (device_in_engine c.args.self.now.db.side c.args.self.now.held c.args.self.now.paired c.in-Ok.turn.back c.in-Ok.ensures.given) (device_in_engine _ _ _ c.run-ran.result.back c.in-Ok-end_turn.ensures.home)
    (up_to_turn g.D.Device c.in-Ok.turn _ _ _ t.turns (c.run-ran.ensures.crash _ t.turns told))

pub returns-in-Err-end_turn-clause-turns : goal.returns-in-Err-end_turn-clause-turns
returns-in-Err-end_turn-clause-turns g c m s =
    let t = c.in-Ok.ensures.takes m s.sound s.engine in
    absurd (never_broken g.D.Device m (wish_as c.args.what.now) c.in-Ok.turn c.run-ran.result _ _ _ c.steps_keep_states_sound.ensures.calls s.sound t
    (c.run-ran.ensures.ran _ t.turns) (sym c.failed.ensures ∙ c.if-failed.false) c.in-Err-end_turn.ensures.ends)

pub returns-in-Err-end_turn-clause-crash : goal.returns-in-Err-end_turn-clause-crash
returns-in-Err-end_turn-clause-crash g c m s told =
    let t = c.in-Ok.ensures.takes m s.sound s.engine in
    absurd (never_broken g.D.Device m (wish_as c.args.what.now) c.in-Ok.turn c.run-ran.result _ _ _ c.steps_keep_states_sound.ensures.calls s.sound t
    (c.run-ran.ensures.ran _ t.turns) (sym c.failed.ensures ∙ c.if-failed.false) c.in-Err-end_turn.ensures.ends)

pub returns-in-Err-end_turn-clause-reports : goal.returns-in-Err-end_turn-clause-reports
returns-in-Err-end_turn-clause-reports g c m s =
    let t = c.in-Ok.ensures.takes m s.sound s.engine in
    absurd (never_broken g.D.Device m (wish_as c.args.what.now) c.in-Ok.turn c.run-ran.result _ _ _ c.steps_keep_states_sound.ensures.calls s.sound t
    (c.run-ran.ensures.ran _ t.turns) (sym c.failed.ensures ∙ c.if-failed.false) c.in-Err-end_turn.ensures.ends)
