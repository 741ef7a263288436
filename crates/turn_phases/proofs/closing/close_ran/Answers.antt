use Rattle.turn_phases.proofs.CloseLemmas.{closed_for, finished_well, finished_badly, leaves_for, leaves_in}
use Rattle.hse_rows.specs.machine.Calls.{end_turn}
use Rattle.hse_rows.specs.machine.Replies.{broken}
use Rattle.turn_phases.proofs.closing.close_ran.Goals as goal

pub returns-in-Ok-clause-closes : goal.returns-in-Ok-clause-closes
returns-in-Ok-clause-closes g c m sound s r =
    let e = c.in-Ok.ensures.ends m sound s r in
    closed_for g.D.Device m _ _ _ (finished_well m r.out c.args.ran.has_failed r.phase e.0)
    (c.close.ensures.closes _ (c.steps_keep_states_sound.ensures.calls m end_turn sound e.0) e.2)

pub returns-in-Ok-clause-crash : goal.returns-in-Ok-clause-crash
returns-in-Ok-clause-crash g c m sound s r told =
    let e = c.in-Ok.ensures.ends m sound s r in
    leaves_for g.D.Device m _ _ _ (finished_well m r.out c.args.ran.has_failed r.phase e.0)
    (leaves_in g.D.Device _ c.args.ran.back _ _ c.in-Ok.ensures.home
    (c.close.ensures.crash _ (c.steps_keep_states_sound.ensures.calls m end_turn sound e.0) e.2 told))

pub returns-in-Err-clause-closes : goal.returns-in-Err-clause-closes
returns-in-Err-clause-closes g c m sound s r =
    let e = c.in-Err.ensures.ends m sound s r in
    closed_for g.D.Device m _ _ _ (finished_badly m r.out c.args.ran.has_failed r.phase e.0)
    (c.close-in-Err.ensures.closes _ (c.steps_keep_states_sound.ensures.refusals m end_turn broken sound e.0) e.1)

pub returns-in-Err-clause-crash : goal.returns-in-Err-clause-crash
returns-in-Err-clause-crash g c m sound s r told =
    let e = c.in-Err.ensures.ends m sound s r in
    leaves_for g.D.Device m _ _ _ (finished_badly m r.out c.args.ran.has_failed r.phase e.0)
    (leaves_in g.D.Device _ c.args.ran.back _ _ c.in-Err.ensures.home
    (c.close-in-Err.ensures.crash _ (c.steps_keep_states_sound.ensures.refusals m end_turn broken sound e.0) e.1 told))
