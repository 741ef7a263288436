use Rattle.std.proofs.Common.{refl}
use Rattle.hse_rows.specs.machine.Calls as call
use Rattle.hse_rows.specs.machine.CoreDone.{done}
use Rattle.kvdb.specs.laws.Sessions.{session_grows}
use Rattle.lives.specs.Stories.{stepped}
use Rattle.lives.proofs.ServeLemmas.{served}
use Rattle.lives.proofs.StoryLemmas.{goes_grown}
use Rattle.lives.proofs.run.Lives.give_place.Goals as goal

pub returns-clause-step : goal.returns-clause-step
returns-clause-step g c s l =
    served g.D.Device c.args.self.now _ s (stepped s call.give_place) refl refl c.give_place.ensures.device refl refl
    (goes_grown s (done s.machine call.give_place) (session_grows s.machine call.give_place tt)) (c.give_place.ensures.step s.machine l.phases) l
