-- The phases of a turn in a row.
use Rattle.std.proofs.Common.{◌≡◌, ◌+◌, true, [], ◌∷◌, ◌++◌, Option, refl, sym, ap, subst, arith, length-append}
use Rattle.hse_rows.specs.states.State.{Store}
use Rattle.hse_rows.specs.states.History.{Event, creates, last_number}
use Rattle.hse_rows.specs.states.History as history
use Rattle.hse_rows.specs.transactions.Timeline.{for_some}
use Rattle.hse_rows.specs.transactions.Moves as move
use Rattle.hse_rows.specs.machine.Turn.{dropping, removes}
use Rattle.hse_rows.specs.machine.Replies.{ok}
use Rattle.hse_rows.specs.machine.Calls.{write_turn, end_turn}
use Rattle.hse_rows.specs.machine.Core.{Core, number_of, with_move}
use Rattle.hse_rows.specs.machine.ManifestEntry.{drop_entry, entered}
use Rattle.hse_rows.specs.machine.CoreReply.{reply}
use Rattle.hse_rows.specs.machine.CoreDone.{done, failing, refused_to, with_turn}
use Rattle.hse_rows.specs.laws.ScriptLaws.{SyncsAreOneStep, CreationsAreOneStep, DropsAreOneStep}

next_number : (m : Core) (event : Event) → last_number m.timeline.base (m.timeline.history ++ event ∷ []) ≡ number_of m + 1
next_number m event = omega (arith, length-append m.timeline.history (event ∷ []))

pub syncs : SyncsAreOneStep
syncs m = (refl, refl, refl)

pub creations : CreationsAreOneStep
creations m name mode prefix_length = (refl, ap ok (next_number m (creates name mode prefix_length)), refl)

pub drops : DropsAreOneStep
drops m name store is = (
  subst (λ (it : Option Store). done (done (taken_for it) write_turn) end_turn ≡ done (done (one store) write_turn) end_turn) (sym is) refl,
  subst (λ (it : Option Store). reply (done (taken_for it) write_turn) end_turn ≡ ok (number_of m + 1)) (sym is) (ap ok (next_number m (history.drops store.id))),
  subst
      (λ (it : Option Store). refused_to (failing (taken_for it) write_turn) end_turn ≡ refused_to (failing (one store) write_turn) end_turn)
      (sym is) refl,
)
  where
    one : Store → Core
    one s = with_turn (with_move m (move.remove s.id)) dropping (removes s.id (entered m (drop_entry m s))) true

    taken_for : Option Store → Core
    taken_for it = for_some it m one
