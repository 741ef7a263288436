-- A life goes on beside a turn that is out: it has more events and transactions, and what the device has of it stays.
use Rattle.std.specs.Prelude.{◌≡◌, ◌+◌, List, ◌++◌}
use Rattle.hse_rows.specs.states.History.{Event}
use Rattle.hse_rows.specs.machine.Calls.{Call}
use Rattle.hse_rows.specs.machine.Calls as call
use Rattle.hse_rows.specs.machine.Core.{Core, number_of}
use Rattle.hse_rows.specs.machine.Recorded.{commits_in}

-- More events follow, whose commits stand last in the log. What is safe, the manifest, the layout, the slots, the jobs and the turn
-- stay, and so does whether the engine is broken.
pub record Grows (old new : Core) : Type 0 where
  pub sizes : new.sizes ≡ old.sizes
  pub base : new.timeline.base ≡ old.timeline.base
  pub more : List Event
  pub history : new.timeline.history ≡ old.timeline.history ++ more
  pub log : new.log ≡ record old.log { active = old.log.active ++ commits_in (number_of old + 1) more }
  pub manifest : new.manifest ≡ old.manifest
  pub layout : new.layout ≡ old.layout
  pub used_slots : new.used_slots ≡ old.used_slots
  pub safe : new.safe ≡ old.safe
  pub is_broken : new.is_broken ≡ old.is_broken
  pub turn : new.turn ≡ old.turn
  pub jobs : new.jobs ≡ old.jobs

-- the calls of sessions
abbrev pub IsSession : Call → Type 0
IsSession call.begin = Unit {0}
IsSession (call.write_by actor name change) = Unit {0}
IsSession (call.get actor name key) = Unit {0}
IsSession (call.commit order) = Unit {0}
IsSession (call.abort order) = Unit {0}
IsSession call.list_stores = Unit {0}
IsSession (call.tree name) = ⊥
IsSession call.info = Unit {0}
IsSession call.take_place = Unit {0}
IsSession call.give_place = Unit {0}
IsSession (call.pick wish) = ⊥
IsSession (call.build id) = ⊥
IsSession (call.drop_job id) = ⊥
IsSession call.next_job = ⊥
IsSession (call.take wish) = ⊥
IsSession (call.take_install id) = ⊥
IsSession call.write_turn = ⊥
IsSession call.end_turn = ⊥
IsSession call.reopen = ⊥
