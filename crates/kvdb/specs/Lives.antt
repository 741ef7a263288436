-- The lives that engines begin are sound.
use Rattle.std.specs.Prelude.{List, ℕ, Ok}
use Rattle.media_disk.specs.declared.device.Device.{Ghosts}
use Rattle.hse_rows.specs.machine.Core.{Stored, life}
use Rattle.engine_state.specs.Serves.{IsSound}
use Rattle.kvdb.specs.Opening.{Opens}
use Rattle.kvdb.specs.Serves.{Serves}
use Rattle.kvdb.specs.declared.engine.Kvdb.{Kvdb}

-- The engine begins a sound life.
pub record Begins {D : Type 0} (g : Ghosts D) (db : Kvdb D g) : Type 0 where
  pub stored : Stored
  pub sound : IsSound (life stored)
  pub serves : Serves g db (life stored)

-- It does so when it is opened.
abbrev pub OpeningsBeginSound : {D : Type 0} → Ghosts D → Type 0
OpeningsBeginSound {D = D} g = (image : List ℕ) (db : Kvdb D g) → Opens g image (Ok db) → Begins g db

-- A life that an engine stands for at its beginning is sound, as after a reopening.
abbrev pub LivesAreSound : {D : Type 0} → Ghosts D → Type 0
LivesAreSound {D = D} g =
    g.tells → (db : Kvdb D g) (stored : Stored) → Serves g db (life stored) → IsSound (life stored)
