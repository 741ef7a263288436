-- The life that an engine begins is sound.
use Rattle.std.proofs.Common.{◌≡◌, ◌∙◌, ℕ, ◌+◌, ◌-◌, List, [], ◌∷◌, ◌++◌, Ok, refl, sym, ap, subst}
use Rattle.std.proofs.lemmas.List.{append-nil}
use Rattle.std.proofs.Math.Seq.{drop-nil}
use Rattle.media_disk.specs.declared.device.Device.{Ghosts}
use Rattle.hse_rows.specs.states.History.{Event}
use Rattle.hse_rows.specs.states.State.{IsState}
use Rattle.hse_rows.specs.machine.Log.{Numbered}
use Rattle.hse_rows.specs.machine.Sizes.{default_sizes}
use Rattle.hse_rows.specs.machine.Core.{Stored, life, formatted}
use Rattle.hse_rows.specs.machine.Limits.{IsWithinLimits}
use Rattle.hse_rows.specs.machine.Recorded.{commits_in, CommitsUpTo}
use Rattle.recovery.specs.Image.{IsLoaded, Loaded}
use Rattle.recovery.specs.Machine.{stored_of}
use Rattle.engine_state.specs.Serves.{IsSound}
use Rattle.engine_state.specs.Keeping as state
use Rattle.kvdb.specs.Lives.{Begins}
use Rattle.kvdb.specs.Opening.{Opens}
use Rattle.kvdb.specs.Pending.{IsPending}
use Rattle.kvdb.specs.Serves.{Serves, SideIs}
use Rattle.kvdb.specs.declared.engine.Kvdb.{Kvdb}
use Rattle.kvdb.specs.declared.side.Side.{Side}
use Rattle.kvdb.specs.declared.side.Side.TheVariants as side
use Rattle.kvdb.proofs.NewLemmas.{good_default}
use Rattle.kvdb.proofs.OpeningLemmas.{stored_life}

-- all commits that a life begins with are up to its number
pub all_below : (stored : Stored) → IsPending (life stored) → CommitsUpTo stored.base.number stored.log.active
all_below stored pending =
    let none : stored.log.active ≡ pending.settled =
    pending.active
    ∙ ap (λ (events : List Event). pending.settled ++ commits_in (stored.base.number + 1) events) (drop-nil (stored.base.number - stored.base.number))
    ∙ append-nil pending.settled in
    subst (λ (these : List Numbered). CommitsUpTo stored.base.number these) (sym none) pending.below

module _ (lives : state.LivesAreSound)
    (limits : (image : List ℕ) (loaded : Loaded) → IsLoaded image loaded → IsWithinLimits (life (stored_of loaded)))
    (base : (image : List ℕ) (loaded : Loaded) → IsLoaded image loaded → IsState (stored_of loaded).base) where
  loaded_sound : (image : List ℕ) (loaded : Loaded) → IsLoaded image loaded → IsSound (life (stored_of loaded))
  loaded_sound image loaded is = lives (stored_of loaded) (limits image loaded is) (base image loaded is)

  module _ {D : Type 0} (g : Ghosts D) where
    side_sound : g.tells → (stored : Stored) → CommitsUpTo stored.base.number stored.log.active → (it : Side D g) → SideIs g it (life stored)
        → IsSound (life stored)
    side_sound tells stored below (side.In back) home =
        let rests = home.settled refl tells in
        subst (λ (s : Stored). IsSound (life s)) (rests.same ∙ sym (stored_life stored below))
        (loaded_sound (g.seen back.disk) rests.loaded rests.rests.says)
    side_sound tells stored below (side.Out what number) out = absurd out

    pub life_sound : g.tells → (db : Kvdb D g) (stored : Stored) → Serves g db (life stored) → IsSound (life stored)
    life_sound tells db stored serves = side_sound tells stored (all_below stored serves.pending) db.side serves.side

    pub opening_sound : state.NewLivesAreSound → (image : List ℕ) (db : Kvdb D g) → Opens g image (Ok db) → Begins g db
    opening_sound new [] db opens =
        record { stored = formatted default_sizes; sound = new default_sizes 21 good_default; serves = opens }
    opening_sound new (byte ∷ bytes) db opens = record {
      stored = stored_of opens.loaded;
      sound = loaded_sound (byte ∷ bytes) opens.loaded opens.is;
      serves = opens.serves;
    }
