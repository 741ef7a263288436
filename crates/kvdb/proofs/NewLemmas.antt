-- What preparing a device leaves, and an opening behind it.
use Rattle.std.specs.Prelude.{Result, Ok, Err, OnOk}
use Rattle.std.proofs.Common.{◌≡◌, ℕ, ◌≤◌, List, [], ◌∷◌, length, refl, sym, ◌∙◌, ap, subst, arith}
use Rattle.media_disk.specs.Calls.{Called}
use Rattle.media_disk.specs.Images.{IsImage, MayLeave}
use Rattle.media_disk.specs.declared.device.Device.{Ghosts}
use Rattle.media_disk.specs.laws.Leaves.{leaves_more, leaves_started}
use Rattle.hse_rows.specs.machine.Core.{life}
use Rattle.recovery.specs.Answers.{IsRecovery}
use Rattle.recovery.specs.Formatting.{first_loaded}
use Rattle.recovery.specs.Image.{Loaded, IsLoaded}
use Rattle.recovery.specs.Keeps.{Keeps}
use Rattle.recovery.specs.Machine.{stored_of}
use Rattle.recovery.specs.declared.fault.OpenFault.{OpenFault}
use Rattle.recovery.specs.declared.fault.OpenFault.TheVariants.{NotFormed, Version, Device, NoMemory}
use Rattle.device_layout.specs.Layouts.{AreGood}
use Rattle.kvdb.specs.Opening.{default_params, default_layout, IsOfDevice, Opens, Prepares}
use Rattle.kvdb.specs.Serves.{Serves}
use Rattle.kvdb.specs.declared.engine.Kvdb.{Kvdb}
use Rattle.kvdb.proofs.ReopenLemmas.{OneLoading, NeverRefused, NeverOther}

module _ {D : Type 0} (g : Ghosts D) where
  -- one call that changes nothing
  pub keeps_sized : {T E : Type 0} {result : Result T E} (old new : D) → Called g old new result → (1 ≤ g.extent old → g.extent new ≡ g.extent old)
      → (g.tells → g.seen new ≡ g.seen old) → (g.tells → g.pending new ≡ g.pending old) → Keeps g old new
  keeps_sized old new call extent seen pending =
      let images : g.tells → (image : List ℕ) → MayLeave g new image → MayLeave g old image = λ told image left.
      subst (λ (bytes : List ℕ). IsImage bytes (g.pending old) image) (seen told)
      (subst (λ (ranges : List (ℕ × ℕ)). IsImage (g.seen new) ranges image) (pending told) left) in
      record {
        seen = seen;
        images = images;
        crash = λ told. leaves_more g old new (MayLeave g new) (MayLeave g old) ((call.crash told).nothing_else) (images told);
        extent = extent;
        still = λ told none. pending told ∙ none;
      }

  -- no call
  pub keeps_started : (disk : D) → Keeps g disk disk
  keeps_started disk = record {
    seen = λ told. refl;
    images = λ told image left. left;
    crash = λ told. leaves_started g disk (MayLeave g disk);
    extent = λ some. refl;
    still = λ told none. none;
  }

  pub prepared_kept : (bytes : List ℕ) (old new : D) (fault : OpenFault) → Keeps g old new → Prepares g bytes old new (Err fault)
  prepared_kept [] old new fault keeps = tt
  prepared_kept (byte ∷ bytes) old new fault keeps = keeps

  -- ---- an opening behind it

  module _ (one : OneLoading) (no_refusal : NeverRefused) (no_version : NeverOther) (old between new : D) where
    pub opens_fault : (bytes : List ℕ) (fault : OpenFault) → IsOfDevice fault → Opens g bytes (Err (new, fault))
    opens_fault [] fault is = is
    opens_fault (byte ∷ bytes) (NotFormed region place) is = absurd is
    opens_fault (byte ∷ bytes) (Version version) is = absurd is
    opens_fault (byte ∷ bytes) Device is = tt
    opens_fault (byte ∷ bytes) NoMemory is = tt

    pub opens_refused : (bytes : List ℕ) (fault : OpenFault) → g.tells → g.seen old ≡ bytes → Prepares g bytes old between (Ok tt)
        → IsRecovery (g.seen between) (Err fault) → Opens g bytes (Err (new, fault))
    opens_refused [] (NotFormed region place) told is made answer =
        no_refusal (g.seen between) (first_loaded default_layout) region place made.0 answer
    opens_refused [] (Version version) told is made answer = no_version (g.seen between) (first_loaded default_layout) version made.0 answer
    opens_refused [] Device told is made answer = tt
    opens_refused [] NoMemory told is made answer = tt
    opens_refused (byte ∷ bytes) fault told is made answer =
        subst (λ (image : List ℕ). IsRecovery image (Err fault)) (made.seen told ∙ is) answer

    pub opens_started : (bytes : List ℕ) (db : Kvdb D g) (loaded : Loaded) → g.tells → g.seen old ≡ bytes → Prepares g bytes old between (Ok tt)
        → IsLoaded (g.seen between) loaded → Serves g db (life (stored_of loaded)) → Opens g bytes (Ok db)
    opens_started [] db loaded told is made at serves =
        subst (λ (l : Loaded). Serves g db (life (stored_of l))) (one (g.seen between) loaded (first_loaded default_layout) at made.0) serves
    opens_started (byte ∷ bytes) db loaded told is made at serves = record {
      loaded = loaded;
      is = subst (λ (image : List ℕ). IsLoaded image loaded) (made.seen told ∙ is) at;
      serves = serves;
    }

-- ---- whether a device is empty

module _ {D : Type 0} (g : Ghosts D) (old new : D) where
  -- one that has bytes stays
  pub prepared_some : (bytes : List ℕ) → g.seen old ≡ bytes → g.seen new ≡ g.seen old → length (g.seen new) ≡ g.extent new → 1 ≤ g.extent new
      → Keeps g old new → Prepares g bytes old new (Ok tt)
  prepared_some [] is same long some keeps =
      absurd (let none : length (g.seen new) ≡ 0 = ap (λ (l : List ℕ). length l) (same ∙ is) in let e : ⊥ = omega (arith, none, long, some) in e)
  prepared_some (byte ∷ bytes) is same long some keeps = keeps

  -- one that has none is a new one
  pub prepared_none : (bytes : List ℕ) (result : Result (Unit {0}) OpenFault) → length bytes ≡ 0
      → OnOk result (IsLoaded (g.seen new) (first_loaded default_layout) × (g.pending new ≡ []))
      → Prepares g bytes old new result
  prepared_none [] result none has = has
  prepared_none (byte ∷ bytes) result none has = absurd cc

-- its size was told as 0
pub nothing_seen : {D : Type 0} (g : Ghosts D) (old sized : D) → g.seen sized ≡ g.seen old → length (g.seen sized) ≡ g.extent sized → g.extent sized ≡ 0
    → length (g.seen old) ≡ 0
nothing_seen g old sized same long none = ap (λ (l : List ℕ). length l) (sym same) ∙ long ∙ none

-- one that has bytes is not taken for it
pub none_seen : (A : Type 0) (bytes : List ℕ) → length bytes ≡ 0 → (bytes ≡ [] → ⊥) → A
none_seen A [] none some = absurd (some refl)
none_seen A (byte ∷ bytes) none some = absurd cc

pub good_default : AreGood default_params
good_default = record {
  slot = refl;
  least_power = omega arith;
  most_power = omega arith;
  least_slots = omega arith;
  most_slots = omega arith;
  half = record { least = omega arith; most = omega arith; whole = refl };
  segment = record { least = omega arith; most = omega arith; whole = refl };
  least_stores = omega arith;
  stores = omega arith;
  device = omega arith;
}
