-- What is left of an engine.
use Rattle.std.specs.Prelude.{Some, IfSome}
use Rattle.std.proofs.Common.{◌≡◌, ℕ, ◌≤◌, Bool, true, false, List, refl, sym, ◌∙◌, ap, subst, arith}
use Rattle.media_disk.specs.declared.device.Device.{Ghosts}
use Rattle.hse_rows.specs.machine.Turn.{Turn as machine_turn, TakenTurn, home, taken}
use Rattle.hse_rows.specs.machine.Turn as machine
use Rattle.hse_rows.specs.machine.Core.{Core, number_of}
use Rattle.back.specs.declared.back.Back.{Back}
use Rattle.kvdb.specs.Found.{StoresFrom, stored_at}
use Rattle.kvdb.specs.Leaving.{StoresAll}
use Rattle.kvdb.specs.Serves.{RestsAt, IsUnsure, IsHome, SideIs}
use Rattle.kvdb.specs.Sides.{device_in}
use Rattle.kvdb.specs.declared.side.Side.{Side}
use Rattle.kvdb.specs.declared.side.Side.TheVariants as side
use Rattle.kvdb.proofs.RunLemmas.{from_rest}

-- what a device side that is in leaves
home_unsure : {D : Type 0} (g : Ghosts D) (back : Back D g) (m : Core) → m.safe ≤ number_of m → IsHome g back m → IsUnsure g back.disk m
home_unsure g back m high at told image left = by m.is_broken refl
  where
    by : (b : Bool) → m.is_broken ≡ b → StoresFrom m (number_of m) image
    by true is = at.broken is told image left
    by false is = let r = at.settled is told in from_rest g back m (number_of m) r.loaded image high r.rests r.same left

pub side_unsure : {D : Type 0} (g : Ghosts D) (s : Side D g) (disk : D) (m : Core) → m.safe ≤ number_of m → device_in s ≡ Some disk → SideIs g s m
    → IsUnsure g disk m
side_unsure {D = D} g (side.In back) disk m high is at =
    let same : back.disk ≡ disk = cc in
    subst (λ (d : D). IsUnsure g d m) same (home_unsure g back m high at)
side_unsure g (side.Out what number) disk m high is at = absurd cc

-- of a life whose turn is out
pub from_taken : (m : Core) (turn : machine_turn) (last : ℕ) (image : List ℕ) → last ≤ number_of m → StoresFrom (record m { turn = turn }) last image
    → StoresFrom m (number_of m) image
from_taken m turn last image le from = record {
  number = from.number;
  reaches = from.reaches;
  within = omega (arith, from.within);
  stored = record { loaded = from.stored.loaded; is = from.stored.is; same = from.stored.same };
}

-- and where its turn has run
pub from_run : (m : Core) (turn : machine_turn) (broken : Bool) (image : List ℕ)
    → StoresFrom (record m { turn = turn; is_broken = broken }) (number_of m) image → StoresFrom m (number_of m) image
from_run m turn broken image from = record {
  number = from.number;
  reaches = from.reaches;
  within = from.within;
  stored = record { loaded = from.stored.loaded; is = from.stored.is; same = from.stored.same };
}

pub stores_all : {D : Type 0} (g : Ghosts D) (back : Back D g) (m : Core) (turn : machine_turn) (number : ℕ) → number ≡ number_of m
    → RestsAt g back (stored_at (record m { turn = turn }) number) → StoresAll g back.disk m
stores_all g back m turn number is r = record {
  stored = record { loaded = r.loaded; is = r.rests.says; same = r.same ∙ ap (stored_at m) is };
  durable = r.rests.still;
}

-- the turn of this number
abbrev number_in : machine_turn → ℕ
number_in home = 0
number_in (taken turn) = turn.number
number_in (machine.ran turn has_failed) = turn.number

pub same_number : (one other : TakenTurn) → taken one ≡ taken other → one.number ≡ other.number
same_number one other is = ap number_in is

-- the device of a side that is in
pub device_is : {D : Type 0} (g : Ghosts D) (s : Side D g) (back : Back D g) (P : D → Type 0) → s ≡ side.In back → P back.disk → IfSome (device_in s) P
device_is {D = D} g s back P is has = subst (λ (x : Side D g). IfSome (device_in x) P) (sym is) has

pub device_same : {D : Type 0} (g : Ghosts D) (s t : Side D g) (disk : D) (P : D → Type 0) → t ≡ s → device_in t ≡ Some disk → P disk → IfSome (device_in s) P
device_same g s t disk P same is has = subst (λ x. IfSome x P) (sym is ∙ ap device_in same) has
