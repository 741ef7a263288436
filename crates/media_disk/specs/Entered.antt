-- How a call comes into the record of a disk in memory.
use Rattle.std.specs.Prelude.{◌≡◌, ◌⊎◌, ℕ, ◌+◌, ◌-◌, ◌^◌, ◌≤◌, Bool, true, false, List, ◌∷◌, length, Vec, Result, OnOk, OnErr, IsErr}
use Rattle.std.specs.declared.alloc.Global.{Global}
use Rattle.hse_io.specs.Faults.{next_count, HasCause}
use Rattle.media_disk.specs.Lists.{after_write}
use Rattle.media_disk.specs.Record.{call_at}
use Rattle.media_disk.specs.declared.call.Work.{Work}
use Rattle.media_disk.specs.declared.call.Work.TheVariants.{Write, FailedWrite}
use Rattle.media_disk.specs.declared.history.History.{History}

-- the count of listed calls rises at a listed call, and at no other
abbrev pub CountsListed : ℕ → ℕ → Bool → Type 0
CountsListed old new true = new ≡ next_count old
CountsListed old new false = new ≡ old

-- a call that failed is not put into the record
pub record Unentered (old new : History) (is_listed : Bool) : Type 0 where
  pub calls : new.calls.items ≡ old.calls.items
  pub listed : CountsListed old.listed new.listed is_listed
  pub refused : new.refused ≡ next_count old.refused

-- a call is put into the record
pub record Recorded (old new : History) (work : Work) (is_listed : Bool) : Type 0 where
  pub calls : new.calls.items ≡ call_at old.clock work is_listed ∷ old.calls.items
  pub listed : CountsListed old.listed new.listed is_listed
  pub refused : new.refused ≡ old.refused

-- A call that is listed fails, and another one only where its record finds no memory. It is put into the record, or
-- it failed and `refused` rises.
pub record Entered {T E : Type 0} (old new : History) (work : Work) (is_listed : Bool) (result : Result T E) : Type 0 where
  pub clock : new.clock ≡ next_count old.clock
  pub forward : old.clock ≤ new.clock
  pub spent : old.clock ≡ 2 ^ 64 - 1 → IsErr result
  pub cause : HasCause (old.listed + old.refused) (new.listed + new.refused) result
  pub ok : OnOk result ((is_listed ≡ false) × Recorded old new work false)
  pub err : OnErr result (((is_listed ≡ true) × Recorded old new work true) ⊎ Unentered old new is_listed)

-- The same for a write that is not listed, from a place on over these bytes: the record of one that succeeds keeps them,
-- and one that fails is not put into the record.
pub record WriteEntered {T E : Type 0} (old new : History) (at : ℕ) (over : List ℕ) (result : Result T E) : Type 0 where
  pub ok : OnOk result ((kept : Vec ℕ Global) × (kept.items ≡ over) × Recorded old new (Write at kept) false)
  pub err : OnErr result (Unentered old new false)

-- a write is counted among the next ones, and all else stays
pub record IsWriteCounted (old new : History) : Type 0 where
  pub calls : new.calls.items ≡ old.calls.items
  pub clock : new.clock ≡ old.clock
  pub listed : new.listed ≡ old.listed
  pub refused : new.refused ≡ old.refused
  pub lists : new.lists ≡ after_write old.lists
