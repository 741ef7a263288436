-- What a crash might have left, over one call of a disk in memory.
use Rattle.std.proofs.Common.{◌≡◌, ◌⊎◌, ℕ, ◌+◌, ◌≤◌, Bool, true, false, List, ◌∷◌, length, Result, Ok, Err, IsOk, IsErr, refl, sym, ap, ◌∙◌, true≢false, inl, inr}
use Rattle.hse_io.specs.Faults.{HasCause}
use Rattle.media_disk.specs.Calls.{Called}
use Rattle.media_disk.specs.Entered.{Entered, Recorded, IsWriteCounted}
use Rattle.media_disk.specs.Images.{IsImage}
use Rattle.media_disk.specs.MemDisk.{mem_bytes, mem_pending, mem_could, mem_clock, mem_faults}
use Rattle.media_disk.specs.Record.{call_at, pending_of, undone, could_of}
use Rattle.media_disk.specs.declared.call.Call.{Call}
use Rattle.media_disk.specs.declared.call.Work.{Work}
use Rattle.media_disk.specs.declared.device.Device.{Ghosts}
use Rattle.media_disk.specs.declared.history.History.{History}
use Rattle.media_disk.specs.declared.mem_disk.MemDisk.{MemDisk}

-- what contracts know of a disk in memory
abbrev pub mem : Ghosts MemDisk
mem = record {
  tells = Unit {0};
  seen = mem_bytes;
  pending = mem_pending;
  extent = λ disk. length (mem_bytes disk);
  faults = mem_faults;
  clock = mem_clock;
  name = λ disk. 0;
  could = mem_could;
}

-- over a call from one record to another nothing else is left, and all that was left before
pub record Passes (clock : ℕ) (calls calls' : List Call) (bytes bytes' : List ℕ) : Type 0 where
  pub nothing_else : (since : ℕ) (image : List ℕ) → since ≤ clock → could_of calls' bytes' since image
      → could_of calls bytes since image ⊎ IsImage bytes' (pending_of calls') image
  pub keeps : (since : ℕ) (image : List ℕ) → since ≤ clock → could_of calls bytes since image → could_of calls' bytes' since image

-- a call that stands in the record
pub passes_recorded : (calls calls' : List Call) (call : Call) (bytes bytes' : List ℕ) → calls' ≡ call ∷ calls
    → undone call.work call.failed bytes' ≡ bytes → Passes call.clock calls calls' bytes bytes'
passes_recorded calls calls' call bytes bytes' more before = rw more (record {
  nothing_else = λ since image le left. elim left [
    | inl now ↦ inr now
    | inr past ↦ inl (rw before at past.1)
  ];
  keeps = λ since image le past. inr (le, rw before past);
})

-- a call that changed nothing and does not stand in the record
pub passes_same : (clock : ℕ) (calls calls' : List Call) (bytes bytes' : List ℕ) → calls' ≡ calls → bytes' ≡ bytes
    → Passes clock calls calls' bytes bytes'
passes_same clock calls calls' bytes bytes' same same_bytes = rw (same, same_bytes) (record {
  nothing_else = λ since image le left. inl left;
  keeps = λ since image le past. past;
})

module _ (old new : MemDisk) (work : Work) (is_listed : Bool) where
  -- a call of a disk in memory that succeeds is a call of a device
  pub mem_called : {T E : Type 0} (value : T) → Entered {T = T} {E = E} old.history new.history work is_listed (Ok value)
      → undone work false (mem_bytes new) ≡ mem_bytes old → Called {T = T} {E = E} mem old new (Ok value)
  mem_called value entered done =
      let passing = passes_recorded _ _ (call_at (mem_clock old) work false) _ _ entered.ok.1.calls done in
      record {
        clock = entered.clock;
        forward = entered.forward;
        spent = entered.spent;
        cause = entered.cause;
        same = refl;
        crash = λ told. record { nothing_else = passing.nothing_else; keeps = passing.keeps };
      }

  passes_failed : {T E : Type 0} (result : Result T E) → IsErr result → Entered old.history new.history work is_listed result
      → undone work true (mem_bytes new) ≡ mem_bytes old → mem_bytes new ≡ mem_bytes old
      → Passes (mem_clock old) old.history.calls.items new.history.calls.items (mem_bytes old) (mem_bytes new)
  passes_failed (Ok value) failed entered undone_is same = absurd (true≢false (sym failed))
  passes_failed (Err fault) failed entered undone_is same =
      elim entered.err [
        | inl recorded ↦ passes_recorded _ _ (call_at (mem_clock old) work true) _ _ recorded.1.calls undone_is
        | inr lost ↦ passes_same _ _ _ _ _ lost.calls same
      ]

  cause_failed : {T E U F : Type 0} (before now : ℕ) (result : Result T E) (other : Result U F) → IsErr result → IsErr other
      → HasCause before now result → HasCause before now other
  cause_failed before now result (Ok value) failed other_failed cause = absurd (true≢false (sym other_failed))
  cause_failed before now result (Err fault) failed other_failed cause = record {
    later = cause.later;
    failed = λ err. cause.failed failed;
    quiet = λ ok. absurd (true≢false (sym ok));
  }

  -- and so is one that fails
  pub mem_failed : {T E U F : Type 0} (result : Result T E) (other : Result U F) → IsErr result → IsErr other
      → Entered old.history new.history work is_listed result
      → undone work true (mem_bytes new) ≡ mem_bytes old → mem_bytes new ≡ mem_bytes old → Called mem old new other
  mem_failed result other failed other_failed entered undone_is same =
      let passing = passes_failed result failed entered undone_is same in
      record {
        clock = entered.clock;
        forward = entered.forward;
        spent = λ last. other_failed;
        cause = cause_failed _ _ result other failed other_failed entered.cause;
        same = refl;
        crash = λ told. record { nothing_else = passing.nothing_else; keeps = passing.keeps };
      }

-- the counting of a write before its call changes nothing of the call
pub recorded_counted : (old mid new : History) (work : Work) → IsWriteCounted old mid → Recorded mid new work false → Recorded old new work false
recorded_counted old mid new work counted recorded = record {
  calls = rw (← counted.calls, ← counted.clock) recorded.calls;
  listed = recorded.listed ∙ counted.listed;
  refused = recorded.refused ∙ counted.refused;
}

pub entered_counted : {T E : Type 0} (value : T) (old mid new : History) (work : Work) → IsWriteCounted old mid
    → Entered {T = T} {E = E} mid new work false (Ok value) → Entered {T = T} {E = E} old new work false (Ok value)
entered_counted value old mid new work counted entered = record {
  clock = rw (← counted.clock) entered.clock;
  forward = rw (← counted.clock) entered.forward;
  spent = λ last. entered.spent (counted.clock ∙ last);
  cause = rw (← counted.listed, ← counted.refused) entered.cause;
  ok = (refl, recorded_counted old mid new work counted entered.ok.1);
  err = tt;
}
