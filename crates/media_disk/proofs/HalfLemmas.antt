-- One more half of a write.
use Rattle.std.proofs.Common.{◌≡◌, ℕ, ◌+◌, ◌/◌, ◌≤◌, Bool, List, [], ◌∷◌, ◌++◌, length, Vec, refl, ap, ◌∙◌, arith}
use Rattle.std.specs.declared.alloc.Global.{Global}
use Rattle.media_disk.specs.Content.{part, put_at}
use Rattle.media_disk.specs.Filled.{torn_of}
use Rattle.media_disk.specs.Halves.{put_all, AllFit}
use Rattle.media_disk.specs.Record.{call_at, reach}
use Rattle.media_disk.specs.declared.call.Call.{Call}
use Rattle.media_disk.specs.declared.call.Work.TheVariants.{Write}
use Rattle.media_disk.specs.declared.tear.Half.{Half}
use Rattle.media_disk.proofs.WriteLemmas.{length-part, length-put_at}

-- the last half is put on first
pub put_all-push : (halves : List Half) (half : Half) (bytes : List ℕ)
    → put_all (halves ++ half ∷ []) bytes ≡ put_all halves (put_at bytes half.at half.bytes.items)
put_all-push [] half bytes = refl
put_all-push (first ∷ halves) half bytes = ap (λ b. put_at b first.at first.bytes.items) (put_all-push halves half bytes)

-- one more half that fits
pub AllFit-push : (n : ℕ) (halves : List Half) (half : Half) → AllFit n halves → half.at + length half.bytes.items ≤ n
    → AllFit n (halves ++ half ∷ [])
AllFit-push n [] half fit last = (last, tt)
AllFit-push n (first ∷ halves) half fit last = (fit.0, AllFit-push n halves half fit.1 last)

-- the halves before the last one fit, and the last one does
pub AllFit-pop : (n : ℕ) (halves : List Half) (half : Half) → AllFit n (halves ++ half ∷ [])
    → AllFit n halves × (half.at + length half.bytes.items ≤ n)
AllFit-pop n [] half fit = (tt, fit.0)
AllFit-pop n (first ∷ halves) half fit = let popped = AllFit-pop n halves half fit.1 in ((fit.0, popped.0), popped.1)

-- a write is undone, and its first half is kept
pub record KeepsHalf (calls rest : List Call) (bytes bytes' : List ℕ) (halves halves' : List Half) : Type 0 where
  pub same : put_all halves' (torn_of rest bytes') ≡ put_all halves (torn_of calls bytes)
  pub within : reach rest ≤ length bytes'
  pub fit : AllFit (length bytes') halves'

pub half-kept : (clock at : ℕ) (old : Vec ℕ Global) (failed : Bool) (rest : List Call) (bytes : List ℕ) (halves : List Half) (half : Half)
    → half.at ≡ at → half.bytes.items ≡ part bytes at (length old.items / 2)
    → reach (call_at clock (Write at old) failed ∷ rest) ≤ length bytes → AllFit (length bytes) halves
    → KeepsHalf (call_at clock (Write at old) failed ∷ rest) rest bytes (put_at bytes at old.items) halves (halves ++ half ∷ [])
half-kept clock at old failed rest bytes halves half place is_half within fit =
    let at_end : at + length old.items ≤ length bytes = omega (arith, within) in
    let long : length (put_at bytes at old.items) ≡ length bytes = length-put_at bytes at old.items at_end in
    let half_long : length half.bytes.items ≡ length old.items / 2 =
    ap length is_half ∙ length-part bytes at (length old.items / 2) (omega arith) in
    record {
      same = rw (put_all-push halves half (torn_of rest (put_at bytes at old.items)), place, is_half) refl;
      within = rw long (omega (arith, within));
      fit = rw long (AllFit-push (length bytes) halves half fit (omega arith));
    }
