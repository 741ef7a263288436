-- Several calls of a device.
use Rattle.std.proofs.Common.{◌≡◌, ◌⊎◌, ℕ, ◌≤◌, List, Result, refl, ◌∙◌, subst, ⊎_elim, arith}
use Rattle.media_disk.specs.Calls.{Called, CallsMade, OnlyReads}
use Rattle.media_disk.specs.Images.{IsImage, CountsNow}
use Rattle.media_disk.specs.declared.device.Device.{Ghosts}

module _ {D : Type 0} (g : Ghosts D) where
  -- no call
  abbrev pub calls_started : (disk : D) → CallsMade g disk disk
  calls_started disk = record { forward = omega arith; later = omega arith; same = refl }

  -- one call
  abbrev pub call_made : {T E : Type 0} {result : Result T E} (old new : D) → Called g old new result → CallsMade g old new
  call_made old new call = record { forward = call.forward; later = call.cause.later; same = call.same }

  -- some calls, and then others
  abbrev pub calls_joined : (old between new : D) → CallsMade g old between → CallsMade g between new → CallsMade g old new
  calls_joined old between new first second = record {
    forward = omega (arith, first.forward, second.forward);
    later = omega (arith, first.later, second.later);
    same = second.same ∙ first.same;
  }

  -- no call reads only
  abbrev pub reads_started : (disk : D) → OnlyReads g disk disk
  reads_started disk = record { extent = refl; seen = λ told. refl; pending = λ told. refl; images = λ told clock image le left. left }

  -- one call that changes neither size nor content
  abbrev pub call_reads : {T E : Type 0} {result : Result T E} (old new : D) → CountsNow g → Called g old new result
      → g.extent new ≡ g.extent old → (g.tells → g.seen new ≡ g.seen old) → (g.tells → g.pending new ≡ g.pending old)
      → OnlyReads g old new
  call_reads old new counts call extent seen pending = record {
    extent = extent;
    seen = seen;
    pending = pending;
    images = λ told clock image le left.
        ⊎_elim (λ was. was)
        (λ now. counts old clock image told le
        (subst (λ (bytes : List ℕ). IsImage bytes (g.pending old) image) (seen told)
        (subst (λ (ranges : List (ℕ × ℕ)). IsImage (g.seen new) ranges image) (pending told) now)))
        ((call.crash told).nothing_else clock image le left);
  }

  -- some calls that only read, and then others
  abbrev pub reads_joined : (old between new : D) → g.clock old ≤ g.clock between → OnlyReads g old between → OnlyReads g between new
      → OnlyReads g old new
  reads_joined old between new later first second = record {
    extent = second.extent ∙ first.extent;
    seen = λ told. second.seen told ∙ first.seen told;
    pending = λ told. second.pending told ∙ first.pending told;
    images = λ told clock image le left. first.images told clock image le (second.images told clock image (omega arith) left);
  }
