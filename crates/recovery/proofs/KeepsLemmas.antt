-- What several calls keep of a device.
use Rattle.std.proofs.Common.{◌≡◌, ◌∙◌, ◌⊎◌, ⊎_elim, ℕ, ◌≤◌, List, [], Result, Ok, Err, IfOk, sym, subst, arith}
use Rattle.hse_io.specs.Faults.{next_count}
use Rattle.media_disk.specs.Calls.{Called, CallsMade, OnlyReads}
use Rattle.media_disk.specs.Images.{IsImage, MayLeave, OnlyNow}
use Rattle.media_disk.specs.declared.device.Device.{Ghosts}
use Rattle.media_disk.specs.laws.Images.{image_now, one_image}
use Rattle.media_disk.specs.laws.Leaves.{leaves_more, leaves_joined, leaves_read}
use Rattle.device_layout.specs.declared.layout.Layout.{Layout}
use Rattle.recovery.specs.Keeps.{IsBarrier, Keeps}
use Rattle.recovery.specs.declared.fault.OpenFault.{OpenFault}
use Rattle.recovery.specs.declared.recovered.Recovered.{Recovered}

module _ {D : Type 0} (g : Ghosts D) where
  -- where content and pending ranges are the same, so are the images
  same_images : (old new : D) → g.seen new ≡ g.seen old → g.pending new ≡ g.pending old → (image : List ℕ) → MayLeave g new image → MayLeave g old image
  same_images old new seen pending image left =
      subst (λ (bytes : List ℕ). IsImage bytes (g.pending old) image) seen
      (subst (λ (ranges : List (ℕ × ℕ)). IsImage (g.seen new) ranges image) pending left)

  -- one call that changes no content
  pub keeps_call : {T E : Type 0} {result : Result T E} (old new : D) → Called g old new result → (g.tells → g.seen new ≡ g.seen old)
      → (g.tells → (image : List ℕ) → MayLeave g new image → MayLeave g old image) → (1 ≤ g.extent old → g.extent new ≡ g.extent old)
      → (g.tells → g.pending old ≡ [] → g.pending new ≡ []) → Keeps g old new
  keeps_call old new call seen images extent still = record {
    seen = seen;
    images = images;
    crash = λ told. leaves_more g old new (MayLeave g new) (MayLeave g old) ((call.crash told).nothing_else) (images told);
    extent = extent;
    still = still;
  }

  -- and no pending range
  pub keeps_same : {T E : Type 0} {result : Result T E} (old new : D) → Called g old new result → (g.tells → g.seen new ≡ g.seen old)
      → (g.tells → g.pending new ≡ g.pending old) → (1 ≤ g.extent old → g.extent new ≡ g.extent old) → Keeps g old new
  keeps_same old new call seen pending extent =
      keeps_call old new call seen (λ told. same_images old new (seen told) (pending told)) extent (λ told safe. pending told ∙ safe)

  -- calls that only read
  pub keeps_reads : (old new : D) → OnlyReads g old new → Keeps g old new
  keeps_reads old new reads = record {
    seen = reads.seen;
    images = λ told. same_images old new (reads.seen told) (reads.pending told);
    crash = λ told. leaves_read g old new (MayLeave g old) told reads;
    extent = λ some. reads.extent;
    still = λ told safe. reads.pending told ∙ safe;
  }

  -- some calls, and then others
  pub keeps_joined : (old between new : D) → g.clock old ≤ g.clock between → Keeps g old between → Keeps g between new → Keeps g old new
  keeps_joined old between new later first second = record {
    seen = λ told. second.seen told ∙ first.seen told;
    images = λ told image left. first.images told image (second.images told image left);
    crash = λ told. leaves_joined g old between new (MayLeave g old) later (first.crash told)
        (leaves_more g between new (MayLeave g between) (MayLeave g old) (second.crash told) (first.images told));
    extent = λ some. second.extent (subst (λ (size : ℕ). 1 ≤ size) (sym (first.extent some)) some) ∙ first.extent some;
    still = λ told safe. second.still told (first.still told safe);
  }

  -- a sync that succeeds
  keeps_sync : {T E : Type 0} {result : Result T E} (old new : D) → Called g old new result → (g.tells → g.seen new ≡ g.seen old)
      → (g.tells → g.pending new ≡ []) → g.extent new ≡ g.extent old → Keeps g old new
  keeps_sync old new call seen durable extent =
      keeps_call old new call seen (λ told image left.
      subst (λ (bytes : List ℕ). IsImage (g.seen old) (g.pending old) bytes) (sym (one_image (g.seen new) (g.pending new) image (durable told) left ∙ seen told))
      (image_now (g.seen old) (g.pending old)))
      (λ some. extent) (λ told safe. durable told)

  module _ {T E : Type 0} {result : Result T E} (old synced laid : D) (call : Called g old synced result) (seen : g.tells → g.seen synced ≡ g.seen old)
      (durable : g.tells → g.pending synced ≡ []) (extent : g.extent synced ≡ g.extent old) (calls : CallsMade g synced laid) (keeps : Keeps g synced laid) where
    -- a sync, and calls that keep
    pub behind_sync : Keeps g old laid
    behind_sync = keeps_joined old synced laid call.forward (keeps_sync old synced call seen durable extent) keeps

    later : g.clock old ≤ g.clock laid
    later = omega (arith, call.forward, calls.forward)

    -- and then calls that only read
    pub reads_behind : (loaded : D) → OnlyReads g laid loaded → Keeps g old loaded
    reads_behind loaded reads = keeps_joined old laid loaded later behind_sync (keeps_reads laid loaded reads)

    -- and others
    pub more_reads_behind : (loaded replayed : D) → CallsMade g laid loaded → OnlyReads g laid loaded → OnlyReads g loaded replayed → Keeps g old replayed
    more_reads_behind loaded replayed more first second =
        keeps_joined old loaded replayed (omega (arith, later, more.forward)) (reads_behind loaded first) (keeps_reads loaded replayed second)

    -- and since the sync there was no other image
    pub barrier_behind : OnlyNow g → (pending : g.tells → g.pending laid ≡ g.pending synced) (loaded replayed : D) → CallsMade g laid loaded
        → CallsMade g loaded replayed → OnlyReads g laid loaded → OnlyReads g loaded replayed → (moment : ℕ) → moment ≡ g.clock synced
        → IsBarrier g old replayed moment
    barrier_behind only pending loaded replayed more rest first second moment at =
        let inside : moment ≤ g.clock laid = omega (arith, at, calls.forward) in
        record {
          first = at ∙ call.clock;
          past = omega (arith, inside, more.forward, rest.forward);
          safe = λ told. second.pending told ∙ first.pending told ∙ pending told ∙ durable told;
          since = λ told image might.
              let then = subst (λ (clock : ℕ). g.could laid clock image) at
              (first.images told moment image inside (second.images told moment image (omega (arith, inside, more.forward)) might)) in
              one_image (g.seen synced) (g.pending synced) image (durable told)
              (⊎_elim (only synced image told) (λ (left : MayLeave g synced image). left) (keeps.crash told (g.clock synced) image (omega arith) then))
              ∙ sym (second.seen told ∙ first.seen told ∙ keeps.seen told);
        }

  -- what was recovered has the moment that was given
  pub barrier_if : (old new : D) (layout : Layout) (moment : ℕ) (result : Result Recovered OpenFault)
      → IfOk result (λ r. (r.layout ≡ layout) × (r.moment ≡ moment)) → IsBarrier g old new moment → IfOk result (λ r. IsBarrier g old new r.moment)
  barrier_if old new layout moment (Ok r) given is = subst (IsBarrier g old new) (sym given.1) is
  barrier_if old new layout moment (Err fault) given is = tt
