-- The device side behind a batch of commits.
use Rattle.std.proofs.Common.{◌≡◌, ◌∙◌, ℕ, ◌+◌, ◌<◌, List, [], ◌∷◌, ◌++◌, refl, sym, ap, subst, arith, inl, inr, ⊎_elim}
use Rattle.std.proofs.lemmas.List.Sums.{sum_by-append}
use Rattle.media_disk.specs.Content.{Torn}
use Rattle.media_disk.specs.Images.{IsImage, MayLeave}
use Rattle.media_disk.specs.Leaves.{LeavesOnly}
use Rattle.media_disk.specs.declared.device.Device.{Ghosts}
use Rattle.media_disk.specs.laws.Images.{one_image}
use Rattle.media_disk.specs.laws.Leaves.{leaves_more}
use Rattle.gate_log.specs.Crashes.{IsWithin, LeavesRegion, OldOrNew}
use Rattle.gate_log.specs.Gates.{Gated}
use Rattle.gate_log.specs.Places.{IsApart, need_of, region_of}
use Rattle.gate_log.specs.declared.region.Region.{Region}
use Rattle.hse_fields.specs.LogText.{Entry, payload_text}
use Rattle.device_layout.specs.declared.layout.Layout.{Layout}
use Rattle.manifest.specs.declared.manifest.Manifest.{Manifest}
use Rattle.recovery.specs.Image.{Loaded, log_region}
use Rattle.wal.specs.Charges.{charges, entries_charge}
use Rattle.wal.specs.Logged.{charge}
use Rattle.wal.specs.Writing.{HasBatches, IsGrown}
use Rattle.wal.specs.declared.ring.Ring.{Ring}
use Rattle.wal.specs.laws.Charges.{payload_charged}
use Rattle.back.specs.Home.{AtRest}
use Rattle.back.specs.Leaving.{OldOrCommitted}
use Rattle.back.specs.Steps.{MayCommit, with_commits}
use Rattle.back.proofs.LogLemmas.{loaded_new, loaded_old}

-- nothing that is pending touches a region
pub none_apart : (region : Region) (pending : List (ℕ × ℕ)) → pending ≡ [] → IsApart region pending
none_apart region pending none = subst (IsApart region) (sym none) tt

-- where nothing was pending, the image is the device's bytes but for the region
pub torn_of : (region : Region) (seen : List ℕ) (pending : List (ℕ × ℕ)) (image : List ℕ) → pending ≡ []
    → IsWithin region (IsImage seen pending) image → Torn region.at region.size seen image
torn_of region seen pending image none within =
    subst (λ (old : List ℕ). Torn region.at region.size old image) (one_image seen pending within.old none within.was) within.same

module _ {D : Type 0} (g : Ghosts D) (old : D) (layout : Layout) (log : Ring) (manifest : Manifest) (loaded : Loaded)
    (rest : AtRest g old layout log manifest loaded) where
  pub half_is : loaded.half < 2
  half_is = subst (λ (half : ℕ). half < 2) rest.home.half manifest.one

  -- the log's place is that of the batches
  pub has_batches : HasBatches log (g.seen old) rest.says.log.payloads
  has_batches = record {
    gated = subst (λ (region : Region). Gated (region_of region (g.seen old)) log.sequence rest.says.log.payloads) (sym rest.home.region_is)
        (subst (λ (sequence : ℕ). Gated (region_of (log_region loaded.layout) (g.seen old)) sequence rest.says.log.payloads) (sym rest.home.log_sequence) rest.says.log.ends.0);
    tail = rest.home.log_place ∙ rest.says.log.place ∙ rest.says.log.ends.1;
  }

  torn_log : (image : List ℕ) → Torn log.region.at log.region.size (g.seen old) image
      → Torn (log_region loaded.layout).at loaded.layout.log (g.seen old) image
  torn_log image torn = subst (λ (region : Region). Torn region.at region.size (g.seen old) image) rest.home.region_is torn

  gated_log : (image : List ℕ) (region : Region) (sequence : ℕ) (payloads : List (List ℕ)) → region ≡ log.region → sequence ≡ log.sequence
      → Gated (region_of region image) sequence payloads → Gated (region_of (log_region loaded.layout) image) 1 payloads
  gated_log image region sequence payloads is same gated =
      subst (λ (r : Region). Gated (region_of r image) 1 payloads) (is ∙ rest.home.region_is)
      (subst (λ (s : ℕ). Gated (region_of region image) s payloads) (same ∙ rest.home.log_sequence) gated)

  -- one batch more was written
  module _ (new : D) (log' : Ring) (torn : Torn log.region.at log.region.size (g.seen old) (g.seen new)) (none : g.pending new ≡ []) where
    synced_more : (batch : List ℕ) (entry : Entry) (entries : List Entry) → MayCommit loaded (entry ∷ entries) → batch ≡ payload_text (entry ∷ entries)
        → HasBatches log' (g.seen new) (rest.says.log.payloads ++ batch ∷ []) → IsGrown log log' batch
        → AtRest g new layout log' manifest (with_commits loaded (entry ∷ entries))
    synced_more batch entry entries may is has grown =
        let charged : entries_charge batch ≡ charges (entry ∷ entries) =
        ap entries_charge is ∙ payload_charged (entry ∷ entries) may.formed.counted in
        record {
          says = loaded_new loaded (g.seen old) rest.says half_is (g.seen new) (torn_log (g.seen new) torn) (entry ∷ entries) may
              (subst (λ (payload : List ℕ). Gated (region_of (log_region loaded.layout) (g.seen new)) 1 (rest.says.log.payloads ++ payload ∷ [])) is
              (gated_log (g.seen new) log'.region log'.sequence (rest.says.log.payloads ++ batch ∷ []) grown.region_is grown.sequence has.gated));
          counted = rest.counted;
          still = none;
          home = record {
            layout_is = rest.home.layout_is;
            region_is = grown.region_is ∙ rest.home.region_is;
            log_sequence = grown.sequence ∙ rest.home.log_sequence;
            log_place = grown.tail ∙ (λ i. rest.home.log_place i + need_of (is i));
            charged = grown.charges ∙ (λ i. rest.home.charged i + charged i) ∙ sym (sum_by-append charge loaded.log.entries (entry ∷ entries));
            manifest_layout = rest.home.manifest_layout;
            half = rest.home.half;
            sequence = rest.home.sequence;
            place = rest.home.place;
          };
        }

    pub synced : (batch : List ℕ) (commits : List Entry) → MayCommit loaded commits → batch ≡ payload_text commits
        → HasBatches log' (g.seen new) (rest.says.log.payloads ++ batch ∷ []) → IsGrown log log' batch
        → AtRest g new layout log' manifest (with_commits loaded commits)
    synced batch [] may is has grown = absurd (omega (arith, may.formed.some))
    synced batch (entry ∷ entries) may is has grown = synced_more batch entry entries may is has grown

  -- what a stop within leaves
  pub sync_leaves : (new : D) (batch : List ℕ) (commits : List Entry) → MayCommit loaded commits → batch ≡ payload_text commits
      → LeavesRegion g log.region old new (OldOrNew log.sequence rest.says.log.payloads batch)
      → LeavesOnly g old new (OldOrCommitted loaded commits)
  sync_leaves new batch commits may is leaves =
      leaves_more g old new (λ image. IsWithin log.region (MayLeave g old) image × OldOrNew log.sequence rest.says.log.payloads batch (region_of log.region image))
      (OldOrCommitted loaded commits) leaves (λ image has.
      let torn = torn_log image (torn_of log.region (g.seen old) (g.pending old) image rest.still has.0) in
      ⊎_elim
      (λ (gated : Gated (region_of log.region image) log.sequence rest.says.log.payloads).
      inl (loaded_old loaded (g.seen old) rest.says half_is image torn (gated_log image log.region log.sequence rest.says.log.payloads refl refl gated)))
      (λ (gated : Gated (region_of log.region image) log.sequence (rest.says.log.payloads ++ batch ∷ [])).
      inr (loaded_new loaded (g.seen old) rest.says half_is image torn commits may
      (subst (λ (payload : List ℕ). Gated (region_of (log_region loaded.layout) image) 1 (rest.says.log.payloads ++ payload ∷ [])) is
      (gated_log image log.region log.sequence (rest.says.log.payloads ++ batch ∷ []) refl refl gated))))
      has.1)
