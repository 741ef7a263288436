-- What an append's writes do to the device round the region.
use Rattle.std.proofs.Common.{◌≡◌, inl, ℕ, ◌+◌, ◌^◌, ◌<◌, ◌≤◌, List, [], ◌∷◌, ◌++◌, length, sym, ◌∙◌, ap, subst, arith}
use Rattle.media_disk.specs.Content.{put_at, Torn}
use Rattle.media_disk.specs.Images.{IsImage}
use Rattle.gate_log.specs.Crashes.{IsTornFrom, IsWithin, OldOrNew}
use Rattle.gate_log.specs.Framed.{framed}
use Rattle.gate_log.specs.Gates.{Gated, IsWritten, open_gate}
use Rattle.gate_log.specs.Places.{IsApart, need_of, region_of, tail_of}
use Rattle.gate_log.specs.declared.region.Region.{Region}
use Rattle.gate_log.proofs.GateLemmas.{Staged, staged, gated_torn, gate_written, gate_torn}
use Rattle.gate_log.specs.laws.Ranges.{torn_twice}
use Rattle.media_disk.specs.laws.Images.{image_now}
use Rattle.gate_log.specs.laws.Regions.{image_apart, region_put, region_torn, region_wider}

module _ (region : Region) (gate sequence : ℕ) (payloads : List (List ℕ)) (payload : List ℕ) (seen : List ℕ) (pending : List (ℕ × ℕ))
    (gate_is : gate ≡ tail_of payloads) (gated : Gated (region_of region seen) sequence payloads) where
  -- a crash in the first write or its sync
  pub crash_behind : (n : ℕ) → gate + 1 + n ≤ region.size → IsApart region pending → (image : List ℕ)
      → IsTornFrom (region.at + gate + 1) n (IsImage seen pending) image
      → IsWithin region (IsImage seen pending) image × OldOrNew sequence payloads payload (region_of region image)
  crash_behind n fits apart image left =
      let torn : Torn (region.at + (gate + 1)) n left.old image =
      subst (λ (i : ℕ). Torn i n left.old image) (let is : region.at + gate + 1 ≡ region.at + (gate + 1) = omega arith in is) left.torn in
      let was : Gated (region_of region left.old) sequence payloads =
      subst (λ (l : List ℕ). Gated l sequence payloads) (sym (image_apart region pending seen left.old apart left.was)) gated in
      let in_region : Torn (tail_of payloads + 1) n (region_of region left.old) (region_of region image) =
      subst (λ (i : ℕ). Torn (i + 1) n (region_of region left.old) (region_of region image)) gate_is
      (region_torn region (gate + 1) n left.old image fits torn) in (
        record { old = left.old; was = left.was; same = region_wider region (gate + 1) n left.old image fits torn },
        inl (gated_torn sequence payloads n _ _ was in_region),
      )

  module _ (inside : region.at + region.size ≤ length seen) (fits : gate + need_of payload < region.size) (short : length payload < 2 ^ 32)
      (long : length (framed payload) ≡ need_of payload)
      (middle : List ℕ) (written : middle ≡ put_at seen (region.at + gate + 1) (framed payload)) where
    stands : Staged (region_of region middle) sequence payloads payload
    stands =
        let is : region_of region middle ≡ put_at (region_of region seen) (tail_of payloads + 1) (framed payload) =
        ap (region_of region) (written ∙ ap (λ (i : ℕ). put_at seen i (framed payload)) (let same : region.at + gate + 1 ≡ region.at + (gate + 1) = omega arith in same))
        ∙ region_put region seen (framed payload) (gate + 1) inside (omega arith)
        ∙ ap (λ (i : ℕ). put_at (region_of region seen) (i + 1) (framed payload)) gate_is in
        subst (λ (l : List ℕ). Staged l sequence payloads payload) (sym is) (staged sequence payloads payload (region_of region seen) gated short)

    pub appended : (new : List ℕ) → length middle ≡ length seen → new ≡ put_at middle (region.at + gate) (open_gate ∷ [])
        → IsWritten (region_of region new) sequence (payloads ++ payload ∷ [])
    appended new as_long is =
        let here : region_of region new ≡ put_at (region_of region middle) (tail_of payloads) (open_gate ∷ []) =
        ap (region_of region) is ∙ region_put region middle (open_gate ∷ []) gate (omega arith) (omega arith)
        ∙ ap (λ (i : ℕ). put_at (region_of region middle) i (open_gate ∷ [])) gate_is in
        subst (λ (l : List ℕ). IsWritten l sequence (payloads ++ payload ∷ [])) (sym here)
        (gate_written sequence payloads payload (region_of region middle) stands)

    -- a crash in the second write or its sync
    pub crash_at : Torn region.at region.size seen middle → (pending_middle : List (ℕ × ℕ)) → pending_middle ≡ [] → (image : List ℕ)
        → IsTornFrom (region.at + gate) 1 (IsImage middle pending_middle) image
        → IsWithin region (IsImage seen pending) image × OldOrNew sequence payloads payload (region_of region image)
    crash_at wider pending_middle durable image left =
        let was : left.old ≡ middle = subst (λ (rs : List (ℕ × ℕ)). IsImage middle rs left.old) durable left.was in
        let torn : Torn (region.at + gate) 1 middle image = subst (λ (l : List ℕ). Torn (region.at + gate) 1 l image) was left.torn in
        let in_region : Torn (tail_of payloads) 1 (region_of region middle) (region_of region image) =
        subst (λ (i : ℕ). Torn i 1 (region_of region middle) (region_of region image)) gate_is
        (region_torn region gate 1 middle image (omega arith) torn) in (
          record {
            old = seen;
            was = image_now seen pending;
            same = torn_twice region.at region.size seen middle image wider (region_wider region gate 1 middle image (omega arith) torn);
          },
          gate_torn sequence payloads payload (region_of region middle) (region_of region image) stands in_region,
        )
