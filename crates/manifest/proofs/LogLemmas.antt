-- One entry more in the half in force.
use Rattle.std.proofs.Common.{◌≡◌, ◌∙◌, ◌⊎◌, inl, inr, ⊎_elim, ℕ, ◌+◌, ◌-◌, ◌<◌, ◌≤◌, true, List, [], ◌∷◌, ◌++◌, take, Option, Some, None, Ok, refl, sym, ap, arith}
use Rattle.hse_fields.specs.laws.Fields.{bind_ok}
use Rattle.media_disk.specs.Images.{IsImage}
use Rattle.gate_log.specs.Crashes.{IsWithin, OldOrNew}
use Rattle.gate_log.specs.Gates.{Gated, first_gate}
use Rattle.gate_log.specs.Places.{need_of, region_of, tail_of}
use Rattle.gate_log.specs.laws.Regions.{other_within}
use Rattle.gate_log.specs.laws.Spelling.{tail_of-push}
use Rattle.device_layout.specs.Layouts.{half_of}
use Rattle.device_layout.specs.declared.layout.Layout.{Layout}
use Rattle.manifest.specs.Half.{open_head, head_in, head_of, Holds, entries_of, placed}
use Rattle.manifest.specs.Metadata.{Metadata}
use Rattle.manifest.specs.Reading.{payload_of}
use Rattle.manifest.specs.Writing.{HalvesApart}
use Rattle.manifest.proofs.HeadLemmas.{head_is, has_any, gated_head, halves_apart, half_apart, same_force}

-- metadata come from some batch
pub some_batch : (most gate : ℕ) (payloads : List (List ℕ)) (m : Metadata) → entries_of most None gate payloads ≡ Ok (Some m) → has_any payloads ≡ true
unfolding entries_of
some_batch most gate [] m is = absurd cc
some_batch most gate (payload ∷ payloads) m is = refl

has_more : (payloads : List (List ℕ)) (payload : List ℕ) → has_any (payloads ++ payload ∷ []) ≡ true
has_more [] payload = refl
has_more (first ∷ payloads) payload = refl

-- one entry more
pub entries_push : (most gate : ℕ) (before : Option Metadata) (payloads : List (List ℕ)) (payload : List ℕ) (old new : Metadata)
    → entries_of most before gate payloads ≡ Ok (Some old) → payload_of most (Some old) payload ≡ Ok new
    → entries_of most before gate (payloads ++ payload ∷ []) ≡ Ok (Some new)
unfolding entries_of
entries_push most gate before [] payload old new is read =
    let was : before ≡ Some old = cc in
    rw (was, read) refl
entries_push most gate before (first ∷ payloads) payload old new is read =
    let split = bind_ok (placed (gate + need_of first) (payload_of most before first))
    (λ (after : Metadata). entries_of most (Some after) (gate + need_of first) payloads) (Some old) is in
    rw split.1 (entries_push most (gate + need_of first) (Some split.0) payloads payload old new split.2 read)

module _ (layout : Layout) (half sequence place : ℕ) (lt : half < 2) (size : 10 ≤ layout.manifest) where
  -- the head of a half that has a batch
  pub half_head : (image : List ℕ) (payloads : List (List ℕ)) → Gated (region_of (half_of layout half) image) sequence payloads → has_any payloads ≡ true
      → head_in (half_of layout half) image ≡ open_head sequence true
  half_head image payloads gated some =
      head_is (half_of layout half) image size ∙ gated_head (region_of (half_of layout half) image) sequence payloads gated ∙ ap (open_head sequence) some

  -- the half stays in force where it has other batches and the other half is as it was
  pub holds_after : (old image : List ℕ) (m n : Metadata) (payloads : List (List ℕ)) → Holds layout half sequence place old m
      → region_of (half_of layout (1 - half)) image ≡ region_of (half_of layout (1 - half)) old
      → Gated (region_of (half_of layout half) image) sequence payloads → entries_of layout.stores None first_gate payloads ≡ Ok (Some n)
      → (now : ℕ) → now ≡ tail_of payloads → Holds layout half sequence now image n
  holds_after old image m n payloads held other gated says now tail =
      let one : head_in (half_of layout half) image ≡ head_in (half_of layout half) old =
      half_head image payloads gated (some_batch layout.stores first_gate payloads n says)
      ∙ sym (half_head old held.payloads held.gated (some_batch layout.stores first_gate held.payloads m held.says)) in
      let others : head_in (half_of layout (1 - half)) image ≡ head_in (half_of layout (1 - half)) old =
      head_is (half_of layout (1 - half)) image size
      ∙ ap (λ (r : List ℕ). head_of (take 10 r)) other
      ∙ sym (head_is (half_of layout (1 - half)) old size) in
      record {
        in_force = same_force layout half lt old image one others ∙ held.in_force;
        payloads = payloads;
        gated = gated;
        tail = tail;
        says = says;
      }

  -- what a crash within an append leaves
  pub log_crash : (seen : List ℕ) (ranges : List (ℕ × ℕ)) (before after : Metadata) (payload : List ℕ) (held : Holds layout half sequence place seen before)
      → payload_of layout.stores (Some before) payload ≡ Ok after → HalvesApart layout ranges → (image : List ℕ)
      → IsWithin (half_of layout half) (IsImage seen ranges) image × OldOrNew sequence held.payloads payload (region_of (half_of layout half) image)
      → IsWithin (half_of layout half) (IsImage seen ranges) image
      × (Holds layout half sequence place image before ⊎ Holds layout half sequence (place + need_of payload) image after)
  log_crash seen ranges before after payload held read apart image left =
      let other = other_within (half_of layout half) (half_of layout (1 - half)) ranges seen image (halves_apart layout half lt)
      (half_apart layout half lt ranges apart).1 left.0 in
      let pushed = entries_push layout.stores first_gate None held.payloads payload before after held.says read in
      let behind : place + need_of payload ≡ tail_of (held.payloads ++ payload ∷ []) = omega (arith, tail_of-push held.payloads payload, held.tail) in (
        left.0,
        ⊎_elim
            (λ (gated : Gated (region_of (half_of layout half) image) sequence held.payloads).
            inl (holds_after seen image before before held.payloads held other gated held.says place held.tail))
            (λ (gated : Gated (region_of (half_of layout half) image) sequence (held.payloads ++ payload ∷ [])).
            inr (holds_after seen image before after (held.payloads ++ payload ∷ []) held other gated pushed (place + need_of payload) behind))
            left.1,
      )
