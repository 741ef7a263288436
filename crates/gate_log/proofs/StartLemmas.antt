-- What a region holds after the writes of a start, and after a crash in one of them.
use Rattle.std.proofs.Common.{◌≡◌, ◌⊎◌, inl, inr, ⊎_elim, ℕ, ◌+◌, ◌^◌, ◌<◌, ◌≤◌, zero, suc, List, [], ◌∷◌, ◌++◌, length, get_or, take, drop, refl, sym, ◌∙◌, ap, subst, arith, append_assoc, length-append, length-drop}
use Rattle.std.proofs.lemmas.Bool.{cases_eq}
use Rattle.std.proofs.lemmas.List.{append-nil, length-take}
use Rattle.byteorder.specs.Endian.{big_bytes}
use Rattle.byteorder.specs.Numbers.{length-bytes_high_first}
use Rattle.media_disk.specs.Calls.{OnlyReads}
use Rattle.media_disk.specs.Content.{put_at, Torn}
use Rattle.media_disk.specs.Images.{IsImage, MayLeave, CountsNow, OnlyNow}
use Rattle.media_disk.specs.Leaves.{LeavesOnly}
use Rattle.media_disk.specs.declared.device.Device.{Ghosts}
use Rattle.media_disk.specs.laws.Images.{torn_same, image_now, one_image}
use Rattle.media_disk.specs.laws.Leaves.{leaves_more, leaves_joined, leaves_now, leaves_read}
use Rattle.gate_log.specs.Crashes.{IsTornFrom, IsWithin, LeavesRegion, ClosedOrSame, ClosedOrStarted}
use Rattle.gate_log.specs.Gates.{Gated, IsWritten, IsClosed, open_gate, least_size}
use Rattle.gate_log.specs.Places.{IsApart, region_of}
use Rattle.gate_log.specs.declared.region.Region.{Region}
use Rattle.gate_log.specs.laws.Ranges.{torn_twice}
use Rattle.gate_log.specs.laws.Regions.{image_apart, region_put, region_torn, region_wider}

-- the sequence and the closed first gate
abbrev pub opening : ℕ → List ℕ
opening sequence = big_bytes 8 sequence ++ 0 ∷ []

pub length_opening : (sequence : ℕ) → length (opening sequence) ≡ 9
length_opening sequence = omega (arith, length-append (big_bytes 8 sequence) (0 ∷ []), length-bytes_high_first 8 sequence)

-- behind any head gate stand the sequence and the closed first gate
abbrev IsOpening : List ℕ → ℕ → Type 0
IsOpening region sequence = (gate : ℕ) × (rest : List ℕ) × (region ≡ gate ∷ (opening sequence ++ rest))

-- a first byte that is not an open gate closes what it begins
pub closed_first : (bytes : List ℕ) (n : ℕ) → 1 ≤ n → (get_or (take 1 bytes) 0 0 ≡ open_gate → ⊥) → IsClosed (take n bytes)
closed_first bytes zero some differs = absurd (omega arith)
closed_first [] (suc n) some differs = tt
closed_first (gate ∷ rest) (suc n) some differs = differs

-- one that is an open gate is the first of it
pub open_first : (bytes : List ℕ) (n : ℕ) → 1 ≤ n → get_or (take 1 bytes) 0 0 ≡ open_gate → take n bytes ≡ open_gate ∷ drop 1 (take n bytes)
open_first bytes zero some is_open = absurd (omega arith)
open_first [] (suc n) some is_open = let none : 0 ≡ open_gate = is_open in absurd (omega arith)
open_first (gate ∷ rest) (suc n) some is_open = ap (λ (first : ℕ). first ∷ take n rest) is_open

-- a change of an open head closes the region or changes nothing
same_or_closed : (old new : List ℕ) → old ≡ open_gate ∷ drop 1 old → Torn 0 1 old new → ClosedOrSame old new
same_or_closed old [] is_open torn = inl tt
same_or_closed old (gate ∷ rest) is_open torn =
    elim (cases_eq gate open_gate) [
      | inl same ↦ inr ((λ i. same i ∷ torn.after i) ∙ sym is_open)
      | inr differs ↦ inl differs
    ]

-- a change behind a closed head leaves it closed
closed_kept : (old new : List ℕ) (n : ℕ) → IsClosed old → Torn 1 n old new → IsClosed new
closed_kept old [] n closed torn = tt
closed_kept [] (gate ∷ rest) n closed torn = absurd (omega (arith, torn.as_long))
closed_kept (first ∷ old) (gate ∷ rest) n closed torn =
    let same : gate ∷ [] ≡ first ∷ [] = torn.before in
    let is_first : gate ≡ first = cc in
    λ is_open. closed (sym is_first ∙ is_open)

-- the sequence and the first gate behind the head
opening_put : (region : List ℕ) (sequence : ℕ) → 1 ≤ length region → IsOpening (put_at region 1 (opening sequence)) sequence
opening_put [] sequence some = absurd (omega arith)
opening_put (gate ∷ rest) sequence some = (gate, drop (1 + length (opening sequence)) (gate ∷ rest), refl)

written_none : (sequence : ℕ) (rest region : List ℕ) → sequence < 2 ^ 64 → region ≡ open_gate ∷ (opening sequence ++ rest) → IsWritten region sequence []
written_none sequence rest region fits is = record {
  gated = record {
    gate = 0;
    rest = rest;
    closed = omega arith;
    spelled = is ∙ ap (λ (l : List ℕ). open_gate ∷ l)
        (append_assoc (big_bytes 8 sequence) (0 ∷ []) rest ∙ ap (λ (l : List ℕ). l ++ 0 ∷ rest) (sym (append-nil (big_bytes 8 sequence))));
    framed = tt;
    sequence_fits = fits;
  };
  gate_is = refl;
}

head_torn : (sequence : ℕ) (region new old : List ℕ) → sequence < 2 ^ 64 → IsOpening region sequence → Torn 0 1 region new
    → ClosedOrStarted old sequence new
head_torn sequence region [] old fits (gate, rest, is) torn = inl (inl tt)
head_torn sequence region (head ∷ new) old fits (gate, rest, is) torn =
    let behind : new ≡ opening sequence ++ rest = torn.after ∙ ap (drop 1) is in
    elim (cases_eq head open_gate) [
      | inl is_open ↦ inr (written_none sequence rest (head ∷ new) fits (λ i. is_open i ∷ behind i)).gated
      | inr differs ↦ inl (inl differs)
    ]

module _ (region : Region) (size : 1 ≤ region.size) where
  -- a change of the head, on the device and in the region
  pub head_wider : (old new : List ℕ) → Torn region.at 1 old new → Torn region.at region.size old new
  head_wider old new torn =
      region_wider region 0 1 old new (omega arith)
      (subst (λ (i : ℕ). Torn i 1 old new) (let is : region.at ≡ region.at + 0 = omega arith in is) torn)

  head_in_region : (old new : List ℕ) → Torn region.at 1 old new → Torn 0 1 (region_of region old) (region_of region new)
  head_in_region old new torn =
      region_torn region 0 1 old new (omega arith)
      (subst (λ (i : ℕ). Torn i 1 old new) (let is : region.at ≡ region.at + 0 = omega arith in is) torn)

  head_put : (bytes : List ℕ) (gate : ℕ) → region.at + region.size ≤ length bytes
      → region_of region (put_at bytes region.at (gate ∷ [])) ≡ gate ∷ drop 1 (region_of region bytes)
  head_put bytes gate inside =
      ap (λ (i : ℕ). region_of region (put_at bytes i (gate ∷ []))) (let is : region.at ≡ region.at + 0 = omega arith in is)
      ∙ region_put region bytes (gate ∷ []) 0 inside (omega arith)

  -- the closed head is written
  pub head_closed : (seen new : List ℕ) → region.at + region.size ≤ length seen → new ≡ put_at seen region.at (0 ∷ []) → IsClosed (region_of region new)
  head_closed seen new inside is =
      subst IsClosed (sym (ap (region_of region) is ∙ head_put seen 0 inside))
      (λ is_open. let zero : 0 ≡ 79 = is_open in absurd (omega arith))

  -- a crash while the head is closed
  pub crash_closing : (seen : List ℕ) (pending : List (ℕ × ℕ)) → region_of region seen ≡ open_gate ∷ drop 1 (region_of region seen)
      → IsApart region pending → (image : List ℕ) → IsTornFrom region.at 1 (IsImage seen pending) image
      → IsWithin region (IsImage seen pending) image × ClosedOrSame (region_of region seen) (region_of region image)
  crash_closing seen pending is_open apart image left =
      let was : region_of region left.old ≡ region_of region seen = image_apart region pending seen left.old apart left.was in (
        record { old = left.old; was = left.was; same = head_wider left.old image left.torn },
        same_or_closed (region_of region seen) (region_of region image) is_open
            (subst (λ (l : List ℕ). Torn 0 1 l (region_of region image)) was (head_in_region left.old image left.torn)),
      )

  module _ (sequence : ℕ) (first second : List ℕ) (ten : 10 ≤ region.size) (inside : region.at + region.size ≤ length first)
      (written : second ≡ put_at first (region.at + 1) (opening sequence)) where
    pub is_opening : IsOpening (region_of region second) sequence
    is_opening =
        let long : 1 ≤ length (region_of region first) = omega (arith, length-take region.size (drop region.at first), length-drop region.at first) in
        let fits : 1 + length (opening sequence) ≤ region.size = omega (arith, length_opening sequence) in
        subst (λ (l : List ℕ). IsOpening l sequence)
        (sym (ap (region_of region) written ∙ region_put region first (opening sequence) 1 inside fits))
        (opening_put (region_of region first) sequence long)

    -- the opened head is written before the sequence
    pub started : (new : List ℕ) → sequence < 2 ^ 64 → length second ≡ length first → new ≡ put_at second region.at (open_gate ∷ [])
        → IsWritten (region_of region new) sequence []
    started new fits long is =
        written_none sequence is_opening.1 (region_of region new) fits
        (ap (region_of region) is ∙ head_put second open_gate (omega (arith, inside, long))
        ∙ ap (λ (l : List ℕ). open_gate ∷ drop 1 l) is_opening.2)

-- a crash while a head that was read as open is closed
pub crash_head : {D : Type 0} (g : Ghosts D) → g.tells → (region : Region) → 1 ≤ region.size → (old read new : D) → OnlyReads g old read
    → g.clock old ≤ g.clock read → get_or (take 1 (drop region.at (g.seen old))) 0 0 ≡ open_gate → IsApart region (g.pending old)
    → LeavesOnly g read new (IsTornFrom region.at 1 (MayLeave g read))
    → LeavesRegion g region old new (ClosedOrSame (region_of region (g.seen old)))
crash_head g told region size old read new reads forward is_open apart closing =
    leaves_joined g old read new _ forward (leaves_read g old read _ told reads)
    (leaves_more g read new _ _ closing
    (λ image left.
    let was : IsImage (g.seen old) (g.pending old) left.old =
    subst (λ (bytes : List ℕ). IsImage bytes (g.pending old) left.old) (reads.seen told)
    (subst (λ (ranges : List (ℕ × ℕ)). IsImage (g.seen read) ranges left.old) (reads.pending told) left.was) in
    crash_closing region size (g.seen old) (g.pending old) (open_first (drop region.at (g.seen old)) region.size size is_open) apart image
    (record { old = left.old; was = was; torn = left.torn })))

module _ {D : Type 0} (g : Ghosts D) (counts : CountsNow g) (only : OnlyNow g) (told : g.tells) (region : Region) (size : least_size ≤ region.size)
    (sequence : ℕ) (old closed : D) (forward : g.clock old ≤ g.clock closed)
    (closing : LeavesRegion g region old closed (ClosedOrSame (region_of region (g.seen old)))) where
  -- a crash in the first part of a start
  pub crash_first : LeavesRegion g region old closed (ClosedOrStarted (region_of region (g.seen old)) sequence)
  crash_first = leaves_more g old closed _ _ closing (λ image has. (has.0, inl has.1))

  within_now : (image : List ℕ) → MayLeave g closed image → IsWithin region (MayLeave g old) image
  within_now image left =
      ⊎_elim (λ was. record { old = image; was = was; same = torn_same region.at region.size image }) (λ has. has.0)
      (leaves_now g counts only told old closed _ forward closing image left)

  module _ (written : D) (is_closed : IsClosed (region_of region (g.seen closed))) (apart : IsApart region (g.pending closed))
      (behind : g.clock closed ≤ g.clock written) (n : ℕ) (reach : 1 + n ≤ region.size)
      (writing : LeavesOnly g closed written (IsTornFrom (region.at + 1) n (MayLeave g closed))) where
    after_write : (image : List ℕ) → IsTornFrom (region.at + 1) n (MayLeave g closed) image
        → IsWithin region (MayLeave g old) image × ClosedOrStarted (region_of region (g.seen old)) sequence (region_of region image)
    after_write image left =
        let within = within_now left.old left.was in
        let was : region_of region left.old ≡ region_of region (g.seen closed) =
        image_apart region (g.pending closed) (g.seen closed) left.old apart left.was in (
          record {
            old = within.old;
            was = within.was;
            same = torn_twice region.at region.size within.old left.old image within.same
                (region_wider region 1 n left.old image (omega arith) left.torn);
          },
          inl (inl (closed_kept (region_of region left.old) (region_of region image) n (subst IsClosed (sym was) is_closed)
              (region_torn region 1 n left.old image (omega arith) left.torn))),
        )

    -- a crash in the second part
    pub crash_second : LeavesRegion g region old written (ClosedOrStarted (region_of region (g.seen old)) sequence)
    crash_second =
        leaves_joined g old closed written _ forward crash_first
        (leaves_more g closed written _ _ writing after_write)

    module _ (opened : D) (fits : sequence < 2 ^ 64) (inside : region.at + region.size ≤ length (g.seen closed))
        (others : Torn region.at region.size (g.seen old) (g.seen written)) (durable : g.pending written ≡ [])
        (is : g.seen written ≡ put_at (g.seen closed) (region.at + 1) (opening sequence)) (last : g.clock written ≤ g.clock opened)
        (opening_head : LeavesOnly g written opened (IsTornFrom region.at 1 (MayLeave g written))) where
      after_open : (image : List ℕ) → IsTornFrom region.at 1 (MayLeave g written) image
          → IsWithin region (MayLeave g old) image × ClosedOrStarted (region_of region (g.seen old)) sequence (region_of region image)
      after_open image left =
          let some : 1 ≤ region.size = omega (arith, size) in
          let was : left.old ≡ g.seen written = one_image (g.seen written) (g.pending written) left.old durable left.was in
          let torn : Torn region.at 1 (g.seen written) image = subst (λ (l : List ℕ). Torn region.at 1 l image) was left.torn in (
            record {
              old = g.seen old;
              was = image_now (g.seen old) (g.pending old);
              same = torn_twice region.at region.size (g.seen old) (g.seen written) image others (head_wider region some (g.seen written) image torn);
            },
            head_torn sequence (region_of region (g.seen written)) (region_of region image) (region_of region (g.seen old)) fits
                (is_opening region some sequence (g.seen closed) (g.seen written) size inside is)
                (head_in_region region some (g.seen written) image torn),
          )

      -- a crash in the last part
      pub crash_last : LeavesRegion g region old opened (ClosedOrStarted (region_of region (g.seen old)) sequence)
      crash_last =
          leaves_joined g old written opened _ (omega (arith, forward, behind)) crash_second
          (leaves_more g written opened _ _ opening_head after_open)
