-- What a region holds after the two writes of an append, and after a crash in one of them.
use Rattle.std.proofs.Common.{◌≡◌, inl, inr, ℕ, ◌+◌, ◌^◌, ◌<◌, List, [], ◌∷◌, ◌++◌, length, get_or, take, drop, sym, ◌∙◌, ap, arith, append_assoc, length-append, take-append-drop}
use Rattle.std.proofs.lemmas.Bool.{cases_eq}
use Rattle.std.proofs.lemmas.List.{take_at, drop_at, drop_more}
use Rattle.byteorder.specs.Endian.{big_bytes}
use Rattle.media_disk.specs.Content.{put_at, Torn}
use Rattle.gate_log.specs.Crashes.{OldOrNew}
use Rattle.gate_log.specs.Framed.{framed}
use Rattle.gate_log.specs.Gates.{IsWritten, Gated, open_gate, open_part, frame, AreFramed}
use Rattle.gate_log.specs.Places.{tail_of}
use Rattle.gate_log.specs.laws.Spelling.{length-open_part, open_part-push, are_framed-push}

-- a list by what stands before, at and behind a place
parts : (xs front rest : List ℕ) (x : ℕ) → xs ≡ front ++ x ∷ rest → xs ≡ (front ++ x ∷ []) ++ rest
parts xs front rest x is = is ∙ sym (append_assoc front (x ∷ []) rest)

length_gate : (front : List ℕ) (x : ℕ) → length (front ++ x ∷ []) ≡ length front + 1
length_gate front x = length-append front (x ∷ [])

-- bytes behind the closed gate may be any
pub gated_torn : (sequence : ℕ) (payloads : List (List ℕ)) (n : ℕ) (old new : List ℕ) → Gated old sequence payloads
    → Torn (tail_of payloads + 1) n old new → Gated new sequence payloads
gated_torn sequence payloads n old new gated torn =
    let front = open_part sequence payloads in
    let place = tail_of payloads + 1 in
    let long : length (front ++ gated.gate ∷ []) ≡ place = omega (arith, length_gate front gated.gate, length-open_part sequence payloads) in
    let kept : take place new ≡ front ++ gated.gate ∷ [] =
    torn.before ∙ ap (take place) (parts old front gated.rest gated.gate gated.spelled) ∙ take_at (front ++ gated.gate ∷ []) gated.rest place long in
    record {
      gate = gated.gate;
      rest = drop place new;
      closed = gated.closed;
      spelled = sym (take-append-drop place new) ∙ ap (λ (l : List ℕ). l ++ drop place new) kept ∙ append_assoc front (gated.gate ∷ []) (drop place new);
      framed = gated.framed;
      sequence_fits = gated.sequence_fits;
    }

-- a batch stands whole behind a closed gate
pub record Staged (region : List ℕ) (sequence : ℕ) (payloads : List (List ℕ)) (payload : List ℕ) : Type 0 where
  pub gate : ℕ
  pub rest : List ℕ
  pub spelled : region ≡ open_part sequence payloads ++ gate ∷ (framed payload ++ rest)
  pub framed : AreFramed payloads
  pub payload_fits : length payload < 2 ^ 32
  pub sequence_fits : sequence < 2 ^ 64

pub staged : (sequence : ℕ) (payloads : List (List ℕ)) (payload old : List ℕ) → Gated old sequence payloads → length payload < 2 ^ 32
    → Staged (put_at old (tail_of payloads + 1) (framed payload)) sequence payloads payload
staged sequence payloads payload old gated fits =
    let front = open_part sequence payloads in
    let place = tail_of payloads + 1 in
    let behind = drop (place + length (framed payload)) old in
    let long : length (front ++ gated.gate ∷ []) ≡ place = omega (arith, length_gate front gated.gate, length-open_part sequence payloads) in
    let kept : take place old ≡ front ++ gated.gate ∷ [] =
    ap (take place) (parts old front gated.rest gated.gate gated.spelled) ∙ take_at (front ++ gated.gate ∷ []) gated.rest place long in
    record {
      gate = gated.gate;
      rest = behind;
      spelled = ap (λ (l : List ℕ). l ++ (framed payload ++ behind)) kept ∙ append_assoc front (gated.gate ∷ []) (framed payload ++ behind);
      framed = gated.framed;
      payload_fits = fits;
      sequence_fits = gated.sequence_fits;
    }

-- behind an open gate the batch counts
opened : (sequence : ℕ) (payloads : List (List ℕ)) (payload rest : List ℕ)
    → open_part sequence payloads ++ open_gate ∷ (framed payload ++ rest) ≡ open_part sequence (payloads ++ payload ∷ []) ++ 0 ∷ rest
opened sequence payloads payload rest =
    let front = open_part sequence payloads in
    let head = big_bytes 4 (length payload) in
    let spelled : framed payload ++ rest ≡ head ++ (payload ++ 0 ∷ rest) =
    append_assoc head (payload ++ 0 ∷ []) rest ∙ ap (λ (l : List ℕ). head ++ l) (append_assoc payload (0 ∷ []) rest) in
    let whole : frame payload ++ 0 ∷ rest ≡ open_gate ∷ (head ++ (payload ++ 0 ∷ rest)) =
    ap (λ (l : List ℕ). open_gate ∷ l) (append_assoc head payload (0 ∷ rest)) in
    ap (λ (l : List ℕ). front ++ open_gate ∷ l) spelled ∙ ap (λ (l : List ℕ). front ++ l) (sym whole)
    ∙ sym (append_assoc front (frame payload) (0 ∷ rest)) ∙ ap (λ (l : List ℕ). l ++ 0 ∷ rest) (sym (open_part-push sequence payloads payload))

written_new : (sequence : ℕ) (payloads : List (List ℕ)) (payload region new : List ℕ) (stands : Staged region sequence payloads payload)
    → new ≡ open_part sequence payloads ++ open_gate ∷ (framed payload ++ stands.rest) → IsWritten new sequence (payloads ++ payload ∷ [])
written_new sequence payloads payload region new stands is = record {
  gated = record {
    gate = 0;
    rest = stands.rest;
    closed = omega arith;
    spelled = is ∙ opened sequence payloads payload stands.rest;
    framed = are_framed-push payloads payload stands.framed stands.payload_fits;
    sequence_fits = stands.sequence_fits;
  };
  gate_is = λ i. 0;
}

gate_at : (sequence : ℕ) (payloads : List (List ℕ)) (payload region : List ℕ) (stands : Staged region sequence payloads payload)
    → (take (tail_of payloads) region ≡ open_part sequence payloads)
    × (drop (tail_of payloads + 1) region ≡ framed payload ++ stands.rest)
gate_at sequence payloads payload region stands =
    let front = open_part sequence payloads in
    let behind = framed payload ++ stands.rest in (
      ap (take (tail_of payloads)) stands.spelled ∙ take_at front (stands.gate ∷ behind) (tail_of payloads) (length-open_part sequence payloads),
      ap (drop (tail_of payloads + 1)) (parts region front behind stands.gate stands.spelled)
          ∙ drop_at (front ++ stands.gate ∷ []) behind (tail_of payloads + 1) (omega (arith, length_gate front stands.gate, length-open_part sequence payloads)),
    )

-- once the gate is written the batch counts
pub gate_written : (sequence : ℕ) (payloads : List (List ℕ)) (payload region : List ℕ) → Staged region sequence payloads payload
    → IsWritten (put_at region (tail_of payloads) (open_gate ∷ [])) sequence (payloads ++ payload ∷ [])
gate_written sequence payloads payload region stands =
    let known = gate_at sequence payloads payload region stands in
    written_new sequence payloads payload region _ stands
    (ap (λ (l : List ℕ). l ++ open_gate ∷ drop (tail_of payloads + 1) region) known.0
    ∙ ap (λ (l : List ℕ). open_part sequence payloads ++ open_gate ∷ l) known.1)

-- a crash in the write of the gate leaves it open or closed
pub gate_torn : (sequence : ℕ) (payloads : List (List ℕ)) (payload region new : List ℕ) → Staged region sequence payloads payload
    → Torn (tail_of payloads) 1 region new → OldOrNew sequence payloads payload new
gate_torn sequence payloads payload region new stands torn =
    let known = gate_at sequence payloads payload region stands in
    let front = open_part sequence payloads in
    let place = tail_of payloads in
    let gate = get_or new place 0 in
    let behind = framed payload ++ stands.rest in
    let within : place < length new =
    omega (arith, torn.as_long, ap length stands.spelled, length-append front (stands.gate ∷ behind), length-open_part sequence payloads) in
    let rest_is : drop place new ≡ gate ∷ behind = drop_more new place 0 within ∙ ap (λ (l : List ℕ). gate ∷ l) (torn.after ∙ known.1) in
    let whole : new ≡ front ++ gate ∷ behind =
    sym (take-append-drop place new) ∙ ap (λ (l : List ℕ). l ++ drop place new) (torn.before ∙ known.0) ∙ ap (λ (l : List ℕ). front ++ l) rest_is in
    elim (cases_eq gate open_gate) [
      | inl is_open ↦ inr (written_new sequence payloads payload region new stands (whole ∙ ap (λ (g : ℕ). front ++ g ∷ behind) is_open)).gated
      | inr differs ↦ inl (record { gate = gate; rest = behind; closed = differs; spelled = whole; framed = stands.framed; sequence_fits = stands.sequence_fits })
    ]
