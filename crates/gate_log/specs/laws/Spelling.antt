-- The parts of a region, by their lengths and with one batch more.
use Rattle.std.specs.Prelude.{◌≡◌, ℕ, ◌+◌, ◌^◌, ◌<◌, List, [], ◌∷◌, ◌++◌, length, flat_map, sum_by}
use Rattle.std.proofs.Common.{refl, sym, ◌∙◌, ap, arith, append_assoc, length-append}
use Rattle.std.proofs.lemmas.List.{append-nil}
use Rattle.std.proofs.lemmas.List.Concat.{flat_map-append}
use Rattle.std.proofs.lemmas.List.Sums.{sum_by-cons, sum_by_push}
use Rattle.byteorder.specs.Endian.{big_bytes}
use Rattle.byteorder.specs.Numbers.{length-bytes_high_first}
use Rattle.gate_log.specs.Framed.{framed}
use Rattle.gate_log.specs.Gates.{open_gate, frame, open_part, AreFramed}
use Rattle.gate_log.specs.Places.{need_of, tail_of}

-- a batch with its gate is as long as what it takes
pub length-frame : (payload : List ℕ) → length (frame payload) ≡ need_of payload
length-frame payload =
    omega (arith, length-append (big_bytes 4 (length payload)) payload, length-bytes_high_first 4 (length payload))

-- and so are several
pub length-frames : (payloads : List (List ℕ)) → length (flat_map frame payloads) ≡ sum_by need_of payloads
length-frames [] = refl
length-frames (payload ∷ payloads) =
    omega (
      arith,
      length-append (frame payload) (flat_map frame payloads),
      length-frame payload,
      length-frames payloads,
      sum_by-cons need_of payload payloads,
    )

-- the closed gate stands right behind the open part
pub length-open_part : (sequence : ℕ) (payloads : List (List ℕ)) → length (open_part sequence payloads) ≡ tail_of payloads
length-open_part sequence payloads =
    omega (
      arith,
      length-append (big_bytes 8 sequence) (flat_map frame payloads),
      length-bytes_high_first 8 sequence,
      length-frames payloads,
    )

-- one batch more
pub open_part-push : (sequence : ℕ) (payloads : List (List ℕ)) (payload : List ℕ)
    → open_part sequence (payloads ++ payload ∷ []) ≡ open_part sequence payloads ++ frame payload
open_part-push sequence payloads payload =
    ap (λ (l : List ℕ). open_gate ∷ (big_bytes 8 sequence ++ l))
    (flat_map-append frame payloads (payload ∷ []) ∙ ap (λ (l : List ℕ). flat_map frame payloads ++ l) (append-nil (frame payload)))
    ∙ ap (λ (l : List ℕ). open_gate ∷ l) (sym (append_assoc (big_bytes 8 sequence) (flat_map frame payloads) (frame payload)))

-- the closed gate moves on by what the batch takes
pub tail_of-push : (payloads : List (List ℕ)) (payload : List ℕ)
    → tail_of (payloads ++ payload ∷ []) ≡ tail_of payloads + need_of payload
tail_of-push payloads payload = omega (arith, sum_by_push need_of payloads payload)

-- one payload more whose length has four bytes
pub are_framed-push : (payloads : List (List ℕ)) (payload : List ℕ) → AreFramed payloads → length payload < 2 ^ 32
    → AreFramed (payloads ++ payload ∷ [])
are_framed-push [] payload framed fits = (fits, tt)
are_framed-push (first ∷ payloads) payload framed fits = (framed.0, are_framed-push payloads payload framed.1 fits)

-- a batch as it is written is as long as what it takes
pub length-framed : (payload : List ℕ) → length (framed payload) ≡ need_of payload
length-framed payload =
    omega (
      arith,
      length-append (big_bytes 4 (length payload)) (payload ++ 0 ∷ []),
      length-append payload (0 ∷ []),
      length-bytes_high_first 4 (length payload),
    )
