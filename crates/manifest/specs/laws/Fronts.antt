-- Each region of bytes has a front: its head is closed, or it has a sequence, batches and what ends them.
use Rattle.std.specs.Prelude.{◌≡◌, ◌≢◌, ◌⊎◌, ℕ, zero, suc, ◌+◌, ◌^◌, ◌<◌, ◌≤◌, List, [], ◌∷◌, ◌++◌, length, take, drop, flat_map}
use Rattle.std.proofs.Common.{refl, sym, ◌∙◌, ap, subst, inl, inr, arith, append_assoc, length-drop, take-append-drop}
use Rattle.std.proofs.lemmas.Bool.{cases_eq, cases_lt}
use Rattle.std.proofs.lemmas.List.{length-take}
use Rattle.byteorder.specs.Endian.{big_bytes, big_number}
use Rattle.byteorder.specs.Numbers.{big_from-take, big_from-lt}
use Rattle.hse_fields.specs.laws.Fields.{IsBytes, IsBytes-take, IsBytes-drop, width_4, width_8}
use Rattle.gate_log.specs.Gates.{AreFramed, IsClosed, IsCutOff, frame, open_gate, open_part}
use Rattle.gate_log.specs.Places.{tail_of}
use Rattle.gate_log.specs.Reading.{Ends}
use Rattle.gate_log.specs.declared.front.End.{End}
use Rattle.gate_log.specs.declared.front.End.TheVariants.{Closed, CutOff}

-- a closed gate, or an open one whose batch is cut off
abbrev IsEnd : ℕ → List ℕ → Type 0
IsEnd gate behind = (gate ≢ open_gate) ⊎ ((gate ≡ open_gate) × IsCutOff behind)

-- what stands from a gate on: batches, and what ends them
record Batches (bytes : List ℕ) : Type 0 where
  payloads : List (List ℕ)
  gate : ℕ
  behind : List ℕ
  spelled : bytes ≡ flat_map frame payloads ++ gate ∷ behind
  framed : AreFramed payloads
  ends : IsEnd gate behind

-- the bytes of a number are its bytes
number_is : (bytes : List ℕ) → 4 ≤ length bytes → IsBytes bytes
    → (big_bytes 4 (big_number 4 bytes) ≡ take 4 bytes) × (big_number 4 bytes < 2 ^ 32)
number_is bytes long small =
    let same : big_number 4 (take 4 bytes) ≡ big_number 4 bytes = big_from-take 0 4 4 bytes (omega arith) in
    let taken : length (take 4 bytes) ≡ 4 = omega (arith, length-take 4 bytes) in (
      ap (big_bytes 4) (sym same) ∙ width_4.back (take 4 bytes) taken (IsBytes-take 4 bytes small),
      subst (λ (n : ℕ). n < 2 ^ 32) same (big_from-lt 0 4 (take 4 bytes) (IsBytes-take 4 bytes small)),
    )

-- the payload behind an open gate, and the bytes from the next gate on
record First (rest : List ℕ) : Type 0 where
  payload : List ℕ
  behind : List ℕ
  spelled : open_gate ∷ rest ≡ frame payload ++ behind
  fits : length payload < 2 ^ 32
  some : 0 < length behind
  less : length behind < length rest
  small : IsBytes behind

first_of : (rest : List ℕ) → 5 + big_number 4 rest ≤ length rest → IsBytes rest → First rest
first_of rest long small =
    let size : ℕ = big_number 4 rest in
    let number = number_is rest (omega (arith, long)) small in
    let text : List ℕ = take size (drop 4 rest) in
    let size_is : length (take (big_number 4 rest) (drop 4 rest)) ≡ big_number 4 rest = omega (arith, long, length-take (big_number 4 rest) (drop 4 rest), length-drop 4 rest) in
    let left : length (drop (big_number 4 rest) (drop 4 rest)) + big_number 4 rest + 4 ≡ length rest = omega (arith, long, length-drop 4 rest, length-drop (big_number 4 rest) (drop 4 rest)) in
    let head : big_bytes 4 (length (take (big_number 4 rest) (drop 4 rest))) ≡ take 4 rest = ap (big_bytes 4) size_is ∙ number.0 in
    let whole : rest ≡ big_bytes 4 (length (take (big_number 4 rest) (drop 4 rest))) ++ (take (big_number 4 rest) (drop 4 rest) ++ drop (big_number 4 rest) (drop 4 rest)) =
    sym (take-append-drop 4 rest) ∙ (λ i. sym head i ++ sym (take-append-drop (big_number 4 rest) (drop 4 rest)) i) in
    record {
      payload = take (big_number 4 rest) (drop 4 rest);
      behind = drop (big_number 4 rest) (drop 4 rest);
      spelled = ap (λ (l : List ℕ). open_gate ∷ l) (whole ∙ sym (append_assoc (big_bytes 4 (length (take (big_number 4 rest) (drop 4 rest)))) (take (big_number 4 rest) (drop 4 rest)) (drop (big_number 4 rest) (drop 4 rest))));
      fits = omega (arith, size_is, number.1);
      some = omega (arith, left, long);
      less = omega (arith, left);
      small = IsBytes-drop (big_number 4 rest) (drop 4 rest) (IsBytes-drop 4 rest small);
    }

with_first : (gate : ℕ) (rest : List ℕ) → gate ≡ open_gate → (first : First rest) → Batches first.behind → Batches (gate ∷ rest)
with_first gate rest is first more = record {
  payloads = first.payload ∷ more.payloads;
  gate = more.gate;
  behind = more.behind;
  spelled = ap (λ (g : ℕ). g ∷ rest) is ∙ first.spelled ∙ ap (λ (l : List ℕ). frame first.payload ++ l) more.spelled
      ∙ sym (append_assoc (frame first.payload) (flat_map frame more.payloads) (more.gate ∷ more.behind));
  framed = (first.fits, more.framed);
  ends = more.ends;
}

no_more : (gate : ℕ) (rest : List ℕ) → IsEnd gate rest → Batches (gate ∷ rest)
no_more gate rest is = record { payloads = []; gate = gate; behind = rest; spelled = refl; framed = tt; ends = is }

batches_in : (most : ℕ) (bytes : List ℕ) → length bytes ≤ most → 0 < length bytes → IsBytes bytes → Batches bytes
batches_in most [] le some small = absurd (omega (arith, some))
batches_in zero (gate ∷ rest) le some small = absurd (omega (arith, le))
batches_in (suc most) (gate ∷ rest) le some small = elim (cases_eq gate open_gate) [
  | inl is ↦ elim (cases_lt (length rest) (5 + big_number 4 rest)) [
    | inl cut_off ↦ no_more gate rest (inr (is, cut_off))
    | inr long ↦
        let first = first_of rest long (λ i. small (suc i)) in
        with_first gate rest is first (batches_in most first.behind (omega (arith, le, first.less)) first.some first.small)
  ]
  | inr differs ↦ no_more gate rest (inl differs)
]

-- a front of a region with an open head
pub record Opened (region : List ℕ) : Type 0 where
  pub sequence : ℕ
  pub payloads : List (List ℕ)
  pub end : End
  pub ends : Ends region sequence payloads end

opened_by : (region : List ℕ) (sequence : ℕ) (payloads : List (List ℕ)) (gate : ℕ) (behind : List ℕ)
    → region ≡ open_part sequence payloads ++ gate ∷ behind → AreFramed payloads → sequence < 2 ^ 64 → IsEnd gate behind → Opened region
opened_by region sequence payloads gate behind spelled framed fits (inl differs) = record {
  sequence = sequence;
  payloads = payloads;
  end = Closed (record { place = tail_of payloads });
  ends = (record { gate = gate; rest = behind; closed = differs; spelled = spelled; framed = framed; sequence_fits = fits }, refl);
}
opened_by region sequence payloads gate behind spelled framed fits (inr is) = record {
  sequence = sequence;
  payloads = payloads;
  end = CutOff (length (open_part sequence payloads) + 1);
  ends = record {
    rest = behind;
    cut_off = is.1;
    spelled = spelled ∙ ap (λ (g : ℕ). open_part sequence payloads ++ g ∷ behind) is.0;
    framed = framed;
    sequence_fits = fits;
    place_is = refl;
  };
}

opened : (rest : List ℕ) → 9 ≤ length rest → IsBytes rest → Opened (open_gate ∷ rest)
opened rest long small =
    let taken : length (take 8 rest) ≡ 8 = omega (arith, long, length-take 8 rest) in
    let behind : 0 < length (drop 8 rest) = omega (arith, long, length-drop 8 rest) in
    let number : big_bytes 8 (big_number 8 (take 8 rest)) ≡ take 8 rest = width_8.back (take 8 rest) taken (IsBytes-take 8 rest small) in
    let batches = batches_in (length (drop 8 rest)) (drop 8 rest) (omega arith) behind (IsBytes-drop 8 rest small) in
    let spelled : rest ≡ big_bytes 8 (big_number 8 (take 8 rest)) ++ (flat_map frame batches.payloads ++ batches.gate ∷ batches.behind) =
    sym (take-append-drop 8 rest) ∙ (λ i. sym number i ++ batches.spelled i) in
    opened_by (open_gate ∷ rest) (big_number 8 (take 8 rest)) batches.payloads batches.gate batches.behind
    (ap (λ (l : List ℕ). open_gate ∷ l) (spelled ∙ sym (append_assoc (big_bytes 8 (big_number 8 (take 8 rest))) (flat_map frame batches.payloads) (batches.gate ∷ batches.behind))))
    batches.framed (big_from-lt 0 8 (take 8 rest) (IsBytes-take 8 rest small)) batches.ends

-- each region of bytes has a closed head or a front
pub each_region : (region : List ℕ) → 10 ≤ length region → IsBytes region → IsClosed region ⊎ Opened region
each_region [] long small = absurd (omega (arith, long))
each_region (gate ∷ rest) long small = elim (cases_eq gate open_gate) [
  | inl is ↦ inr (subst (λ (g : ℕ). Opened (g ∷ rest)) (sym is) (opened rest (omega (arith, long)) (λ i. small (suc i))))
  | inr differs ↦ inl differs
]
