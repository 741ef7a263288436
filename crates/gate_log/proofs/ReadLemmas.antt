-- What the bytes of a region spell, from its head to its closed gate.
use Rattle.std.proofs.Common.{◌≡◌, ℕ, ◌-◌, ◌^◌, ◌<◌, ◌≤◌, inl, inr, suc, List, [], ◌∷◌, ◌++◌, length, get_or, take, drop, refl, sym, ◌∙◌, ap, subst, arith, take-append-drop, length-append}
use Rattle.std.proofs.lemmas.Bool.{cases_lt}
use Rattle.std.proofs.lemmas.List.{get_or_append_left, get_or_past}
use Rattle.std.proofs.lemmas.Nat.{be_bytes_8}
use Rattle.byteorder.specs.Endian.{big_bytes, big_number}
use Rattle.byteorder.specs.Numbers.{big_from-take}
use Rattle.gate_log.specs.Gates.{Gated, open_gate, open_part, AreFramed}
use Rattle.gate_log.specs.Places.{tail_of}
use Rattle.gate_log.specs.laws.Spelling.{length-open_part}

front_small : (front rest : List ℕ) → ((i : ℕ) → get_or (front ++ rest) i 0 < 256) → (i : ℕ) → get_or front i 0 < 256
front_small front rest small i = elim (cases_lt i (length front)) [
  | inl within ↦ subst (λ (x : ℕ). x < 256) (get_or_append_left front rest 0 i within) (small i)
  | inr past ↦ subst (λ (x : ℕ). x < 256) (sym (get_or_past front i 0 past)) (omega arith)
]

reads_8 : (bytes : List ℕ) → 8 ≤ length bytes → ((i : ℕ) → get_or bytes i 0 < 256) → big_bytes 8 (big_number 8 bytes) ≡ take 8 bytes
reads_8 (a ∷ b ∷ c ∷ d ∷ e ∷ f ∷ g ∷ h ∷ rest) long small =
    be_bytes_8 (a ∷ b ∷ c ∷ d ∷ e ∷ f ∷ g ∷ h ∷ []) (big_number 8 (a ∷ b ∷ c ∷ d ∷ e ∷ f ∷ g ∷ h ∷ rest)) refl
    (front_small (a ∷ b ∷ c ∷ d ∷ e ∷ f ∷ g ∷ h ∷ []) rest small) (omega arith)
reads_8 _ long small = absurd (omega arith)

-- an open gate and a sequence
pub begins : (region : List ℕ) (sequence : ℕ) → 10 ≤ length region → ((i : ℕ) → get_or region i 0 < 256) → get_or region 0 0 ≡ open_gate
    → sequence ≡ big_number 8 (take 8 (drop 1 region)) → region ≡ open_part sequence [] ++ drop 9 region
begins [] sequence long small is_open reads = absurd (omega arith)
begins (gate ∷ rest) sequence long small is_open reads =
    let head : big_bytes 8 sequence ≡ take 8 rest =
    ap (big_bytes 8) (reads ∙ big_from-take 0 8 8 rest (omega arith)) ∙ reads_8 rest (omega arith) (λ i. small (suc i)) in
    ap (λ (g : ℕ). g ∷ rest) is_open
    ∙ ap (λ (l : List ℕ). open_gate ∷ l) (sym (take-append-drop 8 rest) ∙ ap (λ (l : List ℕ). l ++ drop 8 rest) (sym head))

-- batches, and then a closed gate
pub ends : (region rest : List ℕ) (sequence : ℕ) (payloads : List (List ℕ)) → region ≡ open_part sequence payloads ++ rest → AreFramed payloads
    → 0 < length rest → (get_or rest 0 0 ≡ open_gate → ⊥) → sequence < 2 ^ 64
    → Gated region sequence payloads × (length region - length rest ≡ tail_of payloads)
ends region [] sequence payloads spelled framed some differs fits = absurd (omega arith)
ends region (gate ∷ rest) sequence payloads spelled framed some differs fits = (
  record { gate = gate; rest = rest; closed = differs; spelled = spelled; framed = framed; sequence_fits = fits },
  omega (arith, ap length spelled, length-append (open_part sequence payloads) (gate ∷ rest), length-open_part sequence payloads),
)

-- where the batches that were read so far end
pub reached : (region rest : List ℕ) (sequence : ℕ) (payloads : List (List ℕ)) → region ≡ open_part sequence payloads ++ rest
    → (length region - length rest ≡ tail_of payloads) × (length rest ≤ length region)
reached region rest sequence payloads spelled =
    let long = ap length spelled ∙ length-append (open_part sequence payloads) rest in
    (omega (arith, long, length-open_part sequence payloads), omega (arith, long))
