-- No region has two fronts: it holds one sequence with one list of batches, and one end stands behind them.
use Rattle.std.specs.Prelude.{◌≡◌, ℕ, ◌+◌, List, ◌∷◌, ◌++◌, length, Option, Some, None}
use Rattle.std.proofs.Common.{refl, sym, ◌∙◌, ap, subst, inl, inr}
use Rattle.gate_log.specs.Gates.{Gated, IsClosed, IsCutOffAt, open_gate, open_part}
use Rattle.gate_log.specs.Places.{tail_of}
use Rattle.gate_log.specs.Reading.{Ends, IsFront, SameFronts, payloads_of}
use Rattle.gate_log.specs.declared.front.End.{End}
use Rattle.gate_log.specs.declared.front.End.TheVariants.{Closed, CutOff}
use Rattle.gate_log.specs.declared.front.Front.{Front}
use Rattle.gate_log.specs.declared.region.Tail.{Tail}
use Rattle.gate_log.specs.laws.OneReading.{same_spelling, one_gated, gated_not_closed}

gated_not_cut_off : (region : List ℕ) (sequence other : ℕ) (payloads others : List (List ℕ)) (place : ℕ)
    → Gated region sequence payloads → IsCutOffAt region other others place → ⊥
gated_not_cut_off region sequence other payloads others place gated cut =
    let same = same_spelling sequence other payloads others (gated.gate ∷ gated.rest) (open_gate ∷ cut.rest)
    gated.sequence_fits cut.sequence_fits gated.framed cut.framed (inl gated.closed) (inr cut.cut_off)
    (sym gated.spelled ∙ cut.spelled) in
    let heads : gated.gate ∷ gated.rest ≡ open_gate ∷ cut.rest = same.2 in
    gated.closed cc

same_tail : (a b : Tail) → a.place ≡ b.place → a ≡ b
same_tail a b e = λ i. record { place = e i }

pub one_front : (region : List ℕ) (sequence other : ℕ) (payloads others : List (List ℕ)) (end ending : End)
    → Ends region sequence payloads end → Ends region other others ending
    → (sequence ≡ other) × (payloads ≡ others) × (end ≡ ending)
one_front region sequence other payloads others (Closed tail) (Closed last) first second =
    let same = one_gated region sequence other payloads others first.0 second.0 in
    (same.0, same.1, ap (λ (t : Tail). Closed t) (same_tail tail last (first.1 ∙ ap tail_of same.1 ∙ sym second.1)))
one_front region sequence other payloads others (Closed tail) (CutOff place) first second =
    absurd (gated_not_cut_off region sequence other payloads others place first.0 second)
one_front region sequence other payloads others (CutOff place) (Closed tail) first second =
    absurd (gated_not_cut_off region other sequence others payloads place second.0 first)
one_front region sequence other payloads others (CutOff place) (CutOff last) first second =
    let same = same_spelling sequence other payloads others (open_gate ∷ first.rest) (open_gate ∷ second.rest)
    first.sequence_fits second.sequence_fits first.framed second.framed (inr first.cut_off) (inr second.cut_off)
    (sym first.spelled ∙ second.spelled) in
    (same.0, same.1, ap (λ (p : ℕ). CutOff p) (first.place_is ∙ (λ i. length (open_part (same.0 i) (same.1 i)) + 1) ∙ sym second.place_is))

-- a region with a front has an open head
pub front_not_closed : (region : List ℕ) (sequence : ℕ) (payloads : List (List ℕ)) (end : End) → Ends region sequence payloads end → IsClosed region → ⊥
front_not_closed region sequence payloads (Closed tail) ends closed = gated_not_closed region sequence payloads ends.0 closed
front_not_closed region sequence payloads (CutOff place) ends closed =
    let differs : IsClosed (open_part sequence payloads ++ open_gate ∷ ends.rest) = subst IsClosed ends.spelled closed in
    differs refl

pub same_fronts : (region : List ℕ) (one other : Option Front) → IsFront region one → IsFront region other → SameFronts one other
same_fronts region (Some one) (Some other) first second =
    one_front region one.sequence other.sequence (payloads_of one.batches.items) (payloads_of other.batches.items) one.end other.end first second
same_fronts region (Some one) None first second = front_not_closed region one.sequence (payloads_of one.batches.items) one.end first second
same_fronts region None (Some other) first second = front_not_closed region other.sequence (payloads_of other.batches.items) other.end second first
same_fronts region None None first second = tt
