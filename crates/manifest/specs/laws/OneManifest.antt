-- No image has two manifests: it has one metadata, or is refused at one place.
use Rattle.std.proofs.Common.{◌≡◌, inl, inr, ℕ, List, Option, Some, None, Result, Ok, Err, refl, sym, ◌∙◌, ap, subst}
use Rattle.gate_log.specs.Gates.{Gated, first_gate}
use Rattle.gate_log.specs.Places.{region_of, tail_of}
use Rattle.gate_log.specs.Reading.{Ends}
use Rattle.gate_log.specs.declared.front.End.TheVariants.{Closed}
use Rattle.gate_log.specs.declared.region.Tail.{Tail}
use Rattle.gate_log.specs.laws.OneFront.{one_front}
use Rattle.gate_log.specs.laws.OneReading.{one_gated}
use Rattle.device_layout.specs.Layouts.{half_of}
use Rattle.device_layout.specs.declared.layout.Layout.{Layout}
use Rattle.manifest.specs.Half.{Holds, IsMetadata, IsRefused, entries_of, metadata_in, says_of}
use Rattle.manifest.specs.Metadata.{Metadata}
use Rattle.hse_fields.specs.LogReading.{◌>>=◌}

same_ok : {X E : Type 0} (r : Result X E) (x y : X) → r ≡ Ok x → r ≡ Ok y → x ≡ y
same_ok (Ok z) x y first second = cc
same_ok (Err e) x y first second = absurd cc

same_err : {X E : Type 0} (r : Result X E) (x y : E) → r ≡ Err x → r ≡ Err y → x ≡ y
same_err (Ok z) x y first second = absurd cc
same_err (Err e) x y first second = cc

not_both : {X E : Type 0} (r : Result X E) (x : X) (e : E) → r ≡ Ok x → r ≡ Err e → ⊥
not_both (Ok z) x e first second = absurd cc
not_both (Err f) x e first second = absurd cc

some_is : {X : Type 0} (x y : X) → Some x ≡ Some y → x ≡ y
some_is x y is = cc

-- an image holds one thing at one place
pub one_held : (layout : Layout) (image : List ℕ) (half other sequence next place at : ℕ) (m n : Metadata) → Holds layout half sequence place image m
    → Holds layout other next at image n → (half ≡ other) × (sequence ≡ next) × (place ≡ at) × (m ≡ n)
one_held layout image half other sequence next place at m n first second =
    let same_half = same_ok _ half other first.in_force second.in_force in
    let gated = subst (λ (h : ℕ). Gated (region_of (half_of layout h) image) next second.payloads) (sym same_half) second.gated in
    let same = one_gated (region_of (half_of layout half) image) sequence next first.payloads second.payloads first.gated gated in (
      same_half,
      same.0,
      first.tail ∙ ap tail_of same.1 ∙ sym second.tail,
      some_is m n (same_ok (entries_of layout.stores None first_gate first.payloads) (Some m) (Some n) first.says
          (ap (entries_of layout.stores None first_gate) same.1 ∙ second.says)),
    )

pair_is : (a b x y : ℕ) → ◌≡◌ {A = ℕ × ℕ} (a, b) (x, y) → (a ≡ x) × (b ≡ y)
pair_is a b x y is = (ap (λ (p : ℕ × ℕ). p.0) is, ap (λ (p : ℕ × ℕ). p.1) is)

pub one_refusal : (layout : Layout) (image : List ℕ) (half place other at : ℕ) → IsRefused layout image half place → IsRefused layout image other at
    → (half ≡ other) × (place ≡ at)
one_refusal layout image half place other at (inl first) (inl second) = pair_is half place other at (same_err _ (half, place) (other, at) first second)
one_refusal layout image half place other at (inl first) (inr second) = absurd (not_both _ other (half, place) second.in_force first)
one_refusal layout image half place other at (inr first) (inl second) = absurd (not_both _ half (other, at) first.in_force second)
one_refusal layout image half place other at (inr first) (inr second) =
    let same_half = same_ok _ half other first.in_force second.in_force in
    let ends = subst (λ (h : ℕ). Ends (region_of (half_of layout h) image) second.sequence second.payloads second.end) (sym same_half) second.ends in
    let same = one_front (region_of (half_of layout half) image) first.sequence second.sequence first.payloads second.payloads first.end second.end first.ends ends in (
      same_half,
      same_err (metadata_in layout.stores first.payloads first.end) place at first.refused
          ((λ i. metadata_in layout.stores (same.1 i) (same.2 i)) ∙ second.refused),
    )

pub not_refused : (layout : Layout) (image : List ℕ) (m : Metadata) (half place : ℕ) → IsMetadata layout image m → IsRefused layout image half place → ⊥
not_refused layout image m half place first (inl second) = not_both _ first.half (half, place) first.holds.in_force second
not_refused layout image m half place first (inr second) =
    let same_half = same_ok _ first.half half first.holds.in_force second.in_force in
    let gated = subst (λ (h : ℕ). Gated (region_of (half_of layout h) image) first.sequence first.holds.payloads) same_half first.holds.gated in
    let tail : Tail = record { place = tail_of first.holds.payloads } in
    let same = one_front (region_of (half_of layout half) image) first.sequence second.sequence first.holds.payloads second.payloads (Closed tail) second.end
    (gated, refl) second.ends in
    let reads : metadata_in layout.stores first.holds.payloads (Closed tail) ≡ Ok m =
    ap (λ (r : Result (Option Metadata) ℕ). r >>= λ x. says_of x (Closed tail)) first.holds.says in
    not_both (metadata_in layout.stores first.holds.payloads (Closed tail)) m place reads
    ((λ i. metadata_in layout.stores (same.1 i) (same.2 i)) ∙ second.refused)
