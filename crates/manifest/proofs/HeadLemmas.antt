-- The heads of halves, and which half they put in force.
use Rattle.std.proofs.Common.{◌≡◌, inl, inr, ◌∙◌, ℕ, zero, suc, ◌-◌, ◌<◌, ◌≤◌, ◌^◌, Bool, true, false, List, [], ◌∷◌, ◌++◌, length, take, drop, get_or, Some, None, Ok, Err, refl, sym, ap, subst, arith, cond}
use Rattle.std.specs.Prelude.{◌==◌, if◌then◌else◌}
use Rattle.std.specs.List.{flat_map}
use Rattle.std.proofs.lemmas.Bool.{ne_eqb}
use Rattle.std.proofs.lemmas.List.{take-take, append-nil}
use Rattle.byteorder.specs.Endian.{big_bytes, big_number}
use Rattle.byteorder.specs.Numbers.{big_number-reads_back}
use Rattle.gate_log.specs.Gates.{Gated, IsClosed, open_gate, frame}
use Rattle.gate_log.specs.Places.{region_of, AreApart, IsApart}
use Rattle.gate_log.specs.declared.region.Region.{Region}
use Rattle.device_layout.specs.Layouts.{half_of}
use Rattle.device_layout.specs.declared.layout.Layout.{Layout}
use Rattle.manifest.specs.Writing.{HalvesApart}
use Rattle.manifest.specs.Half.{Head, closed, open_head, head_of, head_in, in_force, greater, is_sequence_of, half_in_force}

-- the head is that of the region's bytes
pub head_is : (region : Region) (image : List ℕ) → 10 ≤ region.size → head_in region image ≡ head_of (take 10 (region_of region image))
head_is region image le = ap head_of (sym (take-take 10 region.size (drop region.at image) le))

closed_by : (is_open : Bool) (head : Head) → is_open ≡ false → cond is_open head closed ≡ closed
closed_by is_open head is = rw is refl

-- a closed region has a closed head
pub closed_head : (bytes : List ℕ) → IsClosed bytes → head_of (take 10 bytes) ≡ closed
closed_head [] is = refl
closed_head (gate ∷ rest) is =
    closed_by (gate == open_gate) (open_head (big_number 8 (take 8 (take 9 rest))) (get_or (take 9 rest) 8 0 == open_gate)) (ne_eqb gate open_gate is)

-- a head behind an open gate
open_head_of : (sequence gate : ℕ) (rest : List ℕ) → sequence < 2 ^ 64
    → head_of (take 10 (open_gate ∷ (big_bytes 8 sequence ++ gate ∷ rest))) ≡ open_head sequence (gate == open_gate)
open_head_of sequence gate rest fits =
    let reads : big_number 8 (big_bytes 8 sequence) ≡ sequence =
    sym (ap (big_number 8) (append-nil (big_bytes 8 sequence))) ∙ big_number-reads_back 8 sequence [] fits in
    ap (λ (s : ℕ). open_head s (gate == open_gate)) reads

abbrev pub has_any : List (List ℕ) → Bool
has_any [] = false
has_any (payload ∷ payloads) = true

-- the head of a region that holds these batches
pub gated_head : (region : List ℕ) (sequence : ℕ) (payloads : List (List ℕ)) → Gated region sequence payloads
    → head_of (take 10 region) ≡ open_head sequence (has_any payloads)
gated_head region sequence [] gated =
    ap (λ (r : List ℕ). head_of (take 10 r)) gated.spelled
    ∙ open_head_of sequence gated.gate gated.rest gated.sequence_fits
    ∙ ap (open_head sequence) (ne_eqb gated.gate open_gate gated.closed)
gated_head region sequence (payload ∷ payloads) gated =
    ap (λ (r : List ℕ). head_of (take 10 r)) gated.spelled
    ∙ open_head_of sequence open_gate ((big_bytes 4 (length payload) ++ payload) ++ flat_map frame payloads ++ gated.gate ∷ gated.rest) gated.sequence_fits

no_force_0 : (fits has_batch : Bool) (sequence : ℕ)
    → (if fits then greater None (if has_batch then Some sequence else None) else Err (1, 1)) ≡ Ok 0 → ⊥
no_force_0 true true sequence is = absurd cc
no_force_0 true false sequence is = absurd cc
no_force_0 false has_batch sequence is = absurd cc

no_force_1 : (fits has_batch : Bool) (sequence : ℕ)
    → (if fits then greater (if has_batch then Some sequence else None) None else Err (0, 1)) ≡ Ok 1 → ⊥
no_force_1 true true sequence is = absurd cc
no_force_1 true false sequence is = absurd cc
no_force_1 false has_batch sequence is = absurd cc

closed_0 : (second : Head) → in_force closed second ≡ Ok 0 → ⊥
closed_0 closed is = absurd cc
closed_0 (open_head sequence has_batch) is = no_force_0 (is_sequence_of 1 sequence) has_batch sequence is

closed_1 : (first : Head) → in_force first closed ≡ Ok 1 → ⊥
closed_1 closed is = absurd cc
closed_1 (open_head sequence has_batch) is = no_force_1 (is_sequence_of 0 sequence) has_batch sequence is

-- a half with a closed head is not in force
pub closed_is_not_in_force : (layout : Layout) (image : List ℕ) (half : ℕ) → half < 2 → 10 ≤ layout.manifest
    → IsClosed (region_of (half_of layout half) image) → half_in_force layout image ≡ Ok half → ⊥
closed_is_not_in_force layout image zero lt size is force =
    let head = head_is (half_of layout 0) image size ∙ closed_head (region_of (half_of layout 0) image) is in
    closed_0 (head_in (half_of layout 1) image) (subst (λ (h : Head). in_force h (head_in (half_of layout 1) image) ≡ Ok 0) head force)
closed_is_not_in_force layout image (suc zero) lt size is force =
    let head = head_is (half_of layout 1) image size ∙ closed_head (region_of (half_of layout 1) image) is in
    closed_1 (head_in (half_of layout 0) image) (subst (λ (h : Head). in_force (head_in (half_of layout 0) image) h ≡ Ok 1) head force)
closed_is_not_in_force layout image (suc (suc n)) lt size is force = absurd (omega (arith, lt))

apart_by : (layout : Layout) (half : ℕ) → half < 2 → AreApart (half_of layout half) (half_of layout (1 - half))
apart_by layout zero lt = inl (omega arith)
apart_by layout (suc zero) lt = inr (omega arith)
apart_by layout (suc (suc n)) lt = absurd (omega (arith, lt))

apart_of : (layout : Layout) (half : ℕ) → half < 2 → (ranges : List (ℕ × ℕ)) → HalvesApart layout ranges
    → IsApart (half_of layout half) ranges × IsApart (half_of layout (1 - half)) ranges
apart_of layout zero lt ranges both = both
apart_of layout (suc zero) lt ranges both = (both.1, both.0)
apart_of layout (suc (suc n)) lt ranges both = absurd (omega (arith, lt))

force_by : (layout : Layout) (half : ℕ) → half < 2 → (old new : List ℕ)
    → head_in (half_of layout half) new ≡ head_in (half_of layout half) old
    → head_in (half_of layout (1 - half)) new ≡ head_in (half_of layout (1 - half)) old → half_in_force layout new ≡ half_in_force layout old
force_by layout zero lt old new one other = λ i. in_force (one i) (other i)
force_by layout (suc zero) lt old new one other = λ i. in_force (other i) (one i)
force_by layout (suc (suc n)) lt old new one other = absurd (omega (arith, lt))

module _ (layout : Layout) (half : ℕ) (lt : half < 2) where
  -- the other half lies apart from it
  pub halves_apart : AreApart (half_of layout half) (half_of layout (1 - half))
  halves_apart = apart_by layout half lt

  -- and where nothing is pending in either, nothing is in each
  pub half_apart : (ranges : List (ℕ × ℕ)) → HalvesApart layout ranges → IsApart (half_of layout half) ranges × IsApart (half_of layout (1 - half)) ranges
  half_apart ranges both = apart_of layout half lt ranges both

  -- the half in force is the same where both heads are
  pub same_force : (old new : List ℕ) → head_in (half_of layout half) new ≡ head_in (half_of layout half) old
      → head_in (half_of layout (1 - half)) new ≡ head_in (half_of layout (1 - half)) old → half_in_force layout new ≡ half_in_force layout old
  same_force old new one other = force_by layout half lt old new one other
