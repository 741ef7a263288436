-- The manifest of a new device: half 1 with sequence 1, beside a half 0 with a closed head.
use Rattle.std.proofs.Common.{◌≡◌, ◌∙◌, inl, ℕ, ◌%◌, ◌≤◌, true, false, List, [], ◌∷◌, None, Ok, Err, refl, arith}
use Rattle.std.proofs.lemmas.Bool.{and_from, eq-eqb, le-leb}
use Rattle.gate_log.specs.Gates.{Gated, IsClosed}
use Rattle.gate_log.specs.Places.{region_of, tail_of}
use Rattle.device_layout.specs.Layouts.{IsGood, half_of}
use Rattle.device_layout.specs.declared.layout.Layout.{Layout}
use Rattle.manifest.specs.Half.{closed, open_head, head_in, in_force, is_sequence_of, Holds, IsRefused}
use Rattle.manifest.specs.Metadata.{Metadata, greatest_number}
use Rattle.manifest.specs.Reading.{payload_of}
use Rattle.manifest.proofs.HeadLemmas.{head_is, closed_head, gated_head}
use Rattle.manifest.proofs.RollLemmas.{first_entry}

first_fits : is_sequence_of 1 1 ≡ true
first_fits =
    let odd : 1 % 2 ≡ 1 = omega arith in
    let most : 1 ≤ greatest_number = omega arith in
    and_from _ _ (eq-eqb _ _ odd) (le-leb _ _ most)

-- half 1 is in force where it has a batch
second_force : (sequence : ℕ) → is_sequence_of 1 sequence ≡ true → in_force closed (open_head sequence true) ≡ Ok 1
second_force sequence fits = rw fits refl

-- and none is where it has none
no_force : (sequence : ℕ) → is_sequence_of 1 sequence ≡ true → in_force closed (open_head sequence false) ≡ Err (0, 0)
no_force sequence fits = rw fits refl

module _ (layout : Layout) (image : List ℕ) (good : IsGood layout) (shut : IsClosed (region_of (half_of layout 0) image)) where
  size : 10 ≤ layout.manifest
  size = omega (arith, good.params.half.least)

  first : head_in (half_of layout 0) image ≡ closed
  first = head_is (half_of layout 0) image size ∙ closed_head (region_of (half_of layout 0) image) shut

  pub first_holds : (base : List ℕ) (m : Metadata) → Gated (region_of (half_of layout 1) image) 1 (base ∷ []) → payload_of layout.stores None base ≡ Ok m
      → Holds layout 1 1 (tail_of (base ∷ [])) image m
  first_holds base m gated read =
      let second : head_in (half_of layout 1) image ≡ open_head 1 true =
      head_is (half_of layout 1) image size ∙ gated_head (region_of (half_of layout 1) image) 1 (base ∷ []) gated in
      record {
        in_force = (λ i. in_force (first i) (second i)) ∙ second_force 1 first_fits;
        payloads = base ∷ [];
        gated = gated;
        tail = refl;
        says = first_entry layout.stores base m read;
      }

  pub both_shut : IsClosed (region_of (half_of layout 1) image) → IsRefused layout image 0 0
  both_shut is =
      let second : head_in (half_of layout 1) image ≡ closed =
      head_is (half_of layout 1) image size ∙ closed_head (region_of (half_of layout 1) image) is in
      inl (λ i. in_force (first i) (second i))

  pub one_started : Gated (region_of (half_of layout 1) image) 1 [] → IsRefused layout image 0 0
  one_started gated =
      let second : head_in (half_of layout 1) image ≡ open_head 1 false =
      head_is (half_of layout 1) image size ∙ gated_head (region_of (half_of layout 1) image) 1 [] gated in
      inl ((λ i. in_force (first i) (second i)) ∙ no_force 1 first_fits)
