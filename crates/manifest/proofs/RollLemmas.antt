-- The other half started with the next sequence and a base.
use Rattle.std.proofs.Common.{◌≡◌, ◌∙◌, ◌⊎◌, inl, inr, ⊎_elim, ℕ, zero, suc, ◌+◌, ◌-◌, ◌%◌, ◌<◌, ◌≤◌, ◌^◌, Bool, true, false, List, [], ◌∷◌, take, Some, None, Result, Ok, Err, refl, sym, ap, subst, arith}
use Rattle.std.specs.Prelude.{nat_lt, if◌then◌else◌}
use Rattle.std.proofs.lemmas.Bool.{cases_lt, and_parts, eqb-true, eq-eqb, le-leb, lt-ltb, le-ltb}
use Rattle.std.proofs.lemmas.List.Sums.{sum_by-cons}
use Rattle.media_disk.specs.Content.{Torn}
use Rattle.media_disk.specs.Images.{IsImage}
use Rattle.media_disk.specs.laws.Images.{image_now, one_image}
use Rattle.gate_log.specs.Crashes as region
use Rattle.gate_log.specs.Crashes.{IsWithin, ClosedOrStarted}
use Rattle.gate_log.specs.Gates.{Gated, IsClosed, first_gate}
use Rattle.gate_log.specs.Places.{AreApart, need_of, region_of}
use Rattle.gate_log.specs.laws.Ranges.{torn_twice}
use Rattle.gate_log.specs.laws.Regions.{other_region, other_within}
use Rattle.device_layout.specs.Layouts.{half_of}
use Rattle.device_layout.specs.declared.layout.Layout.{Layout}
use Rattle.manifest.specs.Half.{Head, closed, open_head, candidate, greater, head_fits, head_in, head_of, in_force, is_sequence_of, half_in_force, head_size, Holds, entries_of}
use Rattle.manifest.specs.Metadata.{Metadata}
use Rattle.manifest.specs.Reading.{payload_of}
use Rattle.manifest.specs.Writing.{HalvesApart}
use Rattle.manifest.proofs.HeadLemmas.{head_is, closed_head, gated_head, has_any, half_apart}
use Rattle.manifest.proofs.LogLemmas.{some_batch, half_head}

-- where the other half can be started, a greater sequence is left
pub is_small : {Lacks : Type 0} (sequence : ℕ) → ¬ (Lacks ⊎ (2 ^ 62 ≤ sequence)) → sequence < 2 ^ 62
is_small sequence room =
    elim (cases_lt sequence (2 ^ 62)) [ inl lt ↦ lt | inr le ↦ absurd (room (inr le)) ]

-- a base alone
pub first_entry : (most : ℕ) (payload : List ℕ) (m : Metadata) → payload_of most None payload ≡ Ok m
    → entries_of most None first_gate (payload ∷ []) ≡ Ok (Some m)
unfolding entries_of
first_entry most payload m read = rw read refl

pub fits_by : (a b : Bool) (r : Result ℕ (ℕ × ℕ)) (half : ℕ)
    → (if a then (if b then r else Err (1, 1)) else Err (0, 1)) ≡ Ok half → (a ≡ true) × (b ≡ true) × (r ≡ Ok half)
fits_by true true r half is = (refl, refl, is)
fits_by true false r half is = absurd cc
fits_by false b r half is = absurd cc

-- both heads fit where some half is in force
heads_fit : (first second : Head) (half : ℕ) → in_force first second ≡ Ok half → (head_fits 0 first ≡ true) × (head_fits 1 second ≡ true)
heads_fit first second half is =
    let parts = fits_by (head_fits 0 first) (head_fits 1 second) (greater (candidate first) (candidate second)) half is in
    (parts.0, parts.1)

-- the next sequence is one of the other half
next_sequence : (half sequence : ℕ) → half < 2 → sequence < 2 ^ 62 → is_sequence_of half sequence ≡ true → is_sequence_of (1 - half) (sequence + 1) ≡ true
next_sequence zero sequence lt small is =
    let here : sequence % 2 ≡ 0 = eqb-true _ _ (and_parts _ _ is).0 in
    let odd : (sequence + 1) % 2 ≡ 1 = omega (arith, here) in
    let most : sequence + 1 ≤ 2 ^ 62 = omega (arith, small) in
    rw (eq-eqb _ _ odd, le-leb _ _ most) refl
next_sequence (suc zero) sequence lt small is =
    let here : sequence % 2 ≡ 1 = eqb-true _ _ (and_parts _ _ is).0 in
    let even : (sequence + 1) % 2 ≡ 0 = omega (arith, here) in
    let most : sequence + 1 ≤ 2 ^ 62 = omega (arith, small) in
    rw (eq-eqb _ _ even, le-leb _ _ most) refl
next_sequence (suc (suc n)) sequence lt small is = absurd (omega (arith, lt))

-- two heads, the first of them that of this half
abbrev force : ℕ → Head → Head → Result ℕ (ℕ × ℕ)
force zero mine other = in_force mine other
force (suc n) mine other = in_force other mine

half_force : (layout : Layout) (half : ℕ) → half < 2 → (image : List ℕ)
    → half_in_force layout image ≡ force half (head_in (half_of layout half) image) (head_in (half_of layout (1 - half)) image)
half_force layout zero lt image = refl
half_force layout (suc zero) lt image = refl
half_force layout (suc (suc n)) lt image = absurd (omega (arith, lt))

mine_fits : (half sequence : ℕ) (other : Head) → half < 2 → force half (open_head sequence true) other ≡ Ok half → is_sequence_of half sequence ≡ true
mine_fits zero sequence other lt is = (heads_fit (open_head sequence true) other 0 is).0
mine_fits (suc zero) sequence other lt is = (heads_fit other (open_head sequence true) 1 is).1
mine_fits (suc (suc n)) sequence other lt is = absurd (omega (arith, lt))

-- the half stays in force beside a head that fits and has no batch
stays : (half sequence : ℕ) (other : Head) → half < 2 → is_sequence_of half sequence ≡ true → head_fits (1 - half) other ≡ true → candidate other ≡ None
    → force half (open_head sequence true) other ≡ Ok half
stays zero sequence other lt mine fits none = rw (mine, fits, none) refl
stays (suc zero) sequence other lt mine fits none = rw (fits, mine, none) refl
stays (suc (suc n)) sequence other lt mine fits none = absurd (omega (arith, lt))

-- and the other half is in force where it has a batch and the next sequence
moves : (half sequence : ℕ) → half < 2 → is_sequence_of half sequence ≡ true → is_sequence_of (1 - half) (sequence + 1) ≡ true
    → force half (open_head sequence true) (open_head (sequence + 1) true) ≡ Ok (1 - half)
moves zero sequence lt mine other =
    let less : nat_lt sequence (sequence + 1) ≡ true = lt-ltb _ _ (omega arith) in
    rw (mine, other, less) refl
moves (suc zero) sequence lt mine other =
    let less : nat_lt (sequence + 1) sequence ≡ false = le-ltb _ _ (omega arith) in
    rw (mine, other, less) refl
moves (suc (suc n)) sequence lt mine other = absurd (omega (arith, lt))

pub apart_back : (layout : Layout) (half : ℕ) → half < 2 → AreApart (half_of layout (1 - half)) (half_of layout half)
apart_back layout zero lt = inr (omega arith)
apart_back layout (suc zero) lt = inl (omega arith)
apart_back layout (suc (suc n)) lt = absurd (omega (arith, lt))

module _ (layout : Layout) (half sequence place : ℕ) (lt : half < 2) (size : 10 ≤ layout.manifest) (small : sequence < 2 ^ 62)
    (seen : List ℕ) (before : Metadata) (held : Holds layout half sequence place seen before) where
  mine : (image : List ℕ) → region_of (half_of layout half) image ≡ region_of (half_of layout half) seen
      → head_in (half_of layout half) image ≡ open_head sequence true
  mine image same =
      half_head layout half sequence place lt size image held.payloads
      (subst (λ (r : List ℕ). Gated r sequence held.payloads) (sym same) held.gated)
      (some_batch layout.stores first_gate held.payloads before held.says)

  fits : is_sequence_of half sequence ≡ true
  fits =
      mine_fits half sequence (head_in (half_of layout (1 - half)) seen) lt
      (subst (λ (h : Head). force half h (head_in (half_of layout (1 - half)) seen) ≡ Ok half) (mine seen refl)
      (sym (half_force layout half lt seen) ∙ held.in_force))

  -- the old half is in force where the other one has no batch
  old_holds : (image : List ℕ) → region_of (half_of layout half) image ≡ region_of (half_of layout half) seen
      → (other : Head) → head_in (half_of layout (1 - half)) image ≡ other → head_fits (1 - half) other ≡ true → candidate other ≡ None
      → Holds layout half sequence place image before
  old_holds image same other is other_fits none = record {
    in_force = half_force layout half lt image
        ∙ (λ i. force half (mine image same i) (is i))
        ∙ stays half sequence other lt fits other_fits none;
    payloads = held.payloads;
    gated = subst (λ (r : List ℕ). Gated r sequence held.payloads) (sym same) held.gated;
    tail = held.tail;
    says = held.says;
  }

  -- the old half is in force where the other one is as it was
  same_holds : (image : List ℕ) → region_of (half_of layout half) image ≡ region_of (half_of layout half) seen
      → region_of (half_of layout (1 - half)) image ≡ region_of (half_of layout (1 - half)) seen → Holds layout half sequence place image before
  same_holds image same others =
      let other : head_in (half_of layout (1 - half)) image ≡ head_in (half_of layout (1 - half)) seen =
      head_is (half_of layout (1 - half)) image size ∙ ap (λ (r : List ℕ). head_of (take 10 r)) others
      ∙ sym (head_is (half_of layout (1 - half)) seen size) in
      record {
        in_force = half_force layout half lt image
            ∙ (λ i. force half ((mine image same ∙ sym (mine seen refl)) i) (other i))
            ∙ sym (half_force layout half lt seen) ∙ held.in_force;
        payloads = held.payloads;
        gated = subst (λ (r : List ℕ). Gated r sequence held.payloads) (sym same) held.gated;
        tail = held.tail;
        says = held.says;
      }

  head_of_other : (image : List ℕ) (payloads : List (List ℕ)) → Gated (region_of (half_of layout (1 - half)) image) (sequence + 1) payloads
      → head_in (half_of layout (1 - half)) image ≡ open_head (sequence + 1) (has_any payloads)
  head_of_other image payloads gated =
      head_is (half_of layout (1 - half)) image size ∙ gated_head (region_of (half_of layout (1 - half)) image) (sequence + 1) payloads gated

  -- the old half is in force while the new one has no batch
  pub no_batch_holds : (image : List ℕ) → region_of (half_of layout half) image ≡ region_of (half_of layout half) seen
      → Gated (region_of (half_of layout (1 - half)) image) (sequence + 1) [] → Holds layout half sequence place image before
  no_batch_holds image same gated =
      old_holds image same (open_head (sequence + 1) false) (head_of_other image [] gated) (next_sequence half sequence lt small fits) refl

  -- and the new one is with its base
  pub new_holds : (image : List ℕ) (base : List ℕ) (after : Metadata) → region_of (half_of layout half) image ≡ region_of (half_of layout half) seen
      → Gated (region_of (half_of layout (1 - half)) image) (sequence + 1) (base ∷ []) → payload_of layout.stores None base ≡ Ok after
      → Holds layout (1 - half) (sequence + 1) (head_size - 1 + need_of base) image after
  new_holds image base after same gated read = record {
    in_force = half_force layout half lt image
        ∙ (λ i. force half (mine image same i) (head_of_other image (base ∷ []) gated i))
        ∙ moves half sequence lt fits (next_sequence half sequence lt small fits);
    payloads = base ∷ [];
    gated = gated;
    tail = omega (arith, sum_by-cons need_of base []);
    says = first_entry layout.stores base after read;
  }

  abbrev pub Within : List (ℕ × ℕ) → List ℕ → Type 0
  Within ranges image = IsWithin (half_of layout (1 - half)) (IsImage seen ranges) image

  -- the old metadata where they were, or the new ones with this batch alone in the other half
  abbrev pub OldOrNew : List ℕ → Metadata → List ℕ → Type 0
  OldOrNew base after image =
      Holds layout half sequence place image before ⊎ Holds layout (1 - half) (sequence + 1) (head_size - 1 + need_of base) image after

  -- what a crash within the start leaves
  pub start_crash : (ranges : List (ℕ × ℕ)) (base : List ℕ) (after : Metadata) → HalvesApart layout ranges → (image : List ℕ)
      → Within ranges image × ClosedOrStarted (region_of (half_of layout (1 - half)) seen) (sequence + 1) (region_of (half_of layout (1 - half)) image)
      → Within ranges image × OldOrNew base after image
  start_crash ranges base after apart image left =
      let same = other_within (half_of layout (1 - half)) (half_of layout half) ranges seen image (apart_back layout half lt)
      (half_apart layout half lt ranges apart).0 left.0 in (
        left.0,
        inl (⊎_elim
            (λ closed_or_same. ⊎_elim
            (λ (is : IsClosed (region_of (half_of layout (1 - half)) image)).
            old_holds image same closed
            (head_is (half_of layout (1 - half)) image size ∙ closed_head (region_of (half_of layout (1 - half)) image) is) refl refl)
            (λ (is : region_of (half_of layout (1 - half)) image ≡ region_of (half_of layout (1 - half)) seen). same_holds image same is)
            closed_or_same)
            (λ (gated : Gated (region_of (half_of layout (1 - half)) image) (sequence + 1) []). no_batch_holds image same gated)
            left.1),
      )

  -- what a crash within the append behind it leaves
  pub base_crash : (ranges : List (ℕ × ℕ)) (started : List ℕ) (pending : List (ℕ × ℕ)) (base : List ℕ) (after : Metadata)
      → Torn (half_of layout (1 - half)).at layout.manifest seen started → pending ≡ [] → payload_of layout.stores None base ≡ Ok after → (image : List ℕ)
      → IsWithin (half_of layout (1 - half)) (IsImage started pending) image
      × region.OldOrNew (sequence + 1) [] base (region_of (half_of layout (1 - half)) image)
      → Within ranges image × OldOrNew base after image
  base_crash ranges started pending base after first none read image left =
      let was : left.0.old ≡ started = one_image started pending left.0.old none left.0.was in
      let second = subst (λ (l : List ℕ). Torn (half_of layout (1 - half)).at layout.manifest l image) was left.0.same in
      let torn = torn_twice (half_of layout (1 - half)).at layout.manifest seen started image first second in
      let same = other_region (half_of layout (1 - half)) (half_of layout half) seen image (apart_back layout half lt) torn in (
        record { old = seen; was = image_now seen ranges; same = torn },
        ⊎_elim
            (λ (gated : Gated (region_of (half_of layout (1 - half)) image) (sequence + 1) []). inl (no_batch_holds image same gated))
            (λ (gated : Gated (region_of (half_of layout (1 - half)) image) (sequence + 1) (base ∷ [])).
            inr (new_holds image base after same gated read))
            left.1,
      )
