-- Each image has metadata, or is refused in one of its halves.
use Rattle.std.proofs.Common.{◌≡◌, inl, inr, ⊎_elim, ℕ, zero, suc, ◌+◌, ◌*◌, ◌≤◌, ◌<◌, List, length, drop, Bool, true, false, Option, Some, None, Result, Ok, Err, refl, ap, arith, length-drop}
use Rattle.std.specs.Prelude.{if◌then◌else◌, nat_lt}
use Rattle.std.proofs.lemmas.List.{length-take}
use Rattle.hse_fields.specs.LogReading.{◌>>=◌}
use Rattle.hse_fields.specs.laws.Fields.{IsBytes, IsBytes-take, IsBytes-drop}
use Rattle.gate_log.specs.Gates.{IsClosed, first_gate}
use Rattle.gate_log.specs.Places.{region_of}
use Rattle.gate_log.specs.Reading.{Ends}
use Rattle.gate_log.specs.declared.front.End.{End}
use Rattle.gate_log.specs.declared.front.End.TheVariants.{Closed, CutOff}
use Rattle.gate_log.specs.declared.region.Tail.{Tail}
use Rattle.device_layout.specs.Layouts.{IsGood, half_of, size_of_device}
use Rattle.device_layout.specs.declared.layout.Layout.{Layout}
use Rattle.manifest.specs.Half.{candidate, greater, head_fits, head_in, half_in_force, HasReading, IsMetadata, entries_of, metadata_in, says_of}
use Rattle.manifest.specs.Metadata.{Metadata}
use Rattle.manifest.specs.laws.Fronts.{Opened, each_region}
use Rattle.manifest.proofs.HeadLemmas.{closed_is_not_in_force}
use Rattle.manifest.proofs.RollLemmas.{fits_by}

abbrev one_is : ℕ → Result ℕ (ℕ × ℕ)
one_is half = Ok half

abbrev refused_is : ℕ × ℕ → Result ℕ (ℕ × ℕ)
refused_is place = Err place

half_is : (x half : ℕ) → one_is x ≡ one_is half → x ≡ half
half_is x half is = cc

greater_by : (less : Bool) (half : ℕ) → (if less then one_is 1 else one_is 0) ≡ one_is half → half < 2
greater_by true half is = omega (arith, half_is 1 half is)
greater_by false half is = omega (arith, half_is 0 half is)

none_is : (half : ℕ) → refused_is (0, 0) ≡ one_is half → ⊥
none_is half is = cc

of_two : (first second : Option ℕ) (half : ℕ) → greater first second ≡ Ok half → half < 2
of_two None None half is = absurd (none_is half is)
of_two (Some a) None half is = omega (arith, half_is 0 half is)
of_two None (Some b) half is = omega (arith, half_is 1 half is)
of_two (Some a) (Some b) half is = greater_by (nat_lt a b) half is

-- a half in force is one of the two
one_of_two : (layout : Layout) (image : List ℕ) (half : ℕ) → half_in_force layout image ≡ Ok half → half < 2
one_of_two layout image half is =
    let first = head_in (half_of layout 0) image in
    let second = head_in (half_of layout 1) image in
    let parts = fits_by (head_fits 0 first) (head_fits 1 second) (greater (candidate first) (candidate second)) half is in
    of_two (candidate first) (candidate second) half parts.2

abbrev said : Metadata → Result Metadata ℕ
said m = Ok m

abbrev unsaid : ℕ → Result Metadata ℕ
unsaid place = Err place

said_is : (n m : Metadata) → said n ≡ said m → n ≡ m
said_is n m is = cc

not_said : (place : ℕ) (m : Metadata) → unsaid place ≡ said m → ⊥
not_said place m is = cc

said_closed : (read : Result (Option Metadata) ℕ) (tail : Tail) (m : Metadata) → (read >>= λ x. says_of x (Closed tail)) ≡ Ok m → read ≡ Ok (Some m)
said_closed (Ok (Some n)) tail m is = ap (λ (x : Metadata). Ok (Some x)) (said_is n m is)
said_closed (Ok None) tail m is = absurd (not_said first_gate m is)
said_closed (Err place) tail m is = absurd (not_said place m is)

said_cut_off : (read : Result (Option Metadata) ℕ) (place : ℕ) (m : Metadata) → (read >>= λ x. says_of x (CutOff place)) ≡ Ok m → ⊥
said_cut_off (Ok (Some n)) place m is = not_said place m is
said_cut_off (Ok None) place m is = not_said place m is
said_cut_off (Err left) place m is = not_said left m is

module _ (layout : Layout) (image : List ℕ) (half : ℕ) (force : half_in_force layout image ≡ Ok half) where
  says : (sequence : ℕ) (payloads : List (List ℕ)) (end : End) → Ends (region_of (half_of layout half) image) sequence payloads end
      → (m : Metadata) → metadata_in layout.stores payloads end ≡ Ok m → IsMetadata layout image m
  says sequence payloads (Closed tail) ends m is = record {
    half = half;
    sequence = sequence;
    place = tail.place;
    holds = record {
      in_force = force;
      payloads = payloads;
      gated = ends.0;
      tail = ends.1;
      says = said_closed (entries_of layout.stores None first_gate payloads) tail m is;
    };
  }
  says sequence payloads (CutOff place) ends m is = absurd (said_cut_off (entries_of layout.stores None first_gate payloads) place m is)

  by_batches : (opened : Opened (region_of (half_of layout half) image)) (read : Result Metadata ℕ)
      → metadata_in layout.stores opened.payloads opened.end ≡ read → HasReading layout image
  by_batches opened (Ok m) is = inl (m, says opened.sequence opened.payloads opened.end opened.ends m is)
  by_batches opened (Err place) is = inr (
    half,
    place,
    inr (record {
      in_force = force;
      sequence = opened.sequence;
      payloads = opened.payloads;
      end = opened.end;
      ends = opened.ends;
      refused = is;
    }),
  )

half_long : (layout : Layout) (image : List ℕ) (half : ℕ) → half < 2 → IsGood layout → size_of_device layout ≤ length image
    → 10 ≤ length (region_of (half_of layout half) image)
half_long layout image zero lt good inside =
    omega (arith, length-take layout.manifest (drop (4096 + 0 * layout.manifest) image), length-drop (4096 + 0 * layout.manifest) image, good.params.half.least, inside)
half_long layout image (suc zero) lt good inside =
    omega (arith, length-take layout.manifest (drop (4096 + 1 * layout.manifest) image), length-drop (4096 + 1 * layout.manifest) image, good.params.half.least, inside)
half_long layout image (suc (suc n)) lt good inside = absurd (omega (arith, lt))

module _ (layout : Layout) (image : List ℕ) (good : IsGood layout) (inside : size_of_device layout ≤ length image) (small : IsBytes image) where
  by_force : (force : Result ℕ (ℕ × ℕ)) → half_in_force layout image ≡ force → HasReading layout image
  by_force (Err refused) is = inr (refused.0, refused.1, inl is)
  by_force (Ok half) is =
      let lt = one_of_two layout image half is in
      ⊎_elim (λ (closed : IsClosed (region_of (half_of layout half) image)). absurd (closed_is_not_in_force layout image half lt (omega (arith, good.params.half.least)) closed is))
      (λ (opened : Opened (region_of (half_of layout half) image)). by_batches layout image half is opened (metadata_in layout.stores opened.payloads opened.end) refl)
      (each_region (region_of (half_of layout half) image) (half_long layout image half lt good inside)
      (IsBytes-take layout.manifest (drop (half_of layout half).at image) (IsBytes-drop (half_of layout half).at image small)))

  pub each_image : HasReading layout image
  each_image = by_force (half_in_force layout image) refl
