-- A device with all its parts and an open gate is a new one.
use Rattle.std.proofs.Common.{◌≡◌, ◌∙◌, ℕ, zero, suc, ◌+◌, ◌-◌, ◌≤◌, List, [], ◌∷◌, length, take, drop, replicate, None, Ok, refl, sym, ap, subst, arith, length-drop}
use Rattle.std.proofs.lemmas.List.{drop-take, drop-replicate, take-replicate, length-replicate}
use Rattle.media_disk.specs.Content.{put_at, Torn}
use Rattle.gate_log.specs.Gates.{Gated, IsClosed, open_gate}
use Rattle.gate_log.specs.Places.{region_of, tail_of}
use Rattle.gate_log.specs.declared.region.Region.{Region}
use Rattle.device_layout.specs.Layouts.{IsGood, half_of, params_of, size_of_device}
use Rattle.device_layout.specs.Superblock.{IsSuperblock, says, superblock_of}
use Rattle.device_layout.specs.declared.layout.Layout.{Layout}
use Rattle.device_layout.specs.declared.params.Params.{Params}
use Rattle.device_layout.specs.laws.Superblocks.{spelled_is_read}
use Rattle.manifest.specs.Half.{Holds}
use Rattle.manifest.specs.Metadata.{Metadata}
use Rattle.manifest.specs.MayCome.{MayBeBase}
use Rattle.manifest.specs.Reading.{payload_of}
use Rattle.manifest.specs.Text.{base, base_text}
use Rattle.manifest.specs.laws.Again.{entry_again}
use Rattle.manifest.specs.laws.Sizes.{base_length_of}
use Rattle.wal.specs.Replaying.{batches_of}
use Rattle.recovery.specs.Formatting.{IsBlank, IsFilled, first_loaded, first_metadata, layout_of}
use Rattle.recovery.specs.Image.{HasLog, IsLoaded, before_log, block_in, log_region}
use Rattle.recovery.proofs.FormatLemmas.{behind_block}
use Rattle.recovery.proofs.NamedLemmas.{none_named}

closed_zeros : (n : ℕ) → IsClosed (replicate n 0)
closed_zeros zero = tt
closed_zeros (suc n) = λ is. absurd cc

-- a region of a device of zeros is closed
zero_region : (region : Region) (size : ℕ) → region.at + region.size ≤ size → IsClosed (region_of region (replicate size 0))
zero_region region size inside =
    let is : region_of region (replicate size 0) ≡ replicate region.size 0 =
    ap (λ (l : List ℕ). take region.size l) (drop-replicate region.at size 0) ∙ take-replicate region.size (size - region.at) 0 (omega arith) in
    subst IsClosed (sym is) (closed_zeros region.size)

-- so it is blank
pub zeros_blank : (layout : Layout) (seen : List ℕ) → seen ≡ replicate (size_of_device layout) 0 → IsBlank layout seen
zeros_blank layout seen is =
    let size : ℕ = size_of_device layout in
    subst (IsBlank layout) (sym is) (record {
      first = zero_region (half_of layout 0) (size_of_device layout) (omega arith);
      second = zero_region (half_of layout 1) (size_of_device layout) (omega arith);
      long = length-replicate (size_of_device layout) 0;
    })

-- a good layout is that of its parameters
pub layout_is : (layout : Layout) (params : Params) → IsGood layout → params_of layout ≡ params → layout_of params ≡ layout
layout_is layout params good is = λ i. record {
  power = (sym is i).power;
  slots = (sym is i).slots;
  manifest = (sym is i).manifest;
  log = (sym is i).log;
  version = sym good.version i;
  stores = (sym is i).stores;
}

-- the first base is read
pub first_base_read : (most : ℕ) → payload_of most None (base_text first_metadata) ≡ Ok first_metadata
first_base_read most =
    let may : MayBeBase most first_metadata = record {
      horizon = omega arith;
      first = refl;
      runs = tt;
      runs_counted = omega arith;
      stores = tt;
      stores_counted = omega arith;
    } in
    entry_again most None (base first_metadata) first_metadata may refl

-- and its batch is 30 bytes long
pub first_tail : tail_of (base_text first_metadata ∷ []) ≡ 39
first_tail = ap (λ (n : ℕ). 9 + (5 + n)) (base_length_of first_metadata)

-- an open gate changes nothing but the first byte
pub gate_torn : (seen : List ℕ) → 1 ≤ length seen → Torn 0 1 seen (put_at seen 0 (open_gate ∷ []))
gate_torn seen some = record { as_long = omega (arith, some, length-drop 1 seen); before = refl; after = refl }

-- and the first block says the layout then
open_block : (seen : List ℕ) → block_in (put_at seen 0 (open_gate ∷ [])) ≡ open_gate ∷ drop 1 (block_in seen)
open_block seen = ap (λ (l : List ℕ). open_gate ∷ l) (sym (drop-take 1 4095 seen))

module _ (layout : Layout) (good : IsGood layout) (block seen : List ℕ) (is : IsSuperblock 0 (params_of layout) block) where
  spelled : block_in seen ≡ block → IsSuperblock open_gate (params_of layout) (block_in (put_at seen 0 (open_gate ∷ [])))
  spelled head =
      let text : block_in (put_at seen 0 (open_gate ∷ [])) ≡ open_gate ∷ drop 1 block = open_block seen ∙ ap (λ (b : List ℕ). open_gate ∷ drop 1 b) head in
      record {
        rest = is.rest;
        spelled = text ∙ ap (λ (b : List ℕ). open_gate ∷ drop 1 b) is.spelled;
        zeros = is.zeros;
        long = ap length text ∙ omega (arith, is.long, length-drop 1 block);
      }

  has_log : (image : List ℕ) → Gated (region_of (log_region layout) image) 1 []
      → HasLog layout image first_metadata (record { entries = []; next = 1; place = 9 })
  unfolding batches_of
  has_log image gated = record {
    payloads = [];
    tail = record { place = 9 };
    ends = (gated, refl);
    last = before_log layout first_metadata;
    read = refl;
    next = refl;
    place = refl;
  }

  -- the whole device
  pub new_device : IsFilled layout block (base_text first_metadata) seen
      → ((image base : List ℕ) (m : Metadata) → IsGood layout → IsClosed (region_of (half_of layout 0) image)
      → Gated (region_of (half_of layout 1) image) 1 (base ∷ []) → payload_of layout.stores None base ≡ Ok m
      → Holds layout 1 1 (tail_of (base ∷ [])) image m)
      → IsLoaded (put_at seen 0 (open_gate ∷ [])) (first_loaded layout)
  new_device filled law =
      let image : List ℕ = put_at seen 0 (open_gate ∷ []) in
      let some : 1 ≤ length seen = omega (arith, filled.begun.long, good.params.half.least) in
      let torn = gate_torn seen some in
      let size : size_of_device layout ≡ length (put_at seen 0 (open_gate ∷ [])) = sym (torn.as_long ∙ filled.begun.long) in
      let first = behind_block (half_of layout 0) 1 seen (put_at seen 0 (open_gate ∷ [])) (omega arith) torn in
      let second = behind_block (half_of layout 1) 1 seen (put_at seen 0 (open_gate ∷ [])) (omega arith) torn in
      let log = behind_block (log_region layout) 1 seen (put_at seen 0 (open_gate ∷ [])) (omega arith) torn in
      record {
        layout = record {
          good = good;
          says = subst (λ (n : ℕ). superblock_of n (block_in (put_at seen 0 (open_gate ∷ []))) ≡ says (params_of layout)) size
              (spelled_is_read (params_of layout) (block_in (put_at seen 0 (open_gate ∷ []))) (spelled filled.begun.head) good.params);
        };
        manifest = subst (λ (p : ℕ). Holds layout 1 1 p (put_at seen 0 (open_gate ∷ [])) first_metadata) first_tail
            (law (put_at seen 0 (open_gate ∷ [])) (base_text first_metadata) first_metadata good (subst IsClosed (sym first) filled.begun.first)
            (subst (λ (r : List ℕ). Gated r 1 (base_text first_metadata ∷ [])) (sym second) filled.begun.second) (first_base_read layout.stores));
        log = has_log (put_at seen 0 (open_gate ∷ [])) (subst (λ (r : List ℕ). Gated r 1 []) (sym log) filled.log);
        full = refl;
        named = none_named.above;
      }
