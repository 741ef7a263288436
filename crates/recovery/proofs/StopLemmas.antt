-- What a device that stops while it is formatted is left as.
use Rattle.std.proofs.Common.{◌≡◌, ◌∙◌, ◌⊎◌, inl, inr, ⊎_elim, ℕ, ◌≤◌, Bool, true, false, List, [], ◌∷◌, length, drop, refl, sym, ap, subst, arith}
use Rattle.std.specs.Prelude.{◌==◌}
use Rattle.std.proofs.lemmas.Bool.{eqb-true}
use Rattle.media_disk.specs.Content.{put_at, Torn}
use Rattle.media_disk.specs.Images.{IsImage, OnlyNow}
use Rattle.media_disk.specs.Leaves.{LeavesOnly}
use Rattle.media_disk.specs.declared.device.Device.{Ghosts}
use Rattle.media_disk.specs.laws.Images.{one_image, torn_same}
use Rattle.gate_log.specs.Crashes.{IsWithin, ClosedOrStarted}
use Rattle.gate_log.specs.Gates.{Gated, IsClosed, open_gate}
use Rattle.gate_log.specs.Places.{AreApart, region_of}
use Rattle.gate_log.specs.declared.region.Region.{Region}
use Rattle.gate_log.specs.laws.Ranges.{torn_twice}
use Rattle.gate_log.specs.laws.Regions.{other_region}
use Rattle.hse_rows.specs.machine.Sizes.{device_block}
use Rattle.device_layout.specs.Layouts.{IsGood, half_of, params_of, size_of_device}
use Rattle.device_layout.specs.Superblock.{IsSuperblock, refused, superblock_of}
use Rattle.device_layout.specs.declared.layout.Layout.{Layout}
use Rattle.manifest.specs.Half.{IsRefused}
use Rattle.recovery.specs.Formatting.{IsBlank, IsStopped, first_loaded}
use Rattle.recovery.specs.Image.{IsLoaded, block_in}
use Rattle.recovery.proofs.FormatLemmas.{behind_block, before_region}

-- ---- pending writes

one_range : (n : ℕ) (old new image : List ℕ) → Torn 0 n old new → IsImage new ((0, n) ∷ []) image → Torn 0 n old image
one_range n old new image first (torn, second, is) = subst (λ (l : List ℕ). Torn 0 n old l) (sym is) (torn_twice 0 n old new torn first second)

-- after a write to a device on which nothing was pending
pub after_write : (n : ℕ) (old new image : List ℕ) (before ranges : List (ℕ × ℕ)) → before ≡ [] → Torn 0 n old new
    → ranges ≡ (0, n) ∷ before → IsImage new ranges image → Torn 0 n old image
after_write n old new image before ranges none torn is left =
    one_range n old new image torn (subst (λ (r : List (ℕ × ℕ)). IsImage new r image) (is ∙ ap (λ (r : List (ℕ × ℕ)). (0, n) ∷ r) none) left)

-- and after one that failed
pub after_failure : (n : ℕ) (old new image : List ℕ) (before ranges : List (ℕ × ℕ)) → before ≡ [] → Torn 0 n old new
    → (ranges ≡ (0, n) ∷ before) ⊎ ((ranges ≡ before) × (new ≡ old)) → IsImage new ranges image → Torn 0 n old image
after_failure n old new image before ranges none torn (inl is) left = after_write n old new image before ranges none torn is left
after_failure n old new image before ranges none torn (inr (is, same)) left =
    subst (λ (l : List ℕ). Torn 0 n old l) (sym (one_image new ranges image (is ∙ none) left ∙ same)) (torn_same 0 n old)

-- ---- before the base is there

module _ (layout : Layout) (good : IsGood layout)
    (shut : (image : List ℕ) → IsGood layout → IsClosed (region_of (half_of layout 0) image) → IsClosed (region_of (half_of layout 1) image) → IsRefused layout image 0 0)
    (started : (image : List ℕ) → IsGood layout → IsClosed (region_of (half_of layout 0) image) → Gated (region_of (half_of layout 1) image) 1 [] → IsRefused layout image 0 0)
    (seen : List ℕ) (blank : IsBlank layout seen) (n : ℕ) (long : n ≡ device_block) where
  low : (half : ℕ) → n ≤ (half_of layout half).at
  low half = omega (arith, long)

  -- the first block torn
  pub stopped_blank : (image : List ℕ) → Torn 0 n seen image → IsStopped layout image
  stopped_blank image torn = record {
    long = torn.as_long ∙ blank.long;
    left = inr (inl (shut image good (subst IsClosed (sym (behind_block (half_of layout 0) n seen image (low 0) torn)) blank.first)
        (subst IsClosed (sym (behind_block (half_of layout 1) n seen image (low 1) torn)) blank.second)));
  }

  -- and half 1 being started
  pub stopped_start : (written image : List ℕ) (before ranges : List (ℕ × ℕ)) → before ≡ [] → Torn 0 n seen written → ranges ≡ (0, n) ∷ before
      → IsWithin (half_of layout 1) (IsImage written ranges) image
      × ClosedOrStarted (region_of (half_of layout 1) written) 1 (region_of (half_of layout 1) image)
      → IsStopped layout image
  stopped_start written image before ranges none torn is left =
      let was = after_write n seen written left.0.old before ranges none torn is left.0.was in
      let apart : AreApart (half_of layout 1) (half_of layout 0) = inr (omega arith) in
      let first = other_region (half_of layout 1) (half_of layout 0) left.0.old image apart left.0.same
      ∙ behind_block (half_of layout 0) n seen left.0.old (low 0) was in
      let closed = subst IsClosed (sym first) blank.first in
      let second = behind_block (half_of layout 1) n seen written (low 1) torn in
      record {
        long = left.0.same.as_long ∙ was.as_long ∙ blank.long;
        left = inr (inl (⊎_elim
            (λ closed_or_same. ⊎_elim
            (λ (other : IsClosed (region_of (half_of layout 1) image)). shut image good closed other)
            (λ (same : region_of (half_of layout 1) image ≡ region_of (half_of layout 1) written).
            shut image good closed (subst IsClosed (sym (same ∙ second)) blank.second))
            closed_or_same)
            (λ (gated : Gated (region_of (half_of layout 1) image) 1 []). started image good closed gated)
            left.1));
      }

  -- all moments since the device was blank
  pub stopped_since : {D : Type 0} (g : Ghosts D) → OnlyNow g → g.tells → (old new : D) → g.seen old ≡ seen → g.pending old ≡ []
      → LeavesOnly g old new (IsStopped layout) → (image : List ℕ) → g.could new (g.clock old) image → IsStopped layout image
  stopped_since g only told old new is none leaves image left =
      ⊎_elim
      (λ (was : g.could old (g.clock old) image).
      let same : image ≡ seen = one_image (g.seen old) (g.pending old) image none (only old image told was) ∙ is in
      stopped_blank image (subst (λ (l : List ℕ). Torn 0 n seen l) (sym same) (torn_same 0 n seen)))
      (λ (has : IsStopped layout image). has)
      (leaves (g.clock old) image (omega arith) left)

-- ---- behind a closed gate

closed_block : (layout : Layout) (size : ℕ) (block : List ℕ) → IsSuperblock 0 (params_of layout) block → superblock_of size block ≡ refused 0
unfolding superblock_of
closed_block layout size block is = ap (superblock_of size) is.spelled

module _ (layout : Layout) (good : IsGood layout) (block : List ℕ) (is : IsSuperblock 0 (params_of layout) block) where
  pub stopped_closed : (image : List ℕ) → block_in image ≡ block → length image ≡ size_of_device layout → IsStopped layout image
  stopped_closed image head long = record {
    long = long;
    left = inl (inr (omega (arith, long), ap (superblock_of (length image)) head ∙ closed_block layout (length image) block is));
  }

  -- a change within a region behind the first block, where nothing was pending
  pub stopped_within : (region : Region) (seen image : List ℕ) (ranges : List (ℕ × ℕ)) → device_block ≤ region.at → block_in seen ≡ block
      → length seen ≡ size_of_device layout → ranges ≡ [] → IsWithin region (IsImage seen ranges) image → IsStopped layout image
  stopped_within region seen image ranges low head long none within =
      let same = one_image seen ranges within.old none within.was in
      let torn = subst (λ (l : List ℕ). Torn region.at region.size l image) same within.same in
      stopped_closed image (before_region region seen image low torn ∙ head) (torn.as_long ∙ long)

-- ---- the gate

other_gate : (byte size : ℕ) (rest : List ℕ) → (byte == open_gate) ≡ false → superblock_of size (byte ∷ rest) ≡ refused 0
unfolding superblock_of
other_gate byte size rest is = rw is refl

by_byte : (layout : Layout) (byte : ℕ) (rest seen : List ℕ) (is_open : Bool) → (byte == open_gate) ≡ is_open → rest ≡ drop 1 seen
    → length (byte ∷ rest) ≡ size_of_device layout → IsLoaded (put_at seen 0 (open_gate ∷ [])) (first_loaded layout) → IsStopped layout (byte ∷ rest)
by_byte layout byte rest seen true is same long loaded =
    let whole : byte ∷ rest ≡ put_at seen 0 (open_gate ∷ []) = λ i. eqb-true byte open_gate is i ∷ same i in
    record { long = long; left = inr (inr (subst (λ (l : List ℕ). IsLoaded l (first_loaded layout)) (sym whole) loaded)) }
by_byte layout byte rest seen false is same long loaded =
    let refused_at : superblock_of (length (byte ∷ rest)) (block_in (byte ∷ rest)) ≡ refused 0 = other_gate byte (length (byte ∷ rest)) _ is in
    record { long = long; left = inl (inr (omega (arith, long), refused_at)) }

pub stopped_gate : (layout : Layout) (seen image : List ℕ) → length seen ≡ size_of_device layout → Torn 0 1 seen image
    → IsLoaded (put_at seen 0 (open_gate ∷ [])) (first_loaded layout) → IsStopped layout image
stopped_gate layout seen [] long torn loaded =
    let none : 0 ≡ size_of_device layout = torn.as_long ∙ long in
    absurd (omega (arith, none))
stopped_gate layout seen (byte ∷ rest) long torn loaded =
    by_byte layout byte rest seen (byte == open_gate) refl torn.after (torn.as_long ∙ long) loaded
