-- No image is of two versions, or refused and of another version.
use Rattle.std.proofs.Common.{◌≡◌, ◌∙◌, ◌⊎◌, inl, inr, ℕ, List, sym, length, arith}
use Rattle.device_layout.specs.Layouts.{params_of}
use Rattle.device_layout.specs.Superblock.{says, refused, other_version}
use Rattle.device_layout.specs.declared.layout.Layout.{Layout}
use Rattle.device_layout.specs.declared.params.Params.{Params}
use Rattle.recovery.specs.Image.{HasLayout}
use Rattle.recovery.specs.Refused.{IsNotFormed, IsOtherVersion, IsSuperRefused}
use Rattle.recovery.specs.declared.region.Region.{Region}
use Rattle.recovery.specs.declared.region.Region.TheVariants.{Super, Manifest, Log as LogSegment, Slot}

same_version : (one other : ℕ) → other_version one ≡ other_version other → one ≡ other
same_version one other is = cc

says_no_version : (p : Params) (version : ℕ) → says p ≡ other_version version → ⊥
says_no_version p version is = cc

no_version : (place version : ℕ) → refused place ≡ other_version version → ⊥
no_version place version is = cc

pub one_version : (image : List ℕ) (one other : ℕ) → IsOtherVersion image one → IsOtherVersion image other → one ≡ other
one_version image one other a b = same_version one other (sym a.1 ∙ b.1)

module _ (image : List ℕ) (version : ℕ) (other : IsOtherVersion image version) where
  not_super : (place : ℕ) → IsSuperRefused image place → ⊥
  not_super place (inl short) = omega (arith, short.0, other.0)
  not_super place (inr field) = no_version place version (sym field.1 ∙ other.1)

  no_layout : (layout : Layout) → HasLayout image layout → ⊥
  no_layout layout has = says_no_version (params_of layout) version (sym has.says ∙ other.1)

  pub not_refused_too : (region : Region) (place : ℕ) → IsNotFormed image region place → ⊥
  not_refused_too Super place bad = not_super place bad
  not_refused_too (Manifest half) place bad = no_layout bad.layout bad.layout_is
  not_refused_too (LogSegment segment) place bad = no_layout bad.1.layout bad.1.layout_is
  not_refused_too (Slot slot) place bad = bad
