-- No image is both loaded and refused.
use Rattle.std.proofs.Common.{◌≡◌, ◌∙◌, ◌⊎◌, inl, inr, ⊎_elim, ℕ, List, Result, Ok, Err, sym, subst, length, arith}
use Rattle.hse_fields.specs.LogText.{Entry}
use Rattle.hse_rows.specs.machine.TakenRuns.{numbers_of}
use Rattle.gate_log.specs.Places.{region_of}
use Rattle.gate_log.specs.declared.front.End.TheVariants.{Closed}
use Rattle.gate_log.specs.laws.OneFront.{one_front, front_not_closed}
use Rattle.device_layout.specs.Layouts.{params_of}
use Rattle.device_layout.specs.Superblock.{says, refused, other_version}
use Rattle.device_layout.specs.laws.Superblocks.{says_size}
use Rattle.device_layout.specs.declared.layout.Layout.{Layout}
use Rattle.device_layout.specs.declared.params.Params.{Params}
use Rattle.manifest.specs.Half.{Holds, IsRefused}
use Rattle.manifest.specs.Metadata.{Metadata}
use Rattle.manifest.specs.laws.OneManifest.{one_held, not_refused}
use Rattle.wal.specs.Numbering.{Numbers, taken_from}
use Rattle.wal.specs.Replaying.{segment_of}
use Rattle.recovery.specs.Image.{HasLayout, HasLog, IsLoaded, Loaded, Log, NamesKnown, before_log, block_in, log_region, longest_value, prefixes_of}
use Rattle.recovery.specs.Refused.{HasGap, IsLogRefused, IsManifestRefused, IsNotFormed, IsOtherVersion, IsSuperRefused, IsTextRefused, IsUnread, LacksSegment, NamesUnknown}
use Rattle.recovery.specs.declared.region.Region.{Region}
use Rattle.recovery.specs.declared.region.Region.TheVariants.{Super, Manifest, Log as LogSegment, Slot}
use Rattle.recovery.proofs.OneLoading.{one_layout, one_log}

says_no_place : (p : Params) (place : ℕ) → says p ≡ refused place → ⊥
says_no_place p place is = cc

says_no_version : (p : Params) (version : ℕ) → says p ≡ other_version version → ⊥
says_no_version p version is = cc

abbrev read : List Entry × Numbers → Result (List Entry × Numbers) ℕ
read x = Ok x

abbrev unread : ℕ → Result (List Entry × Numbers) ℕ
unread place = Err place

read_no_place : (x : List Entry × Numbers) (place : ℕ) → read x ≡ unread place → ⊥
read_no_place x place is = cc

module _ (image : List ℕ) (loaded : Loaded) (is : IsLoaded image loaded) where
  layout_is : (layout : Layout) → HasLayout image layout → loaded.layout ≡ layout
  layout_is layout has = one_layout image loaded.layout layout is.layout has

  metadata_is : (half sequence place : ℕ) (m : Metadata) → Holds loaded.layout half sequence place image m → loaded.metadata ≡ m
  metadata_is half sequence place m held =
      (one_held loaded.layout image loaded.half half loaded.sequence sequence loaded.place place loaded.metadata m is.manifest held).3

  not_super : (place : ℕ) → IsSuperRefused image place → ⊥
  not_super place (inl short) =
      omega (arith, short.0, says_size (length image) (params_of loaded.layout) (block_in image) is.layout.says)
  not_super place (inr field) = says_no_place (params_of loaded.layout) place (sym is.layout.says ∙ field.1)

  pub not_version : (version : ℕ) → IsOtherVersion image version → ⊥
  not_version version other = says_no_version (params_of loaded.layout) version (sym is.layout.says ∙ other.1)

  no_gap : (half : ℕ) → HasGap loaded.layout image half → ⊥
  no_gap half gap =
      let same = metadata_is half gap.sequence gap.place gap.metadata gap.manifest in
      let other = subst (λ (m : Metadata). HasLog loaded.layout image m gap.log) (sym same) gap.has_log in
      let logs = one_log loaded.layout image loaded.metadata loaded.log gap.log is.log other in
      gap.gap ((λ i. taken_from (sym logs i).next (numbers_of (sym same i).taken)) ∙ is.full)

  not_manifest : (half place : ℕ) → IsManifestRefused image half place → ⊥
  not_manifest half place bad =
      let same = sym (layout_is bad.layout bad.layout_is) in
      ⊎_elim
      (λ (field : IsRefused bad.layout image half place).
      not_refused loaded.layout image loaded.metadata half place
      (record { half = loaded.half; sequence = loaded.sequence; place = loaded.place; holds = is.manifest })
      (subst (λ (l : Layout). IsRefused l image half place) same field))
      (λ (gap : (place ≡ 0) × HasGap bad.layout image half). no_gap half (subst (λ (l : Layout). HasGap l image half) same gap.1))
      bad.refused

  not_lacking : LacksSegment loaded.layout image → ⊥
  not_lacking (inl closed) = front_not_closed (region_of (log_region loaded.layout) image) 1 is.log.payloads (Closed is.log.tail) is.log.ends closed
  not_lacking (inr other) =
      other.differs (sym (one_front (region_of (log_region loaded.layout) image) 1 other.sequence is.log.payloads other.payloads (Closed is.log.tail) other.end
      is.log.ends other.ends).0)

  not_text : (place : ℕ) → IsTextRefused loaded.layout image loaded.metadata place → ⊥
  not_text place bad =
      let same = one_front (region_of (log_region loaded.layout) image) 1 1 is.log.payloads bad.payloads (Closed is.log.tail) bad.end is.log.ends bad.ends in
      read_no_place (loaded.log.entries, is.log.last) place
      (sym is.log.read
      ∙ (λ i. segment_of (prefixes_of loaded.metadata.stores) (longest_value loaded.layout) (before_log loaded.layout loaded.metadata) (same.1 i) (same.2 i))
      ∙ bad.refused)

  -- all that it names is known
  not_unknown : NamesUnknown loaded.layout image loaded.metadata → ⊥
  not_unknown bad =
      let logs = one_log loaded.layout image loaded.metadata loaded.log bad.log is.log bad.has_log in
      bad.unknown (subst (λ (l : Log). NamesKnown loaded.metadata l) logs is.named)

  not_behind : (place : ℕ) → IsUnread loaded.layout image loaded.metadata place ⊎ ((place ≡ 0) × NamesUnknown loaded.layout image loaded.metadata) → ⊥
  not_behind place (inl (inl lacks)) = not_lacking lacks.1
  not_behind place (inl (inr text)) = not_text place text
  not_behind place (inr names) = not_unknown names.1

  not_log : (place : ℕ) → IsLogRefused image place → ⊥
  not_log place bad =
      let same = sym (layout_is bad.layout bad.layout_is) in
      let held = subst (λ (l : Layout). Holds l bad.manifest.half bad.manifest.sequence bad.manifest.place image bad.metadata) same bad.manifest.holds in
      let said = sym (metadata_is bad.manifest.half bad.manifest.sequence bad.manifest.place bad.metadata held) in
      not_behind place
      (subst (λ (m : Metadata). IsUnread loaded.layout image m place ⊎ ((place ≡ 0) × NamesUnknown loaded.layout image m)) said
      (subst (λ (l : Layout). IsUnread l image bad.metadata place ⊎ ((place ≡ 0) × NamesUnknown l image bad.metadata)) same bad.refused))

  pub not_formed : (region : Region) (place : ℕ) → IsNotFormed image region place → ⊥
  not_formed Super place bad = not_super place bad
  not_formed (Manifest half) place bad = not_manifest half place bad
  not_formed (LogSegment segment) place bad = not_log place bad.1
  not_formed (Slot slot) place bad = bad
