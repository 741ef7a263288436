-- No image is refused at two places.
use Rattle.std.proofs.Common.{◌≡◌, ◌∙◌, ◌⊎◌, inl, inr, ⊎_elim, ℕ, List, Result, Ok, Err, refl, sym, ap, subst, length, arith}
use Rattle.hse_fields.specs.LogText.{Entry}
use Rattle.hse_rows.specs.machine.TakenRuns.{numbers_of}
use Rattle.gate_log.specs.Places.{region_of}
use Rattle.gate_log.specs.Reading.{Ends}
use Rattle.gate_log.specs.declared.front.End.{End}
use Rattle.gate_log.specs.declared.front.End.TheVariants.{Closed}
use Rattle.gate_log.specs.laws.OneFront.{one_front, front_not_closed}
use Rattle.device_layout.specs.Layouts.{params_of}
use Rattle.device_layout.specs.Superblock.{says, refused}
use Rattle.device_layout.specs.laws.Superblocks.{says_size}
use Rattle.device_layout.specs.declared.layout.Layout.{Layout}
use Rattle.device_layout.specs.declared.params.Params.{Params}
use Rattle.manifest.specs.Half.{IsMetadata, IsRefused}
use Rattle.manifest.specs.Metadata.{Metadata}
use Rattle.manifest.specs.laws.OneManifest.{one_held, one_refusal, not_refused}
use Rattle.wal.specs.Numbering.{Numbers, taken_from}
use Rattle.wal.specs.Replaying.{segment_of}
use Rattle.recovery.specs.Image.{HasLayout, HasLog, Log, before_log, block_in, log_region, longest_value, prefixes_of}
use Rattle.recovery.specs.Refused.{HasGap, IsLogRefused, IsManifestRefused, IsNotFormed, IsSuperRefused, IsTextRefused, IsUnread, LacksSegment, NamesUnknown}
use Rattle.recovery.specs.declared.region.Region.{Region}
use Rattle.recovery.specs.declared.region.Region.TheVariants.{Super, Manifest, Log as LogSegment, Slot}
use Rattle.recovery.proofs.OneLoading.{one_layout, one_log}

says_no_place : (p : Params) (place : ℕ) → says p ≡ refused place → ⊥
says_no_place p place is = cc

same_place : (p q : ℕ) → refused p ≡ refused q → p ≡ q
same_place p q is = cc

abbrev read : List Entry × Numbers → Result (List Entry × Numbers) ℕ
read x = Ok x

abbrev unread : ℕ → Result (List Entry × Numbers) ℕ
unread place = Err place

read_no_place : (x : List Entry × Numbers) (place : ℕ) → read x ≡ unread place → ⊥
read_no_place x place is = cc

same_unread : (p q : ℕ) → unread p ≡ unread q → p ≡ q
same_unread p q is = cc

module _ (image : List ℕ) where
  super_super : (p q : ℕ) → IsSuperRefused image p → IsSuperRefused image q → p ≡ q
  super_super p q (inl a) (inl b) = a.1 ∙ sym b.1
  super_super p q (inl a) (inr b) = absurd (omega (arith, a.0, b.0))
  super_super p q (inr a) (inl b) = absurd (omega (arith, a.0, b.0))
  super_super p q (inr a) (inr b) = same_place p q (sym a.1 ∙ b.1)

  super_layout : (p : ℕ) (layout : Layout) → IsSuperRefused image p → HasLayout image layout → ⊥
  super_layout p layout (inl short) has = omega (arith, short.0, says_size (length image) (params_of layout) (block_in image) has.says)
  super_layout p layout (inr field) has = says_no_place (params_of layout) p (sym has.says ∙ field.1)

  -- a segment does not count, and has a front
  lacking_ends : (layout : Layout) (payloads : List (List ℕ)) (end : End) → LacksSegment layout image
      → Ends (region_of (log_region layout) image) 1 payloads end → ⊥
  lacking_ends layout payloads end (inl closed) ends = front_not_closed (region_of (log_region layout) image) 1 payloads end ends closed
  lacking_ends layout payloads end (inr other) ends =
      other.differs (sym (one_front (region_of (log_region layout) image) 1 other.sequence payloads other.payloads end other.end ends other.ends).0)

  text_log : (layout : Layout) (m : Metadata) (log : Log) (p : ℕ) → HasLog layout image m log → IsTextRefused layout image m p → ⊥
  text_log layout m log p has bad =
      let same = one_front (region_of (log_region layout) image) 1 1 has.payloads bad.payloads (Closed has.tail) bad.end has.ends bad.ends in
      read_no_place (log.entries, has.last) p
      (sym has.read ∙ (λ i. segment_of (prefixes_of m.stores) (longest_value layout) (before_log layout m) (same.1 i) (same.2 i)) ∙ bad.refused)

  text_text : (layout : Layout) (m : Metadata) (p q : ℕ) → IsTextRefused layout image m p → IsTextRefused layout image m q → p ≡ q
  text_text layout m p q a b =
      let same = one_front (region_of (log_region layout) image) 1 1 a.payloads b.payloads a.end b.end a.ends b.ends in
      same_unread p q (sym a.refused ∙ (λ i. segment_of (prefixes_of m.stores) (longest_value layout) (before_log layout m) (same.1 i) (same.2 i)) ∙ b.refused)

  metadata_is : (layout : Layout) (m n : Metadata) → IsMetadata layout image m → IsMetadata layout image n → m ≡ n
  metadata_is layout m n a b = (one_held layout image a.half b.half a.sequence b.sequence a.place b.place m n a.holds b.holds).3

  gap_metadata : (layout : Layout) (half : ℕ) (gap : HasGap layout image half) → IsMetadata layout image gap.metadata
  gap_metadata layout half gap = record { half = half; sequence = gap.sequence; place = gap.place; holds = gap.manifest }

  -- the refusals of a manifest, by one layout
  halves : (layout : Layout) (half other p q : ℕ) → IsRefused layout image half p ⊎ ((p ≡ 0) × HasGap layout image half)
      → IsRefused layout image other q ⊎ ((q ≡ 0) × HasGap layout image other) → (half ≡ other) × (p ≡ q)
  halves layout half other p q (inl a) (inl b) = one_refusal layout image half p other q a b
  halves layout half other p q (inl a) (inr b) = absurd (not_refused layout image b.1.metadata half p (gap_metadata layout other b.1) a)
  halves layout half other p q (inr a) (inl b) = absurd (not_refused layout image a.1.metadata other q (gap_metadata layout half a.1) b)
  halves layout half other p q (inr a) (inr b) =
      ((one_held layout image half other a.1.sequence b.1.sequence a.1.place b.1.place a.1.metadata b.1.metadata a.1.manifest b.1.manifest).0, a.0 ∙ sym b.0)

  unread_unread : (layout : Layout) (m : Metadata) (p q : ℕ) → IsUnread layout image m p → IsUnread layout image m q → p ≡ q
  unread_unread layout m p q (inl a) (inl b) = a.0 ∙ sym b.0
  unread_unread layout m p q (inl a) (inr b) = absurd (lacking_ends layout b.payloads b.end a.1 b.ends)
  unread_unread layout m p q (inr a) (inl b) = absurd (lacking_ends layout a.payloads a.end b.1 a.ends)
  unread_unread layout m p q (inr a) (inr b) = text_text layout m p q a b

  -- a log that is not read is not there
  unread_log : (layout : Layout) (m : Metadata) (log : Log) (p : ℕ) → HasLog layout image m log → IsUnread layout image m p → ⊥
  unread_log layout m log p has (inl a) = lacking_ends layout has.payloads (Closed has.tail) a.1 has.ends
  unread_log layout m log p has (inr a) = text_log layout m log p has a

  logs : (layout : Layout) (m : Metadata) (p q : ℕ) → IsUnread layout image m p ⊎ ((p ≡ 0) × NamesUnknown layout image m)
      → IsUnread layout image m q ⊎ ((q ≡ 0) × NamesUnknown layout image m) → p ≡ q
  logs layout m p q (inl a) (inl b) = unread_unread layout m p q a b
  logs layout m p q (inl a) (inr b) = absurd (unread_log layout m b.1.log p b.1.has_log a)
  logs layout m p q (inr a) (inl b) = absurd (unread_log layout m a.1.log q a.1.has_log b)
  logs layout m p q (inr a) (inr b) = a.0 ∙ sym b.0

  half_log : (layout : Layout) (half p q : ℕ) (m : Metadata) → IsMetadata layout image m → IsRefused layout image half p ⊎ ((p ≡ 0) × HasGap layout image half)
      → IsUnread layout image m q ⊎ ((q ≡ 0) × NamesUnknown layout image m) → ⊥
  half_log layout half p q m is (inl a) b = not_refused layout image m half p is a
  half_log layout half p q m is (inr a) b =
      let same = metadata_is layout a.1.metadata m (gap_metadata layout half a.1) is in
      let has = subst (λ (n : Metadata). HasLog layout image n a.1.log) same a.1.has_log in
      ⊎_elim
      (λ (one : IsUnread layout image m q). unread_log layout m a.1.log q has one)
      (λ (one : (q ≡ 0) × NamesUnknown layout image m).
      let logs = one_log layout image m a.1.log one.1.log has one.1.has_log in
      a.1.gap ((λ i. taken_from (logs i).next (numbers_of (same i).taken)) ∙ one.1.full))
      b

  manifests : (half other p q : ℕ) → IsManifestRefused image half p → IsManifestRefused image other q → (half ≡ other) × (p ≡ q)
  manifests half other p q a b =
      halves a.layout half other p q a.refused
      (subst (λ (l : Layout). IsRefused l image other q ⊎ ((q ≡ 0) × HasGap l image other)) (one_layout image b.layout a.layout b.layout_is a.layout_is) b.refused)

  manifest_log : (half p q : ℕ) → IsManifestRefused image half p → IsLogRefused image q → ⊥
  manifest_log half p q a b =
      half_log b.layout half p q b.metadata b.manifest
      (subst (λ (l : Layout). IsRefused l image half p ⊎ ((p ≡ 0) × HasGap l image half)) (one_layout image a.layout b.layout a.layout_is b.layout_is) a.refused)
      b.refused

  segments : (p q : ℕ) → IsLogRefused image p → IsLogRefused image q → p ≡ q
  segments p q a b =
      let same = one_layout image b.layout a.layout b.layout_is a.layout_is in
      let held = subst (λ (l : Layout). IsMetadata l image b.metadata) same b.manifest in
      let said = metadata_is a.layout b.metadata a.metadata held a.manifest in
      logs a.layout a.metadata p q a.refused
      (subst (λ (m : Metadata). IsUnread a.layout image m q ⊎ ((q ≡ 0) × NamesUnknown a.layout image m)) said
      (subst (λ (l : Layout). IsUnread l image b.metadata q ⊎ ((q ≡ 0) × NamesUnknown l image b.metadata)) same b.refused))

  pub one_place : (a b : Region) (p q : ℕ) → IsNotFormed image a p → IsNotFormed image b q → (a ≡ b) × (p ≡ q)
  one_place Super Super p q x y = (refl, super_super p q x y)
  one_place Super (Manifest h) p q x y = absurd (super_layout p y.layout x y.layout_is)
  one_place Super (LogSegment s) p q x y = absurd (super_layout p y.1.layout x y.1.layout_is)
  one_place Super (Slot s) p q x y = absurd y
  one_place (Manifest h) Super p q x y = absurd (super_layout q x.layout y x.layout_is)
  one_place (Manifest h) (Manifest k) p q x y = let same = manifests h k p q x y in (ap (λ (n : ℕ). Manifest n) same.0, same.1)
  one_place (Manifest h) (LogSegment s) p q x y = absurd (manifest_log h p q x y.1)
  one_place (Manifest h) (Slot s) p q x y = absurd y
  one_place (LogSegment s) Super p q x y = absurd (super_layout q x.1.layout y x.1.layout_is)
  one_place (LogSegment s) (Manifest k) p q x y = absurd (manifest_log k q p y x.1)
  one_place (LogSegment s) (LogSegment t) p q x y = (ap (λ (n : ℕ). LogSegment n) (x.0 ∙ sym y.0), segments p q x.1 y.1)
  one_place (LogSegment s) (Slot t) p q x y = absurd y
  one_place (Slot s) b p q x y = absurd x
