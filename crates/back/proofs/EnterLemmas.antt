-- The device side behind an entry of the manifest.
use Rattle.std.proofs.Common.{◌≡◌, ◌∙◌, ℕ, ◌+◌, ◌-◌, ◌<◌, ◌≤◌, List, [], Some, None, Ok, refl, sym, subst, arith, inl, inr, ⊎_elim}
use Rattle.std.specs.Prelude.{if◌then◌else◌, Bool, true, false}
use Rattle.std.proofs.lemmas.Bool.{le-leb, lt-leb}
use Rattle.media_disk.specs.Content.{Torn}
use Rattle.media_disk.specs.Images.{MayLeave}
use Rattle.media_disk.specs.Leaves.{LeavesOnly}
use Rattle.media_disk.specs.declared.device.Device.{Ghosts}
use Rattle.media_disk.specs.laws.Leaves.{leaves_more}
use Rattle.gate_log.specs.Crashes.{IsWithin}
use Rattle.gate_log.specs.Places.{need_of}
use Rattle.device_layout.specs.Layouts.{half_of}
use Rattle.device_layout.specs.declared.layout.Layout.{Layout}
use Rattle.manifest.specs.Half.{Holds, head_size}
use Rattle.manifest.specs.Loading.{HoldsAt}
use Rattle.manifest.specs.MayCome.{MayCome}
use Rattle.manifest.specs.Metadata.{Metadata}
use Rattle.manifest.specs.Reading.{payload_of}
use Rattle.manifest.specs.Text.{Entry, base, create, drop, base_text, entry_text}
use Rattle.manifest.specs.Writing.{room_in, HalvesApart, IsLogged, IsRolled, LeavesHalf, OldOrLogged, OldOrRolled}
use Rattle.manifest.specs.declared.manifest.Manifest.{Manifest}
use Rattle.manifest.specs.laws.Again.{base_again}
use Rattle.recovery.specs.Image.{IsLoaded, Loaded}
use Rattle.wal.specs.declared.ring.Ring.{Ring}
use Rattle.back.specs.Bases.{AreCounted}
use Rattle.back.specs.Home.{AtRest, IsHome}
use Rattle.back.specs.Leaving.{OldOrNew}
use Rattle.back.specs.Steps.{MayEnter, has_room, logged, metadata_with, rolled, with_entry}
use Rattle.back.proofs.EntryLemmas.{entered_new, entered_old, entry_read}
use Rattle.back.proofs.RunLemmas.{taken_counted}
use Rattle.back.proofs.SyncLemmas.{half_is, none_apart, torn_of}

pub halves_apart : (layout : Layout) (pending : List (ℕ × ℕ)) → pending ≡ [] → HalvesApart layout pending
halves_apart layout pending none = (none_apart (half_of layout 0) pending none, none_apart (half_of layout 1) pending none)

holds_by : (layout other : Layout) (half half' sequence sequence' place place' : ℕ) (image : List ℕ) (m : Metadata)
    → layout ≡ other → half ≡ half' → sequence ≡ sequence' → place ≡ place' → Holds layout half sequence place image m
    → Holds other half' sequence' place' image m
holds_by layout other half half' sequence sequence' place place' image m a b c d holds =
    subst (λ (l : Layout). Holds l half' sequence' place' image m) a
    (subst (λ (h : ℕ). Holds layout h sequence' place' image m) b
    (subst (λ (s : ℕ). Holds layout half s place' image m) c
    (subst (λ (p : ℕ). Holds layout half sequence p image m) d holds)))

torn_by : (layout other : Layout) (half half' : ℕ) (old new : List ℕ) → layout ≡ other → half ≡ half'
    → Torn (half_of layout half).at layout.manifest old new → Torn (half_of other half').at other.manifest old new
torn_by layout other half half' old new a b torn =
    subst (λ (l : Layout). Torn (half_of l half').at l.manifest old new) a
    (subst (λ (h : ℕ). Torn (half_of layout h).at layout.manifest old new) b torn)

-- four bytes still count each run
entry_counted : (most : ℕ) (m : Metadata) (entry : Entry) → MayCome most (Some m) entry → AreCounted m.taken → AreCounted (metadata_with m entry).taken
entry_counted most m (base n) may are = absurd may
entry_counted most m (create store) may are = taken_counted m.taken store.id are
entry_counted most m (drop number id) may are = taken_counted m.taken number are

module _ {D : Type 0} (g : Ghosts D) (old : D) (layout : Layout) (log : Ring) (manifest : Manifest) (loaded : Loaded)
    (rest : AtRest g old layout log manifest loaded) where
  -- the manifest's place is that of what it says
  pub held : HoldsAt manifest (g.seen old) loaded.metadata
  held =
      holds_by loaded.layout manifest.layout loaded.half manifest.half loaded.sequence manifest.sequence loaded.place manifest.tail.place
      (g.seen old) loaded.metadata (sym rest.home.manifest_layout) (sym rest.home.half) (sym rest.home.sequence) (sym rest.home.place) rest.says.manifest

  held_still : (image : List ℕ) → HoldsAt manifest image loaded.metadata → Holds loaded.layout loaded.half loaded.sequence loaded.place image loaded.metadata
  held_still image holds =
      holds_by manifest.layout loaded.layout manifest.half loaded.half manifest.sequence loaded.sequence manifest.tail.place loaded.place
      image loaded.metadata rest.home.manifest_layout rest.home.half rest.home.sequence rest.home.place holds

  module _ (entry : Entry) (may : MayEnter loaded entry) where
    -- ---- an entry behind the others

    pub reads_entry : (batch : List ℕ) → batch ≡ entry_text entry
        → payload_of manifest.layout.stores (Some loaded.metadata) batch ≡ Ok (metadata_with loaded.metadata entry)
    reads_entry batch is =
        (λ i. payload_of (rest.home.manifest_layout i).stores (Some loaded.metadata) (is i))
        ∙ entry_read loaded.layout.stores loaded.metadata entry may.comes

    logged_image : (image batch : List ℕ) → batch ≡ entry_text entry → Torn (half_of manifest.layout manifest.half).at manifest.layout.manifest (g.seen old) image
        → Holds manifest.layout manifest.half manifest.sequence (manifest.tail.place + need_of batch) image (metadata_with loaded.metadata entry)
        → IsLoaded image (logged loaded entry)
    logged_image image batch is torn holds =
        entered_new loaded (g.seen old) rest.says image loaded.half (half_is g old layout log manifest loaded rest)
        (torn_by manifest.layout loaded.layout manifest.half loaded.half (g.seen old) image rest.home.manifest_layout rest.home.half torn)
        entry loaded.half loaded.sequence (loaded.place + need_of (entry_text entry)) may
        (holds_by manifest.layout loaded.layout manifest.half loaded.half manifest.sequence loaded.sequence (manifest.tail.place + need_of batch)
        (loaded.place + need_of (entry_text entry)) image (metadata_with loaded.metadata entry) rest.home.manifest_layout rest.home.half rest.home.sequence
        (λ i. rest.home.place i + need_of (is i)) holds)

    pub now_logged : (new : D) (manifest' : Manifest) (batch : List ℕ) → batch ≡ entry_text entry
        → Torn (half_of manifest.layout manifest.half).at manifest.layout.manifest (g.seen old) (g.seen new)
        → HoldsAt manifest' (g.seen new) (metadata_with loaded.metadata entry) → IsLogged manifest manifest' (need_of batch) → g.pending new ≡ []
        → AtRest g new layout log manifest' (logged loaded entry)
    now_logged new manifest' batch is torn holds step none = record {
      says = logged_image (g.seen new) batch is torn
          (holds_by manifest'.layout manifest.layout manifest'.half manifest.half manifest'.sequence manifest.sequence manifest'.tail.place
          (manifest.tail.place + need_of batch) (g.seen new) (metadata_with loaded.metadata entry) step.layout step.half step.sequence step.tail holds);
      counted = entry_counted loaded.layout.stores loaded.metadata entry may.comes rest.counted;
      still = none;
      home = record {
        layout_is = rest.home.layout_is;
        region_is = rest.home.region_is;
        log_sequence = rest.home.log_sequence;
        log_place = rest.home.log_place;
        charged = rest.home.charged;
        manifest_layout = step.layout ∙ rest.home.manifest_layout;
        half = step.half ∙ rest.home.half;
        sequence = step.sequence ∙ rest.home.sequence;
        place = step.tail ∙ (λ i. rest.home.place i + need_of (is i));
      };
    }

    pub log_leaves : (new : D) (batch : List ℕ) → batch ≡ entry_text entry
        → LeavesHalf g manifest.layout manifest.half old new (OldOrLogged manifest batch loaded.metadata (metadata_with loaded.metadata entry))
        → LeavesOnly g old new (OldOrNew loaded (logged loaded entry))
    log_leaves new batch is leaves =
        leaves_more g old new
        (λ image. IsWithin (half_of manifest.layout manifest.half) (MayLeave g old) image
        × OldOrLogged manifest batch loaded.metadata (metadata_with loaded.metadata entry) image)
        (OldOrNew loaded (logged loaded entry)) leaves (λ image has.
        let torn = torn_of (half_of manifest.layout manifest.half) (g.seen old) (g.pending old) image rest.still has.0 in
        ⊎_elim
        (λ (holds : HoldsAt manifest image loaded.metadata).
        inl (entered_old loaded (g.seen old) rest.says image loaded.half (half_is g old layout log manifest loaded rest)
        (torn_by manifest.layout loaded.layout manifest.half loaded.half (g.seen old) image rest.home.manifest_layout rest.home.half torn)
        (held_still image holds)))
        (λ (holds : Holds manifest.layout manifest.half manifest.sequence (manifest.tail.place + need_of batch) image (metadata_with loaded.metadata entry)).
        inr (logged_image image batch is torn holds))
        has.1)

    -- ---- a base in the other half

    pub reads_base : (batch : List ℕ) → batch ≡ base_text (metadata_with loaded.metadata entry)
        → payload_of manifest.layout.stores None batch ≡ Ok (metadata_with loaded.metadata entry)
    reads_base batch is =
        (λ i. payload_of (rest.home.manifest_layout i).stores None (is i))
        ∙ base_again loaded.layout.stores (metadata_with loaded.metadata entry) may.base_may

    other_torn : (image : List ℕ) → Torn (half_of manifest.layout (1 - manifest.half)).at manifest.layout.manifest (g.seen old) image
        → Torn (half_of loaded.layout (1 - loaded.half)).at loaded.layout.manifest (g.seen old) image
    other_torn image torn =
        torn_by manifest.layout loaded.layout (1 - manifest.half) (1 - loaded.half) (g.seen old) image rest.home.manifest_layout
        (λ i. 1 - rest.home.half i) torn

    rolled_image : (image batch : List ℕ) → batch ≡ base_text (metadata_with loaded.metadata entry)
        → Torn (half_of manifest.layout (1 - manifest.half)).at manifest.layout.manifest (g.seen old) image
        → Holds manifest.layout (1 - manifest.half) (manifest.sequence + 1) (head_size - 1 + need_of batch) image (metadata_with loaded.metadata entry)
        → IsLoaded image (rolled loaded entry)
    rolled_image image batch is torn holds =
        entered_new loaded (g.seen old) rest.says image (1 - loaded.half) (omega arith) (other_torn image torn)
        entry (1 - loaded.half) (loaded.sequence + 1) (head_size - 1 + need_of (base_text (metadata_with loaded.metadata entry))) may
        (holds_by manifest.layout loaded.layout (1 - manifest.half) (1 - loaded.half) (manifest.sequence + 1) (loaded.sequence + 1) (head_size - 1 + need_of batch)
        (head_size - 1 + need_of (base_text (metadata_with loaded.metadata entry))) image (metadata_with loaded.metadata entry) rest.home.manifest_layout
        (λ i. 1 - rest.home.half i) (λ i. rest.home.sequence i + 1) (λ i. head_size - 1 + need_of (is i)) holds)

    pub now_rolled : (new : D) (manifest' : Manifest) (batch : List ℕ) → batch ≡ base_text (metadata_with loaded.metadata entry)
        → Torn (half_of manifest.layout (1 - manifest.half)).at manifest.layout.manifest (g.seen old) (g.seen new)
        → HoldsAt manifest' (g.seen new) (metadata_with loaded.metadata entry) → IsRolled manifest manifest' (need_of batch) → g.pending new ≡ []
        → AtRest g new layout log manifest' (rolled loaded entry)
    now_rolled new manifest' batch is torn holds step none = record {
      says = rolled_image (g.seen new) batch is torn
          (holds_by manifest'.layout manifest.layout manifest'.half (1 - manifest.half) manifest'.sequence (manifest.sequence + 1) manifest'.tail.place
          (head_size - 1 + need_of batch) (g.seen new) (metadata_with loaded.metadata entry) step.layout step.half step.sequence step.tail holds);
      counted = entry_counted loaded.layout.stores loaded.metadata entry may.comes rest.counted;
      still = none;
      home = record {
        layout_is = rest.home.layout_is;
        region_is = rest.home.region_is;
        log_sequence = rest.home.log_sequence;
        log_place = rest.home.log_place;
        charged = rest.home.charged;
        manifest_layout = step.layout ∙ rest.home.manifest_layout;
        half = step.half ∙ (λ i. 1 - rest.home.half i);
        sequence = step.sequence ∙ (λ i. rest.home.sequence i + 1);
        place = step.tail ∙ (λ i. head_size - 1 + need_of (is i));
      };
    }

    pub roll_leaves : (new : D) (batch : List ℕ) → batch ≡ base_text (metadata_with loaded.metadata entry)
        → LeavesHalf g manifest.layout (1 - manifest.half) old new (OldOrRolled manifest batch loaded.metadata (metadata_with loaded.metadata entry))
        → LeavesOnly g old new (OldOrNew loaded (rolled loaded entry))
    roll_leaves new batch is leaves =
        leaves_more g old new
        (λ image. IsWithin (half_of manifest.layout (1 - manifest.half)) (MayLeave g old) image
        × OldOrRolled manifest batch loaded.metadata (metadata_with loaded.metadata entry) image)
        (OldOrNew loaded (rolled loaded entry)) leaves (λ image has.
        let torn = torn_of (half_of manifest.layout (1 - manifest.half)) (g.seen old) (g.pending old) image rest.still has.0 in
        ⊎_elim
        (λ (holds : HoldsAt manifest image loaded.metadata).
        inl (entered_old loaded (g.seen old) rest.says image (1 - loaded.half) (omega arith) (other_torn image torn) (held_still image holds)))
        (λ (holds : Holds manifest.layout (1 - manifest.half) (manifest.sequence + 1) (head_size - 1 + need_of batch) image (metadata_with loaded.metadata entry)).
        inr (rolled_image image batch is torn holds))
        has.1)

-- ---- which of both

with_by : (fits : Bool) (one other : Loaded) → fits ≡ true → (if fits then one else other) ≡ one
with_by fits one other is = rw is refl

without_by : (fits : Bool) (one other : Loaded) → fits ≡ false → (if fits then one else other) ≡ other
without_by fits one other is = rw is refl

module _ (layout : Layout) (log : Ring) (manifest : Manifest) (loaded : Loaded) (home : IsHome layout log manifest loaded) (entry : Entry) where
  room_is : room_in manifest ≡ loaded.layout.manifest - (loaded.place + 1)
  room_is i = (home.manifest_layout i).manifest - (home.place i + 1)

  -- the half in force has room for it
  pub is_logged : need_of (entry_text entry) ≤ room_in manifest → logged loaded entry ≡ with_entry loaded entry
  is_logged fits =
      sym (with_by (has_room loaded entry) (logged loaded entry) (rolled loaded entry)
      (le-leb (need_of (entry_text entry)) (loaded.layout.manifest - (loaded.place + 1)) (subst (λ (n : ℕ). need_of (entry_text entry) ≤ n) room_is fits)))

  -- it has not
  pub is_rolled : room_in manifest < need_of (entry_text entry) → rolled loaded entry ≡ with_entry loaded entry
  is_rolled lacks =
      sym (without_by (has_room loaded entry) (logged loaded entry) (rolled loaded entry)
      (lt-leb (need_of (entry_text entry)) (loaded.layout.manifest - (loaded.place + 1)) (subst (λ (n : ℕ). n < need_of (entry_text entry)) room_is lacks)))
