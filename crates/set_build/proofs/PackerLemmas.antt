-- A packer with a row more.
use Rattle.std.proofs.Common.{◌≡◌, ℕ, ◌^◌, ◌≤◌, Bool, true, false, List, [], ◌∷◌, length, Option, Some, None, Result, Ok, Err, OnOk, Vec, refl, sym, ap, subst, ◌∙◌, arith}
use Rattle.std.specs.List.Sorted.{IsStrictlySortedBy}
use Rattle.std.specs.Option.{IsSome}
use Rattle.std.specs.declared.alloc.Global.{Global}
use Rattle.std.proofs.lemmas.List.{append-nil}
use Rattle.sorted_lists.specs.laws.Lists.{each-rest}
use Rattle.hse_rows.specs.declared.change.Change.TheVariants.{Put, Del, PDel}
use Rattle.hse_rows.specs.declared.row.Row.{Row}
use Rattle.hse_rows.specs.writes.Change.{FitsLimits}
use Rattle.hse_fields.specs.declared.block.ValuePlace.{ValuePlace}
use Rattle.hse_fields.specs.BlockText.{KeyEntry, header_size}
use Rattle.hse_fields.specs.BlockReading.{key_entry}
use Rattle.prefix_delete.specs.declared.entry.Entry.{Entry}
use Rattle.prefix_delete.specs.Prefixes.{entry_of, with_entry}
use Rattle.kblock.specs.declared.building.KeyBlockBuilder.{KeyBlockBuilder}
use Rattle.vblock.specs.declared.building.ValueBlockBuilder.{ValueBlockBuilder}
use Rattle.set_build.specs.declared.packer.Packer.{Packer}
use Rattle.set_build.specs.SetText.{Pushed, nothing, with_row, values_by_block, all_places, key_entries, key_blocks_of}
use Rattle.set_build.specs.Builders.{HoldKeys, HoldValues, with_key, with_value, entry_behind, place_behind}
use Rattle.set_build.specs.Packs.{Packs, MayFollow}
use Rattle.set_build.proofs.KeyPacking.{key-packed}
use Rattle.set_build.proofs.RowPacking.{the_row, plain-blocks, plain-placed, plain-entries, put-placed, put-entries, written-blocks, written-places, kept-blocks, kept-places, key-prefixes, more-prefixes}
use Rattle.set_build.proofs.PrefixOrder.{behind-all}

-- the packer with other parts
abbrev pub packer_with : Packer → List Entry → Vec KeyBlockBuilder Global → Vec ValueBlockBuilder Global → Packer
packer_with packer prefixes keys values = record {
  slot = packer.slot;
  writes_values = packer.writes_values;
  prefixes = prefixes;
  keys = keys;
  values = values;
}

pub ok-weaker : {T E : Type 0} {P Q : Type 0} (result : Result T E) → (P → Q) → OnOk result P → OnOk result Q
ok-weaker (Ok x) f p = f p
ok-weaker (Err e) f p = p

pub ok-weaker3 : {T E : Type 0} {P Q R S : Type 0} (result : Result T E) → (P → Q → R → S) → OnOk result P → OnOk result Q → OnOk result R → OnOk result S
ok-weaker3 (Ok x) f p q r = f p q r
ok-weaker3 (Err e) f p q r = p

-- the last row is within its limits
pub fits-limits : (p : Pushed) (row : Row) (place : Option ValuePlace) → MayFollow p row place → FitsLimits row.change
fits-limits p row place may = (each-rest (λ (r : Row). FitsLimits r.change) p.rows (row ∷ []) may.rows.within).0

is_some : (place : Option ValuePlace) → IsSome place → (at : ValuePlace) × (place ≡ Some at)
is_some (Some at) there = (at, refl)
is_some None there = absurd cc

module _ (p : Pushed) (packer : Packer) (held : Packs p packer) (n : ℕ) (place : Option ValuePlace) where
  large : header_size ≤ p.slot_size
  large = omega (arith, held.large)

  pub held-keys : HoldKeys packer.slot held.blocks packer.keys.items
  held-keys = subst (λ (s : ℕ). HoldKeys s held.blocks packer.keys.items) (sym held.slot) held.keys

  pub held-values : HoldValues packer.slot (values_by_block p) packer.values.items
  held-values = subst (λ (s : ℕ). HoldValues s (values_by_block p) packer.values.items) (sym held.slot) held.values

  pub packs-prefix : (prefix : List ℕ) → MayFollow p (the_row n (PDel prefix)) place → (list : List Entry)
      → list ≡ with_entry packer.prefixes (entry_of prefix n)
      → Packs (with_row p (the_row n (PDel prefix)) place) (packer_with packer list packer.keys packer.values)
  packs-prefix prefix may list is = record {
    slot = held.slot;
    large = held.large;
    small = held.small;
    kind = held.kind;
    rows = may.rows;
    prefixes =
        is
        ∙ ap (λ (l : List Entry). with_entry l (entry_of prefix n)) held.prefixes
        ∙ behind-all n prefix p.rows may.rows.rising
        ∙ sym (more-prefixes p.rows n prefix);
    placed = plain-placed p (the_row n (PDel prefix)) place refl held.placed;
    blocks = held.blocks;
    blocks_are = held.blocks_are ∙ ap (key_blocks_of p.slot_size) (sym (plain-entries p (the_row n (PDel prefix)) place refl held.placed ∙ append-nil (key_entries p)));
    keys = held.keys;
    values = subst (λ (l : List (List (List ℕ))). HoldValues p.slot_size l packer.values.items) (sym (plain-blocks p (the_row n (PDel prefix)) place refl)) held.values;
    few = held.few;
  }

  pub packs-del : (key : List ℕ) → MayFollow p (the_row n (Del key)) place → (keys : Vec KeyBlockBuilder Global) (e : KeyEntry)
      → e ≡ key_entry n key None → HoldKeys packer.slot (with_key packer.slot held.blocks e) keys.items
      → Packs (with_row p (the_row n (Del key)) place) (packer_with packer packer.prefixes keys packer.values)
  packs-del key may keys e is holds = record {
    slot = held.slot;
    large = held.large;
    small = held.small;
    kind = held.kind;
    rows = may.rows;
    prefixes = held.prefixes ∙ sym (key-prefixes p.rows (the_row n (Del key)) refl);
    placed = plain-placed p (the_row n (Del key)) place refl held.placed;
    blocks = with_key p.slot_size held.blocks (key_entry n key None);
    blocks_are =
        key-packed p.slot_size large (key_entries p) (key_entry n key None) held.blocks held.blocks_are
        ∙ ap (key_blocks_of p.slot_size) (sym (plain-entries p (the_row n (Del key)) place refl held.placed));
    keys = subst (λ (s : ℕ). HoldKeys s (with_key s held.blocks (key_entry n key None)) keys.items) held.slot
        (subst (λ (x : KeyEntry). HoldKeys packer.slot (with_key packer.slot held.blocks x) keys.items) is holds);
    values = subst (λ (l : List (List (List ℕ))). HoldValues p.slot_size l packer.values.items) (sym (plain-blocks p (the_row n (Del key)) place refl)) held.values;
    few = held.few;
  }

  pub packs-kept : (key value : List ℕ) → MayFollow p (the_row n (Put key value)) place → packer.writes_values ≡ false
      → (keys : Vec KeyBlockBuilder Global) (e : KeyEntry) → e ≡ key_entry n key place
      → HoldKeys packer.slot (with_key packer.slot held.blocks e) keys.items
      → Packs (with_row p (the_row n (Put key value)) place) (packer_with packer packer.prefixes keys packer.values)
  packs-kept key value may keeps keys e is holds =
      let kind : p.values ≡ false = sym held.kind ∙ keeps in
      let some = is_some place (may.has_place kind refl) in
      let at = some.0 in
      let places = kept-places p n key value place at kind some.1 in
      record {
        slot = held.slot;
        large = held.large;
        small = held.small;
        kind = held.kind;
        rows = may.rows;
        prefixes = held.prefixes ∙ sym (key-prefixes p.rows (the_row n (Put key value)) refl);
        placed = put-placed p n key value place at places held.placed;
        blocks = with_key p.slot_size held.blocks (key_entry n key (Some at));
        blocks_are =
            key-packed p.slot_size large (key_entries p) (key_entry n key (Some at)) held.blocks held.blocks_are
            ∙ ap (key_blocks_of p.slot_size) (sym (put-entries p n key value place at places held.placed));
        keys = subst (λ (s : ℕ). HoldKeys s (with_key s held.blocks (key_entry n key (Some at))) keys.items) held.slot
            (subst (λ (x : KeyEntry). HoldKeys packer.slot (with_key packer.slot held.blocks x) keys.items) (is ∙ ap (key_entry n key) some.1) holds);
        values = subst (λ (l : List (List (List ℕ))). HoldValues p.slot_size l packer.values.items) (sym (kept-blocks p n key value place kind)) held.values;
        few = held.few;
      }

  pub packs-put : (key value : List ℕ) → MayFollow p (the_row n (Put key value)) place → packer.writes_values ≡ true
      → (keys : Vec KeyBlockBuilder Global) (values : Vec ValueBlockBuilder Global) (e : KeyEntry)
      → e ≡ entry_behind packer.slot (values_by_block p) n key (length value)
      → HoldKeys packer.slot (with_key packer.slot held.blocks e) keys.items
      → HoldValues packer.slot (with_value packer.slot (values_by_block p) value) values.items → length values.items ≤ 2 ^ 32
      → Packs (with_row p (the_row n (Put key value)) place) (packer_with packer packer.prefixes keys values)
  packs-put key value may writes keys values e is holds holds-values few =
      let kind : p.values ≡ true = sym held.kind ∙ writes in
      let at = place_behind p.slot_size 0 (values_by_block p) (length value) in
      let places = written-places p n key value place kind large in
      record {
        slot = held.slot;
        large = held.large;
        small = held.small;
        kind = held.kind;
        rows = may.rows;
        prefixes = held.prefixes ∙ sym (key-prefixes p.rows (the_row n (Put key value)) refl);
        placed = put-placed p n key value place at places held.placed;
        blocks = with_key p.slot_size held.blocks (key_entry n key (Some at));
        blocks_are =
            key-packed p.slot_size large (key_entries p) (key_entry n key (Some at)) held.blocks held.blocks_are
            ∙ ap (key_blocks_of p.slot_size) (sym (put-entries p n key value place at places held.placed));
        keys = subst (λ (s : ℕ). HoldKeys s (with_key s held.blocks (entry_behind s (values_by_block p) n key (length value))) keys.items) held.slot
            (subst (λ (x : KeyEntry). HoldKeys packer.slot (with_key packer.slot held.blocks x) keys.items) is holds);
        values = subst (λ (l : List (List (List ℕ))). HoldValues p.slot_size l values.items) (sym (written-blocks p n key value place kind large))
            (subst (λ (s : ℕ). HoldValues s (with_value s (values_by_block p) value) values.items) held.slot holds-values);
        few = few;
      }

no-blocks : (slot : ℕ) (writes : Bool) → values_by_block (nothing slot writes) ≡ []
no-blocks slot true = refl
no-blocks slot false = refl

no-places : (slot : ℕ) (writes : Bool) → all_places (nothing slot writes) ≡ []
no-places slot true = refl
no-places slot false = refl

pub packs-nothing : (slot : ℕ) (writes : Bool) (list : List Entry) (keys : Vec KeyBlockBuilder Global) (values : Vec ValueBlockBuilder Global)
    → 2 ^ 16 ≤ slot → slot ≤ 2 ^ 25 → list ≡ [] → keys.items ≡ [] → values.items ≡ []
    → Packs (nothing slot writes) (record { slot = slot; writes_values = writes; prefixes = list; keys = keys; values = values })
unfolding IsStrictlySortedBy
packs-nothing slot writes list keys values large small no-list no-keys no-values = record {
  slot = refl;
  large = large;
  small = small;
  kind = refl;
  rows = record { rising = tt; within = tt };
  prefixes = no-list;
  placed = ap length (no-places slot writes);
  blocks = [];
  blocks_are = refl;
  keys = rw no-keys tt;
  values = rw (no-blocks slot writes, no-values) tt;
  few = omega (arith, ap length no-values);
}
