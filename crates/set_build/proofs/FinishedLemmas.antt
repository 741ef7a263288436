-- What a packer finishes is the text of its rows.
use Rattle.std.proofs.Common.{◌≡◌, ℕ, ◌-◌, Bool, true, false, cond, List, [], length, map, Vec, refl, sym, ap, ◌∙◌, arith}
use Rattle.std.specs.List.{filter}
use Rattle.std.specs.declared.alloc.Global.{Global}
use Rattle.std.proofs.lemmas.List.{length-map}
use Rattle.std.proofs.lemmas.Simd.{map-map}
use Rattle.hse_rows.specs.declared.row.Row.{Row}
use Rattle.hse_rows.specs.rows.Packing.{filled, is_prefix, value_blocks}
use Rattle.hse_fields.specs.BlockText.{header_size, key_block_text, prefix_block_text, value_block_text}
use Rattle.prefix_delete.specs.declared.entry.Entry.{Entry}
use Rattle.prefix_delete.specs.Blocks.{in_block, block_of}
use Rattle.set_build.specs.declared.packed.Packed.{Packed}
use Rattle.set_build.specs.declared.packer.Packer.{Packer}
use Rattle.set_build.specs.SetText.{Pushed, SetText, prefix_bytes, prefix_entries, prefix_blocks_of, values_of, value_blocks_of, values_by_block, key_entries, key_blocks_of, all_places, text_of}
use Rattle.set_build.specs.Builders.{HoldsValues, all_pages, block_bytes}
use Rattle.set_build.specs.Packs.{Packs, AreCounted, bytes_of, seen, entry_size, prefix_in, prefixes_in}
use Rattle.set_build.proofs.FilledLemmas.{filled-map}
use Rattle.set_build.proofs.LastLemmas.{pairs-length}
use Rattle.set_build.proofs.CountLemmas.{prefix-count, value-count, key-count}

-- the blocks of the list are those of the rows
prefix-texts : (slot : ℕ) (rows : List Row)
    → map block_of (filled entry_size (slot - header_size) (prefixes_in rows)) ≡ map prefix_block_text (prefix_blocks_of slot (prefix_entries rows))
prefix-texts slot rows =
    sym (map-map prefix_block_text (map in_block) (filled entry_size (slot - header_size) (prefixes_in rows)))
    ∙ ap (map prefix_block_text) (
    filled-map in_block prefix_bytes (slot - header_size) (prefixes_in rows)
    ∙ ap (filled prefix_bytes (slot - header_size)) (map-map in_block prefix_in (filter (λ (row : Row). is_prefix row.change) rows))
    )

key-texts : (p : Pushed) (packer : Packer) (held : Packs p packer) → map block_bytes held.blocks ≡ map key_block_text (key_blocks_of p.slot_size (key_entries p))
key-texts p packer held = sym (map-map key_block_text all_pages held.blocks) ∙ ap (map key_block_text) held.blocks_are

value-counts : (slot : ℕ) (rows : List Row) (writes : Bool)
    → length (cond writes (value_blocks_of slot (values_of rows)) []) ≡ cond writes (length (value_blocks slot rows)) 0
value-counts slot rows true = value-count slot rows
value-counts slot rows false = refl

pub finished : (p : Pushed) (packer : Packer) (held : Packs p packer) (packed : Packed)
    → bytes_of packed.prefixes.items ≡ map block_of (filled entry_size (packer.slot - header_size) packer.prefixes)
    → bytes_of packed.keys.items ≡ map block_bytes held.blocks → bytes_of packed.values.items ≡ map value_block_text (values_by_block p)
    → seen packed ≡ text_of p
finished p packer held packed prefixes keys values =
    let is-prefixes : bytes_of packed.prefixes.items ≡ (text_of p).prefixes =
    prefixes
    ∙ ap (λ (l : List Entry). map block_of (filled entry_size (packer.slot - header_size) l)) held.prefixes
    ∙ ap (λ (s : ℕ). map block_of (filled entry_size (s - header_size) (prefixes_in p.rows))) held.slot
    ∙ prefix-texts p.slot_size p.rows in
    let is-keys : bytes_of packed.keys.items ≡ (text_of p).keys = keys ∙ key-texts p packer held in
    λ i. record { prefixes = is-prefixes i; keys = is-keys i; values = values i }

pub counted : (p : Pushed) (packer : Packer) (held : Packs p packer) (packed : Packed) → seen packed ≡ text_of p → AreCounted p packed
counted p packer held packed is =
    let bytes : (blocks : List (Vec ℕ Global)) → length blocks ≡ length (bytes_of blocks) = λ blocks. sym (length-map blocks (λ (v : Vec ℕ Global). v.items)) in
    record {
      prefixes =
          bytes packed.prefixes.items
          ∙ ap (λ (t : SetText). length t.prefixes) is
          ∙ length-map (prefix_blocks_of p.slot_size (prefix_entries p.rows)) prefix_block_text
          ∙ prefix-count p.slot_size p.rows;
      keys =
          bytes packed.keys.items
          ∙ ap (λ (t : SetText). length t.keys) is
          ∙ length-map (key_blocks_of p.slot_size (key_entries p)) key_block_text
          ∙ key-count p.slot_size p.rows (all_places p) held.placed;
      values =
          bytes packed.values.items
          ∙ ap (λ (t : SetText). length t.values) is
          ∙ length-map (values_by_block p) value_block_text
          ∙ value-counts p.slot_size p.rows p.values;
      few = omega (arith, bytes packed.values.items, ap (λ (t : SetText). length t.values) is, length-map (values_by_block p) value_block_text, pairs-length (HoldsValues p.slot_size) (values_by_block p) packer.values.items held.values, held.few);
    }
