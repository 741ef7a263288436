-- The blocks of a set's keys, each with the number of keys before it.
use Rattle.std.specs.Prelude.{◌≡◌, ◌+◌, ◌≤◌, ◌^◌, ℕ, zero, suc, Bool, true, false, nat_lt, List, [], ◌∷◌, length, map, slice_get, Option, Some, None}
use Rattle.std.specs.List.{flat_map}
use Rattle.std.specs.Ordering.{nat_cmp, is_gt}
use Rattle.std.specs.Cmp.Lexicographic.{slice_cmp}
use Rattle.hse_fields.specs.BlockText.{KeyEntry}
use Rattle.kblock.specs.Form.{AreKeys}
use Rattle.kblock.specs.Opened.{entries_of}
use Rattle.kvset.specs.declared.keys.KeyPart.{KeyPart}
use Rattle.kvset.specs.declared.keys.Aim.{Aim}
use Rattle.kvset.specs.declared.keys.Aim.TheVariants.{Key, At}

-- the keys of a block, and all keys, in order
abbrev pub keys_in : KeyPart → List KeyEntry
keys_in part = entries_of part.block

abbrev pub all_keys : List KeyPart → List KeyEntry
all_keys parts = flat_map keys_in parts

abbrev pub blocks_of : List KeyPart → List (List (List KeyEntry))
blocks_of parts = map (λ (part : KeyPart). part.block) parts

abbrev pub part_slots : List KeyPart → List ℕ
part_slots parts = map (λ (part : KeyPart). part.slot) parts

-- each block has a key, and its number is that of the keys before it
abbrev pub AreNumbered : ℕ → List KeyPart → Type 0
AreNumbered before [] = Unit {0}
AreNumbered before (part ∷ parts) =
    (part.before ≡ before) × (1 ≤ length (keys_in part)) × AreNumbered (before + length (keys_in part)) parts

pub record AreParts (parts : List KeyPart) : Type 0 where
  pub numbered : AreNumbered 0 parts
  pub keys : AreKeys None (all_keys parts)
  pub few : length (all_keys parts) ≤ 2 ^ 62

-- whether entries begin above a key
abbrev pub begin_above : List ℕ → List KeyEntry → Bool
begin_above key [] = true
begin_above key (entry ∷ entries) = is_gt (slice_cmp nat_cmp entry.key key)

-- whether a block begins behind what is looked for
abbrev pub is_behind : Aim → KeyPart → Bool
is_behind (Key key) part = begin_above key.now (keys_in part)
is_behind (At at) part = nat_lt at part.before

-- the same of the block at an index; behind the last one there is none, which counts as behind
abbrev pub behind_at : Aim → Option KeyPart → Bool
behind_at aim None = true
behind_at aim (Some part) = is_behind aim part

-- the last one of so many blocks is not behind what is looked for
abbrev pub IsUpTo : Aim → List KeyPart → ℕ → Type 0
IsUpTo aim parts zero = Unit {0}
IsUpTo aim parts (suc i) = behind_at aim (slice_get parts i) ≡ false
