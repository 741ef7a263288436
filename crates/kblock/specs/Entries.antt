-- An entry whose bytes are lent, as a block has it.
use Rattle.std.specs.Prelude.{Option, Some, None}
use Rattle.hse_fields.specs.BlockText as text
use Rattle.hse_fields.specs.BlockReading.{key_entry}
use Rattle.kblock.specs.declared.entry.KeyEntry.{KeyEntry}

abbrev pub entry_of : KeyEntry → text.KeyEntry
entry_of entry = key_entry entry.number entry.key.now entry.value

-- an entry, if there is one
abbrev pub found_of : Option KeyEntry → Option text.KeyEntry
found_of (Some entry) = Some (entry_of entry)
found_of None = None
