use Rattle.std.proofs.Common.{◌≡◌, ◌++◌, take, length}
use Rattle.std.specs.List.{flat_map}
use Rattle.byteorder.specs.Endian.{big_bytes}
use Rattle.hse_fields.specs.LogText.{entry_text}
use Rattle.wal.specs.Logged.{entries_of}
use Rattle.wal.proofs.encode.encode_batch.Given as goal

abbrev pub invariant-loop-commit : goal.invariant-loop-commit
invariant-loop-commit l = l.payload.items ≡ big_bytes 4 (length l.entries) ++ flat_map entry_text (entries_of (take l.commit-index l.entries))
