-- Commits of the log take of a segment's room what the machine charges for them.
use Rattle.std.proofs.Common.{◌≡◌, ◌∙◌, ◌+◌, List, [], ◌∷◌, ◌++◌, length, map, refl, arith, length-append}
use Rattle.std.specs.List.{flat_map}
use Rattle.std.proofs.lemmas.List.Sums.{sum_by-cons}
use Rattle.byteorder.specs.Endian.{big_bytes}
use Rattle.byteorder.specs.Numbers.{length-bytes_high_first}
use Rattle.hse_fields.specs.LogText as log
use Rattle.hse_fields.specs.LogText.{Entry, changes_text, change_text}
use Rattle.hse_rows.specs.declared.write.Write.{Write}
use Rattle.hse_rows.specs.writes.Charge.{change_bytes, writes_bytes, charge_of}
use Rattle.hse_rows.specs.machine.Log.{Numbered, charge_of_commits}
use Rattle.recovery.specs.Machine.{numbered_of}
use Rattle.recovery.specs.Stored.{write_in, change_by}
use Rattle.wal.specs.Charges.{charges}
use Rattle.wal.specs.Logged.{charge}

-- what stands before a change's value
head_long : (c : log.Change) → length (change_text c) ≡ 11 + length c.name + length (log.value_text c.kind c.value)
head_long c =
    omega (
      arith,
      length-append (big_bytes 1 (log.code c.kind)) (big_bytes 8 c.store ++ (log.sized 2 c.name ++ log.value_text c.kind c.value)),
      length-append (big_bytes 8 c.store) (log.sized 2 c.name ++ log.value_text c.kind c.value),
      length-append (log.sized 2 c.name) (log.value_text c.kind c.value),
      length-append (big_bytes 2 (length c.name)) c.name,
      length-bytes_high_first 1 (log.code c.kind),
      length-bytes_high_first 8 c.store,
      length-bytes_high_first 2 (length c.name),
    )

change_charged : (c : log.Change) → length (change_text c) ≡ change_bytes (change_by c.kind c.name c.value)
change_charged c = head_long c ∙ by c.kind
  where
    by : (kind : log.Kind) → 11 + length c.name + length (log.value_text kind c.value) ≡ change_bytes (change_by kind c.name c.value)
    by log.put = omega (arith, length-append (big_bytes 4 (length c.value)) c.value, length-bytes_high_first 4 (length c.value))
    by log.del = omega arith
    by log.pdel = omega arith

changes_charged : (changes : List log.Change) → length (flat_map change_text changes) ≡ writes_bytes (map write_in changes)
changes_charged [] = refl
changes_charged (c ∷ cs) =
    omega (
      arith,
      length-append (change_text c) (flat_map change_text cs),
      change_charged c,
      changes_charged cs,
      sum_by-cons (λ (w : Write). change_bytes w.change) (write_in c) (map write_in cs),
    )

entry_charged : (entry : Entry) → charge entry ≡ charge_of (map write_in entry.changes)
entry_charged entry =
    omega (
      arith,
      changes_charged entry.changes,
      length-append (big_bytes 8 entry.number) (changes_text entry.changes),
      length-append (big_bytes 4 (length entry.changes)) (flat_map change_text entry.changes),
      length-bytes_high_first 8 entry.number,
      length-bytes_high_first 4 (length entry.changes),
    )

pub entries_charged : (entries : List Entry) → charges entries ≡ charge_of_commits (map numbered_of entries)
entries_charged [] = refl
entries_charged (entry ∷ entries) =
    omega (
      arith,
      entry_charged entry,
      entries_charged entries,
      sum_by-cons charge entry entries,
      sum_by-cons (λ (commit : Numbered). charge_of commit.writes) (numbered_of entry) (map numbered_of entries),
    )
