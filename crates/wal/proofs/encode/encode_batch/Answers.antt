use Rattle.std.proofs.Common.{◌≤◌, sym, length, arith}
use Rattle.std.proofs.lemmas.List.{length-map}
use Rattle.hse_fields.specs.LogText.{Entry, entry_text}
use Rattle.wal.specs.Logged.{entry_of, entries_of}
use Rattle.wal.proofs.TextLemmas.{count_length, part_of}
use Rattle.wal.proofs.encode.encode_batch.Goals as goal

entry_some : (e : Entry) → 1 ≤ length (entry_text e)
entry_some e = omega arith

pub overflow_cast-entries : goal.overflow_cast-entries
overflow_cast-entries c =
    let entries = c.args.entries.now in
    let count = count_length entry_text (entries_of entries) entry_some in
    record { fits = omega (arith, count, c.requires.fits, length-map entries entry_of) }

pub put_entry-requires : goal.put_entry-requires
put_entry-requires c =
    let part = part_of entry_text entry_of c.args.entries.now c.loop-commit.commit-index c.commit-item.result c.loop-commit-test.true (sym c.commit-item.is) in
    omega (arith, part, c.requires.fits)
