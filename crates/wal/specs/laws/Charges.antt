-- What the entries of a payload take of the room, by the payload's bytes.
use Rattle.std.proofs.Common.{◌≡◌, ℕ, ◌+◌, ◌*◌, ◌^◌, ◌<◌, ◌≤◌, List, [], ◌∷◌, ◌++◌, length, refl, arith, length-append}
use Rattle.std.specs.List.{flat_map}
use Rattle.std.proofs.lemmas.List.Sums.{sum_by-cons}
use Rattle.byteorder.specs.Endian.{big_bytes}
use Rattle.byteorder.specs.Numbers.{big_number-reads_back, length-bytes_high_first}
use Rattle.hse_fields.specs.LogLimits.{frame}
use Rattle.hse_fields.specs.LogText.{Entry, entry_text, payload_text}
use Rattle.wal.specs.Charges.{charges, count_in, entries_charge, HasEntries}
use Rattle.wal.specs.Logged.{charge}

text_charged : (entries : List Entry) → length (flat_map entry_text entries) + frame * length entries ≡ charges entries
text_charged [] = refl
text_charged (e ∷ es) =
    omega (arith, length-append (entry_text e) (flat_map entry_text es), text_charged es, sum_by-cons charge e es)

counted : (entries : List Entry) → length entries < 2 ^ 32 → count_in (payload_text entries) ≡ length entries
counted entries few = big_number-reads_back 4 (length entries) (flat_map entry_text entries) few

long : (entries : List Entry) → length (payload_text entries) ≡ 4 + length (flat_map entry_text entries)
long entries =
    omega (
      arith,
      length-append (big_bytes 4 (length entries)) (flat_map entry_text entries),
      length-bytes_high_first 4 (length entries),
    )

-- they take their charges
pub payload_charged : (entries : List Entry) → length entries < 2 ^ 32 → entries_charge (payload_text entries) ≡ charges entries
payload_charged entries few = omega (arith, counted entries few, long entries, text_charged entries)

-- the count of some entries is theirs
pub payload_counted : (entries : List Entry) → 1 ≤ length entries → length entries < 2 ^ 32 → HasEntries (payload_text entries)
payload_counted entries some few = (omega (arith, long entries), omega (arith, some, counted entries few))

-- what a batch of waiting commits takes
pub waiting_charged : (count : ℕ) (text : List ℕ) → 1 ≤ count → count < 2 ^ 32
    → HasEntries (big_bytes 4 count ++ text) × (entries_charge (big_bytes 4 count ++ text) ≡ length text + frame * count)
waiting_charged count text some few =
    let is : count_in (big_bytes 4 count ++ text) ≡ count = big_number-reads_back 4 count text few in
    let size : length (big_bytes 4 count ++ text) ≡ 4 + length text =
    omega (arith, length-append (big_bytes 4 count) text, length-bytes_high_first 4 count) in
    ((omega (arith, size), omega (arith, some, is)), omega (arith, is, size))
