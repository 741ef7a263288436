-- A segment is read the same from two starts from which the same number comes first.
use Rattle.std.proofs.Common.{◌≡◌, ℕ, zero, suc, ◌+◌, ◌-◌, ◌==◌, true, false, Bool, List, ◌∷◌, ◌++◌, length, ◌&&◌, Option, Some, None, Result, Ok, Err, refl, sym, ap, ◌∙◌}
use Rattle.std.specs.Prelude.{is_some, nat_lt, nat_le, if◌then◌else◌}
use Rattle.gate_log.specs.Gates.{first_gate}
use Rattle.gate_log.specs.Places.{need_of}
use Rattle.gate_log.specs.declared.front.End.{End}
use Rattle.hse_fields.specs.LogText.{Change, Entry}
use Rattle.hse_fields.specs.Fields.{number_of}
use Rattle.hse_fields.specs.LogReading.{◌>>=◌, ensure, given, changes_of, any_changes_of, comes_with, has_room, entry_of, entries_of, payload_of}
use Rattle.wal.specs.Live.{prefix_fits}
use Rattle.wal.specs.Logged.{charge}
use Rattle.wal.specs.Numbering.{Numbers, taken_from, last_number, is_next, after, numbering}
use Rattle.wal.specs.Replaying.{before, ended, batches_of, segment_of}
use Rattle.wal.specs.Taken.{StartsAlike}
use Rattle.wal.specs.declared.live.StorePrefix.{StorePrefix}

-- what is known after an entry, by the room and the taken numbers behind it
abbrev after_with : ℕ → List ℕ → Entry → Option Numbers
after_with room taken e =
    if nat_lt room (charge e) then None else Some (record { next = e.number + 1; taken = taken; room = room - charge e })

after_same : (one other : Numbers) → StartsAlike one other → (e : Entry) → after one e ≡ after other e
after_same one other same e =
    ap (λ (room : ℕ). after_with room (taken_from one.next one.taken) e) same.room
    ∙ ap (λ (taken : List ℕ). after_with other.room taken e) same.behind

next_same : (one other : Numbers) → StartsAlike one other → (number : ℕ) → is_next one number ≡ is_next other number
next_same one other same number = ap (λ (n : ℕ). (number == n) && nat_le number last_number) same.first

room_told : (live : List StorePrefix) (one other : Numbers) → StartsAlike one other → (number : ℕ) (r : Result (List Change × List ℕ) ℕ)
    → comes_with (numbering live) one number r ≡ comes_with (numbering live) other number r
room_told live one other same number (Ok x) =
    ap (λ (next : Option Numbers). is_some next) (after_same one other same (record { number = number; changes = x.0 }))
room_told live one other same number (Err left) = refl

room_same : (live : List StorePrefix) (one other : Numbers) → StartsAlike one other → (number : ℕ) (bytes : List ℕ)
    → has_room (numbering live) one number bytes ≡ has_room (numbering live) other number bytes
unfolding has_room
room_same live one other same number bytes = room_told live one other same number (any_changes_of bytes)

-- an entry, by what the numbers say of it
abbrev entry_by : List StorePrefix → ℕ → (ℕ → Bool) → (ℕ → List ℕ → Bool) → (Entry → Option Numbers) → List ℕ
    → Result ((Entry × Numbers) × List ℕ) ℕ
entry_by live most is_first has_place next_after bytes = do
  number ← number_of 8 bytes
  next ← ensure (is_first number.0) (length bytes)
  room ← ensure (has_place number.0 number.1) (length bytes)
  changes ← changes_of (prefix_fits live) most number.1
  behind ← given (next_after (record { number = number.0; changes = changes.0 })) (length bytes)
  Ok ((record { number = number.0; changes = changes.0 }, behind), changes.1)

entry_is : (live : List StorePrefix) (most : ℕ) (state : Numbers) (bytes : List ℕ)
    → entry_of (numbering live) most state bytes
    ≡ entry_by live most (is_next state) (has_room (numbering live) state) (after state) bytes
unfolding entry_of
entry_is live most state bytes = refl

entry_same : (live : List StorePrefix) (most : ℕ) (one other : Numbers) → StartsAlike one other → (bytes : List ℕ)
    → entry_of (numbering live) most one bytes ≡ entry_of (numbering live) most other bytes
entry_same live most one other same bytes =
    entry_is live most one bytes
    ∙ (λ i. entry_by live most (λ number. next_same one other same number i)
    (λ number rest. room_same live one other same number rest i) (λ e. after_same one other same e i) bytes)
    ∙ sym (entry_is live most other bytes)

entries_same : (live : List StorePrefix) (most n : ℕ) (one other : Numbers) → StartsAlike one other → (bytes : List ℕ)
    → entries_of (numbering live) most one (suc n) bytes ≡ entries_of (numbering live) most other (suc n) bytes
unfolding entries_of
entries_same live most n one other same bytes =
    ap
    (λ (r : Result ((Entry × Numbers) × List ℕ) ℕ). r
    >>= λ first. entries_of (numbering live) most first.0.1 n first.1
    >>= λ others. Ok ((first.0.0 ∷ others.0.0, others.0.1), others.1))
    (entry_same live most one other same bytes)

-- what a payload says behind its count, if that passes the test
abbrev behind_count : Bool → ℕ → Result ((List Entry × Numbers) × List ℕ) ℕ → Result (List Entry × Numbers) ℕ
behind_count some size read =
    ensure some size
    >>= λ passed. read
    >>= λ read. ensure (length read.1 == 0) (4 + size)
    >>= λ ended. Ok read.0

tested_same : (some : Bool) (size : ℕ) (one other : Result ((List Entry × Numbers) × List ℕ) ℕ) → (some ≡ true → one ≡ other)
    → behind_count some size one ≡ behind_count some size other
tested_same false size one other same = refl
tested_same true size one other same = ap (behind_count true size) (same refl)

read_same : (live : List StorePrefix) (most n : ℕ) (one other : Numbers) → StartsAlike one other → (bytes : List ℕ) → nat_lt 0 n ≡ true
    → entries_of (numbering live) most one n bytes ≡ entries_of (numbering live) most other n bytes
read_same live most zero one other same bytes some = absurd cc
read_same live most (suc n) one other same bytes some = entries_same live most n one other same bytes

counted_same : (live : List StorePrefix) (most : ℕ) (one other : Numbers) → StartsAlike one other → (size : ℕ) (r : Result (ℕ × List ℕ) ℕ)
    → (r >>= λ count. behind_count (nat_lt 0 count.0) size (entries_of (numbering live) most one count.0 count.1))
    ≡ (r >>= λ count. behind_count (nat_lt 0 count.0) size (entries_of (numbering live) most other count.0 count.1))
counted_same live most one other same size (Err left) = refl
counted_same live most one other same size (Ok (n, rest)) =
    tested_same (nat_lt 0 n) size (entries_of (numbering live) most one n rest) (entries_of (numbering live) most other n rest)
    (read_same live most n one other same rest)

payload_same : (live : List StorePrefix) (most : ℕ) (one other : Numbers) → StartsAlike one other → (bytes : List ℕ)
    → payload_of (numbering live) most one bytes ≡ payload_of (numbering live) most other bytes
unfolding payload_of
payload_same live most one other same bytes = counted_same live most one other same (length bytes) (number_of 4 bytes)

pub segment_same : (live : List StorePrefix) (most : ℕ) (one other : Numbers) (payload : List ℕ) (payloads : List (List ℕ)) (end : End)
    → StartsAlike one other
    → segment_of live most one (payload ∷ payloads) end ≡ segment_of live most other (payload ∷ payloads) end
unfolding batches_of
segment_same live most one other payload payloads end same =
    ap
    (λ (r : Result (List Entry × Numbers) ℕ). (before (first_gate + need_of payload) r
    >>= λ first. batches_of live most first.1 (first_gate + need_of payload) payloads
    >>= λ others. Ok (first.0 ++ others.0, others.1)) >>= ended end)
    (payload_same live most one other same payload)
