-- Reading an entry up to its changes, and what comes then.
use Rattle.std.proofs.Common.{◌≡◌, ℕ, ◌-◌, ◌+◌, ◌<◌, ◌≤◌, true, false, List, [], length, Ok, Err, refl, sym, ◌∙◌, ◌==◌, arith, inl, inr}
use Rattle.std.specs.Prelude.{is_some, nat_lt, nat_le}
use Rattle.std.proofs.lemmas.Bool.{cases_lt, and_from, le-leb, lt-leb, eq-eqb, lt-ltb, le-ltb}
use Rattle.hse_fields.specs.LogText.{Change, Entry}
use Rattle.hse_fields.specs.LogLimits.{longest_value}
use Rattle.hse_fields.specs.Fields.{number_of}
use Rattle.hse_fields.specs.LogReading.{◌>>=◌, ensure, changes_of, has_room, entry_of}
use Rattle.hse_fields.specs.laws.Fields.{IsBytes}
use Rattle.hse_fields.specs.laws.AllChanges.{any_changes_too}
use Rattle.hse_fields.specs.laws.Payloads.{entry, from_changes, room_is}
use Rattle.wal.specs.Live.{prefix_fits}
use Rattle.wal.specs.Logged.{charge}
use Rattle.wal.specs.Numbering.{Numbers, free_from, taken_from, last_number, is_next, after, numbering}
use Rattle.wal.specs.declared.live.StorePrefix.{StorePrefix}

up_to_room : (live : List StorePrefix) (most : ℕ) (state : Numbers) (bytes : List ℕ) (number : ℕ) (behind : List ℕ)
    → number_of 8 bytes ≡ Ok (number, behind) → number ≡ free_from state.next state.taken → number ≤ last_number
    → entry_of (numbering live) most state bytes
    ≡ (ensure (has_room (numbering live) state number behind) (length bytes) >>= λ room. (changes_of (prefix_fits live) most behind >>= from_changes (numbering live) state bytes number))
unfolding entry_of
up_to_room live most state bytes number behind first is small =
    let test : is_next state number ≡ true =
    and_from (number == free_from state.next state.taken) (nat_le number last_number) (eq-eqb number (free_from state.next state.taken) is) (le-leb number last_number small) in
    rw (first, test) refl

-- ---- the room

none_after : (state : Numbers) (e : Entry) → state.room < charge e → is_some (after state e) ≡ false
none_after state e over =
    let test : nat_lt state.room (charge e) ≡ true = lt-ltb _ _ over in
    rw test refl

some_after : (state : Numbers) (e : Entry) → charge e ≤ state.room → is_some (after state e) ≡ true
some_after state e fits =
    let test : nat_lt state.room (charge e) ≡ false = le-ltb _ _ fits in
    rw test refl

-- Changes that are read where no rule is asked tell whether there is room for their entry.
pub room_told : (live : List StorePrefix) (state : Numbers) (number : ℕ) (bytes : List ℕ) (changes : List Change) (rest : List ℕ) (charged : ℕ)
    → changes_of (prefix_fits []) longest_value bytes ≡ Ok (changes, rest) → charged ≡ charge (entry number changes)
    → nat_le charged state.room ≡ has_room (numbering live) state number bytes
room_told live state number bytes changes rest charged read is =
    let room : has_room (numbering live) state number bytes ≡ is_some (after state (entry number changes)) = room_is (numbering live) state number bytes changes rest read in
    elim (cases_lt state.room (charge (entry number changes))) [
      | inl over ↦ lt-leb _ _ (omega (arith, over, is)) ∙ sym (room ∙ none_after state (entry number changes) over)
      | inr fits ↦ le-leb _ _ (omega (arith, fits, is)) ∙ sym (room ∙ some_after state (entry number changes) fits)
    ]

-- and those that are refused there do not tell
pub no_room_told : (live : List StorePrefix) (state : Numbers) (number : ℕ) (bytes : List ℕ) (left : ℕ)
    → changes_of (prefix_fits []) longest_value bytes ≡ Err left → true ≡ has_room (numbering live) state number bytes
unfolding has_room
no_room_told live state number bytes left refused = rw refused refl

-- the room is not enough for it
pub over_room : (live : List StorePrefix) (most : ℕ) (state : Numbers) (bytes : List ℕ) (number : ℕ) (behind : List ℕ) (changes : List Change) (rest : List ℕ) → IsBytes behind
    → number_of 8 bytes ≡ Ok (number, behind) → number ≡ free_from state.next state.taken → number ≤ last_number
    → changes_of (prefix_fits live) most behind ≡ Ok (changes, rest) → state.room < charge (entry number changes)
    → entry_of (numbering live) most state bytes ≡ Err (length bytes)
over_room live most state bytes number behind changes rest bytes_fit first is small second over =
    let read = any_changes_too (prefix_fits live) most behind changes rest bytes_fit second in
    let room : has_room (numbering live) state number behind ≡ false =
    room_is (numbering live) state number behind changes rest read ∙ none_after state (entry number changes) over in
    up_to_room live most state bytes number behind first is small ∙ rw room refl

-- it is
pub within_room : (live : List StorePrefix) (most : ℕ) (state : Numbers) (bytes : List ℕ) (number : ℕ) (behind : List ℕ) (changes : List Change) (rest : List ℕ) → IsBytes behind
    → number_of 8 bytes ≡ Ok (number, behind) → number ≡ free_from state.next state.taken → number ≤ last_number
    → changes_of (prefix_fits live) most behind ≡ Ok (changes, rest) → charge (entry number changes) ≤ state.room
    → entry_of (numbering live) most state bytes
    ≡ Ok ((entry number changes, record { next = number + 1; taken = taken_from state.next state.taken; room = state.room - charge (entry number changes) }), rest)
within_room live most state bytes number behind changes rest bytes_fit first is small second fits =
    let read = any_changes_too (prefix_fits live) most behind changes rest bytes_fit second in
    let room : has_room (numbering live) state number behind ≡ true =
    room_is (numbering live) state number behind changes rest read ∙ some_after state (entry number changes) fits in
    let test : nat_lt state.room (charge (entry number changes)) ≡ false = le-ltb _ _ fits in
    up_to_room live most state bytes number behind first is small ∙ rw (room, second, test) refl
