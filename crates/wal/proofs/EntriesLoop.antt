-- Reading entries one after the other, as a loop does, and what they take of the room.
use Rattle.std.proofs.Common.{◌≡◌, ℕ, suc, ◌-◌, ◌+◌, ◌*◌, ◌≤◌, ◌<◌, List, [], ◌∷◌, ◌++◌, length, Result, Ok, Err, refl, sym, ap, subst, ◌∙◌, append_assoc, arith, length-append}
use Rattle.std.specs.List.{flat_map}
use Rattle.std.proofs.lemmas.List.{append-nil}
use Rattle.std.proofs.lemmas.List.Sums.{sum_by-cons}
use Rattle.byteorder.specs.Endian.{big_bytes}
use Rattle.byteorder.specs.Numbers.{length-bytes_high_first}
use Rattle.hse_fields.specs.LogText.{Entry, entry_text, payload_text}
use Rattle.hse_fields.specs.LogReading.{◌>>=◌, entry_of, entries_of, payload_of}
use Rattle.hse_fields.specs.laws.Fields.{IsBytes}
use Rattle.hse_fields.specs.laws.Payloads.{payload_takes}
use Rattle.hse_fields.specs.declared.refusal.Refusal.{Refusal}
use Rattle.hse_fields.specs.declared.refusal.Refusal.TheVariants.{Left, NoMemory}
use Rattle.wal.specs.Charges.{charges}
use Rattle.wal.specs.Given.{Fails}
use Rattle.wal.specs.Logged.{charge}
use Rattle.wal.specs.Numbering.{Numbers, numbering}
use Rattle.wal.specs.Taking.{Takes}
use Rattle.wal.specs.declared.live.StorePrefix.{StorePrefix}

-- what was read before, and what is still read
abbrev pub with_beginning : List Entry → Result ((List Entry × Numbers) × List ℕ) ℕ → Result ((List Entry × Numbers) × List ℕ) ℕ
with_beginning beginning read = read >>= λ x. Ok ((beginning ++ x.0.0, x.0.1), x.1)

regroup : (beginning : List Entry) (e : Entry) (read : Result ((List Entry × Numbers) × List ℕ) ℕ)
    → with_beginning beginning (read >>= λ x. Ok ((e ∷ x.0.0, x.0.1), x.1)) ≡ with_beginning (beginning ++ e ∷ []) read
regroup beginning e (Ok x) = ap (λ (es : List Entry). Ok ((es, x.0.1), x.1)) (simp append_assoc)
regroup beginning e (Err f) = refl

pub goes_on : (live : List StorePrefix) (most : ℕ) (beginning : List Entry) (state : Numbers) (count i : ℕ) (bytes : List ℕ) (e : Entry) (next : Numbers) (rest : List ℕ) (total : Result ((List Entry × Numbers) × List ℕ) ℕ)
    → i < count → entry_of (numbering live) most state bytes ≡ Ok ((e, next), rest)
    → with_beginning beginning (entries_of (numbering live) most state (count - i) bytes) ≡ total
    → with_beginning (beginning ++ e ∷ []) (entries_of (numbering live) most next (count - (i + 1)) rest) ≡ total
unfolding entries_of
goes_on live most beginning state count i bytes e next rest total lt h so_far =
    let k : count - i ≡ suc (count - (i + 1)) = omega arith in
    let one : with_beginning beginning (entries_of (numbering live) most state (count - i) bytes) ≡ with_beginning (beginning ++ e ∷ []) (entries_of (numbering live) most next (count - (i + 1)) rest) =
    rw (k, h) (regroup beginning e (entries_of (numbering live) most next (count - (i + 1)) rest)) in
    sym one ∙ so_far

pub stops : (r : Refusal) (live : List StorePrefix) (most : ℕ) (beginning : List Entry) (state : Numbers) (count i : ℕ) (bytes : List ℕ) (total : Result ((List Entry × Numbers) × List ℕ) ℕ)
    → i < count → Fails r (entry_of (numbering live) most state bytes)
    → with_beginning beginning (entries_of (numbering live) most state (count - i) bytes) ≡ total → Fails r total
unfolding entries_of
stops NoMemory live most beginning state count i bytes total lt h so_far = tt
stops (Left left) live most beginning state count i bytes total lt h so_far =
    let k : count - i ≡ suc (count - (i + 1)) = omega arith in
    let one : with_beginning beginning (entries_of (numbering live) most state (count - i) bytes) ≡ Err left = rw (k, h) refl in
    sym so_far ∙ one

pub is_done : (live : List StorePrefix) (most : ℕ) (beginning : List Entry) (state : Numbers) (count i : ℕ) (bytes : List ℕ) (total : Result ((List Entry × Numbers) × List ℕ) ℕ)
    → count ≤ i → with_beginning beginning (entries_of (numbering live) most state (count - i) bytes) ≡ total → total ≡ Ok ((beginning, state), bytes)
unfolding entries_of
is_done live most beginning state count i bytes total le so_far =
    let k : count - i ≡ 0 = omega arith in
    let one : with_beginning beginning (entries_of (numbering live) most state (count - i) bytes) ≡ Ok ((beginning, state), bytes) =
    rw k (ap (λ (es : List Entry). Ok ((es, state), bytes)) (append-nil beginning)) in
    sym so_far ∙ one

-- ---- the room

-- an entry is charged 32 bytes more than its text has
text_charges : (es : List Entry) → length (flat_map entry_text es) + 32 * length es ≡ charges es
text_charges [] = refl
text_charges (e ∷ es) =
    let text = length-append (entry_text e) (flat_map entry_text es) in
    omega (arith, text, text_charges es, sum_by-cons charge e es)

-- The charges cover the payload's count and the 5 bytes before it, since there is an entry.
pub payload_sized : (live : List StorePrefix) (most : ℕ) (state last : Numbers) (bytes : List ℕ) (es : List Entry) → IsBytes bytes
    → payload_of (numbering live) most state bytes ≡ Ok (es, last) → 5 + length bytes ≤ charges es
payload_sized live most state last bytes es small e =
    let taken = payload_takes (numbering live) most state bytes (es, last) small e in
    let spelled : length bytes ≡ length (payload_text es) = ap length taken.0 in
    let some : 1 ≤ length es = taken.1.some in
    let count = length-bytes_high_first 4 (length es) in
    let text = length-append (big_bytes 4 (length es)) (flat_map entry_text es) in
    omega (arith, spelled, some, count, text, text_charges es)

-- nothing was read yet, and nothing taken
pub begins : (read : Result ((List Entry × Numbers) × List ℕ) ℕ) → with_beginning [] read ≡ read
begins (Ok x) = refl
begins (Err left) = refl

pub takes_none : (took : List Entry → Type 0) → Takes took took []
takes_none took before here = subst took (sym (append-nil before)) here

-- one more is taken
pub takes_one : (old now new : List Entry → Type 0) (entries : List Entry) (e : Entry) → Takes old now entries
    → ((before : List Entry) → now before → new (before ++ e ∷ [])) → Takes old new (entries ++ e ∷ [])
takes_one old now new entries e so_far more before here =
    subst new (append_assoc before entries (e ∷ [])) (more (before ++ entries) (so_far before here))

-- and more behind those
pub takes_more : (old now new : List Entry → Type 0) (entries others : List Entry) → Takes old now entries → Takes now new others
    → Takes old new (entries ++ others)
takes_more old now new entries others so_far more before here =
    subst new (append_assoc before entries others) (more (before ++ entries) (so_far before here))
