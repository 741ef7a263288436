-- Numbers and bytes at the beginning of bytes, as the formats of a device have them.
use Rattle.std.specs.Prelude.{◌≡◌, ℕ, List, length, take, drop, flat_map, Result, Ok, Err, nat_lt, if◌then◌else◌}
use denote.Ref.{Bor}
use Rattle.byteorder.specs.Endian.{big_number}
use Rattle.hse_fields.specs.declared.short.Short.{Short}

-- so many bytes stand there, and so many are needed
abbrev pub short : ℕ → ℕ → Short
short have need = record { have = have; need = need }

-- The number in the first n bytes, the highest first, and the bytes behind them. A field that passes the end is refused
-- at its first byte: a refusal is the number of bytes from there on.
abbrev pub number_of : ℕ → List ℕ → Result (ℕ × List ℕ) ℕ
number_of n bytes =
    if nat_lt (length bytes) n then Err (length bytes) else Ok (big_number n (take n bytes), drop n bytes)

-- the first n bytes, and the bytes behind them
abbrev pub bytes_of : ℕ → List ℕ → Result (List ℕ × List ℕ) ℕ
bytes_of n bytes =
    if nat_lt (length bytes) n then Err (length bytes) else Ok (take n bytes, drop n bytes)

-- the number in the first n bytes from a place on; a refusal says how many bytes stand there, and how many are needed
abbrev pub number_at : ℕ → List ℕ → ℕ → Result ℕ Short
number_at n bytes at =
    if nat_lt (length (drop at bytes)) n
    then Err (short (length (drop at bytes)) n)
    else Ok (big_number n (take n (drop at bytes)))

-- the first n bytes from a place on
abbrev pub bytes_at : ℕ → List ℕ → ℕ → Result (List ℕ) Short
bytes_at n bytes at =
    if nat_lt (length (drop at bytes)) n
    then Err (short (length (drop at bytes)) n)
    else Ok (take n (drop at bytes))

-- a value seen by view
abbrev pub seen_by : {X Y E : Type 0} → (X → Y) → Result X E → Result Y E
seen_by view (Ok x) = Ok (view x)
seen_by view (Err e) = Err e

-- What a field of so many bytes gives, seen by view, is what reading gives on lists.
abbrev pub IsTaken : {X Y : Type 0} → ℕ → (X → Y) → Result X Short → Result Y ℕ → Type 0
IsTaken need view (Ok x) read = read ≡ Ok (view x)
IsTaken need view (Err short) read = (read ≡ Err short.have) × (short.need ≡ need)

-- the pieces, one after another
abbrev pub joined : List (Bor (List ℕ)) → List ℕ
joined pieces = flat_map (λ piece. piece.now) pieces
