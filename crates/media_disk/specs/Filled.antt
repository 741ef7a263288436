-- What a disk in memory holds once it has stopped.
use Rattle.std.specs.Prelude.{◌≡◌, ℕ, ◌/◌, Bool, true, false, if◌then◌else◌, List, [], ◌∷◌, length, replicate, All}
use Rattle.media_disk.specs.Content.{part, put_at}
use Rattle.media_disk.specs.Record.{pending_of}
use Rattle.media_disk.specs.declared.call.Call.{Call}
use Rattle.media_disk.specs.declared.call.Work.{Work}
use Rattle.media_disk.specs.declared.call.Work.TheVariants.{Write, Sync}
use Rattle.media_disk.specs.declared.fill.Fill.{Fill}
use Rattle.media_disk.specs.declared.fill.Fill.TheVariants.{Old, New, Torn, Byte}

-- the call made all safe
abbrev pub is_safe : Work → Bool → Bool
is_safe Sync false = true
is_safe _ _ = false

-- a write's old bytes are back
abbrev pub put_back : Work → List ℕ → List ℕ
put_back (Write at old) bytes = put_at bytes at old.items
put_back _ bytes = bytes

-- all writes since the last sync that succeeded are undone, the newest first
abbrev pub old_of : List Call → List ℕ → List ℕ
old_of [] bytes = bytes
old_of (call ∷ earlier) bytes =
    if is_safe call.work call.failed then bytes else old_of earlier (put_back call.work bytes)

-- the first half of what a write left is put on other bytes
abbrev pub put_half : Work → List ℕ → List ℕ → List ℕ
put_half (Write at old) bytes other = put_at other at (part bytes at (length old.items / 2))
put_half _ bytes other = other

-- of each write since the last sync that succeeded the first half is done, the oldest first
abbrev pub torn_of : List Call → List ℕ → List ℕ
torn_of [] bytes = bytes
torn_of (call ∷ earlier) bytes =
    if is_safe call.work call.failed then bytes
    else put_half call.work bytes (torn_of earlier (put_back call.work bytes))

-- these ranges hold one byte
abbrev pub byte_of : ℕ → List (ℕ × ℕ) → List ℕ → List ℕ
byte_of b [] bytes = bytes
byte_of b (range ∷ ranges) bytes = byte_of b ranges (put_at bytes range.0 (replicate range.1 b))

-- the content by each fill
abbrev pub filled : Fill → List Call → List ℕ → List ℕ
filled Old calls bytes = old_of calls bytes
filled New calls bytes = bytes
filled Torn calls bytes = torn_of calls bytes
filled (Byte b) calls bytes = byte_of b (pending_of calls) bytes

-- each byte of these ranges is the fill's, where it has one
abbrev pub HoldsByte : Fill → List (ℕ × ℕ) → List ℕ → Type 0
HoldsByte (Byte b) ranges bytes = All (λ range. part bytes range.0 range.1 ≡ replicate range.1 b) ranges
HoldsByte _ ranges bytes = Unit {0}
