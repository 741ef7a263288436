-- The record of a disk in memory: its calls, the newest first.
use Rattle.std.specs.Prelude.{◌≡◌, ◌⊎◌, ℕ, ◌+◌, ◌≤◌, max, Bool, true, false, List, [], ◌∷◌, length}
use Rattle.media_disk.specs.Content.{put_at}
use Rattle.media_disk.specs.Images.{IsImage}
use Rattle.media_disk.specs.declared.call.Call.{Call}
use Rattle.media_disk.specs.declared.call.Work.{Work}
use Rattle.media_disk.specs.declared.call.Work.TheVariants.{SetSize, Write, FailedWrite, Sync}

-- a call at a clock
abbrev pub call_at : ℕ → Work → Bool → Call
call_at clock work failed = record { clock = clock; work = work; failed = failed }

-- the pending ranges after a call: a write adds its range, also where it failed, and a sync that succeeds ends all
abbrev pub pending_after : Work → Bool → List (ℕ × ℕ) → List (ℕ × ℕ)
pending_after (Write at old) failed ranges = (at, length old.items) ∷ ranges
pending_after (FailedWrite at n) failed ranges = (at, n) ∷ ranges
pending_after (SetSize size) false ranges = (0, size) ∷ ranges
pending_after Sync false ranges = []
pending_after _ _ ranges = ranges

-- the pending ranges, the newest first
abbrev pub pending_of : List Call → List (ℕ × ℕ)
pending_of [] = []
pending_of (call ∷ earlier) = pending_after call.work call.failed (pending_of earlier)

-- the content before a call, from that after it
abbrev pub undone : Work → Bool → List ℕ → List ℕ
undone (Write at old) failed bytes = put_at bytes at old.items
undone (SetSize size) false bytes = []
undone _ _ bytes = bytes

-- What a crash at some moment since a clock might have left: an image of now, or, where the newest call began at
-- that clock or later, what it might have left before that call.
abbrev pub could_of : List Call → List ℕ → ℕ → List ℕ → Type 0
could_of [] bytes clock image = image ≡ bytes
could_of (call ∷ earlier) bytes clock image = IsImage bytes (pending_of (call ∷ earlier)) image
    ⊎ ((clock ≤ call.clock) × could_of earlier (undone call.work call.failed bytes) clock image)

-- the first clock after the newest call
abbrev pub clock_after : List Call → ℕ
clock_after [] = 0
clock_after (call ∷ earlier) = call.clock + 1

-- the larger of a number and the end of a call's range
abbrev pub end_of : Work → Bool → ℕ → ℕ
end_of (Write at old) failed end = max (at + length old.items) end
end_of (FailedWrite at n) failed end = max (at + n) end
end_of (SetSize size) false end = max size end
end_of _ _ end = end

-- where the last of all ranges ends
abbrev pub reach : List Call → ℕ
reach [] = 0
reach (call ∷ earlier) = end_of call.work call.failed (reach earlier)
