-- What a half of the manifest says, and which half is in force.
use Rattle.std.specs.Prelude.{◌≡◌, ◌⊎◌, ℕ, ◌+◌, ◌-◌, ◌%◌, ◌==◌, nat_le, nat_lt, ◌&&◌, Bool, true, if◌then◌else◌, List, [], ◌∷◌, take, drop, get_or, Option, Some, None, Result, Ok, Err}
use Rattle.byteorder.specs.Endian.{big_number}
use Rattle.hse_fields.specs.LogReading.{◌>>=◌}
use Rattle.gate_log.specs.Gates.{Gated, first_gate, open_gate}
use Rattle.media_disk.specs.Content.{part}
use Rattle.gate_log.specs.Places.{need_of, region_of, tail_of}
use Rattle.gate_log.specs.Reading.{Ends}
use Rattle.gate_log.specs.declared.front.End.{End}
use Rattle.gate_log.specs.declared.front.End.TheVariants.{Closed, CutOff}
use Rattle.gate_log.specs.declared.region.Region.{Region}
use Rattle.device_layout.specs.Layouts.{half_of}
use Rattle.device_layout.specs.declared.layout.Layout.{Layout}
use Rattle.manifest.specs.Metadata.{Metadata, greatest_number}
use Rattle.manifest.specs.Reading.{payload_of}

-- ---- the entries of a half

-- a refusal so many bytes before this place, as the place of the refused field
abbrev pub placed : {X : Type 0} → ℕ → Result X ℕ → Result X ℕ
placed end (Ok x) = Ok x
placed end (Err left) = Err (end - left)

-- the metadata after these batches, the first of whose gates stands at this place; or the place of the first refused field
unfoldable pub entries_of : ℕ → Option Metadata → ℕ → List (List ℕ) → Result (Option Metadata) ℕ
entries_of most before gate [] = Ok before
entries_of most before gate (payload ∷ payloads) = do
  after ← placed (gate + need_of payload) (payload_of most before payload)
  entries_of most (Some after) (gate + need_of payload) payloads

abbrev pub says_of : Option Metadata → End → Result Metadata ℕ
says_of (Some m) (Closed tail) = Ok m
says_of (Some m) (CutOff place) = Err place
says_of None (Closed tail) = Err first_gate
says_of None (CutOff place) = Err place

-- What the batches of a half say. A batch that does not lie inside is refused at its length, where nothing before it was.
abbrev pub metadata_in : ℕ → List (List ℕ) → End → Result Metadata ℕ
metadata_in most payloads end = entries_of most None first_gate payloads >>= λ m. says_of m end

-- ---- the half in force

-- the head of a half: closed, or open with its sequence and whether the first batch's gate is open
pub data Head : Type 0 where
  closed : Head
  open_head : ℕ → Bool → Head

abbrev pub head_of : List ℕ → Head
head_of bytes =
    if get_or bytes 0 0 == open_gate
    then open_head (big_number 8 (take 8 (drop 1 bytes))) (get_or bytes 9 0 == open_gate)
    else closed

-- a half has only sequences that leave its number after a division by 2, up to the greatest one
abbrev pub is_sequence_of : ℕ → ℕ → Bool
is_sequence_of half sequence = (sequence % 2 == half) && nat_le sequence greatest_number

abbrev pub head_fits : ℕ → Head → Bool
head_fits half closed = true
head_fits half (open_head sequence has_batch) = is_sequence_of half sequence

-- the sequence of a half that may be in force
abbrev pub candidate : Head → Option ℕ
candidate closed = None
candidate (open_head sequence has_batch) = if has_batch then Some sequence else None

-- the half of the greater sequence; where there is none, half 0 is refused at its head
abbrev pub greater : Option ℕ → Option ℕ → Result ℕ (ℕ × ℕ)
greater None None = Err (0, 0)
greater (Some sequence) None = Ok 0
greater None (Some sequence) = Ok 1
greater (Some first) (Some second) = if nat_lt first second then Ok 1 else Ok 0

-- The half that these two heads put in force, or the half and the place that are refused: the sequence of an open head that
-- the half may not have.
abbrev pub in_force : Head → Head → Result ℕ (ℕ × ℕ)
in_force first second =
    if head_fits 0 first
    then (if head_fits 1 second then greater (candidate first) (candidate second) else Err (1, 1))
    else Err (0, 1)

-- how many bytes the head takes, with the first batch's gate
abbrev pub head_size : ℕ
head_size = 10

abbrev pub head_in : Region → List ℕ → Head
head_in region image = head_of (part image region.at head_size)

abbrev pub half_in_force : Layout → List ℕ → Result ℕ (ℕ × ℕ)
half_in_force layout image =
    in_force (head_in (half_of layout 0) image) (head_in (half_of layout 1) image)

-- This half is in force in the image, with this sequence and a closed gate at this place, and says this.
pub record Holds (layout : Layout) (half sequence place : ℕ) (image : List ℕ) (m : Metadata) : Type 0 where
  pub in_force : half_in_force layout image ≡ Ok half
  pub payloads : List (List ℕ)
  pub gated : Gated (region_of (half_of layout half) image) sequence payloads
  pub tail : place ≡ tail_of payloads
  pub says : entries_of layout.stores None first_gate payloads ≡ Ok (Some m)

-- The image has this metadata.
pub record IsMetadata (layout : Layout) (image : List ℕ) (m : Metadata) : Type 0 where
  pub half : ℕ
  pub sequence : ℕ
  pub place : ℕ
  pub holds : Holds layout half sequence place image m

-- The batches of the half in force are refused at this place.
pub record BatchesRefused (layout : Layout) (image : List ℕ) (half place : ℕ) : Type 0 where
  pub in_force : half_in_force layout image ≡ Ok half
  pub sequence : ℕ
  pub payloads : List (List ℕ)
  pub end : End
  pub ends : Ends (region_of (half_of layout half) image) sequence payloads end
  pub refused : metadata_in layout.stores payloads end ≡ Err place

-- The image's manifest is refused in this half at this place.
abbrev pub IsRefused : Layout → List ℕ → ℕ → ℕ → Type 0
IsRefused layout image half place =
    (half_in_force layout image ≡ Err (half, place)) ⊎ BatchesRefused layout image half place

-- The image's manifest says something, or is refused somewhere.
abbrev pub HasReading : Layout → List ℕ → Type 0
HasReading layout image =
    ((m : Metadata) × IsMetadata layout image m) ⊎ ((half : ℕ) × (place : ℕ) × IsRefused layout image half place)
