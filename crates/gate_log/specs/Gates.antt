-- The gated region: a head gate, a sequence, and batches up to the first closed gate.
--
--     0         head gate
--     1 to 8    sequence
--     9         gate of the first batch
--     gate g    a batch: length n in four bytes at g + 1, n bytes of payload at g + 5, the next gate at g + 5 + n
use Rattle.std.specs.Prelude.{◌≡◌, ◌≢◌, ℕ, ◌+◌, ◌^◌, ◌<◌, List, [], ◌∷◌, ◌++◌, length, flat_map}
use Rattle.std.specs.List.{AllByRecursion}
use Rattle.byteorder.specs.Endian.{big_bytes, big_number}

-- the place of the first batch's gate
abbrev pub first_gate : ℕ
first_gate = 9

-- the least size of a region
abbrev pub least_size : ℕ
least_size = 10

-- what a batch takes beside its payload: its gate and its length
abbrev pub frame_size : ℕ
frame_size = 5

-- An open gate. Every other byte is a closed one.
abbrev pub open_gate : ℕ
open_gate = 79

-- a batch with its open gate
abbrev pub frame : List ℕ → List ℕ
frame payload = open_gate ∷ (big_bytes 4 (length payload) ++ payload)

-- a region with an open head, up to the closed gate behind its batches
abbrev pub open_part : ℕ → List (List ℕ) → List ℕ
open_part sequence payloads = open_gate ∷ (big_bytes 8 sequence ++ flat_map frame payloads)

-- a payload's length has four bytes
abbrev pub AreFramed : List (List ℕ) → Type 0
AreFramed payloads = AllByRecursion (λ payload. length payload < 2 ^ 32) payloads

-- The region holds these batches and no others: behind them stands a closed gate.
pub record Gated (region : List ℕ) (sequence : ℕ) (payloads : List (List ℕ)) : Type 0 where
  pub gate : ℕ
  pub rest : List ℕ
  pub closed : gate ≢ open_gate
  pub spelled : region ≡ open_part sequence payloads ++ gate ∷ rest
  pub framed : AreFramed payloads
  pub sequence_fits : sequence < 2 ^ 64

-- the byte that a closed gate is written as
abbrev pub closed_gate : ℕ
closed_gate = 0

-- The region holds these batches, and the closed gate behind them was written.
pub record IsWritten (region : List ℕ) (sequence : ℕ) (payloads : List (List ℕ)) : Type 0 where
  pub gated : Gated region sequence payloads
  pub gate_is : gated.gate ≡ closed_gate

-- what a start writes: an open head, the sequence, and a closed first gate
abbrev pub started_text : ℕ → List ℕ
started_text sequence = open_gate ∷ (big_bytes 8 sequence ++ closed_gate ∷ [])

-- The region's head is closed, so it holds nothing.
abbrev pub IsClosed : List ℕ → Type 0
IsClosed [] = Unit {0}
IsClosed (gate ∷ rest) = gate ≢ open_gate

-- Behind an open gate the length, the payload or the next gate does not lie inside the region.
abbrev pub IsCutOff : List ℕ → Type 0
IsCutOff rest = length rest < frame_size + big_number 4 rest

-- The region holds these batches, and behind them stands an open gate whose batch is cut off. At this
-- place stands the length of that batch.
pub record IsCutOffAt (region : List ℕ) (sequence : ℕ) (payloads : List (List ℕ)) (place : ℕ) : Type 0 where
  pub rest : List ℕ
  pub cut_off : IsCutOff rest
  pub spelled : region ≡ open_part sequence payloads ++ open_gate ∷ rest
  pub framed : AreFramed payloads
  pub sequence_fits : sequence < 2 ^ 64
  pub place_is : place ≡ length (open_part sequence payloads) + 1

-- The region is refused at this place: the length of the first batch that is cut off.
pub record DamagedAt (region : List ℕ) (place : ℕ) : Type 0 where
  pub sequence : ℕ
  pub payloads : List (List ℕ)
  pub rest : List ℕ
  pub cut_off : IsCutOff rest
  pub spelled : region ≡ open_part sequence payloads ++ open_gate ∷ rest
  pub framed : AreFramed payloads
  pub sequence_fits : sequence < 2 ^ 64
  pub place_is : place ≡ length (open_part sequence payloads) + 1
