-- A batch as one write puts it behind its gate: its length, its payload and the closed next gate.
use Rattle.std.specs.Prelude.{◌≡◌, ℕ, ◌-◌, ◌^◌, ◌<◌, List, [], ◌∷◌, ◌++◌, length, take, drop}
use Rattle.byteorder.specs.Endian.{big_bytes}

-- what one write puts behind the gate of a batch
abbrev pub framed : List ℕ → List ℕ
framed payload = big_bytes 4 (length payload) ++ (payload ++ 0 ∷ [])

-- the payload in such bytes
abbrev pub payload_of : List ℕ → List ℕ
payload_of bytes = take (length bytes - 5) (drop 4 bytes)

-- the bytes are such bytes, and the payload's length has four of them
pub record IsFramed (bytes : List ℕ) : Type 0 where
  pub spelled : bytes ≡ framed (payload_of bytes)
  pub fits : length (payload_of bytes) < 2 ^ 32
