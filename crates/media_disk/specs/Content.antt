-- The bytes of a device.
use Rattle.std.specs.Prelude.{◌≡◌, ℕ, ◌+◌, List, ◌++◌, length, take, drop}

-- n bytes from an offset on
abbrev pub part : List ℕ → ℕ → ℕ → List ℕ
part bytes at n = take n (drop at bytes)

-- the bytes with others in place of those from an offset on
abbrev pub put_at : List ℕ → ℕ → List ℕ → List ℕ
put_at bytes at new = take at bytes ++ (new ++ drop (at + length new) bytes)

-- the same but for n bytes from an offset on, which may be any
pub record Torn (at n : ℕ) (old new : List ℕ) : Type 0 where
  pub as_long : length new ≡ length old
  pub before : take at new ≡ take at old
  pub after : drop (at + n) new ≡ drop (at + n) old
