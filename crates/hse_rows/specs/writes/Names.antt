-- What a name is.
use Rattle.std.specs.Prelude.{◌≡◌, ℕ, ◌<◌, ◌≤◌, Bool, true, nat_le, ◌==◌, ◌&&◌, ◌||◌, List, length}
use Rattle.std.specs.List.{list_all}

-- low ≤ byte ≤ high
abbrev pub is_between : ℕ → ℕ → ℕ → Bool
is_between low high byte = nat_le low byte && nat_le byte high

-- a letter, a digit, `-` or `_`
abbrev pub is_name_byte : ℕ → Bool
is_name_byte byte =
    is_between 97 122 byte || is_between 65 90 byte || is_between 48 57 byte
    || (byte == 45) || (byte == 95)

-- 1 to 31 of these
pub record IsName (text : List ℕ) : Type 0 where
  pub some : 0 < length text
  pub most : length text ≤ 31
  pub letters : list_all is_name_byte text ≡ true
