use Rattle.std.proofs.Common.{◌≡◌, ℕ, Bool, true, false, if◌then◌else◌, List, ◌++◌, inl, inr, codes, refl}
use Rattle.hex.specs.Hex.{encode_lower, IsBytes}
use Rattle.hex.proofs.HexLemmas.{decode_of-encode_lower}
use Rattle.shell_text.specs.Replies.{item_text}
use Rattle.shell_text.specs.Words.{is_plain, IsItem}
use Rattle.shell_text.proofs.laws.items_read_back.Goals as goal

by_test : (bytes : List ℕ) (plain : Bool) → IsBytes bytes → is_plain bytes ≡ plain
    → IsItem (if plain then bytes else codes "x:" ++ encode_lower bytes) bytes
by_test bytes true fit test = inl (test, refl)
by_test bytes false fit test = inr (encode_lower bytes, (refl, decode_of-encode_lower bytes fit))

read_back : (bytes : List ℕ) → IsBytes bytes → IsItem (item_text bytes) bytes
unfolding item_text
read_back bytes fit = by_test bytes (is_plain bytes) fit refl

pub returns : goal.returns
returns c = record { read_back = read_back }
