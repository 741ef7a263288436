-- The test of a prefix against a key says whether the prefix covers it.
use Rattle.std.specs.Prelude.{◌≡◌, ◌↔◌, true, IsTrue, List, ℕ, length, take}
use Rattle.std.proofs.Common.{sym, ap, ◌∙◌, min, arith}
use Rattle.std.proofs.lemmas.List.{length-take}
use Rattle.std.specs.Cmp.Lexicographic.{same_text, nat_list_eq_equiv, pointwise}
use Rattle.std.specs.Prelude.{nat_eq}
use Rattle.hse_rows.specs.writes.Change.{Covers, covers}

covered : (prefix key : List ℕ) → covers prefix key ≡ true → Covers prefix key
covered prefix key is =
    let same : prefix ≡ take (length prefix) key = same_text prefix (take (length prefix) key) (sym is) in
    let long : length prefix ≡ min (length prefix) (length key) = ap length same ∙ length-take (length prefix) key in
    (omega (arith, long), sym same)

told : (prefix key : List ℕ) → Covers prefix key → covers prefix key ≡ true
told prefix key is = ap (pointwise nat_eq prefix) is.1 ∙ nat_list_eq_equiv.refl prefix

pub covers-is : (prefix key : List ℕ) → IsTrue (covers prefix key) ↔ Covers prefix key
covers-is prefix key = (covered prefix key, told prefix key)
