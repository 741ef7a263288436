-- Tables of refusals, line by line.
use Rattle.std.proofs.Common.{◌≡◌, ◌<◌, ◌≤◌, refl, sym, true≢false, ℕ, Bool, true, false, nat_le, nat_lt, Option, Some, arith}
use Rattle.std.proofs.lemmas.Bool.Decides.{nat_tests}
use Rattle.hse_rows.specs.machine.Replies.{Refusal}
use Rattle.hse_rows.specs.machine.CoreRefusal.{refuse}

pub passed : (test : Bool) (reason : Refusal ℕ) (later last : Option (Refusal ℕ)) → test ≡ false → later ≡ last → refuse test reason later ≡ last
passed true reason later last is rest = absurd (true≢false is)
passed false reason later last is rest = rest

pub stopped : (test : Bool) (reason : Refusal ℕ) (later : Option (Refusal ℕ)) → test ≡ true → refuse test reason later ≡ Some reason
stopped true reason later is = refl
stopped false reason later is = absurd (true≢false (sym is))

pub is-not_le : (m n : ℕ) → n < m → nat_le m n ≡ false
is-not_le m n less = grind (arith, nat_tests, less)

pub is-le : (m n : ℕ) → m ≤ n → nat_le m n ≡ true
is-le m n less = grind (arith, nat_tests, less)

pub is-not_lt : (m n : ℕ) → n ≤ m → nat_lt m n ≡ false
is-not_lt m n less = grind (arith, nat_tests, less)

pub is-lt : (m n : ℕ) → m < n → nat_lt m n ≡ true
is-lt m n less = grind (arith, nat_tests, less)
