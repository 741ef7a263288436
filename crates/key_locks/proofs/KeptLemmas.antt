-- A prune keeps what commits above its number say.
use Rattle.std.proofs.Common.{◌≡◌, ◌<◌, ◌==◌, ◌&&◌, ◌||◌, ℕ, Bool, true, false, cond, nat_lt, List, [], ◌∷◌, refl, ap, sym, ◌∙◌, arith}
use Rattle.hse_rows.specs.declared.write.Write.{Write}
use Rattle.hse_rows.specs.writes.Overlap.{overlaps}
use Rattle.key_locks.specs.Logged.{without_old}
use Rattle.key_locks.specs.Since.{has_commit}

apart : (least first number : ℕ) → least < number → nat_lt least first ≡ false → (first == number) ≡ false
apart least first number less is = grind (arith, less, is)

pub kept : (write : Write) (least number : ℕ) → least < number → (commits : List (ℕ × Write))
    → has_commit write number (without_old (λ (commit : ℕ × Write). commit.0) least commits) ≡ has_commit write number commits
kept write least number less [] = refl
kept write least number less (c ∷ cs) = by (nat_lt least c.0) refl (kept write least number less cs)
  where
    by : (b : Bool) → nat_lt least c.0 ≡ b
        → has_commit write number (without_old (λ (commit : ℕ × Write). commit.0) least cs) ≡ has_commit write number cs
        → has_commit write number (cond b (c ∷ cs) (without_old (λ (commit : ℕ × Write). commit.0) least cs)) ≡ has_commit write number (c ∷ cs)
    by true is rest = refl
    by false is rest = rest ∙ sym (ap (λ b. (b && overlaps write c.1) || has_commit write number cs) (apart least c.0 number less is))
