-- Two writes, one right behind the other, are one.
use Rattle.std.proofs.Common.{◌≡◌, ℕ, ◌+◌, ◌-◌, ◌≤◌, List, ◌++◌, length, take, drop, sym, ◌∙◌, ap, arith, append_assoc, length-append}
use Rattle.std.proofs.lemmas.List.{length-take-le, take-take, take_at, drop_at, drop-drop}
use Rattle.media_disk.specs.Content.{put_at, Torn}

-- the later write comes right before the earlier one
pub put_before : (bytes first second : List ℕ) (at : ℕ) → at + length first ≤ length bytes
    → put_at (put_at bytes (at + length first) second) at first ≡ put_at bytes at (first ++ second)
put_before bytes first second at fits =
    let n = at + length first in
    let long : length (take n bytes) ≡ n = length-take-le n bytes fits in
    let rest = drop (n + length second) bytes in
    let front : take at (put_at bytes n second) ≡ take at bytes =
    sym (take-take at n (put_at bytes n second) (omega arith))
    ∙ ap (take at) (take_at (take n bytes) (second ++ rest) n long)
    ∙ take-take at n bytes (omega arith) in
    let back : drop n (put_at bytes n second) ≡ second ++ rest = drop_at (take n bytes) (second ++ rest) n long in
    let count : n + length second ≡ at + length (first ++ second) = omega (arith, length-append first second) in
    ap (λ (l : List ℕ). l ++ (first ++ drop n (put_at bytes n second))) front
    ∙ ap (λ (l : List ℕ). take at bytes ++ (first ++ l)) back
    ∙ ap (λ (l : List ℕ). take at bytes ++ l)
    (sym (append_assoc first second rest) ∙ ap (λ (i : ℕ). (first ++ second) ++ drop i bytes) count)

-- a write does not show what stood in its range
pub put_over : (bytes torn new : List ℕ) (at n : ℕ) → n ≤ length new → Torn at n bytes torn → put_at torn at new ≡ put_at bytes at new
put_over bytes torn new at n within is =
    let l = length new in
    let count : at + n + (l - n) ≡ at + l = omega arith in
    let back : drop (at + l) torn ≡ drop (at + l) bytes =
    ap (λ (i : ℕ). drop i torn) (sym count) ∙ sym (drop-drop (l - n) (at + n) torn)
    ∙ ap (drop (l - n)) is.after
    ∙ drop-drop (l - n) (at + n) bytes ∙ ap (λ (i : ℕ). drop i bytes) count in
    (λ i. is.before i ++ (new ++ back i))
