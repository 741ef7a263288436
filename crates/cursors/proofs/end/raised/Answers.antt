use Rattle.std.proofs.Common.{◌≡◌, ℕ, ◌-◌, List, length, take, slice_index_or, true, subst}
use Rattle.hse_rows.specs.writes.Change.{covers}
use Rattle.cursors.proofs.StartLemmas.{covers-front, raised-behind, front-last}
use Rattle.cursors.proofs.end.raised.Goals as goal

pub returns-then-last-lt255 : goal.returns-then-last-lt255
returns-then-last-lt255 c = λ key is.
    let left = c.loop-left.left.now in
    raised-behind (take (length left - 1) left) (slice_index_or left (length left - 1) 0) key
    (subst (λ (l : List ℕ). covers l key ≡ true) (front-last left c.in-len1-up.len_at_least) (c.loop-left.invariant key is))

pub loop-left-preserved : goal.loop-left-preserved
loop-left-preserved c = λ key is.
    let left = c.loop-left.left.now in
    covers-front (take (length left - 1) left) (slice_index_or left (length left - 1) 0) key
    (subst (λ (l : List ℕ). covers l key ≡ true) (front-last left c.in-len1-up.len_at_least) (c.loop-left.invariant key is))
