-- What a write does to the bytes of a device.
use Rattle.std.proofs.Common.{◌≡◌, ℕ, ◌+◌, ◌≤◌, List, ◌++◌, length, take, drop, refl, sym, ap, ◌∙◌, arith}
use Rattle.std.proofs.lemmas.List.{length-take, length-take-le, length-drop, length-append, take_at, drop_at, take-append-drop, drop-drop}
use Rattle.media_disk.specs.Content.{part, put_at, Torn}

-- a part within the bytes is as long as asked
pub length-part : (bytes : List ℕ) (at n : ℕ) → at + n ≤ length bytes → length (part bytes at n) ≡ n
length-part bytes at n fits = length-take-le n (drop at bytes) (rw length-drop (omega arith))

-- a write within the bytes keeps their length
pub length-put_at : (bytes : List ℕ) (at : ℕ) (new : List ℕ) → at + length new ≤ length bytes → length (put_at bytes at new) ≡ length bytes
length-put_at bytes at new fits = simp (length-append, length-take, length-drop) (omega arith)

-- below a write nothing changes
pub take-put_at : (bytes : List ℕ) (at : ℕ) (new : List ℕ) → at ≤ length bytes → take at (put_at bytes at new) ≡ take at bytes
take-put_at bytes at new fits = take_at (take at bytes) (new ++ drop (at + length new) bytes) at (length-take-le at bytes fits)

-- from the write's offset on there are its bytes, and what stood behind them
pub drop-put_at : (bytes : List ℕ) (at : ℕ) (new : List ℕ) → at ≤ length bytes
    → drop at (put_at bytes at new) ≡ new ++ drop (at + length new) bytes
drop-put_at bytes at new fits = drop_at (take at bytes) (new ++ drop (at + length new) bytes) at (length-take-le at bytes fits)

-- behind a write nothing changes
pub drop-put_at_end : (bytes : List ℕ) (at n : ℕ) (new : List ℕ) → n ≡ length new → at ≤ length bytes
    → drop (at + n) (put_at bytes at new) ≡ drop (at + n) bytes
drop-put_at_end bytes at n new long fits =
    sym (drop-drop n at (put_at bytes at new))
    ∙ ap (drop n) (drop-put_at bytes at new fits)
    ∙ drop_at new (drop (at + length new) bytes) n (sym long)
    ∙ ap (λ k. drop (at + k) bytes) (sym long)

-- a write changes its range alone
pub put-torn : (bytes : List ℕ) (at n : ℕ) (new : List ℕ) → n ≡ length new → at + n ≤ length bytes → Torn at n bytes (put_at bytes at new)
put-torn bytes at n new long fits = record {
  as_long = length-put_at bytes at new (rw (← long) fits);
  before = take-put_at bytes at new (omega arith);
  after = drop-put_at_end bytes at n new long (omega arith);
}

-- the bytes are made of what lies before a part, the part, and what lies behind
pub put_at-part : (bytes : List ℕ) (at n : ℕ) → at + n ≤ length bytes → put_at bytes at (part bytes at n) ≡ bytes
put_at-part bytes at n fits =
    rw (length-part bytes at n fits)
    (rw (← drop-drop n at bytes)
    (rw (take-append-drop n (drop at bytes)) (take-append-drop at bytes)))

-- the old bytes of a write's range undo it
pub put_at-undone : (bytes : List ℕ) (at : ℕ) (new : List ℕ) → at + length new ≤ length bytes
    → put_at (put_at bytes at new) at (part bytes at (length new)) ≡ bytes
put_at-undone bytes at new fits =
    rw (take-put_at bytes at new (omega arith))
    (rw (length-part bytes at (length new) fits)
    (rw (drop-put_at_end bytes at (length new) new refl (omega arith))
    (rw (← drop-drop (length new) at bytes)
    (rw (take-append-drop (length new) (drop at bytes)) (take-append-drop at bytes)))))
