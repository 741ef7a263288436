-- Ranges that hold one byte.
use Rattle.std.proofs.Common.{◌≡◌, ℕ, ◌+◌, ◌-◌, ◌<◌, ◌≤◌, List, [], ◌∷◌, length, get_or, replicate, refl, sym, ◌∙◌, inl, inr, arith}
use Rattle.std.specs.Prelude.{All}
use Rattle.std.proofs.lemmas.List.{length-replicate, get_or-replicate}
use Rattle.std.proofs.lemmas.List.Elements.{All-nil, All-cons}
use Rattle.std.proofs.lemmas.Bool.{cases_lt}
use Rattle.std.proofs.lemmas.Grind.{same_number_lists}
use Rattle.media_disk.specs.Content.{part, put_at}
use Rattle.media_disk.specs.Filled.{byte_of}
use Rattle.media_disk.specs.Images.{IsImage}
use Rattle.media_disk.proofs.PlaceLemmas.{RangesFit, get_or-part, get_or-inside, get_or-outside}
use Rattle.media_disk.proofs.WriteLemmas.{length-part, length-put_at, put-torn}

-- one byte put on a range keeps the length
length-blank : (b at n : ℕ) (bytes : List ℕ) → at + n ≤ length bytes → length (put_at bytes at (replicate n b)) ≡ length bytes
length-blank b at n bytes fits = length-put_at bytes at (replicate n b) (rw (length-replicate n b) fits)

-- one byte on all ranges is an image
pub byte-image : (b : ℕ) (ranges : List (ℕ × ℕ)) (bytes : List ℕ) → RangesFit (length bytes) ranges → IsImage bytes ranges (byte_of b ranges bytes)
byte-image b [] bytes fit = refl
byte-image b (range ∷ ranges) bytes fit = (
  put_at bytes range.0 (replicate range.1 b),
  put-torn bytes range.0 range.1 (replicate range.1 b) (sym (length-replicate range.1 b)) fit.0,
  byte-image b ranges (put_at bytes range.0 (replicate range.1 b)) (rw (length-blank b range.0 range.1 bytes fit.0) fit.1),
)

-- each byte of a range is this one
abbrev Holds : ℕ → ℕ → ℕ → List ℕ → Type 0
Holds b at n bytes = (i : ℕ) → at ≤ i → i < at + n → get_or bytes i 0 ≡ b

-- the range that a byte is put on holds it
holds-blank : (b at n : ℕ) (bytes : List ℕ) → at + n ≤ length bytes → Holds b at n (put_at bytes at (replicate n b))
holds-blank b at n bytes fits i from to =
    let long : length (replicate n b) ≡ n = length-replicate n b in
    get_or-inside bytes at (replicate n b) i (rw long fits) from (rw long to) ∙ get_or-replicate n (i - at) b 0 (omega arith)

-- a range that holds the byte keeps it
holds-kept : (b at n at' n' : ℕ) (bytes : List ℕ) → at' + n' ≤ length bytes → Holds b at n bytes → Holds b at n (put_at bytes at' (replicate n' b))
holds-kept b at n at' n' bytes fits holds i from to =
    let long : length (replicate n' b) ≡ n' = length-replicate n' b in
    elim (cases_lt i at') [
      | inl before ↦ get_or-outside bytes at' (replicate n' b) i (rw long fits) (inl before) ∙ holds i from to
      | inr after ↦ elim (cases_lt i (at' + n')) [
        | inl within ↦ holds-blank b at' n' bytes fits i after within
        | inr behind ↦ get_or-outside bytes at' (replicate n' b) i (rw long fits) (inr (rw long behind)) ∙ holds i from to
      ]
    ]

-- the same over many ranges
holds-all : (b at n : ℕ) (ranges : List (ℕ × ℕ)) (bytes : List ℕ) → RangesFit (length bytes) ranges → Holds b at n bytes
    → Holds b at n (byte_of b ranges bytes) × (length (byte_of b ranges bytes) ≡ length bytes)
holds-all b at n [] bytes fit holds = (holds, refl)
holds-all b at n (range ∷ ranges) bytes fit holds =
    let long = length-blank b range.0 range.1 bytes fit.0 in
    let rest = holds-all b at n ranges (put_at bytes range.0 (replicate range.1 b)) (rw long fit.1)
    (holds-kept b at n range.0 range.1 bytes fit.0 holds) in
    (rest.0, rest.1 ∙ long)

-- a range that holds a byte is made of it
part-held : (b at n : ℕ) (bytes : List ℕ) → at + n ≤ length bytes → Holds b at n bytes → part bytes at n ≡ replicate n b
part-held b at n bytes fits holds =
    let long : length (part bytes at n) ≡ n = length-part bytes at n fits in
    same_number_lists (part bytes at n) (replicate n b) (long ∙ sym (length-replicate n b))
    (λ k below. let within : k < n = rw long at below in
    get_or-part bytes at n k within ∙ holds (at + k) (omega arith) (omega arith) ∙ sym (get_or-replicate n k b 0 within))

-- each range is made of the byte that was put on all
pub bytes-held : (b : ℕ) (ranges : List (ℕ × ℕ)) (bytes : List ℕ) → RangesFit (length bytes) ranges
    → All (λ range. part (byte_of b ranges bytes) range.0 range.1 ≡ replicate range.1 b) ranges
bytes-held b [] bytes fit = All-nil (λ range. part bytes range.0 range.1 ≡ replicate range.1 b)
bytes-held b (range ∷ ranges) bytes fit =
    let long = length-blank b range.0 range.1 bytes fit.0 in
    let held = holds-all b range.0 range.1 ranges (put_at bytes range.0 (replicate range.1 b)) (rw long fit.1) (holds-blank b range.0 range.1 bytes fit.0) in
    All-cons (λ r. part (byte_of b (range ∷ ranges) bytes) r.0 r.1 ≡ replicate r.1 b) range ranges
    (part-held b range.0 range.1 (byte_of b (range ∷ ranges) bytes) (rw (held.1, long) fit.0) held.0)
    (bytes-held b ranges (put_at bytes range.0 (replicate range.1 b)) (rw long fit.1))
