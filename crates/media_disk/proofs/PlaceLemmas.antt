-- Single bytes of a device, and images that differ from it in the pending ranges alone.
use Rattle.std.proofs.Common.{◌≡◌, ◌⊎◌, ℕ, ◌+◌, ◌-◌, ◌<◌, ◌≤◌, List, [], ◌∷◌, ◌++◌, length, take, drop, get_or, refl, sym, ap, ◌∙◌, inl, inr, arith}
use Rattle.std.proofs.lemmas.List.{get_or_append_left, get_or-append_right, get_or-take, get_or-drop, length-take-le}
use Rattle.std.proofs.lemmas.Grind.{same_number_lists}
use Rattle.std.proofs.lemmas.Bool.{cases_lt}
use Rattle.media_disk.specs.Content.{part, put_at}
use Rattle.media_disk.specs.Images.{IsImage}
use Rattle.media_disk.proofs.WriteLemmas.{length-part, put-torn}

-- each range lies within this many bytes
abbrev pub RangesFit : ℕ → List (ℕ × ℕ) → Type 0
RangesFit n [] = Unit {0}
RangesFit n (range ∷ ranges) = (range.0 + range.1 ≤ n) × RangesFit n ranges

-- a place lies outside a range
abbrev pub IsOutside : ℕ → ℕ → ℕ → Type 0
IsOutside at n i = (i < at) ⊎ (at + n ≤ i)

-- a place lies outside all ranges
abbrev pub OutsideAll : List (ℕ × ℕ) → ℕ → Type 0
OutsideAll [] i = Unit {0}
OutsideAll (range ∷ ranges) i = IsOutside range.0 range.1 i × OutsideAll ranges i

-- a byte of a part
pub get_or-part : (bytes : List ℕ) (at n i : ℕ) → i < n → get_or (part bytes at n) i 0 ≡ get_or bytes (at + i) 0
get_or-part bytes at n i below = get_or-take n (drop at bytes) i 0 below ∙ get_or-drop at bytes i 0

-- a byte outside a write stays
pub get_or-outside : (bytes : List ℕ) (at : ℕ) (new : List ℕ) (i : ℕ) → at + length new ≤ length bytes → IsOutside at (length new) i
    → get_or (put_at bytes at new) i 0 ≡ get_or bytes i 0
get_or-outside bytes at new i fits (inl below) =
    let front : i < length (take at bytes) = rw (length-take-le at bytes (omega arith)) below in
    get_or_append_left (take at bytes) (new ++ drop (at + length new) bytes) 0 i front ∙ get_or-take at bytes i 0 below
get_or-outside bytes at new i fits (inr above) =
    get_or-append_right (take at bytes) (new ++ drop (at + length new) bytes) at i 0 (length-take-le at bytes (omega arith)) (omega arith)
    ∙ get_or-append_right new (drop (at + length new) bytes) (length new) (i - at) 0 refl (omega arith)
    ∙ get_or-drop (at + length new) bytes (i - at - length new) 0
    ∙ ap (λ k. get_or bytes k 0) (omega arith)

-- a byte inside a write is the write's
pub get_or-inside : (bytes : List ℕ) (at : ℕ) (new : List ℕ) (i : ℕ) → at + length new ≤ length bytes → at ≤ i → i < at + length new
    → get_or (put_at bytes at new) i 0 ≡ get_or new (i - at) 0
get_or-inside bytes at new i fits from to =
    get_or-append_right (take at bytes) (new ++ drop (at + length new) bytes) at i 0 (length-take-le at bytes (omega arith)) from
    ∙ get_or_append_left new (drop (at + length new) bytes) 0 (i - at) (omega arith)

-- a byte that differs from the image's outside other ranges alone, once the image's part stands in the first range
place-in_part : (at n : ℕ) (ranges : List (ℕ × ℕ)) (bytes image : List ℕ) → length image ≡ length bytes → at + n ≤ length bytes
    → ((i : ℕ) → i < length bytes → OutsideAll ((at, n) ∷ ranges) i → get_or image i 0 ≡ get_or bytes i 0)
    → (i : ℕ) → i < length bytes → OutsideAll ranges i → get_or image i 0 ≡ get_or (put_at bytes at (part image at n)) i 0
place-in_part at n ranges bytes image long fit same i below outside =
    let part_long : length (part image at n) ≡ n = length-part image at n (rw long fit) in
    let fits : at + length (part image at n) ≤ length bytes = rw part_long fit in
    elim (cases_lt i at) [
      | inl before ↦ same i below (inl before, outside)
          ∙ sym (get_or-outside bytes at (part image at n) i fits (inl before))
      | inr from ↦ elim (cases_lt i (at + n)) [
        | inl within ↦ sym (get_or-inside bytes at (part image at n) i fits from (omega arith)
            ∙ get_or-part image at n (i - at) (omega arith) ∙ ap (λ k. get_or image k 0) (omega arith))
        | inr after ↦ same i below (inr after, outside)
            ∙ sym (get_or-outside bytes at (part image at n) i fits (inr (omega arith)))
      ]
    ]

-- what differs from the bytes in the ranges alone is an image
pub image-from_places : (ranges : List (ℕ × ℕ)) (bytes image : List ℕ) → length image ≡ length bytes → RangesFit (length bytes) ranges
    → ((i : ℕ) → i < length bytes → OutsideAll ranges i → get_or image i 0 ≡ get_or bytes i 0) → IsImage bytes ranges image
image-from_places [] bytes image long fit same =
    same_number_lists image bytes long (λ k below. same k (rw (← long) below) tt)
image-from_places (range ∷ ranges) bytes image long fit same =
    let new_long : length (part image range.0 range.1) ≡ range.1 = length-part image range.0 range.1 (rw long fit.0) in
    let torn = put-torn bytes range.0 range.1 (part image range.0 range.1) (sym new_long) fit.0 in (
      put_at bytes range.0 (part image range.0 range.1),
      torn,
      image-from_places ranges (put_at bytes range.0 (part image range.0 range.1)) image (long ∙ sym torn.as_long) (rw torn.as_long fit.1)
          (λ i below outside. place-in_part range.0 range.1 ranges bytes image long fit.0 same i (rw torn.as_long at below) outside),
    )
