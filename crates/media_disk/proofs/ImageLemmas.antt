-- What each fill leaves is an image.
use Rattle.std.proofs.Common.{◌≡◌, ℕ, ◌+◌, ◌/◌, ◌≤◌, Bool, true, false, List, [], ◌∷◌, length, get_or, refl, ◌∙◌, inl, inr, arith}
use Rattle.std.specs.Prelude.{if◌then◌else◌}
use Rattle.media_disk.specs.Content.{part, put_at}
use Rattle.media_disk.specs.declared.fill.Fill.{Fill}
use Rattle.media_disk.specs.declared.fill.Fill.TheVariants.{Old, New, Torn, Byte}
use Rattle.media_disk.specs.Filled.{is_safe, put_back, old_of, put_half, torn_of, filled, HoldsByte}
use Rattle.media_disk.specs.Images.{IsImage}
use Rattle.media_disk.specs.Record.{pending_after, pending_of, end_of, reach}
use Rattle.media_disk.specs.declared.call.Call.{Call}
use Rattle.media_disk.specs.declared.call.Work.{Work}
use Rattle.media_disk.specs.declared.call.Work.TheVariants.{Size, SetSize, Read, Write, FailedWrite, Sync}
use Rattle.media_disk.proofs.ByteLemmas.{byte-image, bytes-held}
use Rattle.media_disk.proofs.PlaceLemmas.{RangesFit, OutsideAll, IsOutside, get_or-outside, image-from_places}
use Rattle.media_disk.proofs.WriteLemmas.{length-part, length-put_at, put-torn}
use Rattle.media_disk.specs.laws.Images.{image_now, torn_same}

old-step : (work : Work) (failed : Bool) (earlier : List Call) (bytes : List ℕ) → end_of work failed (reach earlier) ≤ length bytes
    → ((b : List ℕ) → reach earlier ≤ length b → IsImage b (pending_of earlier) (old_of earlier b))
    → IsImage bytes (pending_after work failed (pending_of earlier))
    (if is_safe work failed then bytes else old_of earlier (put_back work bytes))
old-step (Write at old) failed earlier bytes within image =
    let fits : at + length old.items ≤ length bytes = omega (arith, within) in (
      put_at bytes at old.items,
      put-torn bytes at (length old.items) old.items refl fits,
      image (put_at bytes at old.items) (rw (length-put_at bytes at old.items fits) (omega (arith, within))),
    )
old-step (FailedWrite at n) failed earlier bytes within image = (bytes, torn_same at n bytes, image bytes (omega (arith, within)))
old-step (SetSize size) false earlier bytes within image = (bytes, torn_same 0 size bytes, image bytes (omega (arith, within)))
old-step (SetSize size) true earlier bytes within image = image bytes within
old-step Sync false earlier bytes within image = refl
old-step Sync true earlier bytes within image = image bytes within
old-step Size failed earlier bytes within image = image bytes within
old-step Read failed earlier bytes within image = image bytes within

-- the bytes with all pending writes undone are an image
pub old-image : (calls : List Call) (bytes : List ℕ) → reach calls ≤ length bytes → IsImage bytes (pending_of calls) (old_of calls bytes)
old-image [] bytes within = refl
old-image (call ∷ earlier) bytes within =
    old-step call.work call.failed earlier bytes within (λ b fits. old-image earlier b fits)

ranges_step : (n : ℕ) (work : Work) (failed : Bool) (ranges : List (ℕ × ℕ)) (end : ℕ) → end_of work failed end ≤ n
    → (end ≤ n → RangesFit n ranges) → RangesFit n (pending_after work failed ranges)
ranges_step n (Write at old) failed ranges end within fit = (omega (arith, within), fit (omega (arith, within)))
ranges_step n (FailedWrite at m) failed ranges end within fit = (omega (arith, within), fit (omega (arith, within)))
ranges_step n (SetSize size) false ranges end within fit = (omega (arith, within), fit (omega (arith, within)))
ranges_step n (SetSize size) true ranges end within fit = fit within
ranges_step n Sync false ranges end within fit = tt
ranges_step n Sync true ranges end within fit = fit within
ranges_step n Size failed ranges end within fit = fit within
ranges_step n Read failed ranges end within fit = fit within

-- the pending ranges lie within the bytes
pub ranges-fit : (n : ℕ) (calls : List Call) → reach calls ≤ n → RangesFit n (pending_of calls)
ranges-fit n [] within = tt
ranges-fit n (call ∷ earlier) within =
    ranges_step n call.work call.failed (pending_of earlier) (reach earlier) within (λ h. ranges-fit n earlier h)

torn-step : (work : Work) (failed : Bool) (earlier : List Call) (bytes : List ℕ) → end_of work failed (reach earlier) ≤ length bytes
    → ((b : List ℕ) → reach earlier ≤ length b → length (torn_of earlier b) ≡ length b)
    → length (if is_safe work failed then bytes else put_half work bytes (torn_of earlier (put_back work bytes))) ≡ length bytes
torn-step (Write at old) failed earlier bytes within long =
    let fits : at + length old.items ≤ length bytes = omega (arith, within) in
    let back : length (put_at bytes at old.items) ≡ length bytes = length-put_at bytes at old.items fits in
    let torn : length (torn_of earlier (put_at bytes at old.items)) ≡ length bytes =
    long (put_at bytes at old.items) (rw back (omega (arith, within))) ∙ back in
    let half : length (part bytes at (length old.items / 2)) ≡ length old.items / 2 = length-part bytes at (length old.items / 2) (omega arith) in
    length-put_at (torn_of earlier (put_at bytes at old.items)) at (part bytes at (length old.items / 2)) (rw (half, torn) (omega arith)) ∙ torn
torn-step (FailedWrite at n) failed earlier bytes within long = long bytes (omega (arith, within))
torn-step (SetSize size) false earlier bytes within long = long bytes (omega (arith, within))
torn-step (SetSize size) true earlier bytes within long = long bytes within
torn-step Sync false earlier bytes within long = refl
torn-step Sync true earlier bytes within long = long bytes within
torn-step Size failed earlier bytes within long = long bytes within
torn-step Read failed earlier bytes within long = long bytes within

-- half of each write leaves as many bytes
pub length-torn : (calls : List Call) (bytes : List ℕ) → reach calls ≤ length bytes → length (torn_of calls bytes) ≡ length bytes
length-torn [] bytes within = refl
length-torn (call ∷ earlier) bytes within =
    torn-step call.work call.failed earlier bytes within (λ b fits. length-torn earlier b fits)

place-step : (work : Work) (failed : Bool) (earlier : List Call) (bytes : List ℕ) (i : ℕ) → end_of work failed (reach earlier) ≤ length bytes
    → OutsideAll (pending_after work failed (pending_of earlier)) i
    → ((b : List ℕ) → reach earlier ≤ length b → OutsideAll (pending_of earlier) i → get_or (torn_of earlier b) i 0 ≡ get_or b i 0)
    → get_or (if is_safe work failed then bytes else put_half work bytes (torn_of earlier (put_back work bytes))) i 0 ≡ get_or bytes i 0
place-step (Write at old) failed earlier bytes i within outside same =
    let fits : at + length old.items ≤ length bytes = omega (arith, within) in
    let back : length (put_at bytes at old.items) ≡ length bytes = length-put_at bytes at old.items fits in
    let torn : length (torn_of earlier (put_at bytes at old.items)) ≡ length bytes =
    length-torn earlier (put_at bytes at old.items) (rw back (omega (arith, within))) ∙ back in
    let half : length (part bytes at (length old.items / 2)) ≡ length old.items / 2 = length-part bytes at (length old.items / 2) (omega arith) in
    let half_outside : IsOutside at (length (part bytes at (length old.items / 2))) i =
    rw half (elim outside.0 [ inl below ↦ inl below | inr above ↦ inr (omega arith) ]) in
    get_or-outside (torn_of earlier (put_at bytes at old.items)) at (part bytes at (length old.items / 2)) i (rw (half, torn) (omega arith)) half_outside
    ∙ same (put_at bytes at old.items) (rw back (omega (arith, within))) outside.1
    ∙ get_or-outside bytes at old.items i fits outside.0
place-step (FailedWrite at n) failed earlier bytes i within outside same = same bytes (omega (arith, within)) outside.1
place-step (SetSize size) false earlier bytes i within outside same = same bytes (omega (arith, within)) outside.1
place-step (SetSize size) true earlier bytes i within outside same = same bytes within outside
place-step Sync false earlier bytes i within outside same = refl
place-step Sync true earlier bytes i within outside same = same bytes within outside
place-step Size failed earlier bytes i within outside same = same bytes within outside
place-step Read failed earlier bytes i within outside same = same bytes within outside

-- half of each write changes no byte outside the pending ranges
pub torn-places : (calls : List Call) (bytes : List ℕ) (i : ℕ) → reach calls ≤ length bytes → OutsideAll (pending_of calls) i
    → get_or (torn_of calls bytes) i 0 ≡ get_or bytes i 0
torn-places [] bytes i within outside = refl
torn-places (call ∷ earlier) bytes i within outside =
    place-step call.work call.failed earlier bytes i within outside (λ b fits out. torn-places earlier b i fits out)

-- the bytes with half of each pending write are an image
pub torn-image : (calls : List Call) (bytes : List ℕ) → reach calls ≤ length bytes → IsImage bytes (pending_of calls) (torn_of calls bytes)
torn-image calls bytes within =
    image-from_places (pending_of calls) bytes (torn_of calls bytes) (length-torn calls bytes within)
    (ranges-fit (length bytes) calls within) (λ i below outside. torn-places calls bytes i within outside)

-- what each fill leaves is an image
pub filled-image : (fill : Fill) (calls : List Call) (bytes : List ℕ) → reach calls ≤ length bytes
    → IsImage bytes (pending_of calls) (filled fill calls bytes)
filled-image Old calls bytes within = old-image calls bytes within
filled-image New calls bytes within = image_now bytes (pending_of calls)
filled-image Torn calls bytes within = torn-image calls bytes within
filled-image (Byte b) calls bytes within = byte-image b (pending_of calls) bytes (ranges-fit (length bytes) calls within)

-- the byte of a fill stands in all pending ranges
pub filled-held : (fill : Fill) (calls : List Call) (bytes : List ℕ) → reach calls ≤ length bytes
    → HoldsByte fill (pending_of calls) (filled fill calls bytes)
filled-held Old calls bytes within = tt
filled-held New calls bytes within = tt
filled-held Torn calls bytes within = tt
filled-held (Byte b) calls bytes within = bytes-held b (pending_of calls) bytes (ranges-fit (length bytes) calls within)
