-- The writes of a formatting over zeros give the text of a new device.
use Rattle.std.proofs.Common.{◌≡◌, ◌∙◌, ℕ, suc, ◌+◌, ◌-◌, ◌*◌, ◌^◌, ◌≤◌, List, [], ◌∷◌, ◌++◌, length, take, drop, refl, sym, ap, arith, append_assoc, length-append}
use Rattle.std.specs.Prelude.{replicate}
use Rattle.std.specs.List.{AllByRecursion}
use Rattle.std.proofs.lemmas.List.{length-replicate, replicate-append-replicate, take_at, drop_at}
use Rattle.byteorder.specs.Endian.{big_bytes}
use Rattle.media_disk.specs.Content.{put_at}
use Rattle.gate_log.specs.Framed.{framed}
use Rattle.gate_log.specs.Gates.{first_gate, open_gate, open_part, started_text}
use Rattle.hse_rows.specs.machine.Sizes.{device_block}
use Rattle.device_layout.specs.Layouts.{IsGood, half_of, known_version, params_of, size_of_device}
use Rattle.device_layout.specs.Superblock.{IsSuperblock, mark, sizes_text}
use Rattle.device_layout.specs.declared.layout.Layout.{Layout}
use Rattle.manifest.specs.Text.{base_text}
use Rattle.recovery.specs.DeviceText.{device_text, padded, superblock_text, zeros}
use Rattle.recovery.specs.Formatting.{first_metadata}
use Rattle.recovery.specs.Image.{log_region}

-- ---- zeros

zeros_are : (n : ℕ) → replicate n 0 ≡ zeros n
unfolding zeros
zeros_are n = refl

no_zeros : zeros 0 ≡ []
unfolding zeros
no_zeros = refl

one_zero_more : (n : ℕ) → 0 ∷ zeros n ≡ zeros (suc n)
unfolding zeros
one_zero_more n = refl

length-zeros : (n : ℕ) → length (zeros n) ≡ n
unfolding zeros
length-zeros n = length-replicate n 0

zeros-add : (n m : ℕ) → zeros n ++ zeros m ≡ zeros (n + m)
unfolding zeros
zeros-add n m = replicate-append-replicate n m 0

-- so many zeros are these and those
zeros_parted : (whole n m : ℕ) → whole ≡ n + m → zeros whole ≡ zeros n ++ zeros m
zeros_parted whole n m is = ap zeros is ∙ sym (zeros-add n m)

all_zeros : (bytes : List ℕ) → AllByRecursion (λ (byte : ℕ). byte ≡ 0) bytes → bytes ≡ zeros (length bytes)
all_zeros [] all = sym no_zeros
all_zeros (byte ∷ bytes) all = (λ i. all.0 i ∷ all_zeros bytes all.1 i) ∙ one_zero_more (length bytes)

-- ---- a write over zeros

put_zeros : (front new : List ℕ) (at n gap : ℕ) → at ≡ length front + gap → gap + length new ≤ n
    → put_at (front ++ zeros n) at new ≡ front ++ (zeros gap ++ (new ++ zeros (n - gap - length new)))
put_zeros front new at n gap is fits =
    let kept = front ++ zeros gap in
    let left = n - gap - length new in
    let behind = zeros (length new) ++ zeros left in
    let whole : front ++ zeros n ≡ kept ++ behind =
    ap (λ (l : List ℕ). front ++ l)
    (zeros_parted n gap (length new + left) (omega arith) ∙ ap (λ (l : List ℕ). zeros gap ++ l) (sym (zeros-add (length new) left)))
    ∙ sym (append_assoc front (zeros gap) behind) in
    let long : length kept ≡ at = omega (arith, length-append front (zeros gap), length-zeros gap) in
    let longer : length (kept ++ zeros (length new)) ≡ at + length new =
    omega (arith, long, length-append kept (zeros (length new)), length-zeros (length new)) in
    let before : take at (front ++ zeros n) ≡ kept = ap (take at) whole ∙ take_at kept behind at long in
    let after : drop (at + length new) (front ++ zeros n) ≡ zeros left =
    ap (drop (at + length new)) (whole ∙ sym (append_assoc kept (zeros (length new)) (zeros left)))
    ∙ drop_at (kept ++ zeros (length new)) (zeros left) (at + length new) longer in
    (λ i. before i ++ (new ++ after i)) ∙ append_assoc front (zeros gap) (new ++ zeros left)

-- and where it comes right behind what stands there
put_next : (front new : List ℕ) (at n : ℕ) → at ≡ length front → length new ≤ n
    → put_at (front ++ zeros n) at new ≡ front ++ (new ++ zeros (n - length new))
put_next front new at n is fits =
    let count : n - 0 - length new ≡ n - length new = omega arith in
    put_zeros front new at n 0 (omega arith) (omega arith)
    ∙ (λ i. front ++ (no_zeros i ++ (new ++ zeros (count i))))

-- ---- step by step, by the texts and sizes of the parts

module _ (block opened started frame based : List ℕ) (half log rest size at_half at_log : ℕ)
    (started_is : (n : ℕ) → started ++ zeros n ≡ opened ++ zeros (n + 1))
    (based_is : (n : ℕ) → opened ++ (frame ++ zeros n) ≡ based ++ zeros (n + 1))
    (opened_long : length opened ≡ 9) (started_long : length started ≡ 10) (frame_long : length frame ≡ 31) (based_long : length based ≡ 39)
    (half_large : 100 ≤ half) (log_large : 100 ≤ log) (half_at : at_half ≡ length block + half)
    (log_at : at_log ≡ length block + 2 * half + log) (size_is : size ≡ length block + 2 * half + 4 * log + rest) where
  -- the superblock is written, and half 1 started
  begun_text : put_at (put_at (zeros size) 0 block) at_half started
      ≡ (block ++ (zeros half ++ opened)) ++ zeros (size - at_half - 9)
  begun_text =
      let n = size - length block - half - length started in
      let count : n + 1 ≡ size - at_half - 9 = omega arith in
      ap (λ (l : List ℕ). put_at l at_half started) (put_next [] block 0 size refl (omega arith))
      ∙ put_zeros block started at_half (size - length block) half half_at (omega arith)
      ∙ ap (λ (l : List ℕ). block ++ (zeros half ++ l))
      (started_is n ∙ ap (λ (k : ℕ). opened ++ zeros k) count)
      ∙ ap (λ (l : List ℕ). block ++ l) (sym (append_assoc (zeros half) opened (zeros (size - at_half - 9))))
      ∙ sym (append_assoc block (zeros half ++ opened) (zeros (size - at_half - 9)))

  -- half 1 gets its base
  based_text : put_at ((block ++ (zeros half ++ opened)) ++ zeros (size - at_half - 9)) (at_half + 9) frame
      ≡ (block ++ (zeros half ++ based)) ++ zeros (size - at_half - 39)
  based_text =
      let front = block ++ (zeros half ++ opened) in
      let n = size - at_half - 9 - length frame in
      let count : n + 1 ≡ size - at_half - 39 = omega arith in
      let long : at_half + 9 ≡ length front =
      omega (arith, half_at, opened_long, length-append block (zeros half ++ opened), length-append (zeros half) opened, length-zeros half) in
      put_next front frame (at_half + 9) (size - at_half - 9) long (omega arith)
      ∙ append_assoc block (zeros half ++ opened) (frame ++ zeros n)
      ∙ ap (λ (l : List ℕ). block ++ l) (append_assoc (zeros half) opened (frame ++ zeros n)
      ∙ ap (λ (l : List ℕ). zeros half ++ l) (based_is n ∙ ap (λ (k : ℕ). based ++ zeros k) count)
      ∙ sym (append_assoc (zeros half) based (zeros (size - at_half - 39))))
      ∙ sym (append_assoc block (zeros half ++ based) (zeros (size - at_half - 39)))

  -- segment 1 is started
  logged_text : put_at ((block ++ (zeros half ++ based)) ++ zeros (size - at_half - 39)) at_log started
      ≡ block ++ (zeros half ++ ((based ++ zeros (half - 39)) ++ (zeros log ++ ((opened ++ zeros (log - 9)) ++ zeros (2 * log + rest)))))
  logged_text =
      let front = block ++ (zeros half ++ based) in
      let gap = half - 39 + log in
      let n = size - at_half - 39 - gap - length started in
      let behind = (opened ++ zeros (log - 9)) ++ zeros (2 * log + rest) in
      let long : at_log ≡ length front + gap =
      omega (arith, half_at, log_at, based_long, length-append block (zeros half ++ based), length-append (zeros half) based, length-zeros half) in
      let last : started ++ zeros n ≡ behind =
      started_is n
      ∙ ap (λ (l : List ℕ). opened ++ l) (zeros_parted (n + 1) (log - 9) (2 * log + rest) (omega arith))
      ∙ sym (append_assoc opened (zeros (log - 9)) (zeros (2 * log + rest))) in
      put_zeros front started at_log (size - at_half - 39) gap long (omega arith)
      ∙ (λ i. front ++ (zeros_parted gap (half - 39) log refl i ++ last i))
      ∙ append_assoc block (zeros half ++ based) ((zeros (half - 39) ++ zeros log) ++ behind)
      ∙ ap (λ (l : List ℕ). block ++ l)
      (append_assoc (zeros half) based ((zeros (half - 39) ++ zeros log) ++ behind)
      ∙ ap (λ (l : List ℕ). zeros half ++ l)
      (ap (λ (l : List ℕ). based ++ l) (append_assoc (zeros (half - 39)) (zeros log) behind)
      ∙ sym (append_assoc based (zeros (half - 39)) (zeros log ++ behind))))

  pub filled_text : put_at (put_at (put_at (put_at (zeros size) 0 block) at_half started) (at_half + 9) frame) at_log started
      ≡ block ++ (zeros half ++ ((based ++ zeros (half - 39)) ++ (zeros log ++ ((opened ++ zeros (log - 9)) ++ zeros (2 * log + rest)))))
  filled_text =
      ap (λ (l : List ℕ). put_at (put_at l (at_half + 9) frame) at_log started) begun_text
      ∙ ap (λ (l : List ℕ). put_at l at_log started) based_text
      ∙ logged_text

-- ---- the new device

-- a closed gate is a zero
started_zeros : (n : ℕ) → started_text 1 ++ zeros n ≡ open_part 1 [] ++ zeros (n + 1)
started_zeros n =
    ap (λ (l : List ℕ). open_part 1 [] ++ l) (one_zero_more n ∙ ap zeros (let is : suc n ≡ n + 1 = omega arith in is))

based_zeros : (n : ℕ) → open_part 1 [] ++ ((open_gate ∷ framed (base_text first_metadata)) ++ zeros n)
    ≡ open_part 1 (base_text first_metadata ∷ []) ++ zeros (n + 1)
based_zeros n =
    ap (λ (l : List ℕ). open_part 1 (base_text first_metadata ∷ []) ++ l) (one_zero_more n ∙ ap zeros (let is : suc n ≡ n + 1 = omega arith in is))

-- an open gate in place of the closed one, and all that stands behind the superblock's fields in its block is zeros
opened_block : (layout : Layout) (block behind : List ℕ) → IsSuperblock 0 (params_of layout) block
    → put_at (block ++ behind) 0 (open_gate ∷ []) ≡ padded device_block (superblock_text layout) ++ behind
opened_block layout block behind is =
    let head = 0 ∷ (mark ++ (big_bytes 4 known_version ++ sizes_text (params_of layout))) in
    let spelled : block ≡ head ++ is.rest = is.spelled in
    let long : length block ≡ 36 + length is.rest = ap length spelled ∙ length-append head is.rest in
    let count : length is.rest ≡ device_block - 36 = omega (arith, is.long, long) in
    ap (λ (l : List ℕ). open_gate ∷ drop 1 (l ++ behind)) spelled
    ∙ ap (λ (l : List ℕ). (superblock_text layout ++ l) ++ behind) (all_zeros is.rest is.zeros ∙ ap zeros count)

module _ (layout : Layout) (good : IsGood layout) (block : List ℕ) (is : IsSuperblock 0 (params_of layout) block) where
  -- the writes of a formatting, and the opened gate
  pub formatted_text : (seen filled opened : List ℕ) → seen ≡ replicate (size_of_device layout) 0
      → filled ≡ put_at (put_at (put_at (put_at seen 0 block) (half_of layout 1).at (started_text 1))
      ((half_of layout 1).at + first_gate) (open_gate ∷ framed (base_text first_metadata))) (log_region layout).at (started_text 1)
      → opened ≡ put_at filled 0 (open_gate ∷ []) → opened ≡ device_text layout
  formatted_text seen filled opened blank filled_is opened_is =
      let zero : seen ≡ zeros (size_of_device layout) = blank ∙ zeros_are (size_of_device layout) in
      let behind = zeros layout.manifest
      ++ ((open_part 1 (base_text first_metadata ∷ []) ++ zeros (layout.manifest - 39))
      ++ (zeros layout.log ++ ((open_part 1 [] ++ zeros (layout.log - 9)) ++ zeros (2 * layout.log + layout.slots * 2 ^ layout.power)))) in
      let half : 100 ≤ layout.manifest = omega (arith, good.params.half.least) in
      let log : 100 ≤ layout.log = omega (arith, good.params.segment.least) in
      let text : filled ≡ block ++ behind =
      filled_is
      ∙ ap (λ (l : List ℕ). put_at (put_at (put_at (put_at l 0 block) (half_of layout 1).at (started_text 1))
      ((half_of layout 1).at + first_gate) (open_gate ∷ framed (base_text first_metadata))) (log_region layout).at (started_text 1)) zero
      ∙ filled_text block (open_part 1 []) (started_text 1) (open_gate ∷ framed (base_text first_metadata)) (open_part 1 (base_text first_metadata ∷ []))
      layout.manifest layout.log (layout.slots * 2 ^ layout.power) (size_of_device layout) (half_of layout 1).at (log_region layout).at
      started_zeros based_zeros refl refl refl refl half log (omega (arith, is.long)) (omega (arith, is.long)) (omega (arith, is.long)) in
      opened_is ∙ ap (λ (l : List ℕ). put_at l 0 (open_gate ∷ [])) text ∙ opened_block layout block behind is
