-- A block that spells sizes is read as them, and one that says sizes spells them.
use Rattle.std.proofs.Common.{◌≡◌, ◌∙◌, ℕ, ◌+◌, ◌^◌, ◌<◌, ◌≤◌, ◌%◌, Bool, true, false, List, [], ◌∷◌, ◌++◌, length, drop, get_or, Option, Some, None, refl, sym, ap, subst, arith, take-append-drop, length-drop}
use Rattle.std.specs.Prelude.{◌==◌, ◌&&◌, nat_le, if◌then◌else◌}
use Rattle.std.specs.List.{AllByRecursion}
use Rattle.std.specs.Cmp.Lexicographic.{same_text}
use Rattle.std.proofs.lemmas.Bool.{and_parts, and_from, eqb-true, eq-eqb, leb-true, le-leb}
use Rattle.std.proofs.lemmas.List.{append-nil, drop-drop, length-take}
use Rattle.byteorder.specs.Endian.{big_bytes, big_number}
use Rattle.byteorder.specs.Numbers.{big_number-reads_back}
use Rattle.hse_fields.specs.laws.Fields.{IsBytes, IsBytes-take, IsBytes-drop, IsWidth, width_1, width_2, width_4, width_8}
use Rattle.media_disk.specs.Content.{part}
use Rattle.gate_log.specs.Gates.{open_gate}
use Rattle.hse_rows.specs.machine.Sizes.{IsRegionSize, device_block, device_bytes}
use Rattle.hse_rows.specs.writes.NormalForm.{same}
use Rattle.device_layout.specs.Layouts.{AreGood, known_version, sizes_of}
use Rattle.device_layout.specs.Superblock.{IsSuperblock, Superblock, has_size, mark, may_be_power, may_be_region_size, may_be_slot_count, may_be_store_limit, number_in, or_refused, other_version, params_in, refused, refused_unless, says, size_refused, sized, sizes_in, sizes_text, superblock_of, versioned, zero_refused}
use Rattle.device_layout.specs.declared.params.Params.{Params}

-- ---- tests and limits

region_test : (bytes : ℕ) → IsRegionSize bytes → may_be_region_size bytes ≡ true
region_test bytes is =
    and_from (nat_le 65536 bytes && nat_le bytes 67108864) (bytes % device_block == 0)
    (and_from (nat_le 65536 bytes) (nat_le bytes 67108864) (le-leb _ _ is.least) (le-leb _ _ is.most)) (eq-eqb _ _ is.whole)

region_limits : (bytes : ℕ) → may_be_region_size bytes ≡ true → IsRegionSize bytes
region_limits bytes test =
    let both = and_parts _ _ test in
    let limits = and_parts _ _ both.0 in
    record { least = leb-true _ _ limits.0; most = leb-true _ _ limits.1; whole = eqb-true _ _ both.1 }

abbrev behind_log : Params → Option ℕ
behind_log p = refused_unless (may_be_store_limit p.stores) 34 None

abbrev behind_manifest : Params → Option ℕ
behind_manifest p = refused_unless (may_be_region_size p.log) 26 (behind_log p)

abbrev behind_slots : Params → Option ℕ
behind_slots p = refused_unless (may_be_region_size p.manifest) 18 (behind_manifest p)

abbrev behind_power : Params → Option ℕ
behind_power p = refused_unless (may_be_slot_count p.slots) 14 (behind_slots p)

-- none is refused of sizes that are good
none_refused : (params : Params) → AreGood params → size_refused params ≡ None
none_refused params good =
    let power = and_from (nat_le 16 params.power) (nat_le params.power 25) (le-leb _ _ good.least_power) (le-leb _ _ good.most_power) in
    let slots = and_from (nat_le 4 params.slots) (nat_le params.slots 16384) (le-leb _ _ good.least_slots) (le-leb _ _ good.most_slots) in
    let stores = and_from (nat_le 1 params.stores) (nat_le params.stores 4096) (le-leb _ _ good.least_stores) (le-leb _ _ good.stores) in
    ap (λ (t : Bool). refused_unless t 13 (behind_power params)) power
    ∙ ap (λ (t : Bool). refused_unless t 14 (behind_slots params)) slots
    ∙ ap (λ (t : Bool). refused_unless t 18 (behind_manifest params)) (region_test params.manifest good.half)
    ∙ ap (λ (t : Bool). refused_unless t 26 (behind_log params)) (region_test params.log good.segment)
    ∙ ap (λ (t : Bool). refused_unless t 34 None) stores

unless_none : (test : Bool) (place : ℕ) (behind : Option ℕ) → refused_unless test place behind ≡ None → (test ≡ true) × (behind ≡ None)
unless_none true place behind is = (refl, is)
unless_none false place behind is = absurd cc

-- and where none is refused they are, if the device is not too large
are_good : (params : Params) → size_refused params ≡ None → device_bytes (sizes_of params) ≤ 1073741824 → AreGood params
are_good params none device =
    let power = unless_none (may_be_power params.power) 13 (behind_power params) none in
    let slots = unless_none (may_be_slot_count params.slots) 14 (behind_slots params) power.1 in
    let half = unless_none (may_be_region_size params.manifest) 18 (behind_manifest params) slots.1 in
    let segment = unless_none (may_be_region_size params.log) 26 (behind_log params) half.1 in
    let stores = unless_none (may_be_store_limit params.stores) 34 None segment.1 in
    let powers = and_parts (nat_le 16 params.power) (nat_le params.power 25) power.0 in
    let counts = and_parts (nat_le 4 params.slots) (nat_le params.slots 16384) slots.0 in
    let limits = and_parts (nat_le 1 params.stores) (nat_le params.stores 4096) stores.0 in
    record {
      slot = refl;
      least_power = leb-true _ _ powers.0;
      most_power = leb-true _ _ powers.1;
      least_slots = leb-true _ _ counts.0;
      most_slots = leb-true _ _ counts.1;
      half = region_limits params.manifest half.0;
      segment = region_limits params.log segment.0;
      least_stores = leb-true _ _ limits.0;
      stores = leb-true _ _ limits.1;
      device = device;
    }

-- ---- zeros

none_of_zeros : (at : ℕ) (bytes : List ℕ) → AllByRecursion (λ (byte : ℕ). byte ≡ 0) bytes → zero_refused at bytes ≡ None
none_of_zeros at [] zeros = refl
none_of_zeros at (byte ∷ bytes) zeros =
    ap (λ (t : Bool). refused_unless t at (zero_refused (at + 1) bytes)) (eq-eqb byte 0 zeros.0) ∙ none_of_zeros (at + 1) bytes zeros.1

zeros_of_none : (at : ℕ) (bytes : List ℕ) → zero_refused at bytes ≡ None → AllByRecursion (λ (byte : ℕ). byte ≡ 0) bytes
zeros_of_none at [] none = tt
zeros_of_none at (byte ∷ bytes) none =
    let parts = unless_none (byte == 0) at (zero_refused (at + 1) bytes) none in
    (eqb-true byte 0 parts.0, zeros_of_none (at + 1) bytes parts.1)

-- ---- what is spelled is read

number_back : (n x : ℕ) → x < 256 ^ n → big_number n (big_bytes n x) ≡ x
number_back n x fits = sym (ap (big_number n) (append-nil (big_bytes n x))) ∙ big_number-reads_back n x [] fits

abbrev spelling : ℕ → Params → List ℕ → List ℕ
spelling gate params rest = gate ∷ (mark ++ (big_bytes 4 known_version ++ (sizes_text params ++ rest)))

params_back : (gate : ℕ) (params : Params) (rest : List ℕ) → AreGood params → params_in (spelling gate params rest) ≡ params
params_back gate params rest good =
    let power : big_number 1 (big_bytes 1 params.power) ≡ params.power = number_back 1 params.power (omega (arith, good.most_power)) in
    let slots : big_number 4 (big_bytes 4 params.slots) ≡ params.slots = number_back 4 params.slots (omega (arith, good.most_slots)) in
    let half : big_number 8 (big_bytes 8 params.manifest) ≡ params.manifest = number_back 8 params.manifest (omega (arith, good.half.most)) in
    let segment : big_number 8 (big_bytes 8 params.log) ≡ params.log = number_back 8 params.log (omega (arith, good.segment.most)) in
    let stores : big_number 2 (big_bytes 2 params.stores) ≡ params.stores = number_back 2 params.stores (omega (arith, good.stores)) in
    λ i. record { power = power i; slots = slots i; manifest = half i; log = segment i; stores = stores i }

abbrev read_by : ℕ → List ℕ → Params → Superblock
read_by size zeros params = or_refused (size_refused params) (or_refused (zero_refused 36 zeros) (sized size params))

pub spelled_is_read : (params : Params) (block : List ℕ) → IsSuperblock open_gate params block → AreGood params
    → superblock_of (device_bytes (sizes_of params)) block ≡ says params
unfolding superblock_of
spelled_is_read params block is good =
    let size : ℕ = device_bytes (sizes_of params) in
    let fits : has_size (device_bytes (sizes_of params)) params ≡ true =
    and_from (device_bytes (sizes_of params) == device_bytes (sizes_of params)) (nat_le (device_bytes (sizes_of params)) 1073741824)
    (eq-eqb _ _ refl) (le-leb _ _ good.device) in
    ap (superblock_of (device_bytes (sizes_of params))) is.spelled
    ∙ ap (read_by (device_bytes (sizes_of params)) is.rest) (params_back open_gate params is.rest good)
    ∙ ap (λ (r : Option ℕ). or_refused r (or_refused (zero_refused 36 is.rest) (sized (device_bytes (sizes_of params)) params))) (none_refused params good)
    ∙ ap (λ (r : Option ℕ). or_refused r (sized (device_bytes (sizes_of params)) params)) (none_of_zeros 36 is.rest is.zeros)
    ∙ ap (λ (t : Bool). if t then says params else refused device_block) fits

-- ---- what is read is spelled

not_refused : (place : ℕ) (params : Params) → refused place ≡ says params → ⊥
not_refused place params is = cc

not_other : (version : ℕ) (params : Params) → other_version version ≡ says params → ⊥
not_other version params is = cc

same_params : (p q : Params) → says p ≡ says q → p ≡ q
same_params p q is = cc

if_says : (test : Bool) (read other : Superblock) (params : Params) → (other ≡ says params → ⊥) → (if test then read else other) ≡ says params
    → (test ≡ true) × (read ≡ says params)
if_says true read other params apart is = (refl, is)
if_says false read other params apart is = absurd (apart is)

or_says : (place : Option ℕ) (behind : Superblock) (params : Params) → or_refused place behind ≡ says params → (place ≡ None) × (behind ≡ says params)
or_says None behind params is = (refl, is)
or_says (Some place) behind params is = absurd (not_refused place params is)

-- what a block is that says sizes
record IsSaid (size : ℕ) (block : List ℕ) (params : Params) : Type 0 where
  gate : get_or block 0 0 ≡ open_gate
  text : part block 1 8 ≡ mark
  version : number_in block 9 4 ≡ known_version
  sizes : params_in block ≡ params
  limits : size_refused params ≡ None
  zeros : zero_refused 36 (drop 36 block) ≡ None
  fits : has_size size params ≡ true

is_said : (size : ℕ) (block : List ℕ) (params : Params) → superblock_of size block ≡ says params → IsSaid size block params
unfolding superblock_of
is_said size block params is =
    let gate = if_says (get_or block 0 0 == open_gate) (if same (part block 1 8) mark then versioned size block else refused 1) (refused 0) params (not_refused 0 params) is in
    let text = if_says (same (part block 1 8) mark) (versioned size block) (refused 1) params (not_refused 1 params) gate.1 in
    let version = if_says (number_in block 9 4 == known_version) (sizes_in size block) (other_version (number_in block 9 4)) params (not_other (number_in block 9 4) params) text.1 in
    let limits = or_says (size_refused (params_in block)) (or_refused (zero_refused 36 (drop 36 block)) (sized size (params_in block))) params version.1 in
    let zeros = or_says (zero_refused 36 (drop 36 block)) (sized size (params_in block)) params limits.1 in
    let fits = if_says (has_size size (params_in block)) (says (params_in block)) (refused device_block) params (not_refused device_block params) zeros.1 in
    let are : params_in block ≡ params = same_params (params_in block) params fits.1 in
    record {
      gate = eqb-true _ _ gate.0;
      text = same_text (part block 1 8) mark (sym text.0);
      version = eqb-true _ _ version.0;
      sizes = are;
      limits = subst (λ (p : Params). size_refused p ≡ None) are limits.0;
      zeros = zeros.0;
      fits = subst (λ (p : Params). has_size size p ≡ true) are fits.0;
    }

-- a field of n bytes and what stands behind it
field_is : (n : ℕ) (width : IsWidth n) (block : List ℕ) (at behind x : ℕ) → at + n ≡ behind → behind ≤ length block → IsBytes block
    → number_in block at n ≡ x → drop at block ≡ big_bytes n x ++ drop behind block
field_is n width block at behind x is inside small states =
    let long : length (part block at n) ≡ n = omega (arith, is, inside, length-take n (drop at block), length-drop at block) in
    let text : big_bytes n x ≡ part block at n = ap (big_bytes n) (sym states) ∙ width.back (part block at n) long (IsBytes-take n (drop at block) (IsBytes-drop at block small)) in
    sym (take-append-drop n (drop at block))
    ∙ (λ i. sym text i ++ (drop-drop n at block ∙ ap (λ (k : ℕ). drop k block) is) i)

text_is : (block : List ℕ) → part block 1 8 ≡ mark → drop 1 block ≡ mark ++ drop 9 block
text_is block is = sym (take-append-drop 8 (drop 1 block)) ∙ (λ i. is i ++ drop-drop 8 1 block i)

gate_is : (block : List ℕ) (gate : ℕ) → 1 ≤ length block → get_or block 0 0 ≡ gate → block ≡ gate ∷ drop 1 block
gate_is [] gate some is = absurd (omega (arith, some))
gate_is (byte ∷ block) gate some is = ap (λ (b : ℕ). b ∷ block) is

pub read_is_spelled : (size : ℕ) (params : Params) (block : List ℕ) → IsBytes block → length block ≡ device_block → superblock_of size block ≡ says params
    → IsSuperblock open_gate params block × AreGood params × (size ≡ device_bytes (sizes_of params))
read_is_spelled size params block small long is =
    let said = is_said size block params is in
    let fits = and_parts (size == device_bytes (sizes_of params)) (nat_le size 1073741824) said.fits in
    let size_is : size ≡ device_bytes (sizes_of params) = eqb-true _ _ fits.0 in
    let device : device_bytes (sizes_of params) ≤ 1073741824 = subst (λ (n : ℕ). n ≤ 1073741824) size_is (leb-true _ _ fits.1) in
    let stores = field_is 2 width_2 block 34 36 params.stores refl (omega (arith, long)) small (ap (λ (p : Params). p.stores) said.sizes) in
    let log = field_is 8 width_8 block 26 34 params.log refl (omega (arith, long)) small (ap (λ (p : Params). p.log) said.sizes) in
    let half = field_is 8 width_8 block 18 26 params.manifest refl (omega (arith, long)) small (ap (λ (p : Params). p.manifest) said.sizes) in
    let slots = field_is 4 width_4 block 14 18 params.slots refl (omega (arith, long)) small (ap (λ (p : Params). p.slots) said.sizes) in
    let power = field_is 1 width_1 block 13 14 params.power refl (omega (arith, long)) small (ap (λ (p : Params). p.power) said.sizes) in
    let version = field_is 4 width_4 block 9 13 known_version refl (omega (arith, long)) small said.version in
    let spelled : block ≡ spelling open_gate params (drop 36 block) =
    gate_is block open_gate (omega (arith, long)) said.gate
    ∙ ap (λ (l : List ℕ). open_gate ∷ l) (text_is block said.text)
    ∙ ap (λ (l : List ℕ). open_gate ∷ (mark ++ l)) version
    ∙ ap (λ (l : List ℕ). open_gate ∷ (mark ++ (big_bytes 4 known_version ++ l))) (
    power
    ∙ ap (λ (l : List ℕ). big_bytes 1 params.power ++ l) (slots
    ∙ ap (λ (l : List ℕ). big_bytes 4 params.slots ++ l) (half
    ∙ ap (λ (l : List ℕ). big_bytes 8 params.manifest ++ l) (log
    ∙ ap (λ (l : List ℕ). big_bytes 8 params.log ++ l) stores)))
    ) in (
      record { rest = drop 36 block; spelled = spelled; zeros = zeros_of_none 36 (drop 36 block) said.zeros; long = long },
      are_good params said.limits device,
      size_is,
    )

-- a device that says sizes has theirs
pub says_size : (size : ℕ) (params : Params) (block : List ℕ) → superblock_of size block ≡ says params → size ≡ device_bytes (sizes_of params)
says_size size params block is =
    let fits = and_parts (size == device_bytes (sizes_of params)) (nat_le size 1073741824) (is_said size block params is).fits in
    eqb-true _ _ fits.0
