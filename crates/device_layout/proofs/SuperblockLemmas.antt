-- Reading a superblock, step by step.
use Rattle.std.proofs.Common.{◌≡◌, ◌∙◌, ℕ, zero, suc, ◌-◌, List, ◌∷◌, ◌++◌, length, take, drop, Option, Some, None, refl, sym, ap, arith, append_assoc, length-append}
use Rattle.std.specs.Prelude.{replicate}
use Rattle.std.specs.List.{AllByRecursion}
use Rattle.std.proofs.lemmas.List.{length-replicate, take_all}
use Rattle.byteorder.specs.Endian.{big_bytes}
use Rattle.hse_rows.specs.machine.Sizes.{device_block}
use Rattle.device_layout.specs.Layouts.{known_version}
use Rattle.device_layout.specs.Superblock.{IsSuperblock, Superblock, mark, refused, params_in, or_refused, size_refused, sized, sizes_in, sizes_text, zero_refused}
use Rattle.device_layout.specs.declared.params.Params.{Params}

abbrev read_by : ℕ → List ℕ → Params → Superblock
read_by size block params = or_refused (size_refused params) (or_refused (zero_refused 36 (drop 36 block)) (sized size params))

-- no size is refused
behind_sizes : (size : ℕ) (block : List ℕ) (params : Params) → params ≡ params_in block → size_refused params ≡ None
    → sizes_in size block ≡ or_refused (zero_refused 36 (drop 36 block)) (sized size params)
behind_sizes size block params is none =
    ap (read_by size block) (sym is)
    ∙ ap (λ (r : Option ℕ). or_refused r (or_refused (zero_refused 36 (drop 36 block)) (sized size params))) none

-- and no zero
pub behind_zeros : (size : ℕ) (block : List ℕ) (params : Params) → params ≡ params_in block → size_refused params ≡ None
    → zero_refused 36 (drop 36 block) ≡ None → sizes_in size block ≡ sized size params
behind_zeros size block params is none zeros =
    behind_sizes size block params is none ∙ ap (λ (r : Option ℕ). or_refused r (sized size params)) zeros

pub at_zero : (size : ℕ) (block : List ℕ) (params : Params) (place : ℕ) → params ≡ params_in block → size_refused params ≡ None
    → zero_refused 36 (drop 36 block) ≡ Some place → sizes_in size block ≡ refused place
at_zero size block params place is none zeros =
    behind_sizes size block params is none ∙ ap (λ (r : Option ℕ). or_refused r (sized size params)) zeros

-- five fields, one behind another
pub five_put : (into a b d e f v w x y z : List ℕ) → v ≡ into ++ a → w ≡ v ++ b → x ≡ w ++ d → y ≡ x ++ e → z ≡ y ++ f
    → z ≡ into ++ (a ++ (b ++ (d ++ (e ++ f))))
five_put into a b d e f v w x y z first second third fourth fifth =
    fifth ∙ ap (λ (l : List ℕ). l ++ f) fourth ∙ append_assoc x e f
    ∙ ap (λ (l : List ℕ). l ++ (e ++ f)) third ∙ append_assoc w d (e ++ f)
    ∙ ap (λ (l : List ℕ). l ++ (d ++ (e ++ f))) second ∙ append_assoc v b (d ++ (e ++ f))
    ∙ ap (λ (l : List ℕ). l ++ (b ++ (d ++ (e ++ f)))) first ∙ append_assoc into a (b ++ (d ++ (e ++ f)))

all_zero : (n : ℕ) → AllByRecursion (λ (byte : ℕ). byte ≡ 0) (replicate n 0)
all_zero zero = tt
all_zero (suc n) = (refl, all_zero n)

sizes_length : (params : Params) → length (sizes_text params) ≡ 23
sizes_length params = refl

abbrev head_text : List ℕ
head_text = 0 ∷ (mark ++ big_bytes 4 known_version)

-- a block of a head and sizes, with zeros up to this size
pub block_of : (size count : ℕ) (params : Params) (made head behind : List ℕ) → size ≡ device_block → count ≡ length behind → head ≡ head_text
    → behind ≡ head ++ sizes_text params → made ≡ take size behind ++ replicate (size - count) 0 → IsSuperblock 0 params made
block_of size count params made head behind is_size is_count is_head is_behind is_made =
    let text : behind ≡ head_text ++ sizes_text params = is_behind ∙ ap (λ (l : List ℕ). l ++ sizes_text params) is_head in
    let count_is : length behind ≡ 36 = ap length text in
    let whole : take size behind ≡ behind = take_all size behind (omega (arith, count_is, is_size)) in
    let spelled : made ≡ behind ++ replicate (size - count) 0 = is_made ∙ ap (λ (l : List ℕ). l ++ replicate (size - count) 0) whole in
    let many : length (replicate {A = ℕ} (size - count) 0) ≡ size - count = length-replicate {A = ℕ} (size - count) 0 in
    record {
      rest = replicate (size - count) 0;
      spelled = spelled ∙ ap (λ (l : List ℕ). l ++ replicate (size - count) 0) text
          ∙ append_assoc head_text (sizes_text params) (replicate (size - count) 0);
      zeros = all_zero (size - count);
      long = omega (arith, ap length spelled, length-append behind (replicate (size - count) 0), many, count_is, is_count, is_size);
    }
