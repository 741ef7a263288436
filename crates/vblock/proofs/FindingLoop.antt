-- Looking for a value, entry by entry.
use Rattle.std.proofs.Common.{◌≡◌, ◌==◌, false, true, if◌then◌else◌, ℕ, suc, ◌-◌, ◌+◌, ◌≤◌, ◌<◌, List, ◌∷◌, length, Some, None, Result, Ok, Err, refl, subst, arith}
use Rattle.hse_fields.specs.LogLimits.{longest_value}
use Rattle.hse_fields.specs.LogReading.{◌>>=◌, sized_of}
use Rattle.hse_fields.specs.BlockReading.{values_of}
use Rattle.vblock.specs.Opened.{found_in, IsRead}

abbrev with_first : List ℕ → Result (List (List ℕ) × List ℕ) ℕ → Result (List (List ℕ) × List ℕ) ℕ
with_first value r = r >>= λ others. Ok (value ∷ others.0, others.1)

one_more : (n : ℕ) (bytes : List ℕ) (first : List ℕ × List ℕ) → sized_of 4 0 longest_value bytes ≡ Ok first
    → values_of longest_value (suc n) bytes ≡ with_first first.0 (values_of longest_value n first.1)
unfolding values_of
one_more n bytes first e = rw e refl

none_more : (n : ℕ) (bytes : List ℕ) (left : ℕ) → sized_of 4 0 longest_value bytes ≡ Err left → values_of longest_value (suc n) bytes ≡ Err left
unfolding values_of
none_more n bytes left e = rw e refl

others_read : (value : List ℕ) (r : Result (List (List ℕ) × List ℕ) ℕ) → IsRead (with_first value r) → IsRead r
others_read value (Ok x) w = tt
others_read value (Err left) w = w

found_here : (start offset len : ℕ) (value : List ℕ) (r : Result (List (List ℕ) × List ℕ) ℕ) → IsRead (with_first value r) → (start == offset) ≡ true
    → found_in start offset len (with_first value r) ≡ (if length value == len then Some value else None)
found_here start offset len value (Ok x) w same = rw same refl
found_here start offset len value (Err left) w same = absurd w

found_behind : (start offset len : ℕ) (value : List ℕ) (r : Result (List (List ℕ) × List ℕ) ℕ) → (start == offset) ≡ false
    → found_in start offset len (with_first value r) ≡ found_in (start + (4 + length value)) offset len r
found_behind start offset len value (Ok x) other = rw other refl
found_behind start offset len value (Err left) other = refl

pub can_be_read : (count i : ℕ) (bytes : List ℕ) (left : ℕ) → i < count → IsRead (values_of longest_value (count - i) bytes)
    → sized_of 4 0 longest_value bytes ≡ Err left → ⊥
can_be_read count i bytes left lt readable e =
    let k : count - i ≡ suc (count - (i + 1)) = omega arith in
    subst IsRead (none_more (count - (i + 1)) bytes left e) (rw k at readable)

pub readable_behind : (count i : ℕ) (bytes : List ℕ) (first : List ℕ × List ℕ) → i < count → sized_of 4 0 longest_value bytes ≡ Ok first
    → IsRead (values_of longest_value (count - i) bytes) → IsRead (values_of longest_value (count - (i + 1)) first.1)
readable_behind count i bytes first lt e readable =
    let k : count - i ≡ suc (count - (i + 1)) = omega arith in
    others_read first.0 (values_of longest_value (count - (i + 1)) first.1) (subst IsRead (one_more (count - (i + 1)) bytes first e) (rw k at readable))

pub is_here : (count i start offset len : ℕ) (bytes : List ℕ) (first : List ℕ × List ℕ) → i < count → sized_of 4 0 longest_value bytes ≡ Ok first
    → IsRead (values_of longest_value (count - i) bytes) → (start == offset) ≡ true
    → found_in start offset len (values_of longest_value (count - i) bytes) ≡ (if length first.0 == len then Some first.0 else None)
is_here count i start offset len bytes first lt e readable same =
    let k : count - i ≡ suc (count - (i + 1)) = omega arith in
    let more : values_of longest_value (count - i) bytes ≡ with_first first.0 (values_of longest_value (count - (i + 1)) first.1) = rw k (one_more (count - (i + 1)) bytes first e) in
    rw more (found_here start offset len first.0 (values_of longest_value (count - (i + 1)) first.1) (subst IsRead more readable) same)

pub is_behind : (count i start offset len : ℕ) (bytes : List ℕ) (first : List ℕ × List ℕ) → i < count → sized_of 4 0 longest_value bytes ≡ Ok first
    → (start == offset) ≡ false
    → found_in start offset len (values_of longest_value (count - i) bytes) ≡ found_in (start + (4 + length first.0)) offset len (values_of longest_value (count - (i + 1)) first.1)
is_behind count i start offset len bytes first lt e other =
    let k : count - i ≡ suc (count - (i + 1)) = omega arith in
    let more : values_of longest_value (count - i) bytes ≡ with_first first.0 (values_of longest_value (count - (i + 1)) first.1) = rw k (one_more (count - (i + 1)) bytes first e) in
    rw more (found_behind start offset len first.0 (values_of longest_value (count - (i + 1)) first.1) other)

pub is_nowhere : (count i start offset len : ℕ) (bytes : List ℕ) → count ≤ i → found_in start offset len (values_of longest_value (count - i) bytes) ≡ None
unfolding values_of
is_nowhere count i start offset len bytes le =
    let k : count - i ≡ 0 = omega arith in
    rw k refl
