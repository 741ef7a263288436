-- A value stands where its entry begins.
use Rattle.std.proofs.Common.{◌≡◌, ◌==◌, ◌∙◌, false, true, Bool, if◌then◌else◌, ℕ, zero, suc, ◌-◌, ◌+◌, ◌≤◌, ◌<◌, List, [], ◌∷◌, ◌++◌, length, take, drop, get_or, Some, None, Result, Ok, Err, refl, sym, ap, subst, arith, append_assoc}
use Rattle.std.specs.Prelude.{is_some, nat_lt, nat_le, ◌&&◌}
use Rattle.std.proofs.lemmas.Bool.{eqb-true, eq-eqb, ne_eqb}
use Rattle.std.proofs.lemmas.List.{append-nil, drop-drop}
use Rattle.hse_fields.specs.Fields.{number_of, bytes_of}
use Rattle.hse_fields.specs.LogLimits.{longest_value}
use Rattle.hse_fields.specs.LogReading.{◌>>=◌, ensure, size_of, sized_of}
use Rattle.hse_fields.specs.BlockReading.{body_of, values_of}
use Rattle.hse_fields.specs.BlockText.{header_size, value_from}
use Rattle.hse_fields.specs.laws.Fields.{bind_ok, ok_is, guard_ok, bytes_length, sized_length}
use Rattle.vblock.specs.Opened.{IsOpened, IsRead, values_in}
use Rattle.vblock.specs.Places.{offsets_from, offsets_of, value_read, value_entry, IsEntry}

-- what stands behind a value
sized_behind : (n least most : ℕ) (bytes : List ℕ) (x : List ℕ × List ℕ) → sized_of n least most bytes ≡ Ok x → x.1 ≡ drop (n + length x.0) bytes
unfolding sized_of size_of
sized_behind n least most bytes x e =
    let a = bind_ok (size_of n least most bytes) (λ size. bytes_of size.0 size.1) x e in
    let b = bind_ok (number_of n bytes) (λ size. ensure (nat_le least size.0 && nat_le size.0 most) (length bytes) >>= λ within. Ok (size.0, size.1)) a.0 a.1 in
    let c = bind_ok (ensure (nat_le least b.0.0 && nat_le b.0.0 most) (length bytes)) (λ within. Ok (b.0.0, b.0.1)) a.0 b.2 in
    let number = guard_ok (nat_lt (length bytes) n) (length bytes) _ b.0 b.1 in
    let body = guard_ok (nat_lt (length a.0.1) a.0.0) (length a.0.1) _ x a.2 in
    let same : (b.0.0, b.0.1) ≡ a.0 = ok_is (b.0.0, b.0.1) a.0 c.2 in
    let front : drop n bytes ≡ a.0.1 = ap (λ (p : ℕ × List ℕ). p.1) number.1 ∙ ap (λ (p : ℕ × List ℕ). p.1) same in
    let size : length x.0 ≡ a.0.0 = (bytes_length a.0.0 a.0.1 x a.2).0 in
    sym (ap (λ (p : List ℕ × List ℕ). p.1) body.1)
    ∙ ap (drop a.0.0) (sym front)
    ∙ drop-drop a.0.0 n bytes
    ∙ ap (λ (k : ℕ). drop (n + k) bytes) (sym size)

-- the value's own bytes
sized_bytes : (n least most : ℕ) (bytes : List ℕ) (x : List ℕ × List ℕ) → sized_of n least most bytes ≡ Ok x → x.0 ≡ take (length x.0) (drop n bytes)
unfolding sized_of size_of
sized_bytes n least most bytes x e =
    let a = bind_ok (size_of n least most bytes) (λ size. bytes_of size.0 size.1) x e in
    let b = bind_ok (number_of n bytes) (λ size. ensure (nat_le least size.0 && nat_le size.0 most) (length bytes) >>= λ within. Ok (size.0, size.1)) a.0 a.1 in
    let c = bind_ok (ensure (nat_le least b.0.0 && nat_le b.0.0 most) (length bytes)) (λ within. Ok (b.0.0, b.0.1)) a.0 b.2 in
    let number = guard_ok (nat_lt (length bytes) n) (length bytes) _ b.0 b.1 in
    let body = guard_ok (nat_lt (length a.0.1) a.0.0) (length a.0.1) _ x a.2 in
    let same : (b.0.0, b.0.1) ≡ a.0 = ok_is (b.0.0, b.0.1) a.0 c.2 in
    let front : drop n bytes ≡ a.0.1 = ap (λ (p : ℕ × List ℕ). p.1) number.1 ∙ ap (λ (p : ℕ × List ℕ). p.1) same in
    let size : length x.0 ≡ a.0.0 = (bytes_length a.0.0 a.0.1 x a.2).0 in
    sym (ap (λ (p : List ℕ × List ℕ). p.0) body.1)
    ∙ ap (take a.0.0) (sym front)
    ∙ ap (λ (k : ℕ). take k (drop n bytes)) (sym size)

-- ---- values in a row

record HasValue (n : ℕ) (bytes : List ℕ) (x : List (List ℕ) × List ℕ) : Type 0 where
  first : List ℕ × List ℕ
  others : List (List ℕ)
  both : x.0 ≡ first.0 ∷ others
  value : sized_of 4 0 longest_value bytes ≡ Ok first
  more : values_of longest_value n first.1 ≡ Ok (others, x.1)

first_value : (n : ℕ) (bytes : List ℕ) (x : List (List ℕ) × List ℕ) → values_of longest_value (suc n) bytes ≡ Ok x → HasValue n bytes x
unfolding values_of
first_value n bytes x e =
    let a = bind_ok (sized_of 4 0 longest_value bytes) (λ first. values_of longest_value n first.1 >>= λ others. Ok (first.0 ∷ others.0, others.1)) x e in
    let b = bind_ok (values_of longest_value n a.0.1) (λ others. Ok (a.0.0 ∷ others.0, others.1)) x a.2 in
    let is = ok_is (a.0.0 ∷ b.0.0, b.0.1) x b.2 in
    record {
      first = a.0;
      others = b.0.0;
      both = sym (ap (λ (p : List (List ℕ) × List ℕ). p.0) is);
      value = a.1;
      more = b.1 ∙ ap (λ (l : List ℕ). Ok (b.0.0, l)) (ap (λ (p : List (List ℕ) × List ℕ). p.1) is);
    }

no_value : (bytes : List ℕ) (x : List (List ℕ) × List ℕ) → values_of longest_value 0 bytes ≡ Ok x → x.0 ≡ []
unfolding values_of
no_value bytes x e = sym (ap (λ (p : List (List ℕ) × List ℕ). p.0) (ok_is ([], bytes) x e))

here : (start len : ℕ) (value : List ℕ) (values : List (List ℕ)) → value_from start (value ∷ values) start len ≡ (if length value == len then Some value else None)
here start len value values = let same : (start == start) ≡ true = eq-eqb start start refl in rw same refl

elsewhere : (start offset len : ℕ) (value : List ℕ) (values : List (List ℕ)) → (start == offset) ≡ false
    → value_from start (value ∷ values) offset len ≡ value_from (start + (4 + length value)) values offset len
elsewhere start offset len value values other = rw other refl

-- the entry at an offset
pub record At (start offset : ℕ) (bytes : List ℕ) (values : List (List ℕ)) : Type 0 where
  pub value : List ℕ
  pub low : start ≤ offset
  pub room : offset - start + (4 + length value) ≤ length bytes
  pub bytes_are : value ≡ take (length value) (drop 4 (drop (offset - start) bytes))
  pub read : value_read (sized_of 4 0 longest_value (drop (offset - start) bytes)) ≡ Some value
  pub is : (len : ℕ) → value_from start values offset len ≡ (if length value == len then Some value else None)

pub at_index : (i n start : ℕ) (bytes : List ℕ) (x : List (List ℕ) × List ℕ) → values_of longest_value n bytes ≡ Ok x → i < length (offsets_from start x.0)
    → At start (get_or (offsets_from start x.0) i 0) bytes x.0
at_index i zero start bytes x e lt =
    let none : length (offsets_from start x.0) ≡ 0 = ap (λ (v : List (List ℕ)). length (offsets_from start v)) (no_value bytes x e) in
    absurd (omega (arith, none, lt))
at_index zero (suc n) start bytes x e lt =
    let has = first_value n bytes x e in
    let from : start - start ≡ 0 = omega arith in
    subst (λ (v : List (List ℕ)). At start (get_or (offsets_from start v) 0 0) bytes v) (sym has.both)
    (record {
      value = has.first.0;
      low = omega arith;
      room = omega (arith, from, sized_length 4 0 longest_value bytes has.first has.value);
      bytes_are = sized_bytes 4 0 longest_value bytes has.first has.value ∙ ap (λ (k : ℕ). take (length has.first.0) (drop 4 (drop k bytes))) (sym from);
      read = ap (λ (k : ℕ). value_read (sized_of 4 0 longest_value (drop k bytes))) from ∙ ap value_read has.value;
      is = λ len. here start len has.first.0 has.others;
    })
at_index (suc i) (suc n) start bytes x e lt =
    let has = first_value n bytes x e in
    let size = 4 + length has.first.0 in
    let next = start + size in
    let within : i < length (offsets_from next has.others) = omega (arith, lt, ap (λ (v : List (List ℕ)). length (offsets_from start v)) has.both) in
    let more = at_index i n next has.first.1 (has.others, x.1) has.more within in
    let offset = get_or (offsets_from next has.others) i 0 in
    let behind : has.first.1 ≡ drop size bytes = sized_behind 4 0 longest_value bytes has.first has.value in
    let long = sized_length 4 0 longest_value bytes has.first has.value in
    let sum : size + (offset - next) ≡ offset - start = omega (arith, more.low) in
    let from : drop (offset - next) has.first.1 ≡ drop (offset - start) bytes =
    ap (drop (offset - next)) behind ∙ drop-drop (offset - next) size bytes ∙ ap (λ (k : ℕ). drop k bytes) sum in
    let other : (start == offset) ≡ false = ne_eqb start offset (λ same. omega (arith, same, more.low)) in
    subst (λ (v : List (List ℕ)). At start (get_or (offsets_from start v) (suc i) 0) bytes v) (sym has.both)
    (record {
      value = more.value;
      low = omega (arith, more.low);
      room = omega (arith, more.room, long, sum);
      bytes_are = more.bytes_are ∙ ap (λ (l : List ℕ). take (length more.value) (drop 4 l)) from;
      read = ap (λ (l : List ℕ). value_read (sized_of 4 0 longest_value l)) (sym from) ∙ more.read;
      is = λ len. elsewhere start offset len has.first.0 has.others other ∙ more.is len;
    })

-- ---- where a value is found its entry begins

abbrev Index : ℕ → ℕ → List (List ℕ) → Type 0
Index start offset values = (i : ℕ) × (i < length (offsets_from start values)) × (get_or (offsets_from start values) i 0 ≡ offset)

index_by : (start offset : ℕ) (value : List ℕ) (values : List (List ℕ)) (test : Bool) → (start == offset) ≡ test
    → ((start == offset) ≡ false → Index (start + (4 + length value)) offset values) → Index start offset (value ∷ values)
index_by start offset value values true is more = (0, omega arith, eqb-true start offset is)
index_by start offset value values false is more = let m = more is in (suc m.0, omega (arith, m.1), m.2)

found_index : (start offset len : ℕ) (values : List (List ℕ)) → is_some (value_from start values offset len) ≡ true → Index start offset values
found_index start offset len [] some = absurd cc
found_index start offset len (value ∷ values) some =
    index_by start offset value values (start == offset) refl
    (λ is. found_index (start + (4 + length value)) offset len values (ap is_some (sym (elsewhere start offset len value values is)) ∙ some))

pub found_at : (n start offset len : ℕ) (bytes : List ℕ) (x : List (List ℕ) × List ℕ) → values_of longest_value n bytes ≡ Ok x → is_some (value_from start x.0 offset len) ≡ true
    → At start offset bytes x.0
found_at n start offset len bytes x e some =
    let i = found_index start offset len x.0 some in
    subst (λ (o : ℕ). At start o bytes x.0) i.2 (at_index i.0 n start bytes x e i.1)

pub length_is : (offset start len : ℕ) (bytes : List ℕ) (values : List (List ℕ)) (a : At start offset bytes values) → is_some (value_from start values offset len) ≡ true
    → length a.value ≡ len
length_is offset start len bytes values a some = by (length a.value == len) refl (a.is len)
  where
    by : (test : Bool) → (length a.value == len) ≡ test → value_from start values offset len ≡ (if test then Some a.value else None) → length a.value ≡ len
    by true same is = eqb-true _ _ same
    by false same is = absurd cc

pub value_is : (offset start len : ℕ) (bytes : List ℕ) (values : List (List ℕ)) (a : At start offset bytes values) → is_some (value_from start values offset len) ≡ true
    → value_from start values offset len ≡ Some a.value
value_is offset start len bytes values a some = by (length a.value == len) (a.is len)
  where
    by : (test : Bool) → value_from start values offset len ≡ (if test then Some a.value else None) → value_from start values offset len ≡ Some a.value
    by true is = is
    by false is = absurd cc

-- ---- the offsets rise

from_start : (start : ℕ) (values : List (List ℕ)) (k : ℕ) → k < length (offsets_from start values) → start ≤ get_or (offsets_from start values) k 0
from_start start [] k lt = absurd (omega (arith, lt))
from_start start (value ∷ values) zero lt = omega arith
from_start start (value ∷ values) (suc k) lt =
    let more = from_start (start + (4 + length value)) values k (omega (arith, lt)) in
    omega (arith, more)

pub offsets_rise : (start : ℕ) (values : List (List ℕ)) (i j : ℕ) → i ≤ j → j < length (offsets_from start values)
    → get_or (offsets_from start values) i 0 ≤ get_or (offsets_from start values) j 0
offsets_rise start [] i j le lt = absurd (omega (arith, lt))
offsets_rise start (value ∷ values) zero j le lt = from_start start (value ∷ values) j lt
offsets_rise start (value ∷ values) (suc i) zero le lt = absurd (omega (arith, le))
offsets_rise start (value ∷ values) (suc i) (suc j) le lt = offsets_rise (start + (4 + length value)) values i j (omega (arith, le)) (omega (arith, lt))

-- an offset that is none of them has no value
pub none_at : (start offset len : ℕ) (values : List (List ℕ)) → ((k : ℕ) → k < length (offsets_from start values) → get_or (offsets_from start values) k 0 ≡ offset → ⊥)
    → value_from start values offset len ≡ None
none_at start offset len [] none = refl
none_at start offset len (value ∷ values) none =
    let other : (start == offset) ≡ false = ne_eqb start offset (none 0 (omega arith)) in
    elsewhere start offset len value values other
    ∙ none_at (start + (4 + length value)) offset len values (λ k lt. none (suc k) (omega (arith, lt)))

-- ---- listing them one by one

pub one_more : (count i start : ℕ) (bytes : List ℕ) (first : List ℕ × List ℕ) (x : List (List ℕ) × List ℕ) (so_far all : List ℕ) → i < count
    → sized_of 4 0 longest_value bytes ≡ Ok first → values_of longest_value (count - i) bytes ≡ Ok x → so_far ++ offsets_from start x.0 ≡ all
    → (more : List (List ℕ)) × (values_of longest_value (count - (i + 1)) first.1 ≡ Ok (more, x.1)) × ((so_far ++ start ∷ []) ++ offsets_from (start + (4 + length first.0)) more ≡ all)
one_more count i start bytes first x so_far all lt e read listed =
    let k : count - i ≡ suc (count - (i + 1)) = omega arith in
    let has = first_value (count - (i + 1)) bytes x (ap (λ (n : ℕ). values_of longest_value n bytes) (sym k) ∙ read) in
    let same : has.first ≡ first = ok_is has.first first (sym has.value ∙ e) in (
      has.others,
      ap (λ (p : List ℕ × List ℕ). values_of longest_value (count - (i + 1)) p.1) (sym same) ∙ has.more,
      append_assoc so_far (start ∷ []) (offsets_from (start + (4 + length first.0)) has.others)
          ∙ ap (λ (p : List ℕ × List ℕ). so_far ++ start ∷ offsets_from (start + (4 + length p.0)) has.others) (sym same)
          ∙ ap (λ (v : List (List ℕ)). so_far ++ offsets_from start v) (sym has.both)
          ∙ listed,
    )

pub none_more : (count i start : ℕ) (bytes : List ℕ) (x : List (List ℕ) × List ℕ) (so_far all : List ℕ) → count ≤ i
    → values_of longest_value (count - i) bytes ≡ Ok x → so_far ++ offsets_from start x.0 ≡ all → so_far ≡ all
none_more count i start bytes x so_far all le read listed =
    let k : count - i ≡ 0 = omega arith in
    let none = no_value bytes x (ap (λ (n : ℕ). values_of longest_value n bytes) (sym k) ∙ read) in
    sym (append-nil so_far) ∙ ap (λ (v : List (List ℕ)). so_far ++ offsets_from start v) (sym none) ∙ listed

-- ---- what was read

pub read_ok : (r : Result (List (List ℕ) × List ℕ) ℕ) → IsRead r → (x : List (List ℕ) × List ℕ) × (r ≡ Ok x)
read_ok (Ok x) read = (x, refl)
read_ok (Err left) read = absurd read

pub read_is : (r : Result (List (List ℕ) × List ℕ) ℕ) (x : List (List ℕ) × List ℕ) → r ≡ Ok x → IsRead r
read_is r x e = subst IsRead (sym e) tt

-- ---- in an opened block

pub opened_read : (used count : ℕ) (bytes slice entries : List ℕ) → IsOpened used count bytes → slice ≡ bytes → entries ≡ body_of used slice
    → values_of longest_value count entries ≡ Ok (values_in used count bytes, [])
opened_read used count bytes slice entries opened same body =
    ap (values_of longest_value count) (body ∙ ap (body_of used) same) ∙ opened.read

pub is_entry : (offset : ℕ) (entries : List ℕ) (values : List (List ℕ)) → At header_size offset entries values → IsEntry offset entries
is_entry offset entries values a = record { low = a.low; room = omega (arith, a.room); read = ap is_some a.read }

pub same_value : (offset : ℕ) (entries value : List ℕ) (values : List (List ℕ)) (a : At header_size offset entries values) → value_entry offset entries ≡ Some value → a.value ≡ value
same_value offset entries value values a is = let same : Some a.value ≡ Some value = sym a.read ∙ is in cc

module _ (values : List (List ℕ)) (entries rest : List ℕ) (count offset : ℕ) (e : values_of longest_value count entries ≡ Ok (values, rest)) where
  pub searched_at : (i : ℕ) → i < length (offsets_of values) → get_or (offsets_of values) i 0 ≡ offset → At header_size offset entries values
  searched_at i lt is = subst (λ (o : ℕ). At header_size o entries values) is (at_index i count header_size entries (values, rest) e lt)
