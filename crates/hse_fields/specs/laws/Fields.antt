-- A field that is read is the field that was written, and what was written is read again.
use Rattle.std.specs.Prelude.{◌≡◌, ℕ, ◌+◌, ◌*◌, ◌%◌, ◌^◌, ◌<◌, ◌≤◌, Bool, true, false, List, [], ◌∷◌, ◌++◌, length, take, drop, Option, Some, None, Result, Ok, Err, nat_lt, nat_le, ◌&&◌}
use Rattle.std.proofs.Common.{refl, sym, ap, subst, ◌∙◌, append_assoc, arith, get_or, inl, inr, cond, length-drop}
use Rattle.std.proofs.lemmas.Bool.{cases_lt, ltb-false, le-ltb, leb-true, le-leb, and_parts}
use Rattle.std.proofs.lemmas.List.{append-nil, take_at, drop_at, take-append-drop, length-append, length-take, get_or-drop, get_or-take, get_or_past}
use Rattle.std.proofs.lemmas.Nat.{be_bytes_2, be_bytes_4, be_bytes_8}
use Rattle.byteorder.specs.Endian.{big_bytes, big_number}
use Rattle.byteorder.specs.Numbers.{length-bytes_high_first, big_number-reads_back, big_from-lt}
use Rattle.hse_fields.specs.LogText.{sized}
use Rattle.hse_fields.specs.Fields.{number_of, bytes_of}
use Rattle.hse_fields.specs.LogReading.{◌>>=◌, ensure, given, size_of, sized_of}

abbrev pub IsBytes : List ℕ → Type 0
IsBytes bytes = (i : ℕ) → get_or bytes i 0 < 256

pub IsBytes-drop : (n : ℕ) (bytes : List ℕ) → IsBytes bytes → IsBytes (drop n bytes)
IsBytes-drop n bytes h i = rw get_or-drop (h (n + i))

pub IsBytes-take : (n : ℕ) (bytes : List ℕ) → IsBytes bytes → IsBytes (take n bytes)
IsBytes-take n bytes h i =
    elim (cases_lt i n) [
      | inl lt ↦ rw (get_or-take n bytes i 0 lt) (h i)
      | inr le ↦ rw (get_or_past (take n bytes) i 0 (omega (arith, length-take n bytes))) (omega arith)
    ]

-- the value of a step that refused nothing
pub bind_ok : {A B : Type 0} (r : Result A ℕ) (f : A → Result B ℕ) (y : B) → (r >>= f) ≡ Ok y → (x : A) × (r ≡ Ok x) × (f x ≡ Ok y)
bind_ok (Ok x) f y e = (x, refl, e)
bind_ok (Err d) f y e = absurd cc

pub ensure_ok : (test : Bool) (left : ℕ) (x : Unit {0}) → ensure test left ≡ Ok x → test ≡ true
ensure_ok true left x e = refl
ensure_ok false left x e = absurd cc

pub given_ok : {A : Type 0} (o : Option A) (left : ℕ) (x : A) → given o left ≡ Ok x → o ≡ Some x
given_ok (Some y) left x e = cc
given_ok None left x e = absurd cc

pub guard_ok : {A : Type 0} (b : Bool) (d : ℕ) (x y : A) → cond b (Err d) (Ok x) ≡ Ok y → (b ≡ false) × (x ≡ y)
guard_ok true d x y e = absurd cc
guard_ok false d x y e = (refl, cc)

abbrev done : {A : Type 0} → A → Result A ℕ
done x = Ok x

pub ok_is : {A : Type 0} (x y : A) → done x ≡ done y → x ≡ y
ok_is x y e = cc

-- what a reader took from the front
pub record Takes (bytes text rest : List ℕ) : Type 0 where
  pub parts : bytes ≡ text ++ rest
  pub rest_fits : IsBytes rest

pub Takes-then : (a x b y c : List ℕ) → Takes a x b → Takes b y c → Takes a (x ++ y) c
Takes-then a x b y c p q = record { parts = p.parts ∙ ap (λ (t : List ℕ). x ++ t) q.parts ∙ sym (append_assoc x y c); rest_fits = q.rest_fits }

-- ---- numbers

-- a number of n bytes is those bytes
pub record IsWidth (n : ℕ) : Type 0 where
  pub back : (bytes : List ℕ) → length bytes ≡ n → IsBytes bytes → big_bytes n (big_number n bytes) ≡ bytes

back_1 : (bytes : List ℕ) → length bytes ≡ 1 → IsBytes bytes → big_bytes 1 (big_number 1 bytes) ≡ bytes
back_1 [] len small = absurd (omega arith)
back_1 (a ∷ []) len small =
    let h : a < 256 = small 0 in
    let e : (a * 256 ^ 0 + 0) % 256 ≡ a = omega arith in
    ap (λ (x : ℕ). x ∷ []) e
back_1 (a ∷ b ∷ rest) len small = absurd (omega arith)

pub width_1 : IsWidth 1
width_1 = record { back = back_1 }

back_2 : (bytes : List ℕ) → length bytes ≡ 2 → IsBytes bytes → big_bytes 2 (big_number 2 bytes) ≡ bytes
back_2 (a ∷ b ∷ []) len small = be_bytes_2 (a ∷ b ∷ []) (big_number 2 (a ∷ b ∷ [])) refl small (omega arith)
back_2 _ len small = absurd (omega arith)

pub width_2 : IsWidth 2
width_2 = record { back = back_2 }

back_4 : (bytes : List ℕ) → length bytes ≡ 4 → IsBytes bytes → big_bytes 4 (big_number 4 bytes) ≡ bytes
back_4 (a ∷ b ∷ c ∷ d ∷ []) len small = be_bytes_4 (a ∷ b ∷ c ∷ d ∷ []) (big_number 4 (a ∷ b ∷ c ∷ d ∷ [])) refl small (omega arith)
back_4 _ len small = absurd (omega arith)

pub width_4 : IsWidth 4
width_4 = record { back = back_4 }

back_8 : (bytes : List ℕ) → length bytes ≡ 8 → IsBytes bytes → big_bytes 8 (big_number 8 bytes) ≡ bytes
back_8 (a ∷ b ∷ c ∷ d ∷ e ∷ f ∷ g ∷ h ∷ []) len small =
    be_bytes_8 (a ∷ b ∷ c ∷ d ∷ e ∷ f ∷ g ∷ h ∷ []) (big_number 8 (a ∷ b ∷ c ∷ d ∷ e ∷ f ∷ g ∷ h ∷ [])) refl small (omega arith)
back_8 _ len small = absurd (omega arith)

pub width_8 : IsWidth 8
width_8 = record { back = back_8 }

pub number_takes : (n : ℕ) (width : IsWidth n) (bytes : List ℕ) (x : ℕ) (rest : List ℕ) → IsBytes bytes → number_of n bytes ≡ Ok (x, rest)
    → Takes bytes (big_bytes n x) rest × (x < 256 ^ n)
number_takes n width bytes x rest fits e =
    let g = guard_ok (nat_lt (length bytes) n) (length bytes) (big_number n (take n bytes), drop n bytes) (x, rest) e in
    let long : n ≤ length bytes = ltb-false _ _ g.0 in
    let x-is : big_number n (take n bytes) ≡ x = ap (λ (p : ℕ × List ℕ). p.0) g.1 in
    let rest-is : drop n bytes ≡ rest = ap (λ (p : ℕ × List ℕ). p.1) g.1 in
    let front : big_bytes n x ≡ take n bytes = rw (← x-is) (width.back (take n bytes) (omega (arith, length-take n bytes)) (IsBytes-take n bytes fits)) in
    (record { parts = rw (front, ← rest-is) (sym (take-append-drop n bytes)); rest_fits = rw (← rest-is) (IsBytes-drop n bytes fits) }, rw (← x-is) (big_from-lt 0 n (take n bytes) (IsBytes-take n bytes fits)))

-- how many bytes a number takes, and bytes do
pub number_length : (n : ℕ) (bytes : List ℕ) (x : ℕ × List ℕ) → number_of n bytes ≡ Ok x → n + length x.1 ≡ length bytes
number_length n bytes x e =
    let g = guard_ok (nat_lt (length bytes) n) (length bytes) (big_number n (take n bytes), drop n bytes) x e in
    let long : n ≤ length bytes = ltb-false _ _ g.0 in
    subst (λ (p : ℕ × List ℕ). n + length p.1 ≡ length bytes) g.1 (omega (arith, length-drop n bytes))

pub bytes_length : (n : ℕ) (bytes : List ℕ) (x : List ℕ × List ℕ) → bytes_of n bytes ≡ Ok x
    → (length x.0 ≡ n) × (n + length x.1 ≡ length bytes)
bytes_length n bytes x e =
    let g = guard_ok (nat_lt (length bytes) n) (length bytes) (take n bytes, drop n bytes) x e in
    let long : n ≤ length bytes = ltb-false _ _ g.0 in
    let taken : length (take n bytes) ≡ n = omega (arith, length-take n bytes) in
    let rest : n + length (drop n bytes) ≡ length bytes = omega (arith, length-drop n bytes) in
    subst (λ (p : List ℕ × List ℕ). (length p.0 ≡ n) × (n + length p.1 ≡ length bytes)) g.1 (taken, rest)

pub number_again : (n x : ℕ) (rest : List ℕ) → x < 256 ^ n → number_of n (big_bytes n x ++ rest) ≡ Ok (x, rest)
number_again n x rest lt =
    let len = length-bytes_high_first n x in
    let long : nat_lt (length (big_bytes n x ++ rest)) n ≡ false = le-ltb _ _ (omega (arith, length-append (big_bytes n x) rest)) in
    let reads : big_number n (big_bytes n x) ≡ x = sym (ap (big_number n) (append-nil (big_bytes n x))) ∙ big_number-reads_back n x [] lt in
    rw (long, take_at (big_bytes n x) rest n len, drop_at (big_bytes n x) rest n len, reads) refl

-- ---- bytes behind their number

pub bytes_takes : (n : ℕ) (bytes text rest : List ℕ) → IsBytes bytes → bytes_of n bytes ≡ Ok (text, rest)
    → Takes bytes text rest × (length text ≡ n) × (take n bytes ≡ text) × (n ≤ length bytes)
bytes_takes n bytes text rest fits e =
    let g = guard_ok (nat_lt (length bytes) n) (length bytes) (take n bytes, drop n bytes) (text, rest) e in
    let long : n ≤ length bytes = ltb-false _ _ g.0 in
    let len : length (take n bytes) ≡ n = omega (arith, length-take n bytes) in
    let front : Takes bytes (take n bytes) (drop n bytes) = record { parts = sym (take-append-drop n bytes); rest_fits = IsBytes-drop n bytes fits } in
    subst (λ (p : List ℕ × List ℕ). Takes bytes p.0 p.1 × (length p.0 ≡ n) × (take n bytes ≡ p.0) × (n ≤ length bytes)) g.1 (front, len, refl, long)

pub bytes_again : (text rest : List ℕ) → bytes_of (length text) (text ++ rest) ≡ Ok (text, rest)
bytes_again text rest =
    let long : nat_lt (length (text ++ rest)) (length text) ≡ false = le-ltb _ _ (omega (arith, length-append text rest)) in
    rw (long, take_at text rest (length text) refl, drop_at text rest (length text) refl) refl

pub size_takes : (n : ℕ) (width : IsWidth n) (least most : ℕ) (bytes : List ℕ) (x : ℕ) (rest : List ℕ) → IsBytes bytes → size_of n least most bytes ≡ Ok (x, rest)
    → Takes bytes (big_bytes n x) rest × (least ≤ x) × (x ≤ most) × (x < 256 ^ n)
unfolding size_of
size_takes n width least most bytes x rest fits e =
    let a = bind_ok (number_of n bytes) (λ size. ensure (nat_le least size.0 && nat_le size.0 most) (length bytes) >>= λ within. Ok (size.0, size.1)) (x, rest) e in
    let size = a.0 in
    let b = bind_ok (ensure (nat_le least size.0 && nat_le size.0 most) (length bytes)) (λ within. Ok (size.0, size.1)) (x, rest) a.2 in
    let limits = and_parts _ _ (ensure_ok (nat_le least size.0 && nat_le size.0 most) (length bytes) b.0 b.1) in
    let t = number_takes n width bytes size.0 size.1 fits a.1 in
    subst (λ (p : ℕ × List ℕ). Takes bytes (big_bytes n p.0) p.1 × (least ≤ p.0) × (p.0 ≤ most) × (p.0 < 256 ^ n)) (ok_is (size.0, size.1) (x, rest) b.2)
    (t.0, leb-true _ _ limits.0, leb-true _ _ limits.1, t.1)

pub size_again : (n least most x : ℕ) (rest : List ℕ) → x < 256 ^ n → least ≤ x → x ≤ most
    → size_of n least most (big_bytes n x ++ rest) ≡ Ok (x, rest)
unfolding size_of
size_again n least most x rest fits low high =
    let low_test : nat_le least x ≡ true = le-leb _ _ low in
    let high_test : nat_le x most ≡ true = le-leb _ _ high in
    rw (number_again n x rest fits, low_test, high_test) refl

-- bytes that were taken behind their number
pub behind_size : (n size : ℕ) (bytes middle text rest : List ℕ) → Takes bytes (big_bytes n size) middle → Takes middle text rest → length text ≡ size
    → Takes bytes (sized n text) rest
behind_size n size bytes middle text rest head body len =
    let both = Takes-then bytes (big_bytes n size) middle text rest head body in
    subst (λ (k : ℕ). Takes bytes (big_bytes n k ++ text) rest) (sym len) both

pub sized_takes : (n : ℕ) (width : IsWidth n) (least most : ℕ) (bytes text rest : List ℕ) → IsBytes bytes → sized_of n least most bytes ≡ Ok (text, rest)
    → Takes bytes (sized n text) rest × (least ≤ length text) × (length text ≤ most) × (length text < 256 ^ n)
unfolding sized_of
sized_takes n width least most bytes text rest fits e =
    let a = bind_ok (size_of n least most bytes) (λ size. bytes_of size.0 size.1) (text, rest) e in
    let head = size_takes n width least most bytes a.0.0 a.0.1 fits a.1 in
    let body = bytes_takes a.0.0 a.0.1 text rest head.0.rest_fits a.2 in
    let low : least ≤ length text = rw body.1 head.1 in
    let high : length text ≤ most = rw body.1 head.2 in
    let small : length text < 256 ^ n = rw body.1 head.3 in
    (behind_size n a.0.0 bytes a.0.1 text rest head.0 body.0 body.1, low, high, small)

pub sized_again : (n least most : ℕ) (text rest : List ℕ) → length text < 256 ^ n → least ≤ length text → length text ≤ most
    → sized_of n least most (sized n text ++ rest) ≡ Ok (text, rest)
unfolding sized_of
sized_again n least most text rest fits low high =
    let regrouped : sized n text ++ rest ≡ big_bytes n (length text) ++ (text ++ rest) = append_assoc (big_bytes n (length text)) text rest in
    ap (sized_of n least most) regrouped
    ∙ rw (size_again n least most (length text) (text ++ rest) fits low high) (bytes_again text rest)

-- how many bytes they take behind their length
pub sized_length : (n least most : ℕ) (bytes : List ℕ) (x : List ℕ × List ℕ) → sized_of n least most bytes ≡ Ok x
    → n + length x.0 + length x.1 ≡ length bytes
unfolding sized_of size_of
sized_length n least most bytes x e =
    let a = bind_ok (size_of n least most bytes) (λ size. bytes_of size.0 size.1) x e in
    let b = bind_ok (number_of n bytes) (λ size. ensure (nat_le least size.0 && nat_le size.0 most) (length bytes) >>= λ within. Ok (size.0, size.1)) a.0 a.1 in
    let c = bind_ok (ensure (nat_le least b.0.0 && nat_le b.0.0 most) (length bytes)) (λ within. Ok (b.0.0, b.0.1)) a.0 b.2 in
    let size : n + length a.0.1 ≡ length bytes =
    subst (λ (p : ℕ × List ℕ). n + length p.1 ≡ length bytes) (ok_is (b.0.0, b.0.1) a.0 c.2) (number_length n bytes b.0 b.1) in
    let body = bytes_length a.0.0 a.0.1 x a.2 in
    omega (arith, size, body.0, body.1)
