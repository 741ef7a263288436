-- The header that is read is the one that was written, and what was written is read again.
use Rattle.std.specs.Prelude.{◌≡◌, ℕ, ◌+◌, ◌^◌, ◌<◌, ◌≤◌, true, List, ◌++◌, length, take, drop, Result, Ok, Err, nat_lt, nat_le, ◌==◌, ◌&&◌}
use Rattle.std.proofs.Common.{refl, sym, ap, subst, ◌∙◌, append_assoc, arith, length-append}
use Rattle.std.proofs.lemmas.Bool.{ltb-true, leb-true, le-leb, lt-ltb, eqb-true, eq-eqb, and_parts}
use Rattle.std.proofs.lemmas.List.{take_at, drop_at, take-append-drop, take-take, length-drop, length-take}
use Rattle.byteorder.specs.Endian.{big_bytes}
use Rattle.hse_fields.specs.declared.block.BlockHeader.{BlockHeader}
use Rattle.hse_fields.specs.Fields.{number_of}
use Rattle.hse_fields.specs.LogReading.{◌>>=◌, ensure}
use Rattle.hse_fields.specs.BlockText.{header_size, block_header, block_text}
use Rattle.hse_fields.specs.BlockReading.{body_of, byte_of, used_of, header, numbers_of, header_of, plain_header_of, placed}
use Rattle.hse_fields.specs.laws.Fields.{IsBytes, bind_ok, ensure_ok, ok_is, Takes, Takes-then, width_1, width_4, number_takes, number_again}

-- ---- read

byte_takes : (wanted : ℕ) (bytes rest : List ℕ) → IsBytes bytes → byte_of wanted bytes ≡ Ok rest → Takes bytes (big_bytes 1 wanted) rest
unfolding byte_of
byte_takes wanted bytes rest fits e =
    let a = bind_ok (number_of 1 bytes) (λ byte. ensure (byte.0 == wanted) (length bytes) >>= λ same. Ok byte.1) rest e in
    let b = bind_ok (ensure (a.0.0 == wanted) (length bytes)) (λ same. Ok a.0.1) rest a.2 in
    let same : a.0.0 ≡ wanted = eqb-true _ _ (ensure_ok (a.0.0 == wanted) (length bytes) b.0 b.1) in
    let behind : a.0.1 ≡ rest = ok_is a.0.1 rest b.2 in
    let t = (number_takes 1 width_1 bytes a.0.0 a.0.1 fits a.1).0 in
    subst (λ (r : List ℕ). Takes bytes (big_bytes 1 wanted) r) behind (subst (λ (n : ℕ). Takes bytes (big_bytes 1 n) a.0.1) same t)

-- what a header's used bytes are behind its kind
abbrev pub used_text : ℕ → ℕ → List ℕ
used_text kind used = big_bytes 1 kind ++ (big_bytes 3 0 ++ big_bytes 4 used)

record TakesUsed (kind most : ℕ) (bytes : List ℕ) (x : ℕ × List ℕ) : Type 0 where
  taken : Takes bytes (used_text kind x.0) x.1
  low : header_size ≤ x.0
  high : x.0 ≤ most
  small : x.0 < 2 ^ 32

abbrev from_fourth : ℕ → List ℕ → Result (ℕ × List ℕ) ℕ
from_fourth most fourth =
    number_of 4 fourth >>= λ used. (ensure (nat_le header_size used.0 && nat_le used.0 most) (length fourth) >>= λ within. Ok (used.0, used.1))

used_takes : (kind most : ℕ) (bytes : List ℕ) (x : ℕ × List ℕ) → IsBytes bytes → used_of kind most bytes ≡ Ok x → TakesUsed kind most bytes x
unfolding used_of
used_takes kind most bytes x fits e =
    let a = bind_ok (byte_of kind bytes) (λ first. byte_of 0 first >>= λ second. (byte_of 0 second >>= λ third. (byte_of 0 third >>= λ fourth. from_fourth most fourth))) x e in
    let b = bind_ok (byte_of 0 a.0) (λ second. byte_of 0 second >>= λ third. (byte_of 0 third >>= λ fourth. from_fourth most fourth)) x a.2 in
    let c = bind_ok (byte_of 0 b.0) (λ third. byte_of 0 third >>= λ fourth. from_fourth most fourth) x b.2 in
    let d = bind_ok (byte_of 0 c.0) (λ fourth. from_fourth most fourth) x c.2 in
    let n = bind_ok (number_of 4 d.0) (λ used. ensure (nat_le header_size used.0 && nat_le used.0 most) (length d.0) >>= λ within. Ok (used.0, used.1)) x d.2 in
    let w = bind_ok (ensure (nat_le header_size n.0.0 && nat_le n.0.0 most) (length d.0)) (λ within. Ok (n.0.0, n.0.1)) x n.2 in
    let limits = and_parts _ _ (ensure_ok (nat_le header_size n.0.0 && nat_le n.0.0 most) (length d.0) w.0 w.1) in
    let ta = byte_takes kind bytes a.0 fits a.1 in
    let tb = byte_takes 0 a.0 b.0 ta.rest_fits b.1 in
    let tc = byte_takes 0 b.0 c.0 tb.rest_fits c.1 in
    let td = byte_takes 0 c.0 d.0 tc.rest_fits d.1 in
    let tn = number_takes 4 width_4 d.0 n.0.0 n.0.1 td.rest_fits n.1 in
    let all = Takes-then bytes (big_bytes 1 kind) a.0 (big_bytes 1 0 ++ (big_bytes 1 0 ++ (big_bytes 1 0 ++ big_bytes 4 n.0.0))) n.0.1 ta
    (Takes-then a.0 (big_bytes 1 0) b.0 (big_bytes 1 0 ++ (big_bytes 1 0 ++ big_bytes 4 n.0.0)) n.0.1 tb
    (Takes-then b.0 (big_bytes 1 0) c.0 (big_bytes 1 0 ++ big_bytes 4 n.0.0) n.0.1 tc
    (Takes-then c.0 (big_bytes 1 0) d.0 (big_bytes 4 n.0.0) n.0.1 td tn.0))) in
    subst (TakesUsed kind most bytes) (ok_is (n.0.0, n.0.1) x w.2)
    (record { taken = all; low = leb-true _ _ limits.0; high = leb-true _ _ limits.1; small = omega (arith, tn.1) })

-- what a reading of a header gives
pub record TakesHeader (kind : ℕ) (bytes : List ℕ) (head : BlockHeader) : Type 0 where
  pub text : take header_size bytes ≡ block_header kind head.used head.count head.pages
  pub low : header_size ≤ head.used
  pub high : head.used ≤ length bytes
  pub used : head.used < 2 ^ 32
  pub count : head.count < 2 ^ 32
  pub pages : head.pages < 2 ^ 32

pub placed_ok : {A : Type 0} (end : ℕ) (r : Result A ℕ) (x : A) → placed end r ≡ Ok x → r ≡ Ok x
placed_ok end (Ok y) x e = e
placed_ok end (Err left) x e = absurd cc

regroup : (a b c d e rest : List ℕ) → ((a ++ (b ++ c)) ++ (d ++ e)) ++ rest ≡ (a ++ (b ++ (c ++ (d ++ e)))) ++ rest
regroup a b c d e rest = simp append_assoc

pub header_takes : (kind : ℕ) (bytes : List ℕ) (head : BlockHeader) → IsBytes bytes → header_of kind bytes ≡ Ok head → TakesHeader kind bytes head
unfolding numbers_of
header_takes kind bytes head fits e =
    let r = placed_ok (length bytes) (numbers_of kind (length bytes) bytes) head e in
    let a = bind_ok (used_of kind (length bytes) bytes) (λ used. number_of 4 used.1 >>= λ count. (number_of 4 count.1 >>= λ pages. Ok (header used.0 count.0 pages.0))) head r in
    let b = bind_ok (number_of 4 a.0.1) (λ count. number_of 4 count.1 >>= λ pages. Ok (header a.0.0 count.0 pages.0)) head a.2 in
    let c = bind_ok (number_of 4 b.0.1) (λ pages. Ok (header a.0.0 b.0.0 pages.0)) head b.2 in
    let ta = used_takes kind (length bytes) bytes a.0 fits a.1 in
    let tb = number_takes 4 width_4 a.0.1 b.0.0 b.0.1 ta.taken.rest_fits b.1 in
    let tc = number_takes 4 width_4 b.0.1 c.0.0 c.0.1 tb.0.rest_fits c.1 in
    let all = Takes-then bytes (used_text kind a.0.0) a.0.1 (big_bytes 4 b.0.0 ++ big_bytes 4 c.0.0) c.0.1 ta.taken
    (Takes-then a.0.1 (big_bytes 4 b.0.0) b.0.1 (big_bytes 4 c.0.0) c.0.1 tb.0 tc.0) in
    let parts : bytes ≡ block_header kind a.0.0 b.0.0 c.0.0 ++ c.0.1 =
    all.parts ∙ regroup (big_bytes 1 kind) (big_bytes 3 0) (big_bytes 4 a.0.0) (big_bytes 4 b.0.0) (big_bytes 4 c.0.0) c.0.1 in
    let text : take header_size bytes ≡ block_header kind a.0.0 b.0.0 c.0.0 =
    ap (take header_size) parts ∙ take_at (block_header kind a.0.0 b.0.0 c.0.0) c.0.1 header_size refl in
    subst (TakesHeader kind bytes) (ok_is (header a.0.0 b.0.0 c.0.0) head c.2)
    (record { text = text; low = ta.low; high = ta.high; used = ta.small; count = omega (arith, tb.1); pages = omega (arith, tc.1) })

pub plain_takes : (kind : ℕ) (bytes : List ℕ) (head : BlockHeader) → IsBytes bytes → plain_header_of kind bytes ≡ Ok head
    → TakesHeader kind bytes head × (0 < head.count) × (head.pages ≡ 0)
unfolding plain_header_of
plain_takes kind bytes head fits e =
    let a = bind_ok (header_of kind bytes) (λ head. ensure (nat_lt 0 head.count) 8 >>= λ some. (ensure (head.pages == 0) 12 >>= λ none. Ok head)) head e in
    let b = bind_ok (ensure (nat_lt 0 a.0.count) 8) (λ some. ensure (a.0.pages == 0) 12 >>= λ none. Ok a.0) head a.2 in
    let c = bind_ok (ensure (a.0.pages == 0) 12) (λ none. Ok a.0) head b.2 in
    subst (λ (h : BlockHeader). TakesHeader kind bytes h × (0 < h.count) × (h.pages ≡ 0)) (ok_is a.0 head c.2)
    (header_takes kind bytes a.0 fits a.1, ltb-true _ _ (ensure_ok _ _ _ b.1), eqb-true _ _ (ensure_ok _ _ _ c.1))

-- ---- read again

byte_again : (wanted : ℕ) (rest : List ℕ) → wanted < 256 → byte_of wanted (big_bytes 1 wanted ++ rest) ≡ Ok rest
unfolding byte_of
byte_again wanted rest small =
    let same : (wanted == wanted) ≡ true = eq-eqb wanted wanted refl in
    rw (number_again 1 wanted rest (omega (arith, small)), same) refl

used_again : (kind most used : ℕ) (rest : List ℕ) → kind < 256 → header_size ≤ used → used ≤ most → used < 2 ^ 32
    → used_of kind most (used_text kind used ++ rest) ≡ Ok (used, rest)
unfolding used_of
used_again kind most used rest small low high fits =
    let low_test : nat_le header_size used ≡ true = le-leb _ _ low in
    let high_test : nat_le used most ≡ true = le-leb _ _ high in
    rw (
      byte_again kind (big_bytes 3 0 ++ (big_bytes 4 used ++ rest)) small,
      byte_again 0 (big_bytes 1 0 ++ (big_bytes 1 0 ++ (big_bytes 4 used ++ rest))) (omega arith),
      byte_again 0 (big_bytes 1 0 ++ (big_bytes 4 used ++ rest)) (omega arith),
      byte_again 0 (big_bytes 4 used ++ rest) (omega arith),
      number_again 4 used rest (omega (arith, fits)),
      low_test,
      high_test,
    ) refl

pub header_again : (kind : ℕ) (head : BlockHeader) (rest : List ℕ) → kind < 256 → header_size ≤ head.used → head.used ≤ header_size + length rest
    → head.used < 2 ^ 32 → head.count < 2 ^ 32 → head.pages < 2 ^ 32
    → header_of kind (block_header kind head.used head.count head.pages ++ rest) ≡ Ok head
unfolding numbers_of
header_again kind head rest small low high used count pages =
    let all = block_header kind head.used head.count head.pages ++ rest in
    let regrouped : all ≡ used_text kind head.used ++ (big_bytes 4 head.count ++ (big_bytes 4 head.pages ++ rest)) = refl in
    let within : head.used ≤ length all = omega (arith, high, length-append (block_header kind head.used head.count head.pages) rest) in
    let read : numbers_of kind (length all) all ≡ Ok head =
    rw (
      used_again kind (length all) head.used (big_bytes 4 head.count ++ (big_bytes 4 head.pages ++ rest)) small low within used,
      number_again 4 head.count (big_bytes 4 head.pages ++ rest) (omega (arith, count)),
      number_again 4 head.pages rest (omega (arith, pages)),
    ) refl in
    ap (placed (length all)) read

pub plain_again : (kind : ℕ) (head : BlockHeader) (rest : List ℕ) → kind < 256 → header_size ≤ head.used → head.used ≤ header_size + length rest
    → head.used < 2 ^ 32 → head.count < 2 ^ 32 → 0 < head.count → head.pages ≡ 0
    → plain_header_of kind (block_header kind head.used head.count head.pages ++ rest) ≡ Ok head
unfolding plain_header_of
plain_again kind head rest small low high used count some none =
    let some_test : nat_lt 0 head.count ≡ true = lt-ltb _ _ some in
    let none_test : (head.pages == 0) ≡ true = eq-eqb head.pages 0 none in
    rw (header_again kind head rest small low high used count (omega (arith, none)), some_test, none_test) refl

-- ---- a block without pages

pub body_length : (used : ℕ) (bytes : List ℕ) → header_size ≤ used → used ≤ length bytes → header_size + length (body_of used bytes) ≡ used
body_length used bytes low high = omega (arith, length-drop header_size (take used bytes), length-take used bytes)

front_is : (used : ℕ) (bytes : List ℕ) → header_size ≤ used → take header_size (take used bytes) ≡ take header_size bytes
front_is used bytes low = take-take header_size used bytes low

-- a block's used bytes are its header and what is read behind it
pub block_takes : (kind : ℕ) (bytes text : List ℕ) (head : BlockHeader) → TakesHeader kind bytes head → head.pages ≡ 0 → body_of head.used bytes ≡ text
    → take (header_size + length text) bytes ≡ block_text kind head.count text
block_takes kind bytes text head taken none body =
    let long : header_size + length text ≡ head.used = ap (λ (l : List ℕ). header_size + length l) (sym body) ∙ body_length head.used bytes taken.low taken.high in
    let parts : take head.used bytes ≡ take header_size bytes ++ text =
    sym (take-append-drop header_size (take head.used bytes))
    ∙ ap (λ (l : List ℕ). l ++ body_of head.used bytes) (front_is head.used bytes taken.low)
    ∙ ap (λ (l : List ℕ). take header_size bytes ++ l) body in
    let front : take header_size bytes ≡ block_header kind (header_size + length text) head.count 0 =
    taken.text ∙ ap (λ (p : ℕ × ℕ). block_header kind p.0 head.count p.1) (ap (λ (n : ℕ). (n, head.pages)) (sym long) ∙ ap (λ (n : ℕ). (header_size + length text, n)) none) in
    ap (λ (n : ℕ). take n bytes) long ∙ parts ∙ ap (λ (l : List ℕ). l ++ text) front

pub body_again : (kind count : ℕ) (text rest : List ℕ) → body_of (header_size + length text) (block_text kind count text ++ rest) ≡ text
body_again kind count text rest =
    let all = block_text kind count text in
    let long : length all ≡ header_size + length text = length-append (block_header kind (header_size + length text) count 0) text in
    ap (drop header_size) (take_at all rest (header_size + length text) long)
    ∙ drop_at (block_header kind (header_size + length text) count 0) text header_size refl

-- the header of a block's text
pub text_header : (kind count : ℕ) (text rest : List ℕ) → kind < 256 → 0 < count → count < 2 ^ 32 → header_size + length text < 2 ^ 32
    → plain_header_of kind (block_text kind count text ++ rest) ≡ Ok (header (header_size + length text) count 0)
text_header kind count text rest small some counted within =
    let regrouped : block_text kind count text ++ rest ≡ block_header kind (header_size + length text) count 0 ++ (text ++ rest) =
    append_assoc (block_header kind (header_size + length text) count 0) text rest in
    ap (plain_header_of kind) regrouped
    ∙ plain_again kind (header (header_size + length text) count 0) (text ++ rest) small (omega arith) (omega (arith, length-append text rest)) within counted some refl
