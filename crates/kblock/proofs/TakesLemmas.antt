-- What is read of a block of keys is spelled so.
use Rattle.std.proofs.Common.{◌≡◌, ◌∙◌, true, false, Bool, ℕ, zero, suc, ◌+◌, ◌-◌, ◌*◌, ◌<◌, ◌≤◌, List, [], ◌∷◌, ◌++◌, length, take, drop, Option, Some, None, Ok, Err, refl, sym, ap, subst, arith, length-append}
use Rattle.std.specs.Prelude.{◌==◌, ◌||◌, nat_lt, replicate, if◌then◌else◌}
use Rattle.std.specs.List.{flat_map, sum_by}
use Rattle.std.proofs.lemmas.Bool.{eqb-true, ltb-true}
use Rattle.std.proofs.Math.Seq.{take-add}
use Rattle.std.proofs.lemmas.List.{append-nil, take-append-drop, length-take, length-drop, nil_from_length, take-take}
use Rattle.byteorder.specs.Endian.{big_bytes, big_number}
use Rattle.hse_fields.specs.declared.block.BlockHeader.{BlockHeader}
use Rattle.hse_fields.specs.declared.block.ValuePlace.{ValuePlace}
use Rattle.hse_fields.specs.Fields.{number_of}
use Rattle.hse_fields.specs.LogLimits.{longest_key}
use Rattle.hse_fields.specs.LogText.{sized}
use Rattle.hse_fields.specs.LogReading.{◌>>=◌, ensure}
use Rattle.hse_fields.specs.BlockText.{header_size, page_size, page_cost, key_kind, block_header, KeyEntry, key_code, place_text, key_text, keys_text, page_used, page_text, counts_text, key_block_text}
use Rattle.hse_fields.specs.BlockReading.{value_place, key_entry, name_of, place_of, place_after, key_of, keys_of, zeros_of, page_of, pages_of, placed, last_key, count_in, count_all, counts_of, body_of, key_header_of, key_block_of}
use Rattle.hse_fields.specs.laws.Fields.{IsBytes, IsBytes-drop, IsBytes-take, Takes, Takes-then, bind_ok, ensure_ok, ok_is, number_takes, width_1, width_2, width_4, width_8}
use Rattle.hse_fields.specs.laws.BlockHeaders.{body_length, header_takes, placed_ok}
use Rattle.hse_fields.specs.laws.PrefixTexts.{name_takes}
use Rattle.kblock.specs.Opened.{body_with}
use Rattle.kblock.specs.Form.{PlaceFits, IsKey, AreKeys, IsPageOf, ArePages, AreKeyPages}
use Rattle.kblock.proofs.BuildingLemmas.{counts_long}
use Rattle.kblock.proofs.OpeningLemmas.{body_counted, first_page, header_is, no_page, page_has, pages_counted}

place_takes : (bytes : List ℕ) (x : ValuePlace × List ℕ) → IsBytes bytes → place_of bytes ≡ Ok x → Takes bytes (place_text (Some x.0)) x.1 × PlaceFits (Some x.0)
unfolding place_of
place_takes bytes x fits e =
    let a = bind_ok (number_of 4 bytes) (λ block. number_of 4 block.1 >>= λ offset. (number_of 4 offset.1 >>= λ len. Ok (value_place block.0 offset.0 len.0, len.1))) x e in
    let b = bind_ok (number_of 4 a.0.1) (λ offset. number_of 4 offset.1 >>= λ len. Ok (value_place a.0.0 offset.0 len.0, len.1)) x a.2 in
    let d = bind_ok (number_of 4 b.0.1) (λ len. Ok (value_place a.0.0 b.0.0 len.0, len.1)) x b.2 in
    let ta = number_takes 4 width_4 bytes a.0.0 a.0.1 fits a.1 in
    let tb = number_takes 4 width_4 a.0.1 b.0.0 b.0.1 ta.0.rest_fits b.1 in
    let td = number_takes 4 width_4 b.0.1 d.0.0 d.0.1 tb.0.rest_fits d.1 in
    subst (λ (y : ValuePlace × List ℕ). Takes bytes (place_text (Some y.0)) y.1 × PlaceFits (Some y.0)) (ok_is (value_place a.0.0 b.0.0 d.0.0, d.0.1) x d.2) (
      Takes-then bytes (big_bytes 4 a.0.0) a.0.1 (big_bytes 4 b.0.0 ++ big_bytes 4 d.0.0) d.0.1 ta.0 (Takes-then a.0.1 (big_bytes 4 b.0.0) b.0.1 (big_bytes 4 d.0.0) d.0.1 tb.0 td.0),
      (omega (arith, ta.1), omega (arith, tb.1), omega (arith, td.1)),
    )

record TakesPlace (kind : ℕ) (bytes : List ℕ) (x : Option ValuePlace × List ℕ) : Type 0 where
  taken : Takes bytes (place_text x.0) x.1
  fits : PlaceFits x.0
  code : kind ≡ key_code x.0

after_with : (kind : ℕ) (bytes : List ℕ) (x : Option ValuePlace × List ℕ) (put : Bool) → IsBytes bytes → (kind == 1) ≡ put → (put || (kind == 2)) ≡ true
    → (if put then place_of bytes >>= (λ place. Ok (Some place.0, place.1)) else Ok (None, bytes)) ≡ Ok x → TakesPlace kind bytes x
after_with kind bytes x true fits is known e =
    let a = bind_ok (place_of bytes) (λ place. Ok (Some place.0, place.1)) x e in
    let p = place_takes bytes a.0 fits a.1 in
    subst (TakesPlace kind bytes) (ok_is (Some a.0.0, a.0.1) x a.2) (record { taken = p.0; fits = p.1; code = eqb-true kind 1 is })
after_with kind bytes x false fits is known e =
    subst (TakesPlace kind bytes) (ok_is (None, bytes) x e) (record { taken = record { parts = refl; rest_fits = fits }; fits = tt; code = eqb-true kind 2 known })

after_takes : (kind : ℕ) (bytes : List ℕ) (x : Option ValuePlace × List ℕ) → IsBytes bytes → ((kind == 1) || (kind == 2)) ≡ true → place_after kind bytes ≡ Ok x
    → TakesPlace kind bytes x
unfolding place_after
after_takes kind bytes x fits known e = after_with kind bytes x (kind == 1) fits refl known e

pub record TakesKey (last : Option (List ℕ)) (bytes : List ℕ) (x : KeyEntry × List ℕ) : Type 0 where
  pub taken : Takes bytes (key_text x.0) x.1
  pub key : IsKey last x.0

pub key_takes : (last : Option (List ℕ)) (bytes : List ℕ) (x : KeyEntry × List ℕ) → IsBytes bytes → key_of last bytes ≡ Ok x → TakesKey last bytes x
unfolding key_of
key_takes last bytes x fits e =
    let a = bind_ok (number_of 1 bytes) (λ kind. ensure ((kind.0 == 1) || (kind.0 == 2)) (length bytes) >>= λ known. (number_of 8 kind.1 >>= λ number. (name_of 2 longest_key last (length bytes) number.1 >>= λ name. (place_after kind.0 name.1 >>= λ place. Ok (key_entry number.0 name.0 place.0, place.1))))) x e in
    let b = bind_ok (ensure ((a.0.0 == 1) || (a.0.0 == 2)) (length bytes)) (λ known. number_of 8 a.0.1 >>= λ number. (name_of 2 longest_key last (length bytes) number.1 >>= λ name. (place_after a.0.0 name.1 >>= λ place. Ok (key_entry number.0 name.0 place.0, place.1)))) x a.2 in
    let c = bind_ok (number_of 8 a.0.1) (λ number. name_of 2 longest_key last (length bytes) number.1 >>= λ name. (place_after a.0.0 name.1 >>= λ place. Ok (key_entry number.0 name.0 place.0, place.1))) x b.2 in
    let d = bind_ok (name_of 2 longest_key last (length bytes) c.0.1) (λ name. place_after a.0.0 name.1 >>= λ place. Ok (key_entry c.0.0 name.0 place.0, place.1)) x c.2 in
    let f = bind_ok (place_after a.0.0 d.0.1) (λ place. Ok (key_entry c.0.0 d.0.0 place.0, place.1)) x d.2 in
    let kind = number_takes 1 width_1 bytes a.0.0 a.0.1 fits a.1 in
    let number = number_takes 8 width_8 a.0.1 c.0.0 c.0.1 kind.0.rest_fits c.1 in
    let name = name_takes 2 longest_key width_2 last (length bytes) c.0.1 d.0 number.0.rest_fits d.1 in
    let place = after_takes a.0.0 d.0.1 f.0 name.taken.rest_fits (ensure_ok ((a.0.0 == 1) || (a.0.0 == 2)) (length bytes) b.0 b.1) f.1 in
    let more = big_bytes 8 c.0.0 ++ (sized 2 d.0.0 ++ place_text f.0.0) in
    let all : Takes bytes (big_bytes 1 a.0.0 ++ more) f.0.1 = Takes-then bytes (big_bytes 1 a.0.0) a.0.1 more f.0.1 kind.0
    (Takes-then a.0.1 (big_bytes 8 c.0.0) c.0.1 (sized 2 d.0.0 ++ place_text f.0.0) f.0.1 number.0
    (Takes-then c.0.1 (sized 2 d.0.0) d.0.1 (place_text f.0.0) f.0.1 name.taken place.taken)) in
    subst (TakesKey last bytes) (ok_is (key_entry c.0.0 d.0.0 f.0.0, f.0.1) x f.2)
    (record {
      taken = subst (λ (k : ℕ). Takes bytes (big_bytes 1 k ++ more) f.0.1) place.code all;
      key = record { above = name.above; some = name.some; short = name.short; small = omega (arith, number.1); fits = place.fits };
    })

record TakesKeys (last : Option (List ℕ)) (n : ℕ) (bytes : List ℕ) (x : List KeyEntry × List ℕ) : Type 0 where
  taken : Takes bytes (keys_text x.0) x.1
  counted : length x.0 ≡ n
  keys : AreKeys last x.0

keys_take : (last : Option (List ℕ)) (n : ℕ) (bytes : List ℕ) (x : List KeyEntry × List ℕ) → IsBytes bytes → keys_of last n bytes ≡ Ok x → TakesKeys last n bytes x
unfolding keys_of
keys_take last zero bytes x fits e =
    subst (TakesKeys last 0 bytes) (ok_is ([], bytes) x e) (record { taken = record { parts = refl; rest_fits = fits }; counted = refl; keys = tt })
keys_take last (suc n) bytes x fits e =
    let a = bind_ok (key_of last bytes) (λ first. keys_of (Some first.0.key) n first.1 >>= λ others. Ok (first.0 ∷ others.0, others.1)) x e in
    let b = bind_ok (keys_of (Some a.0.0.key) n a.0.1) (λ others. Ok (a.0.0 ∷ others.0, others.1)) x a.2 in
    let first = key_takes last bytes a.0 fits a.1 in
    let others = keys_take (Some a.0.0.key) n a.0.1 b.0 first.taken.rest_fits b.1 in
    subst (TakesKeys last (suc n) bytes) (ok_is (a.0.0 ∷ b.0.0, b.0.1) x b.2)
    (record {
      taken = Takes-then bytes (key_text a.0.0) a.0.1 (keys_text b.0.0) b.0.1 first.taken others.taken;
      counted = ap suc others.counted;
      keys = (first.key, others.keys);
    })

-- ---- pages

zeros_with : (byte : ℕ) (bytes : List ℕ) (test : Bool) → (byte == 0) ≡ test → (if test then zeros_of bytes else Err (length (byte ∷ bytes))) ≡ Ok tt
    → (zeros_of bytes ≡ Ok tt → bytes ≡ replicate (length bytes) 0) → byte ∷ bytes ≡ replicate (length (byte ∷ bytes)) 0
zeros_with byte bytes true is e more =
    ap (λ (b : ℕ). b ∷ bytes) (eqb-true byte 0 is) ∙ ap (λ (l : List ℕ). 0 ∷ l) (more e)
zeros_with byte bytes false is e more = absurd cc

zeros_take : (bytes : List ℕ) → zeros_of bytes ≡ Ok tt → bytes ≡ replicate (length bytes) 0
zeros_take [] e = refl
zeros_take (byte ∷ bytes) e = zeros_with byte bytes (byte == 0) refl e (zeros_take bytes)

page_with : (last : Option (List ℕ)) (page : List ℕ) (count : ℕ) (behind rest : List ℕ) (keys : List KeyEntry) → length page ≡ page_size → 0 < count
    → Takes page (big_bytes 2 count) behind → TakesKeys last count behind (keys, rest) → zeros_of rest ≡ Ok tt → (page ≡ page_text keys) × IsPageOf last keys
page_with last page count behind rest keys long some number taken clean =
    let all = Takes-then page (big_bytes 2 count) behind (keys_text keys) rest number taken.taken in
    let used : page ≡ page_used keys ++ rest = all.parts ∙ ap (λ (n : ℕ). (big_bytes 2 n ++ keys_text keys) ++ rest) (sym taken.counted) in
    let sizes : length page ≡ length (page_used keys) + length rest = ap length used ∙ length-append (page_used keys) rest in
    let left : length rest ≡ page_size - length (page_used keys) = omega (arith, sizes, long) in (
      used ∙ ap (λ (l : List ℕ). page_used keys ++ l) (zeros_take rest clean ∙ ap (λ (n : ℕ). replicate n 0) left),
      record { keys = taken.keys; some = omega (arith, some, taken.counted); fits = omega (arith, sizes, long) },
    )

page_takes : (last : Option (List ℕ)) (page : List ℕ) (keys : List KeyEntry) → IsBytes page → length page ≡ page_size → page_of last page ≡ Ok keys
    → (page ≡ page_text keys) × IsPageOf last keys
unfolding page_of
page_takes last page keys fits long e =
    let a = bind_ok (number_of 2 page) (λ count. ensure (nat_lt 0 count.0) (length page) >>= λ some. (keys_of last count.0 count.1 >>= λ keys. (zeros_of keys.1 >>= λ clean. Ok keys.0))) keys e in
    let b = bind_ok (ensure (nat_lt 0 a.0.0) (length page)) (λ some. keys_of last a.0.0 a.0.1 >>= λ keys. (zeros_of keys.1 >>= λ clean. Ok keys.0)) keys a.2 in
    let d = bind_ok (keys_of last a.0.0 a.0.1) (λ keys. zeros_of keys.1 >>= λ clean. Ok keys.0) keys b.2 in
    let f = bind_ok (zeros_of d.0.1) (λ clean. Ok d.0.0) keys d.2 in
    let number = (number_takes 2 width_2 page a.0.0 a.0.1 fits a.1).0 in
    subst (λ (k : List KeyEntry). (page ≡ page_text k) × IsPageOf last k) (ok_is d.0.0 keys f.2)
    (page_with last page a.0.0 a.0.1 d.0.1 d.0.0 long (ltb-true _ _ (ensure_ok _ _ _ b.1)) number (keys_take last a.0.0 a.0.1 d.0 number.rest_fits d.1) f.1)

record TakesPages (last : Option (List ℕ)) (n : ℕ) (bytes : List ℕ) (pages : List (List KeyEntry)) : Type 0 where
  text : take (page_size * n) bytes ≡ flat_map page_text pages
  are : ArePages last pages
  counted : length pages ≡ n

pages_take : (start : ℕ) (last : Option (List ℕ)) (n : ℕ) (bytes : List ℕ) (pages : List (List KeyEntry)) → IsBytes bytes → page_size * n ≤ length bytes
    → pages_of start last n bytes ≡ Ok pages → TakesPages last n bytes pages
pages_take start last zero bytes pages fits long e =
    subst (TakesPages last 0 bytes) (sym (no_page start last bytes pages e)) (record { text = refl; are = tt; counted = refl })
pages_take start last (suc n) bytes pages fits long e =
    let has = first_page start last n bytes pages e in
    let first = page_takes last (take page_size bytes) has.first (IsBytes-take page_size bytes fits) (omega (arith, length-take page_size bytes, long)) has.page in
    let more = pages_take (start + page_size) (last_key last has.first) n (drop page_size bytes) has.others (IsBytes-drop page_size bytes fits) (omega (arith, length-drop page_size bytes, long)) has.more in
    let sum : page_size * suc n ≡ page_size + page_size * n = omega arith in
    subst (TakesPages last (suc n) bytes) (sym has.both)
    (record {
      text = ap (λ (m : ℕ). take m bytes) sum ∙ take-add page_size (page_size * n) bytes
          ∙ ap (λ (l : List ℕ). l ++ take (page_size * n) (drop page_size bytes)) first.0
          ∙ ap (λ (l : List ℕ). page_text has.first ++ l) more.text;
      are = (first.1, more.are);
      counted = ap suc more.counted;
    })

-- the pages of a block are of the block's form
pub pages_are : (pages : ℕ) (bytes : List ℕ) (read : List (List KeyEntry)) → IsBytes bytes → header_size + page_cost * pages ≤ length bytes
    → pages_of header_size None pages (body_with pages bytes) ≡ Ok read → ArePages None read
pages_are pages bytes read fits within e =
    let used = header_size + page_cost * pages in
    let long = body_length used bytes (omega arith) within in
    (pages_take header_size None pages (body_with pages bytes) read (IsBytes-drop header_size (take used bytes) (IsBytes-take used bytes fits)) (omega (arith, long)) e).are

-- ---- the numbers behind them

numbers_take : (before start : ℕ) (last : Option (List ℕ)) (n : ℕ) (bytes numbers : List ℕ) (pages : List (List KeyEntry)) → IsBytes numbers
    → pages_of start last n bytes ≡ Ok pages → counts_of before n bytes numbers ≡ Ok tt → (rest : List ℕ) × Takes numbers (counts_text before pages) rest
unfolding counts_of
numbers_take before start last zero bytes numbers pages fits e c =
    (numbers, subst (λ (p : List (List KeyEntry)). Takes numbers (counts_text before p) numbers) (sym (no_page start last bytes pages e)) (record { parts = refl; rest_fits = fits }))
numbers_take before start last (suc n) bytes numbers pages fits e c =
    let has = first_page start last n bytes pages e in
    let page = page_has last (take page_size bytes) has.first has.page in
    let same : count_in bytes ≡ length has.first = sym (page.counted ∙ ap (big_number 2) (take-take 2 page_size bytes (omega arith))) in
    let a = bind_ok (number_of 4 numbers) (λ number. ensure (number.0 == before) (length numbers) >>= λ agrees. counts_of (before + count_in bytes) n (drop page_size bytes) number.1) tt c in
    let b = bind_ok (ensure (a.0.0 == before) (length numbers)) (λ agrees. counts_of (before + count_in bytes) n (drop page_size bytes) a.0.1) tt a.2 in
    let number = (number_takes 4 width_4 numbers a.0.0 a.0.1 fits a.1).0 in
    let is : a.0.0 ≡ before = eqb-true _ _ (ensure_ok (a.0.0 == before) (length numbers) b.0 b.1) in
    let more = numbers_take (before + count_in bytes) (start + page_size) (last_key last has.first) n (drop page_size bytes) a.0.1 has.others number.rest_fits has.more b.2 in
    let first = subst (λ (k : ℕ). Takes numbers (big_bytes 4 k) a.0.1) is number in
    let others = subst (λ (k : ℕ). Takes a.0.1 (counts_text (before + k) has.others) more.0) same more.1 in (
      more.0,
      subst (λ (p : List (List KeyEntry)). Takes numbers (counts_text before p) more.0) (sym has.both)
          (Takes-then numbers (big_bytes 4 before) a.0.1 (counts_text (before + length has.first) has.others) more.0 first others),
    )

-- ---- a block

module _ (last : Option (List ℕ)) (bytes : List ℕ) (fits : IsBytes bytes) (head : BlockHeader) (pages : List (List KeyEntry)) (is : key_header_of bytes ≡ Ok head)
    (e : pages_of header_size last head.pages (body_of head.used bytes) ≡ Ok pages)
    (c : counts_of 0 head.pages (body_of head.used bytes) (drop (page_size * head.pages) (body_of head.used bytes)) ≡ Ok tt) where
  abbrev body : List ℕ
  body = body_of head.used bytes

  told : (take (length (key_block_text pages)) bytes ≡ key_block_text pages) × AreKeyPages last pages
  told =
      let h = header_is bytes head is in
      let t = header_takes key_kind bytes head fits h.read in
      let body_fits : IsBytes body = IsBytes-drop header_size (take head.used bytes) (IsBytes-take head.used bytes fits) in
      let long : header_size + length body ≡ head.used = body_length head.used bytes t.low t.high in
      let p = pages_take header_size last head.pages body pages body_fits (omega (arith, long, h.used)) e in
      let behind = drop (page_size * head.pages) body in
      let n = numbers_take 0 header_size last head.pages body behind pages (IsBytes-drop (page_size * head.pages) body body_fits) e c in
      let sizes = length-append (counts_text 0 pages) n.0 in
      let none : n.0 ≡ [] = nil_from_length n.0 (omega (arith, sizes, ap length n.1.parts, counts_long 0 pages, p.counted, length-drop (page_size * head.pages) body, long, h.used)) in
      let numbers : behind ≡ counts_text 0 pages = n.1.parts ∙ ap (λ (l : List ℕ). counts_text 0 pages ++ l) none ∙ append-nil (counts_text 0 pages) in
      let text = flat_map page_text pages ++ counts_text 0 pages in
      let body_is : body ≡ text = sym (take-append-drop (page_size * head.pages) body)
      ∙ ap (λ (l : List ℕ). l ++ behind) p.text ∙ ap (λ (l : List ℕ). flat_map page_text pages ++ l) numbers in
      let used_is : head.used ≡ header_size + page_cost * length pages = omega (arith, h.used, p.counted) in
      let count_is : head.count ≡ sum_by length pages =
      h.count ∙ sym (body_counted head.pages bytes) ∙ ap (λ (m : ℕ). count_all head.pages (body_of m bytes)) (sym h.used) ∙ pages_counted header_size last head.pages body pages e in
      let front : take header_size bytes ≡ block_header key_kind (header_size + page_cost * length pages) (sum_by length pages) (length pages) =
      t.text
      ∙ ap (λ (m : ℕ). block_header key_kind m head.count head.pages) used_is
      ∙ ap (λ (m : ℕ). block_header key_kind (header_size + page_cost * length pages) m head.pages) count_is
      ∙ ap (λ (m : ℕ). block_header key_kind (header_size + page_cost * length pages) (sum_by length pages) m) (sym p.counted) in
      let whole : take head.used bytes ≡ key_block_text pages =
      sym (take-append-drop header_size (take head.used bytes))
      ∙ ap (λ (l : List ℕ). l ++ body) (take-take header_size head.used bytes t.low ∙ front)
      ∙ ap (λ (l : List ℕ). block_header key_kind (header_size + page_cost * length pages) (sum_by length pages) (length pages) ++ l) body_is in
      let size : length (key_block_text pages) ≡ head.used = sym (ap length whole) ∙ taken_length head.used bytes t.high in (
        ap (λ (m : ℕ). take m bytes) size ∙ whole,
        record { pages = p.are; some = some_page pages head.count count_is h.some; within = omega (arith, used_is, t.used) },
      )
    where
      taken_length : (n : ℕ) (xs : List ℕ) → n ≤ length xs → length (take n xs) ≡ n
      taken_length n xs le = omega (arith, length-take n xs, le)

      some_page : (ps : List (List KeyEntry)) (count : ℕ) → count ≡ sum_by length ps → 0 < count → 1 ≤ length ps
      some_page [] count same some = let none : sum_by (length {A = KeyEntry}) [] ≡ 0 = refl in absurd (omega (arith, same, some, none))
      some_page (p ∷ ps) count same some = omega arith

pub block_takes : (last : Option (List ℕ)) (bytes : List ℕ) (pages : List (List KeyEntry)) → IsBytes bytes → key_block_of last bytes ≡ Ok pages
    → (take (length (key_block_text pages)) bytes ≡ key_block_text pages) × AreKeyPages last pages
unfolding key_block_of
block_takes last bytes pages fits e =
    let h = bind_ok (key_header_of bytes) (λ head. pages_of header_size last head.pages (body_of head.used bytes) >>= λ pages. (placed head.used (counts_of 0 head.pages (body_of head.used bytes) (drop (page_size * head.pages) (body_of head.used bytes))) >>= λ counted. Ok pages)) pages e in
    let p = bind_ok (pages_of header_size last h.0.pages (body_of h.0.used bytes)) (λ pages. placed h.0.used (counts_of 0 h.0.pages (body_of h.0.used bytes) (drop (page_size * h.0.pages) (body_of h.0.used bytes))) >>= λ counted. Ok pages) pages h.2 in
    let c = bind_ok (placed h.0.used (counts_of 0 h.0.pages (body_of h.0.used bytes) (drop (page_size * h.0.pages) (body_of h.0.used bytes)))) (λ counted. Ok p.0) pages p.2 in
    let counted = placed_ok h.0.used (counts_of 0 h.0.pages (body_of h.0.used bytes) (drop (page_size * h.0.pages) (body_of h.0.used bytes))) c.0 c.1 in
    subst (λ (v : List (List KeyEntry)). (take (length (key_block_text v)) bytes ≡ key_block_text v) × AreKeyPages last v) (ok_is p.0 pages c.2)
    (told last bytes fits h.0 p.0 h.1 p.1 counted)
