-- What opening a block of keys came to.
use Rattle.std.proofs.Common.{◌≡◌, true, ℕ, zero, suc, ◌-◌, ◌+◌, ◌*◌, ◌≤◌, ◌<◌, List, [], ◌∷◌, length, take, drop, Option, Some, None, Result, Ok, Err, refl, sym, ap, subst, ◌∙◌, arith}
use Rattle.std.specs.Prelude.{◌==◌, ◌&&◌, nat_lt}
use Rattle.std.specs.List.{sum_by}
use Rattle.std.proofs.lemmas.Bool.{eqb-true, ltb-true, and_parts}
use Rattle.std.proofs.lemmas.List.{drop-take, take-take}
use Rattle.std.proofs.lemmas.List.Sums.{sum_by-cons}
use Rattle.byteorder.specs.Endian.{big_number}
use Rattle.hse_fields.specs.declared.block.BlockHeader.{BlockHeader}
use Rattle.hse_fields.specs.Fields.{number_of}
use Rattle.hse_fields.specs.LogReading.{◌>>=◌, ensure}
use Rattle.hse_fields.specs.BlockText.{KeyEntry, header_size, page_size, page_cost, key_kind}
use Rattle.hse_fields.specs.BlockReading.{header_of, key_of, keys_of, zeros_of, page_of, pages_of, placed, last_key, count_in, count_all, counts_of, body_of, key_header_of, key_block_of}
use Rattle.hse_fields.specs.laws.Fields.{bind_ok, ensure_ok, ok_is, guard_ok}
use Rattle.hse_fields.specs.laws.BlockHeaders.{placed_ok}
use Rattle.kblock.specs.Opened.{body_with, numbers_with, read_of, pages_in, IsOpened}
use Rattle.kblock.specs.Form.{ArePages}
use Rattle.kblock.specs.Reading.{passes}
use Rattle.kblock.proofs.KeyLemmas.{keys_alone}

-- ---- what reading counts

keys_counted : (last : Option (List ℕ)) (n : ℕ) (bytes : List ℕ) (x : List KeyEntry × List ℕ) → keys_of last n bytes ≡ Ok x → length x.0 ≡ n
unfolding keys_of
keys_counted last zero bytes x e = subst (λ (y : List KeyEntry × List ℕ). length y.0 ≡ 0) (ok_is ([], bytes) x e) refl
keys_counted last (suc n) bytes x e =
    let a = bind_ok (key_of last bytes) (λ first. keys_of (Some first.0.key) n first.1 >>= λ others. Ok (first.0 ∷ others.0, others.1)) x e in
    let b = bind_ok (keys_of (Some a.0.0.key) n a.0.1) (λ others. Ok (a.0.0 ∷ others.0, others.1)) x a.2 in
    subst (λ (y : List KeyEntry × List ℕ). length y.0 ≡ suc n) (ok_is (a.0.0 ∷ b.0.0, b.0.1) x b.2) (ap suc (keys_counted (Some a.0.0.key) n a.0.1 b.0 b.1))

number_is_front : (bytes : List ℕ) (x : ℕ × List ℕ) → number_of 2 bytes ≡ Ok x → (x.0 ≡ count_in bytes) × (x.1 ≡ drop 2 bytes)
number_is_front bytes x e =
    let g = guard_ok (nat_lt (length bytes) 2) (length bytes) (big_number 2 (take 2 bytes), drop 2 bytes) x e in
    (ap (λ (p : ℕ × List ℕ). p.0) (sym g.1), ap (λ (p : ℕ × List ℕ). p.1) (sym g.1))

-- what a page that is read has
pub record HasKeys (last : Option (List ℕ)) (page : List ℕ) (keys : List KeyEntry) : Type 0 where
  pub rest : List ℕ
  pub read : keys_of last (count_in page) (drop 2 page) ≡ Ok (keys, rest)
  pub some : 0 < count_in page
  pub counted : length keys ≡ count_in page

pub page_has : (last : Option (List ℕ)) (page : List ℕ) (keys : List KeyEntry) → page_of last page ≡ Ok keys → HasKeys last page keys
unfolding page_of
page_has last page keys e =
    let a = bind_ok (number_of 2 page) (λ count. ensure (nat_lt 0 count.0) (length page) >>= λ some. (keys_of last count.0 count.1 >>= λ keys. (zeros_of keys.1 >>= λ clean. Ok keys.0))) keys e in
    let b = bind_ok (ensure (nat_lt 0 a.0.0) (length page)) (λ some. keys_of last a.0.0 a.0.1 >>= λ keys. (zeros_of keys.1 >>= λ clean. Ok keys.0)) keys a.2 in
    let d = bind_ok (keys_of last a.0.0 a.0.1) (λ keys. zeros_of keys.1 >>= λ clean. Ok keys.0) keys b.2 in
    let f = bind_ok (zeros_of d.0.1) (λ clean. Ok d.0.0) keys d.2 in
    let same = ok_is d.0.0 keys f.2 in
    let front = number_is_front page a.0 a.1 in
    let read : keys_of last (count_in page) (drop 2 page) ≡ Ok (keys, d.0.1) =
    subst (λ (p : ℕ × List ℕ). keys_of last p.0 p.1 ≡ Ok (keys, d.0.1)) (ap (λ (n : ℕ). (n, a.0.1)) front.0 ∙ ap (λ (l : List ℕ). (count_in page, l)) front.1)
    (d.1 ∙ ap (λ (l : List KeyEntry). Ok (l, d.0.1)) same) in
    let low : 0 < a.0.0 = ltb-true _ _ (ensure_ok _ _ _ b.1) in
    record {
      rest = d.0.1;
      read = read;
      some = omega (arith, low, front.0);
      counted = keys_counted last (count_in page) (drop 2 page) (keys, d.0.1) read;
    }

-- ---- pages one by one

-- the first page, and the others
pub record HasPage (start : ℕ) (last : Option (List ℕ)) (n : ℕ) (bytes : List ℕ) (pages : List (List KeyEntry)) : Type 0 where
  pub first : List KeyEntry
  pub others : List (List KeyEntry)
  pub both : pages ≡ first ∷ others
  pub page : page_of last (take page_size bytes) ≡ Ok first
  pub more : pages_of (start + page_size) (last_key last first) n (drop page_size bytes) ≡ Ok others

pub first_page : (start : ℕ) (last : Option (List ℕ)) (n : ℕ) (bytes : List ℕ) (pages : List (List KeyEntry)) → pages_of start last (suc n) bytes ≡ Ok pages
    → HasPage start last n bytes pages
unfolding pages_of
first_page start last n bytes pages e =
    let a = bind_ok (placed (start + page_size) (page_of last (take page_size bytes))) (λ page. pages_of (start + page_size) (last_key last page) n (drop page_size bytes) >>= λ others. Ok (page ∷ others)) pages e in
    let b = bind_ok (pages_of (start + page_size) (last_key last a.0) n (drop page_size bytes)) (λ others. Ok (a.0 ∷ others)) pages a.2 in
    record {
      first = a.0;
      others = b.0;
      both = sym (ok_is (a.0 ∷ b.0) pages b.2);
      page = placed_ok (start + page_size) (page_of last (take page_size bytes)) a.0 a.1;
      more = b.1;
    }

pub no_page : (start : ℕ) (last : Option (List ℕ)) (bytes : List ℕ) (pages : List (List KeyEntry)) → pages_of start last 0 bytes ≡ Ok pages → pages ≡ []
unfolding pages_of
no_page start last bytes pages e = sym (ok_is [] pages e)

pub pages_counted : (start : ℕ) (last : Option (List ℕ)) (n : ℕ) (bytes : List ℕ) (pages : List (List KeyEntry)) → pages_of start last n bytes ≡ Ok pages
    → count_all n bytes ≡ sum_by length pages
pages_counted start last zero bytes pages e = rw (no_page start last bytes pages e) refl
pages_counted start last (suc n) bytes pages e =
    let has = first_page start last n bytes pages e in
    let more = pages_counted (start + page_size) (last_key last has.first) n (drop page_size bytes) has.others has.more in
    let here : length has.first ≡ count_in (take page_size bytes) = (page_has last (take page_size bytes) has.first has.page).counted in
    let same : count_in bytes ≡ count_in (take page_size bytes) = sym (ap (big_number 2) (take-take 2 page_size bytes (omega arith))) in
    rw has.both (omega (arith, more, here, same, sum_by-cons length has.first has.others))

-- pages that stand before the end
count_all_before : (n more : ℕ) (bytes : List ℕ) → count_all n (take (page_size * n + more) bytes) ≡ count_all n bytes
count_all_before zero more bytes = refl
count_all_before (suc n) more bytes =
    let long : page_size * suc n + more ≡ page_size + (page_size * n + more) = omega arith in
    let here : count_in (take (page_size * suc n + more) bytes) ≡ count_in bytes =
    ap (big_number 2) (take-take 2 (page_size * suc n + more) bytes (omega arith)) in
    let behind : drop page_size (take (page_size * suc n + more) bytes) ≡ take (page_size * n + more) (drop page_size bytes) =
    ap (λ (m : ℕ). drop page_size (take m bytes)) long ∙ drop-take page_size (page_size * n + more) bytes in
    ap (λ (m : ℕ). m + count_all n (drop page_size (take (page_size * suc n + more) bytes))) here
    ∙ ap (λ (l : List ℕ). count_in bytes + count_all n l) behind
    ∙ ap (λ (m : ℕ). count_in bytes + m) (count_all_before n more (drop page_size bytes))

pub body_counted : (pages : ℕ) (bytes : List ℕ) → count_all pages (body_with pages bytes) ≡ count_all pages (drop header_size bytes)
body_counted pages bytes =
    let long : header_size + page_cost * pages ≡ header_size + (page_size * pages + 4 * pages) = omega arith in
    let body : body_with pages bytes ≡ take (page_size * pages + 4 * pages) (drop header_size bytes) =
    ap (λ (m : ℕ). drop header_size (take m bytes)) long ∙ drop-take header_size (page_size * pages + 4 * pages) bytes in
    ap (count_all pages) body ∙ count_all_before pages (4 * pages) (drop header_size bytes)

-- ---- pages that are read behind a key are read alone

page_made : (last : Option (List ℕ)) (page : List ℕ) (count : ℕ × List ℕ) (keys : List KeyEntry × List ℕ) → number_of 2 page ≡ Ok count
    → nat_lt 0 count.0 ≡ true → keys_of last count.0 count.1 ≡ Ok keys → zeros_of keys.1 ≡ Ok tt → page_of last page ≡ Ok keys.0
unfolding page_of
page_made last page count keys a b c d = rw (a, b, c, d) refl

page_alone : (last : Option (List ℕ)) (page : List ℕ) (keys : List KeyEntry) → page_of last page ≡ Ok keys → page_of None page ≡ Ok keys
unfolding page_of
page_alone last page keys e =
    let a = bind_ok (number_of 2 page) (λ count. ensure (nat_lt 0 count.0) (length page) >>= λ some. (keys_of last count.0 count.1 >>= λ keys. (zeros_of keys.1 >>= λ clean. Ok keys.0))) keys e in
    let b = bind_ok (ensure (nat_lt 0 a.0.0) (length page)) (λ some. keys_of last a.0.0 a.0.1 >>= λ keys. (zeros_of keys.1 >>= λ clean. Ok keys.0)) keys a.2 in
    let d = bind_ok (keys_of last a.0.0 a.0.1) (λ keys. zeros_of keys.1 >>= λ clean. Ok keys.0) keys b.2 in
    let f = bind_ok (zeros_of d.0.1) (λ clean. Ok d.0.0) keys d.2 in
    page_made None page a.0 d.0 a.1 (ensure_ok _ _ _ b.1) (keys_alone last a.0.0 a.0.1 d.0 d.1) f.1 ∙ f.2

pages_made : (start : ℕ) (last : Option (List ℕ)) (n : ℕ) (bytes : List ℕ) (first : List KeyEntry) (others : List (List KeyEntry)) → page_of last (take page_size bytes) ≡ Ok first
    → pages_of (start + page_size) (last_key last first) n (drop page_size bytes) ≡ Ok others → pages_of start last (suc n) bytes ≡ Ok (first ∷ others)
unfolding pages_of
pages_made start last n bytes first others a b = rw (a, b) refl

-- a page has a last key of its own
own_last : (last other : Option (List ℕ)) (keys : List KeyEntry) → 0 < length keys → last_key last keys ≡ last_key other keys
own_last last other [] some = absurd (omega (arith, some))
own_last last other (e ∷ es) some = refl

pub pages_alone : (start : ℕ) (last : Option (List ℕ)) (n : ℕ) (bytes : List ℕ) (pages : List (List KeyEntry)) → pages_of start last n bytes ≡ Ok pages
    → pages_of start None n bytes ≡ Ok pages
unfolding pages_of
pages_alone start last zero bytes pages e = e
pages_alone start last (suc n) bytes pages e =
    let has = first_page start last n bytes pages e in
    let page = page_has last (take page_size bytes) has.first has.page in
    let same : last_key last has.first ≡ last_key None has.first = own_last last None has.first (omega (arith, page.some, page.counted)) in
    pages_made start None n bytes has.first has.others (page_alone last (take page_size bytes) has.first has.page)
    (subst (λ (o : Option (List ℕ)). pages_of (start + page_size) o n (drop page_size bytes) ≡ Ok has.others) same has.more)
    ∙ ap (λ (p : List (List KeyEntry)). Ok p) (sym has.both)

-- ---- the header

pub record IsHeader (bytes : List ℕ) (head : BlockHeader) : Type 0 where
  pub read : header_of key_kind bytes ≡ Ok head
  pub some : 0 < head.count
  pub used : head.used ≡ header_size + page_cost * head.pages
  pub count : head.count ≡ count_all head.pages (drop header_size bytes)

pub header_is : (bytes : List ℕ) (head : BlockHeader) → key_header_of bytes ≡ Ok head → IsHeader bytes head
unfolding key_header_of
header_is bytes head e =
    let a = bind_ok (header_of key_kind bytes) (λ head. ensure (head.used == header_size + page_cost * head.pages) 4 >>= λ agrees. (ensure (nat_lt 0 head.count && head.count == count_all head.pages (drop header_size bytes)) 8 >>= λ some. Ok head)) head e in
    let b = bind_ok (ensure (a.0.used == header_size + page_cost * a.0.pages) 4) (λ agrees. ensure (nat_lt 0 a.0.count && a.0.count == count_all a.0.pages (drop header_size bytes)) 8 >>= λ some. Ok a.0) head a.2 in
    let d = bind_ok (ensure (nat_lt 0 a.0.count && a.0.count == count_all a.0.pages (drop header_size bytes)) 8) (λ some. Ok a.0) head b.2 in
    let both = and_parts _ _ (ensure_ok _ _ _ d.1) in
    subst (IsHeader bytes) (ok_is a.0 head d.2)
    (record { read = a.1; some = ltb-true _ _ both.0; used = eqb-true _ _ (ensure_ok _ _ _ b.1); count = eqb-true _ _ both.1 })

-- ---- the whole block

passed_read : {A : Type 0} (r : Result (List A) ℕ) → passes r ≡ Ok tt → r ≡ Ok (read_of r)
passed_read (Ok xs) e = refl
passed_read (Err place) e = absurd cc

passed_refused : {A : Type 0} (r : Result A ℕ) (place : ℕ) → passes r ≡ Err place → r ≡ Err place
passed_refused (Ok x) place e = absurd cc
passed_refused (Err other) place e = let same : other ≡ place = cc in ap (λ (n : ℕ). Err n) same

pub header_refused : (last : Option (List ℕ)) (bytes : List ℕ) (place : ℕ) → key_header_of bytes ≡ Err place → key_block_of last bytes ≡ Err place
unfolding key_block_of
header_refused last bytes place e = rw e refl

module _ (last : Option (List ℕ)) (bytes : List ℕ) (head : BlockHeader) (is : key_header_of bytes ≡ Ok head) where
  used_body : body_of head.used bytes ≡ body_with head.pages bytes
  used_body = ap (λ (n : ℕ). body_of n bytes) (header_is bytes head is).used

  pub pages_refused : (place : ℕ) → passes (pages_of header_size last head.pages (body_of head.used bytes)) ≡ Err place → key_block_of last bytes ≡ Err place
  unfolding key_block_of
  pages_refused place e = rw (is, passed_refused (pages_of header_size last head.pages (body_of head.used bytes)) place e) refl

  module _ (read : passes (pages_of header_size last head.pages (body_with head.pages bytes)) ≡ Ok tt) where
    abbrev behind : List (List KeyEntry)
    behind = read_of (pages_of header_size last head.pages (body_with head.pages bytes))

    whole : pages_of header_size last head.pages (body_with head.pages bytes) ≡ Ok behind
    whole = passed_read (pages_of header_size last head.pages (body_with head.pages bytes)) read

    alone : pages_of header_size None head.pages (body_with head.pages bytes) ≡ Ok behind
    alone = pages_alone header_size last head.pages (body_with head.pages bytes) behind whole

    same : pages_in head.pages bytes ≡ behind
    same = ap read_of alone

    read_body : pages_of header_size last head.pages (body_of head.used bytes) ≡ Ok (pages_in head.pages bytes)
    read_body = ap (pages_of header_size last head.pages) used_body ∙ whole ∙ ap (λ (p : List (List KeyEntry)). Ok p) (sym same)

    pub numbers_refused : (left : ℕ) → counts_of 0 head.pages (body_with head.pages bytes) (numbers_with head.pages bytes) ≡ Err left
        → key_block_of last bytes ≡ Err (head.used - left)
    unfolding key_block_of
    numbers_refused left e =
        let counted : counts_of 0 head.pages (body_of head.used bytes) (drop (page_size * head.pages) (body_of head.used bytes)) ≡ Err left =
        ap (λ (l : List ℕ). counts_of 0 head.pages l (drop (page_size * head.pages) l)) used_body ∙ e in
        rw (is, read_body, counted) refl

    pub block_read : counts_of 0 head.pages (body_with head.pages bytes) (numbers_with head.pages bytes) ≡ Ok tt
        → key_block_of last bytes ≡ Ok (pages_in head.pages bytes)
    unfolding key_block_of
    block_read e =
        let counted : counts_of 0 head.pages (body_of head.used bytes) (drop (page_size * head.pages) (body_of head.used bytes)) ≡ Ok tt =
        ap (λ (l : List ℕ). counts_of 0 head.pages l (drop (page_size * head.pages) l)) used_body ∙ e in
        rw (is, read_body, counted) refl

    pub read_alone : pages_of header_size None head.pages (body_with head.pages bytes) ≡ Ok (pages_in head.pages bytes)
    read_alone = alone ∙ ap (λ (p : List (List KeyEntry)). Ok p) (sym same)

    pub block_opened : head.used ≤ length bytes → ArePages None (pages_in head.pages bytes) → counts_of 0 head.pages (body_with head.pages bytes) (numbers_with head.pages bytes) ≡ Ok tt
        → IsOpened head.pages head.count bytes
    block_opened within are e =
        let h = header_is bytes head is in
        record {
          within = omega (arith, h.used, within);
          read = read_alone;
          counted = h.count ∙ sym (body_counted head.pages bytes) ∙ pages_counted header_size None head.pages (body_with head.pages bytes) (pages_in head.pages bytes) read_alone;
          known = are;
          numbered = e;
        }
