-- How long the texts of pages are, and the texts of one page more.
use Rattle.std.proofs.Common.{◌≡◌, ℕ, suc, ◌+◌, ◌*◌, ◌-◌, ◌≤◌, List, [], ◌∷◌, ◌++◌, length, refl, sym, ap, ◌∙◌, append_assoc, arith, length-append, Option, Some, None}
use Rattle.std.specs.Prelude.{replicate}
use Rattle.std.specs.List.{flat_map, sum_by, AllByRecursion}
use Rattle.std.proofs.lemmas.List.{append-nil, length-replicate}
use Rattle.std.proofs.lemmas.List.Sums.{sum_by-append, sum_by-cons}
use Rattle.byteorder.specs.Endian.{big_bytes}
use Rattle.byteorder.specs.Numbers.{length-bytes_high_first}
use Rattle.hse_fields.specs.BlockText.{header_size, page_size, page_cost, key_kind, block_header, KeyEntry, key_text, place_text, keys_text, page_used, page_text, counts_text, key_block_text}
use Rattle.hse_fields.specs.declared.block.ValuePlace.{ValuePlace}
use Rattle.kblock.specs.Building.{FitsPage}

pub text_more : {X : Type 0} (f : X → List ℕ) (xs : List X) (x : X) → flat_map f (xs ++ x ∷ []) ≡ flat_map f xs ++ f x
text_more f [] x = append-nil (f x)
text_more f (y ∷ xs) x = ap (λ (l : List ℕ). f y ++ l) (text_more f xs x) ∙ sym (append_assoc (f y) (flat_map f xs) (f x))

pub all_more : {X : Type 0} (P : X → Type 0) (xs : List X) (x : X) → AllByRecursion P xs → P x → AllByRecursion P (xs ++ x ∷ [])
all_more P [] x all p = (p, tt)
all_more P (y ∷ xs) x all p = (all.0, all_more P xs x all.1 p)

-- each key has eleven bytes at least
pub keys_long : (page : List KeyEntry) → 11 * length page ≤ length (keys_text page)
keys_long [] = omega arith
keys_long (e ∷ es) =
    let one : length (key_text e) ≡ suc (suc (suc (suc (suc (suc (suc (suc (suc (suc (suc (length (e.key ++ place_text e.value)))))))))))) = refl in
    omega (arith, keys_long es, length-append (key_text e) (keys_text es), one)

pub page_long : (page : List KeyEntry) → FitsPage page → length (page_text page) ≡ page_size
page_long page fits =
    omega (arith, fits, length-append (page_used page) (replicate (page_size - length (page_used page)) 0), length-replicate {A = ℕ} (page_size - length (page_used page)) 0)

pub pages_long : (pages : List (List KeyEntry)) → AllByRecursion FitsPage pages → length (flat_map page_text pages) ≡ page_size * length pages
pages_long [] fit = refl
pages_long (p ∷ ps) fit =
    omega (arith, pages_long ps fit.1, page_long p fit.0, length-append (page_text p) (flat_map page_text ps))

pub counts_long : (n : ℕ) (pages : List (List KeyEntry)) → length (counts_text n pages) ≡ 4 * length pages
counts_long n [] = refl
counts_long n (p ∷ ps) =
    omega (arith, counts_long (n + length p) ps, length-bytes_high_first 4 n, length-append (big_bytes 4 n) (counts_text (n + length p) ps))

pub counts_more : (n : ℕ) (pages : List (List KeyEntry)) (page : List KeyEntry)
    → counts_text n (pages ++ page ∷ []) ≡ counts_text n pages ++ big_bytes 4 (n + sum_by length pages)
counts_more n [] page =
    let same : n ≡ n + 0 = omega arith in
    append-nil (big_bytes 4 n) ∙ ap (λ (m : ℕ). big_bytes 4 m) same
counts_more n (p ∷ ps) page =
    let same : n + length p + sum_by length ps ≡ n + sum_by length (p ∷ ps) = omega (arith, sum_by-cons length p ps) in
    ap (λ (l : List ℕ). big_bytes 4 n ++ l) (counts_more (n + length p) ps page)
    ∙ sym (append_assoc (big_bytes 4 n) (counts_text (n + length p) ps) (big_bytes 4 (n + length p + sum_by length ps)))
    ∙ ap (λ (m : ℕ). counts_text n (p ∷ ps) ++ big_bytes 4 m) same

-- as many keys stand in pages as fit into them
pub keys_few : (pages : List (List KeyEntry)) → AllByRecursion FitsPage pages → 11 * sum_by length pages ≤ page_size * length pages
keys_few [] fit = omega arith
keys_few (p ∷ ps) fit =
    let used : length (page_used p) ≡ suc (suc (length (keys_text p))) = refl in
    omega (arith, keys_few ps fit.1, fit.0, used, keys_long p, sum_by-cons length p ps)

place_short : (value : Option ValuePlace) → length (place_text value) ≤ 12
place_short None = omega arith
place_short (Some place) = omega arith

-- a key of a length within the limits fits into a page of its own
pub key_short : (e : KeyEntry) → length e.key ≤ 1344 → length (key_text e) ≤ 1367
key_short e short =
    let one : length (key_text e) ≡ suc (suc (suc (suc (suc (suc (suc (suc (suc (suc (suc (length (e.key ++ place_text e.value)))))))))))) = refl in
    omega (arith, one, short, length-append e.key (place_text e.value), place_short e.value)

-- a page that is put behind others
pub page_closed : (front old keys new : List ℕ) (count : ℕ) (pages : List (List KeyEntry)) (page : List KeyEntry)
    → old ≡ front ++ flat_map page_text pages → count ≡ length page → keys ≡ keys_text page
    → new ≡ old ++ ((big_bytes 2 count ++ keys) ++ replicate (4094 - length keys) 0)
    → new ≡ front ++ flat_map page_text (pages ++ page ∷ [])
page_closed front old keys new count pages page before counted same e =
    let used : length (page_used page) ≡ suc (suc (length (keys_text page))) = refl in
    let left : 4094 - length (keys_text page) ≡ page_size - length (page_used page) = omega (arith, used) in
    let text : (big_bytes 2 count ++ keys) ++ replicate (4094 - length keys) 0 ≡ page_text page =
    ap (λ (n : ℕ). (big_bytes 2 n ++ keys) ++ replicate (4094 - length keys) 0) counted
    ∙ ap (λ (l : List ℕ). (big_bytes 2 (length page) ++ l) ++ replicate (4094 - length l) 0) same
    ∙ ap (λ (n : ℕ). page_used page ++ replicate n 0) left in
    e
    ∙ ap (λ (l : List ℕ). old ++ l) text
    ∙ ap (λ (l : List ℕ). l ++ page_text page) before
    ∙ append_assoc front (flat_map page_text pages) (page_text page)
    ∙ ap (λ (l : List ℕ). front ++ l) (sym (text_more page_text pages page))

-- the number of keys that is put behind others
pub count_closed : (old new : List ℕ) (before : ℕ) (pages : List (List KeyEntry)) (page : List KeyEntry)
    → old ≡ counts_text 0 pages → before ≡ sum_by length pages → new ≡ old ++ big_bytes 4 before
    → new ≡ counts_text 0 (pages ++ page ∷ [])
count_closed old new before pages page held counted e =
    let same : before ≡ 0 + sum_by length pages = omega (arith, counted) in
    e
    ∙ ap (λ (l : List ℕ). l ++ big_bytes 4 before) held
    ∙ ap (λ (n : ℕ). counts_text 0 pages ++ big_bytes 4 n) same
    ∙ sym (counts_more 0 pages page)

pub sum_more : (pages : List (List KeyEntry)) (page : List KeyEntry) → sum_by length (pages ++ page ∷ []) ≡ sum_by length pages + length page
sum_more pages page = omega (arith, sum_by-append length pages (page ∷ []), sum_by-cons length page [])

pub all_long : (pages : List (List KeyEntry)) → AllByRecursion FitsPage pages
    → length (flat_map page_text pages ++ counts_text 0 pages) ≡ 4100 * length pages
all_long pages fit =
    omega (arith, length-append (flat_map page_text pages) (counts_text 0 pages), pages_long pages fit, counts_long 0 pages)

-- the whole block
pub block_finished : (new : List ℕ) (used count number : ℕ) (pages : List (List KeyEntry)) → AllByRecursion FitsPage pages
    → used ≡ header_size + length (flat_map page_text pages ++ counts_text 0 pages) → count ≡ sum_by length pages → number ≡ length pages
    → new ≡ block_header key_kind used count number ++ (flat_map page_text pages ++ counts_text 0 pages) → new ≡ key_block_text pages
block_finished new used count number pages fit used-is count-is number-is e =
    let long : used ≡ header_size + page_cost * length pages = omega (arith, used-is, all_long pages fit) in
    e
    ∙ ap (λ (n : ℕ). block_header key_kind n count number ++ (flat_map page_text pages ++ counts_text 0 pages)) long
    ∙ ap (λ (n : ℕ). block_header key_kind (header_size + page_cost * length pages) n number ++ (flat_map page_text pages ++ counts_text 0 pages)) count-is
    ∙ ap (λ (n : ℕ). block_header key_kind (header_size + page_cost * length pages) (sum_by length pages) n ++ (flat_map page_text pages ++ counts_text 0 pages)) number-is

-- the pages and the numbers behind the room of a header
pub behind_header : (front pages_now counts_now all : List ℕ) (pages : List (List KeyEntry)) → pages_now ≡ front ++ flat_map page_text pages
    → counts_now ≡ counts_text 0 pages → all ≡ pages_now ++ counts_now → all ≡ front ++ (flat_map page_text pages ++ counts_text 0 pages)
behind_header front pages_now counts_now all pages p q e =
    e
    ∙ ap (λ (l : List ℕ). l ++ counts_now) p
    ∙ append_assoc front (flat_map page_text pages) counts_now
    ∙ ap (λ (l : List ℕ). front ++ (flat_map page_text pages ++ l)) q
