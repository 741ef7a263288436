-- What is spelled as a block of keys is read again.
use Rattle.std.proofs.Common.{◌≡◌, ◌∙◌, true, ℕ, zero, suc, ◌+◌, ◌-◌, ◌*◌, ◌^◌, ◌<◌, ◌≤◌, List, [], ◌∷◌, ◌++◌, length, take, drop, Option, Some, None, Ok, refl, sym, ap, arith, append_assoc, length-append}
use Rattle.std.specs.Prelude.{◌==◌, ◌||◌, nat_lt, replicate}
use Rattle.std.specs.List.{flat_map, sum_by, AllByRecursion}
use Rattle.std.proofs.lemmas.Bool.{eq-eqb, lt-ltb}
use Rattle.std.proofs.lemmas.List.{append-nil, take_at, drop_at}
use Rattle.std.proofs.lemmas.List.Sums.{sum_by-cons}
use Rattle.byteorder.specs.Endian.{big_bytes, big_number}
use Rattle.byteorder.specs.Numbers.{length-bytes_high_first, big_number-reads_back}
use Rattle.hse_fields.specs.declared.block.ValuePlace.{ValuePlace}
use Rattle.hse_fields.specs.LogLimits.{longest_key}
use Rattle.hse_fields.specs.LogText.{sized}
use Rattle.hse_fields.specs.BlockText.{header_size, page_size, page_cost, key_kind, block_header, KeyEntry, key_code, place_text, key_text, keys_text, page_used, page_text, counts_text, key_block_text}
use Rattle.hse_fields.specs.BlockReading.{header, place_of, place_after, key_of, keys_of, zeros_of, page_of, pages_of, last_key, count_in, count_all, counts_of, body_of, header_of, key_header_of, key_block_of}
use Rattle.hse_fields.specs.laws.Fields.{number_again}
use Rattle.hse_fields.specs.laws.BlockHeaders.{header_again}
use Rattle.hse_fields.specs.laws.PrefixTexts.{name_again}
use Rattle.kblock.specs.Building.{FitsPage}
use Rattle.kblock.specs.Form.{PlaceFits, IsKey, AreKeys, IsPageOf, ArePages, AreKeyPages}
use Rattle.kblock.proofs.BuildingLemmas.{all_long, keys_few, page_long, pages_long}

-- ---- a key

place_again : (place : ValuePlace) (rest : List ℕ) → place.block < 2 ^ 32 → place.offset < 2 ^ 32 → place.len < 2 ^ 32
    → place_of (place_text (Some place) ++ rest) ≡ Ok (place, rest)
unfolding place_of
place_again place rest a b c =
    rw (
      number_again 4 place.block (big_bytes 4 place.offset ++ (big_bytes 4 place.len ++ rest)) (omega (arith, a)),
      number_again 4 place.offset (big_bytes 4 place.len ++ rest) (omega (arith, b)),
      number_again 4 place.len rest (omega (arith, c)),
    ) refl

value_again : (value : Option ValuePlace) (rest : List ℕ) → PlaceFits value → place_after (key_code value) (place_text value ++ rest) ≡ Ok (value, rest)
unfolding place_after
value_again None rest fits = refl
value_again (Some place) rest fits = rw (place_again place rest fits.0 fits.1 fits.2) refl

code_known : (value : Option ValuePlace) → ((key_code value == 1) || (key_code value == 2)) ≡ true
code_known None = refl
code_known (Some place) = refl

code_small : (value : Option ValuePlace) → key_code value < 256 ^ 1
code_small None = omega arith
code_small (Some place) = omega arith

key_again : (last : Option (List ℕ)) (e : KeyEntry) (rest : List ℕ) → IsKey last e → key_of last (key_text e ++ rest) ≡ Ok (e, rest)
unfolding key_of
key_again last e rest is =
    let behind = place_text e.value ++ rest in
    let all = big_bytes 1 (key_code e.value) ++ (big_bytes 8 e.number ++ (sized 2 e.key ++ behind)) in
    let regrouped : key_text e ++ rest ≡ all =
    append_assoc (big_bytes 1 (key_code e.value)) (big_bytes 8 e.number ++ (sized 2 e.key ++ place_text e.value)) rest
    ∙ ap (λ (l : List ℕ). big_bytes 1 (key_code e.value) ++ (big_bytes 8 e.number ++ l)) (append_assoc (sized 2 e.key) (place_text e.value) rest) in
    ap (key_of last) regrouped
    ∙ rw (
      number_again 1 (key_code e.value) (big_bytes 8 e.number ++ (sized 2 e.key ++ behind)) (code_small e.value),
      code_known e.value,
      number_again 8 e.number (sized 2 e.key ++ behind) (omega (arith, is.small)),
      name_again 2 longest_key last (length all) e.key behind (omega (arith, is.short)) is.above is.some is.short,
      value_again e.value rest is.fits,
    ) refl

keys_again : (last : Option (List ℕ)) (es : List KeyEntry) (rest : List ℕ) → AreKeys last es → keys_of last (length es) (keys_text es ++ rest) ≡ Ok (es, rest)
unfolding keys_of
keys_again last [] rest are = refl
keys_again last (e ∷ es) rest are =
    let regrouped : keys_text (e ∷ es) ++ rest ≡ key_text e ++ (keys_text es ++ rest) = append_assoc (key_text e) (keys_text es) rest in
    ap (keys_of last (suc (length es))) regrouped
    ∙ rw (key_again last e (keys_text es ++ rest) are.0, keys_again (Some e.key) es rest are.1) refl

-- ---- pages

zeros_again : (n : ℕ) → zeros_of (replicate n 0) ≡ Ok tt
zeros_again zero = refl
zeros_again (suc n) = zeros_again n

few : (page : List KeyEntry) → FitsPage page → length page < 256 ^ 2
few page fits = omega (arith, keys_few (page ∷ []) (fits, tt), sum_by-cons length page [])

page_again : (last : Option (List ℕ)) (page : List KeyEntry) → IsPageOf last page → page_of last (page_text page) ≡ Ok page
unfolding page_of
page_again last page is =
    let zeros = replicate (page_size - length (page_used page)) 0 in
    let regrouped : page_text page ≡ big_bytes 2 (length page) ++ (keys_text page ++ zeros) = append_assoc (big_bytes 2 (length page)) (keys_text page) zeros in
    let some : nat_lt 0 (length page) ≡ true = lt-ltb _ _ is.some in
    ap (page_of last) regrouped
    ∙ rw (
      number_again 2 (length page) (keys_text page ++ zeros) (few page is.fits),
      some,
      keys_again last page zeros is.keys,
      zeros_again (page_size - length (page_used page)),
    ) refl

pages_fit : (last : Option (List ℕ)) (pages : List (List KeyEntry)) → ArePages last pages → AllByRecursion FitsPage pages
pages_fit last [] are = tt
pages_fit last (p ∷ ps) are = (are.0.fits, pages_fit (last_key last p) ps are.1)

-- the first page of a text, and what stands behind it
front_page : (p : List KeyEntry) (ps : List (List KeyEntry)) (rest : List ℕ) → FitsPage p → take page_size (flat_map page_text (p ∷ ps) ++ rest) ≡ page_text p
front_page p ps rest fits =
    ap (take page_size) (append_assoc (page_text p) (flat_map page_text ps) rest)
    ∙ take_at (page_text p) (flat_map page_text ps ++ rest) page_size (page_long p fits)

behind_page : (p : List KeyEntry) (ps : List (List KeyEntry)) (rest : List ℕ) → FitsPage p → drop page_size (flat_map page_text (p ∷ ps) ++ rest) ≡ flat_map page_text ps ++ rest
behind_page p ps rest fits =
    ap (drop page_size) (append_assoc (page_text p) (flat_map page_text ps) rest)
    ∙ drop_at (page_text p) (flat_map page_text ps ++ rest) page_size (page_long p fits)

pages_again : (start : ℕ) (last : Option (List ℕ)) (pages : List (List KeyEntry)) (rest : List ℕ) → ArePages last pages
    → pages_of start last (length pages) (flat_map page_text pages ++ rest) ≡ Ok pages
unfolding pages_of
pages_again start last [] rest are = refl
pages_again start last (p ∷ ps) rest are =
    rw (
      front_page p ps rest are.0.fits,
      behind_page p ps rest are.0.fits,
      page_again last p are.0,
      pages_again (start + page_size) (last_key last p) ps rest are.1,
    ) refl

-- ---- counts

count_again : (p : List KeyEntry) (ps : List (List KeyEntry)) (rest : List ℕ) → FitsPage p → count_in (flat_map page_text (p ∷ ps) ++ rest) ≡ length p
count_again p ps rest fits =
    let zeros = replicate (page_size - length (page_used p)) 0 in
    let behind = keys_text p ++ (zeros ++ (flat_map page_text ps ++ rest)) in
    let regrouped : flat_map page_text (p ∷ ps) ++ rest ≡ big_bytes 2 (length p) ++ behind =
    append_assoc (page_text p) (flat_map page_text ps) rest
    ∙ append_assoc (page_used p) zeros (flat_map page_text ps ++ rest)
    ∙ append_assoc (big_bytes 2 (length p)) (keys_text p) (zeros ++ (flat_map page_text ps ++ rest)) in
    let reads : big_number 2 (big_bytes 2 (length p)) ≡ length p =
    sym (ap (big_number 2) (append-nil (big_bytes 2 (length p)))) ∙ big_number-reads_back 2 (length p) [] (few p fits) in
    ap count_in regrouped
    ∙ ap (big_number 2) (take_at (big_bytes 2 (length p)) behind 2 (length-bytes_high_first 2 (length p)))
    ∙ reads

all_counted : (pages : List (List KeyEntry)) (rest : List ℕ) → AllByRecursion FitsPage pages → count_all (length pages) (flat_map page_text pages ++ rest) ≡ sum_by length pages
all_counted [] rest fit = refl
all_counted (p ∷ ps) rest fit =
    let here = count_again p ps rest fit.0 in
    let more = ap (count_all (length ps)) (behind_page p ps rest fit.0) ∙ all_counted ps rest fit.1 in
    omega (arith, here, more, sum_by-cons length p ps)

numbers_again : (before : ℕ) (pages : List (List KeyEntry)) (rest more : List ℕ) → AllByRecursion FitsPage pages → before + sum_by length pages < 2 ^ 32
    → counts_of before (length pages) (flat_map page_text pages ++ rest) (counts_text before pages ++ more) ≡ Ok tt
unfolding counts_of
numbers_again before [] rest more fit small = refl
numbers_again before (p ∷ ps) rest more fit small =
    let regrouped : counts_text before (p ∷ ps) ++ more ≡ big_bytes 4 before ++ (counts_text (before + length p) ps ++ more) =
    append_assoc (big_bytes 4 before) (counts_text (before + length p) ps) more in
    let same : (before == before) ≡ true = eq-eqb before before refl in
    ap (counts_of before (suc (length ps)) (flat_map page_text (p ∷ ps) ++ rest)) regrouped
    ∙ rw (
      number_again 4 before (counts_text (before + length p) ps ++ more) (omega (arith, small)),
      same,
      count_again p ps rest fit.0,
      behind_page p ps rest fit.0,
    ) (numbers_again (before + length p) ps rest more fit.1 (omega (arith, small, sum_by-cons length p ps)))

-- ---- a block

some_keys : (last : Option (List ℕ)) (pages : List (List KeyEntry)) → ArePages last pages → 1 ≤ length pages → 0 < sum_by length pages
some_keys last [] are some = absurd (omega (arith, some))
some_keys last (p ∷ ps) are some = omega (arith, are.0.some, sum_by-cons length p ps)

module _ (last : Option (List ℕ)) (pages : List (List KeyEntry)) (rest : List ℕ) (are : AreKeyPages last pages) where
  abbrev text : List ℕ
  text = flat_map page_text pages ++ counts_text 0 pages

  abbrev head_used : ℕ
  head_used = header_size + page_cost * length pages

  fit : AllByRecursion FitsPage pages
  fit = pages_fit last pages are.pages

  small : sum_by length pages < 2 ^ 32
  small = omega (arith, keys_few pages fit, are.within)

  abbrev front : List ℕ
  front = block_header key_kind head_used (sum_by length pages) (length pages)

  regrouped : key_block_text pages ++ rest ≡ front ++ (text ++ rest)
  regrouped = append_assoc front text rest

  head_again : header_of key_kind (key_block_text pages ++ rest) ≡ Ok (header head_used (sum_by length pages) (length pages))
  head_again =
      ap (header_of key_kind) regrouped
      ∙ header_again key_kind (header head_used (sum_by length pages) (length pages)) (text ++ rest) (omega arith) (omega arith)
      (omega (arith, length-append text rest, all_long pages fit)) are.within small (omega (arith, are.within))

  counted : count_all (length pages) (drop header_size (key_block_text pages ++ rest)) ≡ sum_by length pages
  counted =
      ap (λ (l : List ℕ). count_all (length pages) (drop header_size l)) regrouped
      ∙ ap (count_all (length pages)) (drop_at front (text ++ rest) header_size refl ∙ append_assoc (flat_map page_text pages) (counts_text 0 pages) rest)
      ∙ all_counted pages (counts_text 0 pages ++ rest) fit

  body_again : body_of head_used (key_block_text pages ++ rest) ≡ text
  body_again =
      let long : length (key_block_text pages) ≡ head_used = omega (arith, length-append front text, all_long pages fit) in
      ap (drop header_size) (take_at (key_block_text pages) rest head_used long) ∙ drop_at front text header_size refl

  header_read : key_header_of (key_block_text pages ++ rest) ≡ Ok (header head_used (sum_by length pages) (length pages))
  unfolding key_header_of
  header_read =
      let agrees : (head_used == head_used) ≡ true = eq-eqb head_used head_used refl in
      let some : nat_lt 0 (sum_by length pages) ≡ true = lt-ltb _ _ (some_keys last pages are.pages are.some) in
      let same : (sum_by length pages == sum_by length pages) ≡ true = eq-eqb (sum_by length pages) (sum_by length pages) refl in
      rw (head_again, agrees, some, counted, same) refl

  numbers_read : counts_of 0 (length pages) text (drop (page_size * length pages) text) ≡ Ok tt
  numbers_read =
      let behind : drop (page_size * length pages) text ≡ counts_text 0 pages = drop_at (flat_map page_text pages) (counts_text 0 pages) (page_size * length pages) (pages_long pages fit) in
      ap (counts_of 0 (length pages) text) (behind ∙ sym (append-nil (counts_text 0 pages)))
      ∙ numbers_again 0 pages (counts_text 0 pages) [] fit (omega (arith, small))

  pub block_again : key_block_of last (key_block_text pages ++ rest) ≡ Ok pages
  unfolding key_block_of
  block_again = rw (header_read, body_again, pages_again header_size last pages (counts_text 0 pages) are.pages, numbers_read) refl
