-- A walk from entry to entry and from page to page.
use Rattle.std.proofs.Common.{◌≡◌, ◌∙◌, ℕ, suc, ◌-◌, ◌+◌, ◌*◌, ◌<◌, ◌≤◌, List, [], ◌∷◌, ◌++◌, length, take, drop, None, Result, Ok, refl, sym, ap, arith, length-append}
use Rattle.std.proofs.lemmas.List.{length-drop, length-take}
use Rattle.hse_fields.specs.BlockText.{KeyEntry, header_size, key_text, place_text, page_size}
use Rattle.hse_fields.specs.BlockReading.{key_of, keys_of, pages_of, last_key, count_in}
use Rattle.hse_fields.specs.laws.Fields.{IsBytes}
use Rattle.kblock.specs.Opened.{read_of}
use Rattle.kblock.specs.Searching.{IsRead}
use Rattle.kblock.specs.Walking.{placed_keys, placed_pages, keys_read}
use Rattle.kblock.proofs.KeyLemmas.{first_key, is_read, keys_behind, read_ok}
use Rattle.kblock.proofs.OpeningLemmas.{first_page, page_has, pages_alone}
use Rattle.kblock.proofs.TakesLemmas.{key_takes}

-- what is behind a place, in parts
abbrev pub behind : ℕ → ℕ → List ℕ → ℕ → List ℕ → List (ℕ × KeyEntry)
behind at left keys count pages =
    placed_keys at (keys_read (keys_of None left keys))
    ++ placed_pages (at + length keys) (read_of (pages_of (at + length keys) None count pages))

none_left : (keys : List ℕ) → keys_of None 0 keys ≡ Ok ([], keys)
unfolding keys_of
none_left keys = refl

pub none_is_read : (keys : List ℕ) → IsRead (keys_of None 0 keys)
none_is_read keys = is_read (keys_of None 0 keys) ([], keys) (none_left keys)

no_pages : (start : ℕ) (pages : List ℕ) → pages_of start None 0 pages ≡ Ok []
unfolding pages_of
no_pages start pages = refl

-- nothing is left where neither keys nor pages are
pub ended : (at : ℕ) (keys pages : List ℕ) → behind at 0 keys 0 pages ≡ []
ended at keys pages =
    ap (λ (r : Result (List KeyEntry × List ℕ) ℕ). placed_keys at (keys_read r) ++ placed_pages (at + length keys) (read_of (pages_of (at + length keys) None 0 pages))) (none_left keys)
    ∙ ap (λ (r : Result (List (List KeyEntry)) ℕ). placed_pages (at + length keys) (read_of r)) (no_pages (at + length keys) pages)

-- the beginning of a walk
pub begun : (count : ℕ) (body : List ℕ) → behind header_size 0 [] count body ≡ placed_pages header_size (read_of (pages_of header_size None count body))
begun count body =
    ap (λ (r : Result (List KeyEntry × List ℕ) ℕ). placed_keys header_size (keys_read r) ++ placed_pages header_size (read_of (pages_of header_size None count body))) (none_left [])

-- ---- to the next page

pub record Turns (at : ℕ) (keys : List ℕ) (count : ℕ) (pages : List ℕ) : Type 0 where
  pub some : 0 < count_in (take page_size pages)
  pub same : behind (at + length keys + 2) (count_in (take page_size pages)) (drop 2 (take page_size pages)) (count - 1) (drop page_size pages) ≡ behind at 0 keys count pages
  pub keys_read : IsRead (keys_of None (count_in (take page_size pages)) (drop 2 (take page_size pages)))
  pub end_is : at + length keys + 2 + length (drop 2 (take page_size pages)) ≡ at + length keys + page_size
  pub pages_read : IsRead (pages_of (at + length keys + 2 + length (drop 2 (take page_size pages))) None (count - 1) (drop page_size pages))

pub turns : (at : ℕ) (keys : List ℕ) (count : ℕ) (pages : List ℕ) → 0 < count → page_size * count ≤ length pages
    → IsRead (pages_of (at + length keys) None count pages) → Turns at keys count pages
turns at keys count pages some room read =
    let start = at + length keys in
    let n = count - 1 in
    let k : count ≡ suc n = omega (arith, some) in
    let r = read_ok (pages_of start None count pages) read in
    let has = first_page start None n pages r.0 (ap (λ (m : ℕ). pages_of start None m pages) (sym k) ∙ r.1) in
    let page = take page_size pages in
    let of = page_has None page has.first has.page in
    let more = pages_alone (start + page_size) (last_key None has.first) n (drop page_size pages) has.others has.more in
    let size : length page ≡ page_size = omega (arith, length-take page_size pages, room, some) in
    let end_is : start + 2 + length (drop 2 page) ≡ start + page_size = omega (arith, length-drop 2 page, size) in
    let others : pages_of (start + 2 + length (drop 2 page)) None n (drop page_size pages) ≡ Ok has.others =
    ap (λ (m : ℕ). pages_of m None n (drop page_size pages)) end_is ∙ more in
    let new : behind (start + 2) (count_in page) (drop 2 page) n (drop page_size pages) ≡ placed_keys (start + 2) has.first ++ placed_pages (start + page_size) has.others =
    ap (λ (r : Result (List KeyEntry × List ℕ) ℕ). placed_keys (start + 2) (keys_read r) ++ placed_pages (start + 2 + length (drop 2 page)) (read_of (pages_of (start + 2 + length (drop 2 page)) None n (drop page_size pages)))) of.read
    ∙ ap (λ (r : Result (List (List KeyEntry)) ℕ). placed_keys (start + 2) has.first ++ placed_pages (start + 2 + length (drop 2 page)) (read_of r)) others
    ∙ ap (λ (m : ℕ). placed_keys (start + 2) has.first ++ placed_pages m has.others) end_is in
    let old : behind at 0 keys count pages ≡ placed_keys (start + 2) has.first ++ placed_pages (start + page_size) has.others =
    ap (λ (r : Result (List KeyEntry × List ℕ) ℕ). placed_keys at (keys_read r) ++ placed_pages start (read_of (pages_of start None count pages))) (none_left keys)
    ∙ ap (λ (r : Result (List (List KeyEntry)) ℕ). placed_pages start (read_of r)) r.1
    ∙ ap (placed_pages start) has.both in
    record {
      some = of.some;
      same = new ∙ sym old;
      keys_read = is_read (keys_of None (count_in page) (drop 2 page)) (has.first, of.rest) of.read;
      end_is = end_is;
      pages_read = is_read (pages_of (start + 2 + length (drop 2 page)) None n (drop page_size pages)) has.others others;
    }

-- ---- to the next entry

pub record Steps (at left : ℕ) (keys : List ℕ) (count : ℕ) (pages : List ℕ) (first : KeyEntry × List ℕ) : Type 0 where
  pub shorter : length first.1 ≤ length keys
  pub ends : 11 + length first.0.key ≤ length keys
  pub same : behind at left keys count pages ≡ (at, first.0) ∷ behind (at + (length keys - length first.1)) (left - 1) first.1 count pages
  pub keys_read : IsRead (keys_of None (left - 1) first.1)
  pub keys_fit : IsBytes first.1
  pub end_is : at + (length keys - length first.1) + length first.1 ≡ at + length keys

pub steps : (at left : ℕ) (keys : List ℕ) (count : ℕ) (pages : List ℕ) (first : KeyEntry × List ℕ) → 1 ≤ left → IsBytes keys → IsRead (keys_of None left keys)
    → key_of None keys ≡ Ok first → Steps at left keys count pages first
steps at left keys count pages first some fits read e =
    let n = left - 1 in
    let k : left ≡ suc n = omega (arith, some) in
    let r = read_ok (keys_of None left keys) read in
    let b = keys_behind n keys first r.0 e (ap (λ (m : ℕ). keys_of None m keys) (sym k) ∙ r.1) in
    let t = key_takes None keys first fits e in
    let sizes : length keys ≡ length (key_text first.0) + length first.1 = ap length t.taken.parts ∙ length-append (key_text first.0) first.1 in
    let size : length (key_text first.0) ≡ suc (suc (suc (suc (suc (suc (suc (suc (suc (suc (suc (length (first.0.key ++ place_text first.0.value)))))))))))) = refl in
    let used : length keys - length first.1 ≡ length (key_text first.0) = omega (arith, sizes) in
    let end_is : at + (length keys - length first.1) + length first.1 ≡ at + length keys = omega (arith, sizes) in
    let behind_it = λ (m : ℕ). placed_pages m (read_of (pages_of m None count pages)) in
    let old : behind at left keys count pages ≡ (at, first.0) ∷ (placed_keys (at + length (key_text first.0)) b.0 ++ behind_it (at + length keys)) =
    ap (λ (r : Result (List KeyEntry × List ℕ) ℕ). placed_keys at (keys_read r) ++ behind_it (at + length keys)) r.1
    ∙ ap (λ (l : List KeyEntry). placed_keys at l ++ behind_it (at + length keys)) b.2 in
    let new : behind (at + (length keys - length first.1)) n first.1 count pages ≡ placed_keys (at + length (key_text first.0)) b.0 ++ behind_it (at + length keys) =
    ap (λ (r : Result (List KeyEntry × List ℕ) ℕ). placed_keys (at + (length keys - length first.1)) (keys_read r) ++ behind_it (at + (length keys - length first.1) + length first.1)) b.1
    ∙ ap (λ (m : ℕ). placed_keys (at + (length keys - length first.1)) b.0 ++ behind_it m) end_is
    ∙ ap (λ (m : ℕ). placed_keys (at + m) b.0 ++ behind_it (at + length keys)) used in
    record {
      shorter = omega (arith, sizes);
      ends = omega (arith, sizes, size, length-append first.0.key (place_text first.0.value));
      same = old ∙ ap (λ (l : List (ℕ × KeyEntry)). (at, first.0) ∷ l) (sym new);
      keys_read = is_read (keys_of None n first.1) (b.0, r.0.1) b.1;
      keys_fit = t.taken.rest_fits;
      end_is = end_is;
    }

-- where keys can be read the first one can
pub key_is_read : (left : ℕ) (keys : List ℕ) → 1 ≤ left → IsRead (keys_of None left keys) → IsRead (key_of None keys)
key_is_read left keys some read =
    let n = left - 1 in
    let k : left ≡ suc n = omega (arith, some) in
    let r = read_ok (keys_of None left keys) read in
    let has = first_key None n keys r.0 (ap (λ (m : ℕ). keys_of None m keys) (sym k) ∙ r.1) in
    is_read (key_of None keys) has.first has.key
