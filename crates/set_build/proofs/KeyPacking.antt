-- Keys are packed as full as they go.
use Rattle.std.proofs.Common.{◌≡◌, ℕ, ◌+◌, ◌*◌, ◌-◌, ◌≤◌, nat_le, Bool, true, false, List, [], ◌∷◌, ◌++◌, length, map, refl, sym, ap, ◌∙◌, append_assoc, arith, length-append}
use Rattle.std.specs.List.{flat_map, sum_by}
use Rattle.std.proofs.lemmas.List.{map-append}
use Rattle.std.proofs.lemmas.List.Concat.{flat_map-append}
use Rattle.std.proofs.lemmas.List.{append-nil}
use Rattle.std.proofs.lemmas.List.Sums.{sum_by-cons}
use Rattle.std.proofs.lemmas.Bool.{le-leb, lt-leb, leb-true, leb-false}
use Rattle.hse_rows.specs.rows.Packing.{filled, header_bytes, page_bytes}
use Rattle.hse_fields.specs.BlockText.{header_size, page_cost, page_size, KeyEntry, key_text, keys_text}
use Rattle.kblock.specs.Building.{goes_in}
use Rattle.set_build.specs.SetText.{entry_bytes, cost_of_page, pages_of, key_blocks_of}
use Rattle.set_build.specs.Builders.{OpenBlock, all_pages, block_with, new_block, has_room_for_key, with_key, with_last}
use Rattle.set_build.proofs.LastLemmas.{last-grown, last-new, goes-last}
use Rattle.set_build.proofs.FilledLemmas.{goes, grown, filled-more, filled-flat}
use Rattle.set_build.proofs.SnocLemmas.{snoc-parts, snoc_of}

-- one more where it goes into the last block, and where not
module _ {X : Type 0} (size : X → ℕ) (room : ℕ) where
  pub behind-goes : (xs : List X) (x : X) (closed : List (List X)) (last : List X) → filled size room xs ≡ closed ++ last ∷ []
      → goes size room x last ≡ true → filled size room (xs ++ x ∷ []) ≡ closed ++ (last ++ x ∷ []) ∷ []
  behind-goes xs x closed last e there =
      filled-more size room xs x
      ∙ ap (λ (l : List (List X)). with_last (goes size room x) (grown size room x) (x ∷ []) l) e
      ∙ last-grown (goes size room x) (grown size room x) (x ∷ []) closed last there

  pub behind-stays : (xs : List X) (x : X) (closed : List (List X)) (last : List X) → filled size room xs ≡ closed ++ last ∷ []
      → goes size room x last ≡ false → filled size room (xs ++ x ∷ []) ≡ (closed ++ last ∷ []) ++ (x ∷ []) ∷ []
  behind-stays xs x closed last e stays =
      filled-more size room xs x
      ∙ ap (λ (l : List (List X)). with_last (goes size room x) (grown size room x) (x ∷ []) l) e
      ∙ last-new (goes size room x) (grown size room x) (x ∷ []) (closed ++ last ∷ []) (goes-last (goes size room x) closed last ∙ stays)

  -- nothing is packed from nothing alone
  pub none-packed : (xs : List X) → filled size room xs ≡ [] → xs ≡ []
  none-packed xs e = sym (filled-flat size room xs) ∙ ap (flat_map (λ (b : List X). b)) e

-- another page of the same cost in the last place
module _ (room : ℕ) where
  abbrev packed : List (List KeyEntry) → List (List (List KeyEntry))
  packed pages = filled cost_of_page room pages

  after-none : (pages : List (List KeyEntry)) (closed : List (List (List KeyEntry))) (full : List (List KeyEntry)) (page other : List KeyEntry)
      → packed pages ≡ [] → packed (pages ++ page ∷ []) ≡ closed ++ (full ++ page ∷ []) ∷ []
      → packed (pages ++ other ∷ []) ≡ closed ++ (full ++ other ∷ []) ∷ []
  after-none pages closed full page other none e =
      let empty = none-packed cost_of_page room pages none in
      let first : [] ++ (page ∷ []) ∷ [] ≡ closed ++ (full ++ page ∷ []) ∷ [] = sym (ap (λ (l : List (List KeyEntry)). packed (l ++ page ∷ [])) empty) ∙ e in
      let outer = snoc-parts [] closed (page ∷ []) (full ++ page ∷ []) first in
      let inner = snoc-parts [] full page page outer.1 in
      ap (λ (l : List (List KeyEntry)). packed (l ++ other ∷ [])) empty
      ∙ ap (λ (c : List (List (List KeyEntry))). c ++ (other ∷ []) ∷ []) outer.0
      ∙ ap (λ (f : List (List KeyEntry)). closed ++ (f ++ other ∷ []) ∷ []) inner.0

  after-some : (pages : List (List KeyEntry)) (closed : List (List (List KeyEntry))) (full : List (List KeyEntry)) (page other : List KeyEntry)
      (before : List (List (List KeyEntry))) (last : List (List KeyEntry)) (b : Bool) → goes cost_of_page room page last ≡ b
      → packed pages ≡ before ++ last ∷ [] → packed (pages ++ page ∷ []) ≡ closed ++ (full ++ page ∷ []) ∷ []
      → packed (pages ++ other ∷ []) ≡ closed ++ (full ++ other ∷ []) ∷ []
  after-some pages closed full page other before last true there is e =
      let outer = snoc-parts before closed (last ++ page ∷ []) (full ++ page ∷ []) (sym (behind-goes cost_of_page room pages page before last is there) ∙ e) in
      let inner = snoc-parts last full page page outer.1 in
      behind-goes cost_of_page room pages other before last is there
      ∙ ap (λ (c : List (List (List KeyEntry))). c ++ (last ++ other ∷ []) ∷ []) outer.0
      ∙ ap (λ (f : List (List KeyEntry)). closed ++ (f ++ other ∷ []) ∷ []) inner.0
  after-some pages closed full page other before last false stays is e =
      let outer = snoc-parts (before ++ last ∷ []) closed (page ∷ []) (full ++ page ∷ []) (sym (behind-stays cost_of_page room pages page before last is stays) ∙ e) in
      let inner = snoc-parts [] full page page outer.1 in
      behind-stays cost_of_page room pages other before last is stays
      ∙ ap (λ (c : List (List (List KeyEntry))). c ++ (other ∷ []) ∷ []) outer.0
      ∙ ap (λ (f : List (List KeyEntry)). closed ++ (f ++ other ∷ []) ∷ []) inner.0

  replaced-by : (blocks : List (List (List KeyEntry))) (pages : List (List KeyEntry)) (closed : List (List (List KeyEntry))) (full : List (List KeyEntry)) (page other : List KeyEntry)
      → packed pages ≡ blocks → packed (pages ++ page ∷ []) ≡ closed ++ (full ++ page ∷ []) ∷ []
      → packed (pages ++ other ∷ []) ≡ closed ++ (full ++ other ∷ []) ∷ []
  replaced-by [] pages closed full page other is e = after-none pages closed full page other is e
  replaced-by (b ∷ bs) pages closed full page other is e =
      let snoc = snoc_of b bs in
      after-some pages closed full page other snoc.init snoc.last (goes cost_of_page room page snoc.last) refl (is ∙ snoc.is) e

  pub replaced : (pages : List (List KeyEntry)) (closed : List (List (List KeyEntry))) (full : List (List KeyEntry)) (page other : List KeyEntry)
      → packed (pages ++ page ∷ []) ≡ closed ++ (full ++ page ∷ []) ∷ []
      → packed (pages ++ other ∷ []) ≡ closed ++ (full ++ other ∷ []) ∷ []
  replaced pages closed full page other e = replaced-by (packed pages) pages closed full page other refl e

-- ---- a key more

pub used-long : (page : List KeyEntry) → length (keys_text page) ≡ sum_by entry_bytes page
used-long [] = refl
used-long (e ∷ es) = omega (arith, used-long es, length-append (key_text e) (keys_text es), sum_by-cons entry_bytes e es)

-- whether a key goes into a page is the same question
same-goes : (page : List KeyEntry) (e : KeyEntry) (b : Bool) → goes_in page e ≡ b → goes entry_bytes (page_bytes - 2) e page ≡ b
same-goes page e true is =
    le-leb _ _ (omega (arith, leb-true (2 + (length (keys_text page) + length (key_text e))) page_size is, used-long page))
same-goes page e false is =
    lt-leb _ _ (omega (arith, leb-false (2 + (length (keys_text page) + length (key_text e))) page_size is, used-long page))

pub cost-long : (pages : List (List KeyEntry)) → sum_by cost_of_page pages ≡ page_cost * length pages
cost-long [] = refl
cost-long (p ∷ ps) = omega (arith, cost-long ps, sum_by-cons cost_of_page p ps)

same-room : (slot : ℕ) (block : OpenBlock) (new : List KeyEntry) (b : Bool) → header_size ≤ slot
    → nat_le (header_size + page_cost * (length block.full + 2)) slot ≡ b
    → goes cost_of_page (slot - header_bytes) new (all_pages block) ≡ b
same-room slot block new true large is =
    le-leb _ _ (omega (arith, large, leb-true (header_size + page_cost * (length block.full + 2)) slot is, cost-long (all_pages block), length-append block.full (block.page ∷ [])))
same-room slot block new false large is =
    lt-leb _ _ (omega (arith, large, leb-false (header_size + page_cost * (length block.full + 2)) slot is, cost-long (all_pages block), length-append block.full (block.page ∷ [])))

flat : List (List (List KeyEntry)) → List (List KeyEntry)
flat blocks = flat_map (λ (b : List (List KeyEntry)). b) blocks

module _ (slot : ℕ) (large : header_size ≤ slot) (es : List KeyEntry) (e : KeyEntry) (closed : List OpenBlock) (last : OpenBlock)
    (is : map all_pages (closed ++ last ∷ []) ≡ key_blocks_of slot es) where
  -- the pages before the open one
  before : List (List KeyEntry)
  before = flat (map all_pages closed) ++ last.full

  blocks-are : key_blocks_of slot es ≡ map all_pages closed ++ (last.full ++ last.page ∷ []) ∷ []
  blocks-are = sym is ∙ map-append all_pages closed (last ∷ [])

  pages-are : pages_of es ≡ before ++ last.page ∷ []
  unfolding flat before
  pages-are =
      sym (filled-flat cost_of_page (slot - header_bytes) (pages_of es))
      ∙ ap (flat_map (λ (b : List (List KeyEntry)). b)) blocks-are
      ∙ flat_map-append (λ (b : List (List KeyEntry)). b) (map all_pages closed) ((last.full ++ last.page ∷ []) ∷ [])
      ∙ ap (λ (l : List (List KeyEntry)). flat_map (λ (b : List (List KeyEntry)). b) (map all_pages closed) ++ l) (append-nil (last.full ++ last.page ∷ []))
      ∙ sym (append_assoc (flat_map (λ (b : List (List KeyEntry)). b) (map all_pages closed)) last.full (last.page ∷ []))

  blocks-of-pages : filled cost_of_page (slot - header_bytes) (before ++ last.page ∷ []) ≡ map all_pages closed ++ (last.full ++ last.page ∷ []) ∷ []
  blocks-of-pages = ap (filled cost_of_page (slot - header_bytes)) (sym pages-are) ∙ blocks-are

  -- the key goes onto the open page
  onto-page : goes_in last.page e ≡ true → key_blocks_of slot (es ++ e ∷ []) ≡ map all_pages (closed ++ record { full = last.full; page = last.page ++ e ∷ [] } ∷ [])
  onto-page there =
      ap (filled cost_of_page (slot - header_bytes)) (behind-goes entry_bytes (page_bytes - 2) es e before last.page pages-are (same-goes last.page e true there))
      ∙ replaced (slot - header_bytes) before (map all_pages closed) last.full last.page (last.page ++ e ∷ []) blocks-of-pages
      ∙ sym (map-append all_pages closed (record { full = last.full; page = last.page ++ e ∷ [] } ∷ []))

  new-page : goes_in last.page e ≡ false → pages_of (es ++ e ∷ []) ≡ (before ++ last.page ∷ []) ++ (e ∷ []) ∷ []
  new-page stays = behind-stays entry_bytes (page_bytes - 2) es e before last.page pages-are (same-goes last.page e false stays)

  -- onto a new page of the last block
  onto-new-page : goes_in last.page e ≡ false → nat_le (header_size + page_cost * (length last.full + 2)) slot ≡ true
      → key_blocks_of slot (es ++ e ∷ []) ≡ map all_pages (closed ++ record { full = last.full ++ last.page ∷ []; page = e ∷ [] } ∷ [])
  onto-new-page stays room =
      ap (filled cost_of_page (slot - header_bytes)) (new-page stays)
      ∙ behind-goes cost_of_page (slot - header_bytes) (before ++ last.page ∷ []) (e ∷ []) (map all_pages closed) (last.full ++ last.page ∷ []) blocks-of-pages (same-room slot last (e ∷ []) true large room)
      ∙ sym (map-append all_pages closed (record { full = last.full ++ last.page ∷ []; page = e ∷ [] } ∷ []))

  -- into a new block
  into-new-block : goes_in last.page e ≡ false → nat_le (header_size + page_cost * (length last.full + 2)) slot ≡ false
      → key_blocks_of slot (es ++ e ∷ []) ≡ map all_pages ((closed ++ last ∷ []) ++ new_block e ∷ [])
  into-new-block stays full =
      ap (filled cost_of_page (slot - header_bytes)) (new-page stays)
      ∙ behind-stays cost_of_page (slot - header_bytes) (before ++ last.page ∷ []) (e ∷ []) (map all_pages closed) (last.full ++ last.page ∷ []) blocks-of-pages (same-room slot last (e ∷ []) false large full)
      ∙ ap (λ (l : List (List (List KeyEntry))). l ++ ((e ∷ []) ∷ []) ∷ []) (sym (map-append all_pages closed (last ∷ [])))
      ∙ sym (map-append all_pages (closed ++ last ∷ []) (new_block e ∷ []))

  in-some : (goes room : Bool) → goes_in last.page e ≡ goes → nat_le (header_size + page_cost * (length last.full + 2)) slot ≡ room
      → key_blocks_of slot (es ++ e ∷ []) ≡ map all_pages (with_key slot (closed ++ last ∷ []) e)
  in-some true room there is-room =
      onto-page there
      ∙ ap (map all_pages) (sym (last-grown (has_room_for_key slot e) (block_with e) (new_block e) closed last (rw there refl)
      ∙ ap (λ (b : OpenBlock). closed ++ b ∷ []) (rw there refl)))
  in-some false true stays room =
      onto-new-page stays room
      ∙ ap (map all_pages) (sym (last-grown (has_room_for_key slot e) (block_with e) (new_block e) closed last (rw (stays, room) refl)
      ∙ ap (λ (b : OpenBlock). closed ++ b ∷ []) (rw stays refl)))
  in-some false false stays full =
      into-new-block stays full
      ∙ ap (map all_pages) (sym (last-new (has_room_for_key slot e) (block_with e) (new_block e) (closed ++ last ∷ [])
      (goes-last (has_room_for_key slot e) closed last ∙ rw (stays, full) refl)))

in-none : (slot : ℕ) (es : List KeyEntry) (e : KeyEntry) → [] ≡ key_blocks_of slot es
    → key_blocks_of slot (es ++ e ∷ []) ≡ map all_pages (new_block e ∷ [])
in-none slot es e is =
    let empty : es ≡ [] = none-packed entry_bytes (page_bytes - 2) es (none-packed cost_of_page (slot - header_bytes) (pages_of es) (sym is)) in
    ap (λ (l : List KeyEntry). key_blocks_of slot (l ++ e ∷ [])) empty

pub key-packed : (slot : ℕ) → header_size ≤ slot → (es : List KeyEntry) (e : KeyEntry) (blocks : List OpenBlock)
    → map all_pages blocks ≡ key_blocks_of slot es → map all_pages (with_key slot blocks e) ≡ key_blocks_of slot (es ++ e ∷ [])
key-packed slot large es e [] is = sym (in-none slot es e is)
key-packed slot large es e (b ∷ bs) is =
    let snoc = snoc_of b bs in
    ap (λ (l : List OpenBlock). map all_pages (with_key slot l e)) snoc.is
    ∙ sym (in-some slot large es e snoc.init snoc.last (ap (map all_pages) (sym snoc.is) ∙ is) (goes_in snoc.last.page e)
    (nat_le (header_size + page_cost * (length snoc.last.full + 2)) slot) refl refl)
