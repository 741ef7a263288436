use Rattle.std.proofs.Common.{◌≡◌, ◌∙◌, ◌+◌, ◌++◌, ◌∷◌, [], ℕ, suc, List, length, drop, ap, arith, length-append, refl}
use Rattle.std.specs.List.{flat_map, sum_by}
use Rattle.hse_fields.specs.BlockText.{header_size, key_kind, block_header, keys_text, page_used, page_text, counts_text}
use Rattle.kblock.specs.Building.{FitsPage}
use Rattle.kblock.proofs.BuildingLemmas.{all_long, all_more, behind_header, block_finished, count_closed, counts_long, keys_few, keys_long, page_closed, pages_long, sum_more}
use Rattle.kblock.proofs.building.KeyBlockBuilder.finish.Goals as goal

pub put_page-requires-clause-room : goal.put_page-requires-clause-room
put_page-requires-clause-room c =
    let pages = c.requires.1 in
    let held = c.requires.3 in
    let long = length-append (block_header key_kind 0 0 0) (flat_map page_text pages) in
    omega (arith, ap length held.text, long, pages_long pages held.pages_fit, held.within, held.reserved)

pub put_count-requires : goal.put_count-requires
put_count-requires c =
    let held = c.requires.3 in
    omega (arith, ap length held.counts, counts_long 0 c.requires.1, held.within, held.counts_reserved)

-- what stands behind the room of the header, and how long that is
pub put-requires : goal.put-requires
put-requires c =
    let pages = c.requires.1 in
    let page = c.requires.2 in
    let held = c.requires.3 in
    let all = pages ++ page ∷ [] in
    let fit = all_more FitsPage pages page held.pages_fit held.fits in
    let text = page_closed (block_header key_kind 0 0 0) c.args.self.bytes.items c.deref.result.now c.put_page.new.into.items c.args.self.in_page pages page
    held.text held.in_page (c.deref.ensures.value ∙ held.keys) c.put_page.ensures.items in
    let counts : c.deref-2.result.now ≡ counts_text 0 all =
    c.deref-2.ensures.value ∙ count_closed c.args.self.counts.items c.put_count.new.into.items c.args.self.before pages page held.counts held.before c.put_count.ensures.items in
    omega (
      arith,
      ap length text,
      length-append (block_header key_kind 0 0 0) (flat_map page_text all),
      pages_long all fit,
      ap length counts,
      counts_long 0 all,
      length-append pages (page ∷ []),
      held.within,
      held.reserved,
      c.put_page.ensures.capacity,
    )

pub overflow_cast-head : goal.overflow_cast-head
overflow_cast-head c =
    let pages = c.requires.1 in
    let page = c.requires.2 in
    let held = c.requires.3 in
    let all = pages ++ page ∷ [] in
    let fit = all_more FitsPage pages page held.pages_fit held.fits in
    let text = page_closed (block_header key_kind 0 0 0) c.args.self.bytes.items c.deref.result.now c.put_page.new.into.items c.args.self.in_page pages page
    held.text held.in_page (c.deref.ensures.value ∙ held.keys) c.put_page.ensures.items in
    let counts = c.deref-2.ensures.value ∙ count_closed c.args.self.counts.items c.put_count.new.into.items c.args.self.before pages page held.counts held.before c.put_count.ensures.items in
    let whole = behind_header (block_header key_kind 0 0 0) c.put_page.new.into.items c.deref-2.result.now c.put.new.into.items all text counts c.put.ensures.items in
    omega (
      arith,
      ap length whole,
      length-append (block_header key_kind 0 0 0) (flat_map page_text all ++ counts_text 0 all),
      all_long all fit,
      length-append pages (page ∷ []),
      held.within,
      held.small,
      c.len.ensures,
      c.put.new.into.ok.0,
    )

pub overflow_add-head : goal.overflow_add-head
overflow_add-head c =
    let pages = c.requires.1 in
    let page = c.requires.2 in
    let held = c.requires.3 in
    let used : length (page_used page) ≡ suc (suc (length (keys_text page))) = refl in
    omega (arith, keys_few pages held.pages_fit, keys_long page, held.fits, used, held.before, held.in_page, held.small, held.within)

pub returns : goal.returns
returns c = λ slot pages page held.
    let all = pages ++ page ∷ [] in
    let fit = all_more FitsPage pages page held.pages_fit held.fits in
    let text = page_closed (block_header key_kind 0 0 0) c.args.self.bytes.items c.deref.result.now c.put_page.new.into.items c.args.self.in_page pages page
    held.text held.in_page (c.deref.ensures.value ∙ held.keys) c.put_page.ensures.items in
    let counts = c.deref-2.ensures.value ∙ count_closed c.args.self.counts.items c.put_count.new.into.items c.args.self.before pages page held.counts held.before c.put_count.ensures.items in
    let whole = behind_header (block_header key_kind 0 0 0) c.put_page.new.into.items c.deref-2.result.now c.put.new.into.items all text counts c.put.ensures.items in
    let body = flat_map page_text all ++ counts_text 0 all in
    let used : c.len.result ≡ header_size + length body =
    omega (arith, c.len.ensures, c.put.new.into.ok.0, ap length whole, length-append (block_header key_kind 0 0 0) body) in
    let count : c.args.self.before + c.args.self.in_page ≡ sum_by length all = omega (arith, held.before, held.in_page, sum_more pages page) in
    let number : c.args.self.pages + 1 ≡ length all = omega (arith, held.counted, length-append pages (page ∷ [])) in
    block_finished c.with_header.result.items c.len.result (c.args.self.before + c.args.self.in_page) (c.args.self.pages + 1) all fit used count number
    (c.with_header.ensures ∙ ap (λ (l : List ℕ). block_header key_kind c.len.result (c.args.self.before + c.args.self.in_page) (c.args.self.pages + 1) ++ drop 16 l) whole)
