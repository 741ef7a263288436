use Rattle.std.proofs.Common.{◌≡◌, ◌∙◌, ◌∷◌, [], suc, length, ap, arith, length-append, refl}
use Rattle.std.specs.List.{flat_map}
use Rattle.hse_fields.specs.BlockText.{key_kind, block_header, keys_text, page_used, page_text}
use Rattle.kblock.specs.Building.{FitsPage}
use Rattle.kblock.proofs.BuildingLemmas.{all_more, count_closed, counts_long, keys_few, keys_long, page_closed, pages_long, sum_more}
use Rattle.kblock.proofs.building.KeyBlockBuilder.close.Goals as goal

pub put_page-requires-clause-room : goal.put_page-requires-clause-room
put_page-requires-clause-room c =
    let pages = c.requires.1 in
    let held = c.requires.3 in
    let long = length-append (block_header key_kind 0 0 0) (flat_map page_text pages) in
    omega (arith, ap length held.text, long, pages_long pages held.pages_fit, c.requires.4, held.reserved)

pub put_count-requires : goal.put_count-requires
put_count-requires c =
    let held = c.requires.3 in
    omega (arith, ap length held.counts, counts_long 0 c.requires.1, c.requires.4, held.counts_reserved)

pub overflow_add-self : goal.overflow_add-self
overflow_add-self c =
    let pages = c.requires.1 in
    let page = c.requires.2 in
    let held = c.requires.3 in
    let used : length (page_used page) ≡ suc (suc (length (keys_text page))) = refl in
    omega (arith, keys_few pages held.pages_fit, keys_long page, held.fits, used, held.before, held.in_page, held.small, c.requires.4)

pub returns : goal.returns
returns c = λ slot pages page held room.
    let keys : c.deref.result.now ≡ keys_text page = c.deref.ensures.value ∙ held.keys in
    record {
      text = page_closed (block_header key_kind 0 0 0) c.args.self.now.bytes.items c.deref.result.now c.put_page.new.into.items c.args.self.now.in_page pages page
          held.text held.in_page keys c.put_page.ensures.items;
      counts = count_closed c.args.self.now.counts.items c.put_count.new.into.items c.args.self.now.before pages page held.counts held.before c.put_count.ensures.items;
      keys = c.clear.ensures.items;
      in_page = refl;
      before = omega (arith, held.before, held.in_page, sum_more pages page);
      counted = omega (arith, held.counted, length-append pages (page ∷ []));
      size = held.size;
      small = held.small;
      fits = omega arith;
      pages_fit = all_more FitsPage pages page held.pages_fit held.fits;
      within = omega (arith, room, length-append pages (page ∷ []));
      reserved = omega (arith, held.reserved, c.put_page.ensures.capacity);
      counts_reserved = omega (arith, held.counts_reserved, c.put_count.ensures.capacity);
      page_reserved = omega (arith, held.page_reserved, c.clear.ensures.capacity);
    }
