use Rattle.std.proofs.Common.{◌≡◌, ◌∙◌, ◌≤◌, ◌+◌, ◌++◌, ◌∷◌, [], ℕ, suc, List, length, sym, ap, arith, length-append, refl}
use Rattle.std.proofs.lemmas.Bool.{leb-true}
use Rattle.hse_fields.specs.BlockText.{KeyEntry, key_text, keys_text, page_used, page_size}
use Rattle.kblock.specs.Entries.{entry_of}
use Rattle.kblock.proofs.BuildingLemmas.{keys_long, text_more}
use Rattle.kblock.proofs.building.KeyBlockBuilder.put.Goals as goal

pub overflow_add-self : goal.overflow_add-self
overflow_add-self c =
    let page = c.requires.held.2 in
    let held = c.requires.held.3 in
    let used : length (page_used page) ≡ suc (suc (length (keys_text page))) = refl in
    omega (arith, keys_long page, held.in_page, held.fits, used)

pub returns : goal.returns
returns c = λ slot pages page held room.
    let entry : KeyEntry = entry_of c.args.entry.now in
    let more : keys_text (page ++ entry ∷ []) ≡ keys_text page ++ key_text entry = text_more key_text page entry in
    let used : length (page_used (page ++ entry ∷ [])) ≡ suc (suc (length (keys_text (page ++ entry ∷ [])))) = refl in
    let enough : 2 + (length (keys_text page) + length (key_text entry)) ≤ page_size = leb-true _ _ room in
    record {
      text = held.text;
      counts = held.counts;
      keys = c.put_entry.ensures.items ∙ ap (λ (l : List ℕ). l ++ key_text entry) held.keys ∙ sym more;
      in_page = omega (arith, held.in_page, length-append page (entry ∷ []));
      before = held.before;
      counted = held.counted;
      size = held.size;
      small = held.small;
      fits = omega (arith, used, ap length more, length-append (keys_text page) (key_text entry), enough);
      pages_fit = held.pages_fit;
      within = held.within;
      reserved = held.reserved;
      counts_reserved = held.counts_reserved;
      page_reserved = omega (arith, held.page_reserved, c.put_entry.ensures.capacity);
    }
