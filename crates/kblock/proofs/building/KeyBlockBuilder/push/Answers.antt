use Rattle.std.proofs.Common.{◌≡◌, ◌+◌, ◌*◌, ◌≤◌, ◌<◌, ◌++◌, ◌∷◌, [], true, false, length, ap, arith}
use Rattle.std.proofs.lemmas.Bool.{le-leb, lt-leb}
use Rattle.hse_fields.specs.BlockText.{header_size, page_cost, page_size, KeyEntry, key_text, keys_text}
use Rattle.kblock.specs.Building.{goes_in}
use Rattle.kblock.specs.Entries.{entry_of}
use Rattle.kblock.proofs.BuildingLemmas.{key_short}
use Rattle.kblock.proofs.building.KeyBlockBuilder.push.Goals as goal

pub returns-then-len-size-le-PAGE_SIZE-clause-added : goal.returns-then-len-size-le-PAGE_SIZE-clause-added
returns-then-len-size-le-PAGE_SIZE-clause-added c = λ slot pages page held.
    let entry : KeyEntry = entry_of c.args.entry.now in
    let enough : 2 + (length (keys_text page) + length (key_text entry)) ≤ page_size =
    omega (arith, ap length held.keys, c.args.self.now.page.ok.0, c.len.ensures, c.size.ensures, c.if-len-size-le-PAGE_SIZE.true) in
    let goes : goes_in page entry ≡ true = le-leb _ _ enough in
    rw goes (c.put.ensures slot pages page held goes)

-- an empty page takes the key
takes : (entry : KeyEntry) → length entry.key ≤ 1344 → goes_in [] entry ≡ true
takes entry short = le-leb _ _ (omega (arith, key_short entry short))

pub put-requires-2-clause-held : goal.put-requires-2-clause-held
put-requires-2-clause-held c =
    let slot = c.requires.held.0 in
    let pages = c.requires.held.1 in
    let page = c.requires.held.2 in
    let held = c.requires.held.3 in
    let room : header_size + page_cost * (length pages + 2) ≤ slot = omega (arith, held.counted, held.size, c.if-room-lt-PAGE_COST.false) in
    (slot, pages ++ page ∷ [], [], c.close.ensures slot pages page held room, takes (entry_of c.args.entry.now) c.requires.short)

pub returns-clause-added : goal.returns-clause-added
returns-clause-added c = λ slot pages page held.
    let entry : KeyEntry = entry_of c.args.entry.now in
    let over : page_size < 2 + (length (keys_text page) + length (key_text entry)) =
    omega (arith, ap length held.keys, c.args.self.now.page.ok.0, c.len.ensures, c.size.ensures, c.if-len-size-le-PAGE_SIZE.false) in
    let stays : goes_in page entry ≡ false = lt-leb _ _ over in
    let room : header_size + page_cost * (length pages + 2) ≤ slot = omega (arith, held.counted, held.size, c.if-room-lt-PAGE_COST.false) in
    rw stays (c.put-2.ensures slot (pages ++ page ∷ []) [] (c.close.ensures slot pages page held room) (takes entry c.requires.short))
