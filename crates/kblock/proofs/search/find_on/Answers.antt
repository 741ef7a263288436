use Rattle.std.proofs.Common.{◌≡◌, ◌∙◌, ◌-◌, ℕ, drop, None, ap, subst, sym, arith}
use Rattle.hse_fields.specs.BlockReading.{count_in, keys_of}
use Rattle.kblock.specs.Searching.{found_in, page_at, page_keys, IsRead}
use Rattle.kblock.proofs.SearchLemmas.{is_on, is_on_none, keys_are_read}
use Rattle.kblock.proofs.search.find_on.Goals as goal

pub returns-then-behind-eq0 : goal.returns-then-behind-eq0
returns-then-behind-eq0 c =
    is_on_none c.args.key.now c.args.count c.args.pages.now c.requires.read c.pages_to-behind.result c.if-behind-eq0.true c.pages_to-behind.ensures.above

pub find_in-requires : goal.find_in-requires
find_in-requires c =
    let at = c.pages_to-behind.result - 1 in
    let page = page_at at c.args.pages.now in
    let keys : keys_of None c.keys_in.result c.split_at.result.1.now ≡ page_keys page =
    ap (λ (n : ℕ). keys_of None n c.split_at.result.1.now) (c.keys_in.ensures ∙ ap count_in c.page-page.ensures.page)
    ∙ ap (keys_of None (count_in page)) (c.split_at.ensures.back ∙ ap (drop 2) c.page-page.ensures.page) in
    subst IsRead (sym keys)
    (keys_are_read c.args.key.now c.args.count c.args.pages.now c.requires.read at (omega (arith, c.pages_to-behind.ensures.within, c.if-behind-eq0.false)))

pub returns : goal.returns
returns c =
    let at = c.pages_to-behind.result - 1 in
    let page = page_at at c.args.pages.now in
    let keys : keys_of None c.keys_in.result c.split_at.result.1.now ≡ page_keys page =
    ap (λ (n : ℕ). keys_of None n c.split_at.result.1.now) (c.keys_in.ensures ∙ ap count_in c.page-page.ensures.page)
    ∙ ap (keys_of None (count_in page)) (c.split_at.ensures.back ∙ ap (drop 2) c.page-page.ensures.page) in
    c.find_in.ensures
    ∙ ap (found_in c.args.key.now) keys
    ∙ is_on c.args.key.now c.args.count c.args.pages.now c.requires.read c.pages_to-behind.result at (omega (arith, c.if-behind-eq0.false)) c.pages_to-behind.ensures.within c.pages_to-behind.ensures.below c.pages_to-behind.ensures.above
