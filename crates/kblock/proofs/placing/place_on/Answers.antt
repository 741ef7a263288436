use Rattle.std.proofs.Common.{◌≡◌, ◌∙◌, ◌+◌, ◌-◌, ℕ, List, drop, Ok, None, ap, subst, sym, arith}
use Rattle.hse_fields.specs.BlockReading.{count_in, counts_of, keys_of}
use Rattle.kblock.specs.Placing.{below_in}
use Rattle.kblock.specs.Searching.{number_at, page_at, page_keys, IsRead}
use Rattle.kblock.proofs.PlaceLemmas.{is_placed, is_placed_first}
use Rattle.kblock.proofs.SearchLemmas.{keys_are_read}
use Rattle.kblock.proofs.placing.place_on.Goals as goal

pub returns-then-behind-eq0 : goal.returns-then-behind-eq0
returns-then-behind-eq0 c =
    is_placed_first c.args.edge.now c.args.count c.args.body.now c.requires.read c.pages_to-behind.result c.if-behind-eq0.true c.pages_to-behind.ensures.above

pub place_in-requires : goal.place_in-requires
place_in-requires c =
    let at = c.pages_to-behind.result - 1 in
    let page = page_at at c.args.body.now in
    let keys : keys_of None c.keys_in.result c.split_at.result.1.now ≡ page_keys page =
    ap (λ (n : ℕ). keys_of None n c.split_at.result.1.now) (c.keys_in.ensures ∙ ap count_in c.page-page.ensures.page)
    ∙ ap (keys_of None (count_in page)) (c.split_at.ensures.back ∙ ap (drop 2) c.page-page.ensures.page) in
    subst IsRead (sym keys)
    (keys_are_read c.args.edge.now c.args.count c.args.body.now c.requires.read at (omega (arith, c.pages_to-behind.ensures.within, c.if-behind-eq0.false)))

pub returns : goal.returns
returns c =
    let edge = c.args.edge.now in
    let behind = c.pages_to-behind.result in
    let at = behind - 1 in
    let page = page_at at c.args.body.now in
    let numbers = c.split_at-2.result.1.now in
    let keys : keys_of None c.keys_in.result c.split_at.result.1.now ≡ page_keys page =
    ap (λ (n : ℕ). keys_of None n c.split_at.result.1.now) (c.keys_in.ensures ∙ ap count_in c.page-page.ensures.page)
    ∙ ap (keys_of None (count_in page)) (c.split_at.ensures.back ∙ ap (drop 2) c.page-page.ensures.page) in
    let counted = subst (λ (l : List ℕ). counts_of 0 c.args.count c.args.body.now l ≡ Ok tt) (sym c.split_at-2.ensures.back) c.requires.numbered in
    let placed = is_placed edge c.args.count c.args.body.now c.requires.read behind at numbers counted (omega (arith, c.if-behind-eq0.false))
    c.pages_to-behind.ensures.within c.pages_to-behind.ensures.below c.pages_to-behind.ensures.above in
    ap (λ (n : ℕ). n + c.place_in.result) c.number.ensures
    ∙ ap (λ (n : ℕ). number_at at numbers + n) (c.place_in.ensures ∙ ap (below_in edge) keys)
    ∙ placed
