use Rattle.std.proofs.Common.{◌≡◌, ◌∙◌, ◌-◌, ℕ, List, [], ap, subst, sym, arith, Ok, None}
use Rattle.std.specs.Prelude.{slice_get}
use Rattle.hse_fields.specs.BlockText.{header_size}
use Rattle.hse_fields.specs.BlockReading.{count_in, counts_of, pages_of}
use Rattle.kblock.specs.Opened.{entries_of, read_of}
use Rattle.kblock.specs.Searching.{nth_of, number_at, page_at, page_keys, IsRead}
use Rattle.kblock.proofs.NthLemmas.{some_page, stands, IsNumbered}
use Rattle.kblock.proofs.SearchLemmas.{keys_are_read}
use Rattle.kblock.proofs.nth.nth_on.Goals as goal

pub overflow_sub-index : goal.overflow_sub-index
overflow_sub-index c =
    let numbers = c.split_at.result.1.now in
    let is : IsNumbered c.args.count c.args.body.now numbers = record {
      pages = c.requires.read;
      counts = subst (λ (l : List ℕ). counts_of 0 c.args.count c.args.body.now l ≡ Ok tt) (sym c.split_at.ensures.back) c.requires.numbered;
    } in
    some_page c.args.at c.args.count c.args.body.now numbers is c.requires.within c.pages_from-index.result c.pages_from-index.ensures.above

pub page-requires : goal.page-requires
page-requires c =
    let numbers = c.split_at.result.1.now in
    let is : IsNumbered c.args.count c.args.body.now numbers = record {
      pages = c.requires.read;
      counts = subst (λ (l : List ℕ). counts_of 0 c.args.count c.args.body.now l ≡ Ok tt) (sym c.split_at.ensures.back) c.requires.numbered;
    } in
    let some = some_page c.args.at c.args.count c.args.body.now numbers is c.requires.within c.pages_from-index.result c.pages_from-index.ensures.above in
    omega (arith, some, c.pages_from-index.ensures.within, c.requires.room)

pub overflow_sub-at : goal.overflow_sub-at
overflow_sub-at c =
    let numbers = c.split_at.result.1.now in
    let is : IsNumbered c.args.count c.args.body.now numbers = record {
      pages = c.requires.read;
      counts = subst (λ (l : List ℕ). counts_of 0 c.args.count c.args.body.now l ≡ Ok tt) (sym c.split_at.ensures.back) c.requires.numbered;
    } in
    let some = some_page c.args.at c.args.count c.args.body.now numbers is c.requires.within c.pages_from-index.result c.pages_from-index.ensures.above in
    let index = c.pages_from-index.result - 1 in
    let s = stands c.args.at c.args.count c.args.body.now numbers is c.requires.within c.pages_from-index.result index (omega (arith, some))
    c.pages_from-index.ensures.within c.pages_from-index.ensures.below c.pages_from-index.ensures.above in
    omega (arith, c.number.ensures, s.1)

pub nth_in-requires-clause-read : goal.nth_in-requires-clause-read
nth_in-requires-clause-read c =
    let numbers = c.split_at.result.1.now in
    let is : IsNumbered c.args.count c.args.body.now numbers = record {
      pages = c.requires.read;
      counts = subst (λ (l : List ℕ). counts_of 0 c.args.count c.args.body.now l ≡ Ok tt) (sym c.split_at.ensures.back) c.requires.numbered;
    } in
    let some = some_page c.args.at c.args.count c.args.body.now numbers is c.requires.within c.pages_from-index.result c.pages_from-index.ensures.above in
    let index = c.pages_from-index.result - 1 in
    subst (λ (p : List ℕ). IsRead (page_keys p)) (sym c.page.ensures.page)
    (keys_are_read [] c.args.count c.args.body.now c.requires.read index (omega (arith, some, c.pages_from-index.ensures.within)))

pub nth_in-requires-clause-within : goal.nth_in-requires-clause-within
nth_in-requires-clause-within c =
    let numbers = c.split_at.result.1.now in
    let is : IsNumbered c.args.count c.args.body.now numbers = record {
      pages = c.requires.read;
      counts = subst (λ (l : List ℕ). counts_of 0 c.args.count c.args.body.now l ≡ Ok tt) (sym c.split_at.ensures.back) c.requires.numbered;
    } in
    let some = some_page c.args.at c.args.count c.args.body.now numbers is c.requires.within c.pages_from-index.result c.pages_from-index.ensures.above in
    let index = c.pages_from-index.result - 1 in
    let s = stands c.args.at c.args.count c.args.body.now numbers is c.requires.within c.pages_from-index.result index (omega (arith, some))
    c.pages_from-index.ensures.within c.pages_from-index.ensures.below c.pages_from-index.ensures.above in
    let page : count_in c.page.result.now ≡ count_in (page_at index c.args.body.now) = ap count_in c.page.ensures.page in
    omega (arith, c.number.ensures, s.0.within, page)

pub returns : goal.returns
returns c =
    let numbers = c.split_at.result.1.now in
    let is : IsNumbered c.args.count c.args.body.now numbers = record {
      pages = c.requires.read;
      counts = subst (λ (l : List ℕ). counts_of 0 c.args.count c.args.body.now l ≡ Ok tt) (sym c.split_at.ensures.back) c.requires.numbered;
    } in
    let some = some_page c.args.at c.args.count c.args.body.now numbers is c.requires.within c.pages_from-index.result c.pages_from-index.ensures.above in
    let index = c.pages_from-index.result - 1 in
    let s = stands c.args.at c.args.count c.args.body.now numbers is c.requires.within c.pages_from-index.result index (omega (arith, some))
    c.pages_from-index.ensures.within c.pages_from-index.ensures.below c.pages_from-index.ensures.above in
    let whole : c.args.at - 0 ≡ c.args.at = omega arith in
    ap (slice_get (entries_of (read_of (pages_of header_size None c.args.count c.args.body.now)))) (sym whole)
    ∙ sym s.0.found
    ∙ ap (nth_of (c.args.at - number_at index numbers)) (ap page_keys (sym c.page.ensures.page))
    ∙ ap (λ (n : ℕ). nth_of (c.args.at - n) (page_keys c.page.result.now)) (sym c.number.ensures)
    ∙ c.nth_in.ensures
