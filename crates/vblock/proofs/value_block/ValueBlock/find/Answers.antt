use Rattle.std.proofs.Common.{◌≡◌, ◌∙◌, ◌==◌, ◌<◌, ◌≤◌, if◌then◌else◌, List, ℕ, [], length, get_or, Ok, Err, Some, None, Bool, true, false, refl, sym, ap, subst, arith}
use Rattle.std.specs.Prelude.{nat_lt}
use Rattle.std.proofs.lemmas.Bool.{ltb-true, ltb-false}
use Rattle.std.proofs.lemmas.List.Sorted.{searched}
use Rattle.hse_fields.specs.BlockText.{header_size, value_at}
use Rattle.vblock.specs.Opened.{values_in}
use Rattle.vblock.specs.Places.{offsets_of}
use Rattle.vblock.proofs.PlaceLemmas.{is_entry, none_at, offsets_rise, opened_read, same_value, searched_at}
use Rattle.vblock.proofs.value_block.ValueBlock.find.Goals as goal

rises : (values : List (List ℕ)) (offsets : List ℕ) → offsets ≡ offsets_of values → (i j : ℕ) → i ≤ j → j < length offsets → get_or offsets i 0 ≤ get_or offsets j 0
rises values offsets e =
    subst (λ (l : List ℕ). (i j : ℕ) → i ≤ j → j < length l → get_or l i 0 ≤ get_or l j 0) (sym e) (λ i j. offsets_rise header_size values i j)

here : (values : List (List ℕ)) (offsets : List ℕ) (i offset : ℕ) → offsets ≡ offsets_of values → (i < length offsets) × (get_or offsets i 0 ≡ offset)
    → (i < length (offsets_of values)) × (get_or (offsets_of values) i 0 ≡ offset)
here values offsets i offset e is = subst (λ (l : List ℕ). (i < length l) × (get_or l i 0 ≡ offset)) e is

apart : (values : List (List ℕ)) (offsets : List ℕ) (i offset : ℕ) → offsets ≡ offsets_of values
    → ((k : ℕ) → k < i → get_or offsets k 0 < offset) → ((k : ℕ) → i ≤ k → k < length offsets → offset < get_or offsets k 0)
    → (k : ℕ) → k < length (offsets_of values) → get_or (offsets_of values) k 0 ≡ offset → ⊥
apart values offsets i offset e low high =
    subst (λ (l : List ℕ). (k : ℕ) → k < length l → get_or l k 0 ≡ offset → ⊥) e
    (λ k lt same. by k lt same (nat_lt k i) refl)
  where
    by : (k : ℕ) → k < length offsets → get_or offsets k 0 ≡ offset → (below : Bool) → nat_lt k i ≡ below → ⊥
    by k lt same true is = let less = low k (ltb-true _ _ is) in omega (arith, less, same)
    by k lt same false is = let more = high k (ltb-false _ _ is) lt in omega (arith, more, same)

pub entry_in-requires : goal.entry_in-requires
entry_in-requires c =
    let b = c.self.inside in
    let values = values_in b.used b.count b.bytes.items in
    let entries = c.block_body.result.now in
    let read = opened_read b.used b.count b.bytes.items c.deref.result.now entries c.self.invariant c.deref.ensures.value c.block_body.ensures in
    let offsets : c.args.offsets.now ≡ offsets_of values = c.requires ∙ ap offsets_of (sym c.self.view_is) in
    let found = searched c.args.offsets.now c.args.offset (Ok c.in-Ok.field-0) c.in-Ok.ensures.ok (rises values c.args.offsets.now offsets) in
    let at = here values c.args.offsets.now c.in-Ok.field-0 c.args.offset offsets found in
    is_entry c.args.offset entries values (searched_at values entries [] b.count c.args.offset read c.in-Ok.field-0 at.0 at.1)

pub returns-in-Ok : goal.returns-in-Ok
returns-in-Ok c =
    let b = c.self.inside in
    let values = values_in b.used b.count b.bytes.items in
    let entries = c.block_body.result.now in
    let read = opened_read b.used b.count b.bytes.items c.deref.result.now entries c.self.invariant c.deref.ensures.value c.block_body.ensures in
    let offsets : c.args.offsets.now ≡ offsets_of values = c.requires ∙ ap offsets_of (sym c.self.view_is) in
    let found = searched c.args.offsets.now c.args.offset (Ok c.in-Ok.field-0) c.in-Ok.ensures.ok (rises values c.args.offsets.now offsets) in
    let at = here values c.args.offsets.now c.in-Ok.field-0 c.args.offset offsets found in
    let a = searched_at values entries [] b.count c.args.offset read c.in-Ok.field-0 at.0 at.1 in
    c.of_length.ensures
    ∙ ap (λ (v : List ℕ). if length v == c.args.len then Some v else None) (sym (same_value c.args.offset entries c.entry_in.result.now values a c.entry_in.ensures))
    ∙ sym (a.is c.args.len)
    ∙ ap (λ (v : List (List ℕ)). value_at v c.args.offset c.args.len) c.self.view_is

pub returns-in-Err : goal.returns-in-Err
returns-in-Err c =
    let b = c.self.inside in
    let values = values_in b.used b.count b.bytes.items in
    let offsets : c.args.offsets.now ≡ offsets_of values = c.requires ∙ ap offsets_of (sym c.self.view_is) in
    let missed = searched c.args.offsets.now c.args.offset (Err c.in-Err.field-0) c.in-Err.ensures.position (rises values c.args.offsets.now offsets) in
    sym (none_at header_size c.args.offset c.args.len values (apart values c.args.offsets.now c.in-Err.field-0 c.args.offset offsets missed.1 missed.2))
    ∙ ap (λ (v : List (List ℕ)). value_at v c.args.offset c.args.len) c.self.view_is
