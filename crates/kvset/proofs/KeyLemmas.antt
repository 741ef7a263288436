-- In which block a key stands, and how many keys stand before it.
use Rattle.std.proofs.Common.{◌≡◌, ◌∙◌, true, false, Bool, ℕ, zero, suc, ◌-◌, ◌+◌, ◌<◌, ◌≤◌, List, [], ◌∷◌, ◌++◌, length, get_or, Option, Some, None, refl, sym, ap, subst, arith, length-append}
use Rattle.std.specs.Prelude.{nat_lt, slice_get}
use Rattle.std.specs.List.{find, sum_by}
use Rattle.std.specs.Option.{option_or}
use Rattle.std.specs.Ordering.{nat_cmp, is_gt}
use Rattle.std.specs.Cmp.Lexicographic.{slice_cmp}
use Rattle.std.proofs.lemmas.Bool.{ltb-true, ltb-false}
use Rattle.std.proofs.lemmas.List.Folds.{find-append}
use Rattle.std.proofs.lemmas.List.Sums.{sum_by-cons}
use Rattle.hse_fields.specs.BlockText.{KeyEntry}
use Rattle.hse_fields.specs.BlockReading.{is_above, last_key}
use Rattle.kblock.specs.Form.{AreKeys}
use Rattle.kblock.specs.Opened.{entries_of, has_key}
use Rattle.kblock.specs.Placing.{count_below, is_below}
use Rattle.kblock.specs.laws.Order.{Rise, above_all, all_below, count-append, counts, skips, none_below, none_from, none_from_counted}
use Rattle.kvset.specs.declared.keys.KeyPart.{KeyPart}
use Rattle.kvset.specs.declared.keys.Aim.TheVariants.{Key, At}
use denote.Ref.{Bor}
use Rattle.kvset.specs.Keys.{keys_in, all_keys, AreNumbered, AreParts, begin_above, behind_at, IsUpTo}

-- how many keys a block has
pub counted : (pages : List (List KeyEntry)) → sum_by length pages ≡ length (entries_of pages)
counted [] = refl
counted (p ∷ ps) = omega (arith, sum_by-cons length p ps, counted ps, length-append p (entries_of ps))

-- ---- keys in order

pub rise : (last : Option (List ℕ)) (es : List KeyEntry) → AreKeys last es → Rise last es
rise last [] are = tt
rise last (e ∷ es) are = (are.0.above, rise (Some e.key) es are.1)

rise_parts : (last : Option (List ℕ)) (xs ys : List KeyEntry) → Rise last (xs ++ ys) → Rise last xs × Rise (last_key last xs) ys
rise_parts last [] ys r = (tt, r)
rise_parts last (x ∷ xs) ys r = let p = rise_parts (Some x.key) xs ys r.1 in ((r.0, p.0), p.1)

-- ---- blocks

slice_get-none : (parts : List KeyPart) (i : ℕ) → length parts ≤ i → slice_get parts i ≡ None
slice_get-none [] i le = refl
slice_get-none (p ∷ ps) zero le = absurd (omega (arith, le))
slice_get-none (p ∷ ps) (suc i) le = slice_get-none ps i (omega (arith, le))

pub some_in : (before : ℕ) (parts : List KeyPart) (i : ℕ) (part : KeyPart) → AreNumbered before parts → slice_get parts i ≡ Some part → 1 ≤ length (keys_in part)
some_in before [] i part n is = absurd cc
some_in before (p ∷ ps) zero part n is = let same : p ≡ part = cc in subst (λ (q : KeyPart). 1 ≤ length (keys_in q)) same n.1
some_in before (p ∷ ps) (suc i) part n is = some_in (before + length (keys_in p)) ps i part n.2 is

-- blocks of which the first one begins above a key
abbrev BeginAbove : List ℕ → List KeyPart → Type 0
BeginAbove key [] = Unit {0}
BeginAbove key (p ∷ ps) = begin_above key (keys_in p) ≡ true

entries_above : (last : Option (List ℕ)) (key : List ℕ) (xs ys : List KeyEntry) → 1 ≤ length xs → Rise last (xs ++ ys) → begin_above key xs ≡ true
    → (find (has_key key) (xs ++ ys) ≡ None) × (count_below key (xs ++ ys) ≡ 0)
entries_above last key [] ys some r above = absurd (omega (arith, some))
entries_above last key (x ∷ xs) ys some r above = (none_from x (xs ++ ys) key r.1 above, none_from_counted x (xs ++ ys) key r.1 above)

none_behind : (last : Option (List ℕ)) (before : ℕ) (key : List ℕ) (parts : List KeyPart) → AreNumbered before parts → Rise last (all_keys parts)
    → BeginAbove key parts → (find (has_key key) (all_keys parts) ≡ None) × (count_below key (all_keys parts) ≡ 0)
none_behind last before key [] n r above = (refl, refl)
none_behind last before key (p ∷ ps) n r above = entries_above last key (keys_in p) (all_keys ps) n.1 r above

-- the first key of a block stands above those before it
first_of : (xs ys : List KeyEntry) (key : List ℕ) (last : Option (List ℕ)) → 1 ≤ length xs → Rise last (xs ++ ys) → begin_above key xs ≡ false
    → (first : List ℕ) × (is_above last first ≡ true) × (is_gt (slice_cmp nat_cmp first key) ≡ false)
first_of [] ys key last some r below = absurd (omega (arith, some))
first_of (x ∷ xs) ys key last some r below = (x.key, r.0, below)

begins_at : (last : Option (List ℕ)) (before : ℕ) (key : List ℕ) (parts : List KeyPart) (i : ℕ) (part : KeyPart) → AreNumbered before parts → Rise last (all_keys parts)
    → slice_get parts i ≡ Some part → begin_above key (keys_in part) ≡ false
    → (first : List ℕ) × (is_above last first ≡ true) × (is_gt (slice_cmp nat_cmp first key) ≡ false)
begins_at last before key [] i part n r is below = absurd cc
begins_at last before key (p ∷ ps) zero part n r is below =
    let same : part ≡ p = cc in
    first_of (keys_in p) (all_keys ps) key last n.1 r (subst (λ (q : KeyPart). begin_above key (keys_in q) ≡ false) same below)
begins_at last before key (p ∷ ps) (suc i) part n r is below =
    let parts = rise_parts last (keys_in p) (all_keys ps) r in
    let more = begins_at (last_key last (keys_in p)) (before + length (keys_in p)) key ps i part n.2 parts.1 is below in
    (more.0, above_all last (keys_in p) more.0 parts.0 more.1, more.2)

record IsIn (before : ℕ) (key : List ℕ) (parts : List KeyPart) (part : KeyPart) : Type 0 where
  found : find (has_key key) (keys_in part) ≡ find (has_key key) (all_keys parts)
  placed : part.before + count_below key (keys_in part) ≡ before + count_below key (all_keys parts)

or_none : (o : Option KeyEntry) → option_or o None ≡ o
or_none (Some x) = refl
or_none None = refl

next_above : (key : List ℕ) (keys : Bor (List ℕ)) (parts : List KeyPart) → keys.now ≡ key → behind_at (Key keys) (slice_get parts 0) ≡ true → BeginAbove key parts
next_above key keys [] same above = tt
next_above key keys (p ∷ ps) same above = ap (λ (k : List ℕ). begin_above k (keys_in p)) (sym same) ∙ above

-- the key stands in the last block that does not begin above it, if anywhere
is_in : (last : Option (List ℕ)) (before : ℕ) (keys : Bor (List ℕ)) (parts : List KeyPart) (i : ℕ) (part : KeyPart) → AreNumbered before parts → Rise last (all_keys parts)
    → slice_get parts i ≡ Some part → begin_above keys.now (keys_in part) ≡ false → behind_at (Key keys) (slice_get parts (suc i)) ≡ true → IsIn before keys.now parts part
is_in last before keys [] i part n r is below above = absurd cc
is_in last before keys (p ∷ ps) zero part n r is below above =
    let key = keys.now in
    let same : p ≡ part = cc in
    let parts = rise_parts last (keys_in p) (all_keys ps) r in
    let none = none_behind (last_key last (keys_in p)) (before + length (keys_in p)) key ps n.2 parts.1 (next_above key keys ps refl above) in
    subst (IsIn before key (p ∷ ps)) same
    (record {
      found = sym (find-append (has_key key) (keys_in p) (all_keys ps) ∙ ap (option_or (find (has_key key) (keys_in p))) none.0 ∙ or_none (find (has_key key) (keys_in p)));
      placed = omega (arith, n.0, none.1, count-append key (keys_in p) (all_keys ps));
    })
is_in last before keys (p ∷ ps) (suc i) part n r is below above =
    let key = keys.now in
    let parts = rise_parts last (keys_in p) (all_keys ps) r in
    let later = last_key last (keys_in p) in
    let first = begins_at later (before + length (keys_in p)) key ps i part n.2 parts.1 is below in
    let more = is_in later (before + length (keys_in p)) keys ps i part n.2 parts.1 is below above in
    let none : find (has_key key) (keys_in p) ≡ None = none_below last (keys_in p) key first.0 parts.0 first.1 first.2 in
    let whole : count_below key (keys_in p) ≡ length (keys_in p) = all_below last (keys_in p) key first.0 parts.0 first.1 first.2 in
    record {
      found = more.found ∙ sym (find-append (has_key key) (keys_in p) (all_keys ps) ∙ ap (λ (o : Option KeyEntry). option_or o (find (has_key key) (all_keys ps))) none);
      placed = omega (arith, more.placed, whole, count-append key (keys_in p) (all_keys ps));
    }

-- ---- what searches answer

pub got : (parts : List KeyPart) (i : ℕ) (d part : KeyPart) → i < length parts → part ≡ get_or parts i d → slice_get parts i ≡ Some part
got [] i d part lt is = absurd (omega (arith, lt))
got (p ∷ ps) zero d part lt is = ap (λ (q : KeyPart). Some q) (sym is)
got (p ∷ ps) (suc i) d part lt is = got ps i d part (omega (arith, lt)) is

pub few_below : (key : List ℕ) (es : List KeyEntry) → count_below key es ≤ length es
few_below key [] = omega arith
few_below key (e ∷ es) = by (is_below key e) refl (few_below key es)
  where
    by : (test : Bool) → is_below key e ≡ test → count_below key es ≤ length es → count_below key (e ∷ es) ≤ length (e ∷ es)
    by true is le = omega (arith, counts key e es is, le)
    by false is le = omega (arith, skips key e es is, le)

pub part_at : (parts : List KeyPart) (i : ℕ) → i < length parts → (part : KeyPart) × (slice_get parts i ≡ Some part)
part_at [] i lt = absurd (omega (arith, lt))
part_at (p ∷ ps) zero lt = (p, refl)
part_at (p ∷ ps) (suc i) lt = part_at ps i (omega (arith, lt))

module _ (parts : List KeyPart) (are : AreParts parts) (keys : Bor (List ℕ)) where
  pub no_key : (behind : ℕ) → behind ≡ 0 → behind_at (Key keys) (slice_get parts behind) ≡ true
      → (None ≡ find (has_key keys.now) (all_keys parts)) × (0 ≡ count_below keys.now (all_keys parts))
  no_key behind zero_is above =
      let none = none_behind None 0 keys.now parts are.numbered (rise None (all_keys parts) are.keys)
      (next_above keys.now keys parts refl (ap (λ (i : ℕ). behind_at (Key keys) (slice_get parts i)) (sym zero_is) ∙ above)) in
      (sym none.0, sym none.1)

  pub key_in : (behind i : ℕ) (part : KeyPart) → behind ≡ suc i → slice_get parts i ≡ Some part → IsUpTo (Key keys) parts behind → behind_at (Key keys) (slice_get parts behind) ≡ true
      → (find (has_key keys.now) (keys_in part) ≡ find (has_key keys.now) (all_keys parts))
      × (part.before + count_below keys.now (keys_in part) ≡ count_below keys.now (all_keys parts))
  key_in behind i part same is below above =
      let here : behind_at (Key keys) (slice_get parts i) ≡ false = subst (IsUpTo (Key keys) parts) same below in
      let low : begin_above keys.now (keys_in part) ≡ false = sym (ap (behind_at (Key keys)) is) ∙ here in
      let high : behind_at (Key keys) (slice_get parts (suc i)) ≡ true = ap (λ (j : ℕ). behind_at (Key keys) (slice_get parts j)) (sym same) ∙ above in
      let found = is_in None 0 keys parts i part are.numbered (rise None (all_keys parts) are.keys) is low high in
      (found.found, omega (arith, found.placed))

-- ---- the entry at an index

get_first : (xs ys : List KeyEntry) (k : ℕ) → k < length xs → slice_get (xs ++ ys) k ≡ slice_get xs k
get_first [] ys k lt = absurd (omega (arith, lt))
get_first (x ∷ xs) ys zero lt = refl
get_first (x ∷ xs) ys (suc k) lt = get_first xs ys k (omega (arith, lt))

get_behind : (xs ys : List KeyEntry) (k : ℕ) → slice_get (xs ++ ys) (length xs + k) ≡ slice_get ys k
get_behind [] ys k = ap (slice_get ys) (let z : length {A = KeyEntry} [] + k ≡ k = omega arith in z)
get_behind (x ∷ xs) ys k =
    let next : length (x ∷ xs) + k ≡ suc (length xs + k) = omega arith in
    ap (slice_get (x ∷ (xs ++ ys))) next ∙ get_behind xs ys k

pub record HasNth (before at : ℕ) (parts : List KeyPart) (part : KeyPart) : Type 0 where
  pub low : part.before ≤ at
  pub within : at - part.before < length (keys_in part)
  pub found : slice_get (keys_in part) (at - part.before) ≡ slice_get (all_keys parts) (at - before)
  pub from : before ≤ part.before

nth_next : (at before : ℕ) (parts : List KeyPart) → AreNumbered before parts → behind_at (At at) (slice_get parts 0) ≡ true → at - before < length (all_keys parts) → before ≤ at → ⊥
nth_next at before [] n above lt le = absurd (omega (arith, lt))
nth_next at before (p ∷ ps) n above lt le = let less : at < p.before = ltb-true _ _ above in omega (arith, less, n.0, le)

nth_in : (at before : ℕ) (parts : List KeyPart) (i : ℕ) (part : KeyPart) → AreNumbered before parts → slice_get parts i ≡ Some part → nat_lt at part.before ≡ false
    → behind_at (At at) (slice_get parts (suc i)) ≡ true → at - before < length (all_keys parts) → HasNth before at parts part
nth_in at before [] i part n is below above total = absurd cc
nth_in at before (p ∷ ps) zero part n is below above total =
    let same : p ≡ part = cc in
    let low : part.before ≤ at = ltb-false _ _ below in
    let low' : p.before ≤ at = subst (λ (q : KeyPart). q.before ≤ at) (sym same) low in
    let all = length-append (keys_in p) (all_keys ps) in
    let index : at - p.before ≡ at - before = ap (λ (m : ℕ). at - m) n.0 in
    let within : at - before < length (keys_in p) = by (nat_lt (at - before) (length (keys_in p))) refl low' all in
    subst (HasNth before at (p ∷ ps)) same
    (record {
      low = low';
      within = omega (arith, within, index);
      found = ap (slice_get (keys_in p)) index ∙ sym (get_first (keys_in p) (all_keys ps) (at - before) within);
      from = omega (arith, n.0);
    })
  where
    by : (test : Bool) → nat_lt (at - before) (length (keys_in p)) ≡ test → p.before ≤ at → length (all_keys (p ∷ ps)) ≡ length (keys_in p) + length (all_keys ps) → at - before < length (keys_in p)
    by true e le all = ltb-true _ _ e
    by false e le all =
        let more = ltb-false _ _ e in
        absurd (nth_next at (before + length (keys_in p)) ps n.2 above (omega (arith, more, total, all)) (omega (arith, more, le, n.0, n.1)))
nth_in at before (p ∷ ps) (suc i) part n is below above total =
    let low : part.before ≤ at = ltb-false _ _ below in
    let from = begins_from (before + length (keys_in p)) ps i part n.2 is in
    let all = length-append (keys_in p) (all_keys ps) in
    let more = nth_in at (before + length (keys_in p)) ps i part n.2 is below above (omega (arith, total, all, low, from)) in
    let split : length (keys_in p) + (at - (before + length (keys_in p))) ≡ at - before = omega (arith, more.low, more.from) in
    record {
      low = more.low;
      within = more.within;
      found = more.found ∙ sym (get_behind (keys_in p) (all_keys ps) (at - (before + length (keys_in p)))) ∙ ap (slice_get (keys_in p ++ all_keys ps)) split;
      from = omega (arith, more.from);
    }
  where
    begins_from : (before : ℕ) (parts : List KeyPart) (i : ℕ) (part : KeyPart) → AreNumbered before parts → slice_get parts i ≡ Some part → before ≤ part.before
    begins_from before [] i part n is = absurd cc
    begins_from before (p ∷ ps) zero part n is = let same : p ≡ part = cc in subst (λ (q : KeyPart). before ≤ q.before) same (omega (arith, n.0))
    begins_from before (p ∷ ps) (suc i) part n is = let more = begins_from (before + length (keys_in p)) ps i part n.2 is in omega (arith, more)

module _ (parts : List KeyPart) (are : AreParts parts) (at : ℕ) (total : at < length (all_keys parts)) where
  pub some_part : (behind : ℕ) → behind_at (At at) (slice_get parts behind) ≡ true → 1 ≤ behind
  some_part zero above = absurd (nth_next at 0 parts are.numbered above (omega (arith, total)) (omega arith))
  some_part (suc i) above = omega arith

  pub nth_key : (behind i : ℕ) (part : KeyPart) → behind ≡ suc i → slice_get parts i ≡ Some part → IsUpTo (At at) parts behind → behind_at (At at) (slice_get parts behind) ≡ true
      → HasNth 0 at parts part
  nth_key behind i part same is below above =
      let here : behind_at (At at) (slice_get parts i) ≡ false = subst (IsUpTo (At at) parts) same below in
      let low : nat_lt at part.before ≡ false = sym (ap (behind_at (At at)) is) ∙ here in
      let high : behind_at (At at) (slice_get parts (suc i)) ≡ true = ap (λ (j : ℕ). behind_at (At at) (slice_get parts j)) (sym same) ∙ above in
      nth_in at 0 parts i part are.numbered is low high (omega (arith, total))
