-- One of the live transactions leaves, found by its begin order.
use Rattle.std.proofs.Common.{◌≡◌, ◌≤◌, ◌<◌, ◌+◌, ◌==◌, refl, sym, ap, ◌∙◌, subst, arith, ℕ, zero, suc, Bool, true, false, cond, not, nat_lt, List, [], ◌∷◌, ◌++◌, length, take, drop, map, get_or, Err}
use Rattle.std.proofs.lemmas.Bool.Decides.{nat_tests}
use Rattle.std.proofs.lemmas.Cmp.{nat_cmp_total}
use Rattle.std.proofs.lemmas.List.Sorted.{searchable_from_sorted}
use Rattle.std.specs.List.{AllByRecursion, filter, remove}
use Rattle.std.specs.List.Sorted.{IsBinarySearchResult, IsNonDecreasingBy, IsPartitionPoint}
use Rattle.std.specs.Ordering.{nat_cmp, ordering_index, is_lt}
use Rattle.std.specs.declared.cmp.Ordering.{Ordering}
use Rattle.std.specs.declared.cmp.Ordering.TheVariants.{Less, Equal, Greater}
use Rattle.sorted_lists.specs.laws.Lists.{filter-all}
use Rattle.hse_rows.specs.transactions.Transaction.{Transaction}
use Rattle.hse_rows.specs.machine.Core.{Core, live}
use Rattle.engine_state.specs.declared.live.LiveTxn.{LiveTxn}
use Rattle.engine_state.specs.Kept.{AreInOrder}
use Rattle.engine_state.specs.Serves.{IsSound, live_of}
use Rattle.engine_state.proofs.LiveLemmas.{is_live, ArePlaced}
use Rattle.engine_state.proofs.SoundLemmas.{placed}

abbrev is_other : ℕ → LiveTxn → Bool
is_other order txn = not (txn.order == order)

later-stay : (order low : ℕ) → order < low → (txns : List LiveTxn) → AreInOrder low txns → AllByRecursion (λ (t : LiveTxn). is_other order t ≡ true) txns
later-stay order low less [] all = tt
later-stay order low less (txn ∷ txns) all =
    (grind (arith, nat_tests, all.0, less), later-stay order (txn.order + 1) (omega (arith, all.0, less)) txns all.1)

in-rest : (low : ℕ) (txns : List LiveTxn) (i : ℕ) (d : LiveTxn) → AreInOrder low txns → i < length txns → low ≤ (get_or txns i d).order
in-rest low [] i d all less = absurd (omega (arith, less))
in-rest low (txn ∷ txns) zero d all less = all.0
in-rest low (txn ∷ txns) (suc i) d all less =
    let rest : txn.order + 1 ≤ (get_or txns i d).order = in-rest (txn.order + 1) txns i d all.1 (omega (arith, less)) in
    omega (arith, rest, all.0)

-- the one that was found is the only one
only : (low : ℕ) (txns : List LiveTxn) (i : ℕ) (d : LiveTxn) (order : ℕ) → AreInOrder low txns → i < length txns
    → (get_or txns i d).order ≡ order → remove txns i ≡ filter (is_other order) txns
only low [] i d order all less is = absurd (omega (arith, less))
only low (txn ∷ txns) zero d order all less is =
    let here : txn.order ≡ order = is in
    let off : is_other order txn ≡ false = grind (arith, nat_tests, here) in
    sym (ap (λ b. cond b (txn ∷ filter (is_other order) txns) (filter (is_other order) txns)) off
    ∙ filter-all (is_other order) txns (later-stay order (txn.order + 1) (omega (arith, here)) txns all.1))
only low (txn ∷ txns) (suc i) d order all less is =
    let up : txn.order + 1 ≤ (get_or txns i d).order = in-rest (txn.order + 1) txns i d all.1 (omega (arith, less)) in
    let there : (get_or txns i d).order ≡ order = is in
    let on : is_other order txn ≡ true = grind (arith, nat_tests, up, there) in
    ap (λ (l : List LiveTxn). txn ∷ l) (only (txn.order + 1) txns i d order all.1 (omega (arith, less)) is)
    ∙ sym (ap (λ b. cond b (txn ∷ filter (is_other order) txns) (filter (is_other order) txns)) on)

pub removed : (txns : List LiveTxn) (i : ℕ) (d : LiveTxn) (order : ℕ) → AreInOrder 0 txns → i < length txns → (get_or txns i d).order ≡ order
    → take i txns ++ drop (i + 1) txns ≡ filter (is_other order) txns
removed txns i d order all less is =
    let next : i + 1 ≡ suc i = omega arith in
    ap (λ (n : ℕ). take i txns ++ drop n txns) next ∙ only 0 txns i d order all less is

-- ---- where none is found

next-rises : (low : ℕ) (txns : List LiveTxn) → AreInOrder low txns → (k : ℕ) (d : LiveTxn) → k + 1 < length txns
    → is_lt (nat_cmp (get_or txns (k + 1) d).order (get_or txns k d).order) ≡ false
next-rises low [] all k d less = absurd (omega (arith, less))
next-rises low (txn ∷ txns) all zero d less =
    let up : txn.order + 1 ≤ (get_or txns 0 d).order = in-rest (txn.order + 1) txns 0 d all.1 (omega (arith, less)) in
    let off : nat_lt (get_or txns 0 d).order txn.order ≡ false = grind (arith, nat_tests, up) in
    let apart : ((get_or txns 0 d).order == txn.order) ≡ false = grind (arith, nat_tests, up) in
    ap (λ b. is_lt (cond b Less (cond ((get_or txns 0 d).order == txn.order) Equal Greater))) off ∙ ap (λ b. is_lt (cond b Equal Greater)) apart
next-rises low (txn ∷ txns) all (suc k) d less =
    let next : suc k + 1 ≡ suc (k + 1) = omega arith in
    subst (λ (n : ℕ). is_lt (nat_cmp (get_or (txn ∷ txns) n d).order (get_or txns k d).order) ≡ false) (sym next)
    (next-rises (txn.order + 1) txns all.1 k d (omega (arith, less)))

searchable : (txns : List LiveTxn) (order : ℕ) → AreInOrder 0 txns → IsNonDecreasingBy (λ (t : LiveTxn). ordering_index (nat_cmp t.order order)) txns
searchable txns order all =
    searchable_from_sorted nat_cmp_total (λ (t : LiveTxn). t.order) txns order (λ k d low less. next-rises 0 txns all k d less)

each-by : (p : LiveTxn → Bool) (txns : List LiveTxn) → ((k : ℕ) (d : LiveTxn) → k < length txns → p (get_or txns k d) ≡ true)
    → AllByRecursion (λ (t : LiveTxn). p t ≡ true) txns
each-by p [] all = tt
each-by p (txn ∷ txns) all = (all zero txn (omega arith), each-by p txns (λ k d less. all (suc k) d (omega (arith, less))))

apart : (x y : ℕ) (o : Ordering) → nat_cmp x y ≡ o → (Equal ≡ o → ⊥) → not (x == y) ≡ true
apart x y o is other = by (x == y) refl
  where
    by : (b : Bool) → (x == y) ≡ b → not b ≡ true
    by false same = refl
    by true same =
        let off : nat_lt x y ≡ false = grind (arith, nat_tests, same) in
        absurd (other (sym (ap (λ b. cond b Less (cond (x == y) Equal Greater)) off ∙ ap (λ b. cond b Equal Greater) same) ∙ is))

pub absent : (txns : List LiveTxn) (i order : ℕ) → AreInOrder 0 txns → IsBinarySearchResult (λ (t : LiveTxn). nat_cmp t.order order) txns (Err i)
    → txns ≡ filter (is_other order) txns
absent txns i order all result =
    let parts = result (searchable txns order all) in
    sym (filter-all (is_other order) txns (each-by (is_other order) txns (λ k d less. by parts k d less (nat_lt k i) refl)))
  where
    by : IsPartitionPoint (λ (t : LiveTxn). nat_cmp t.order order ≡ Less) (λ (t : LiveTxn). nat_cmp t.order order ≡ Greater) txns i
        → (k : ℕ) (d : LiveTxn) → k < length txns → (b : Bool) → nat_lt k i ≡ b → is_other order (get_or txns k d) ≡ true
    by parts k d less true below =
        apart (get_or txns k d).order order Less (parts.0 k d (omega arith) (grind (arith, nat_tests, below))) (λ e. absurd cc)
    by parts k d less false below =
        apart (get_or txns k d).order order Greater (parts.1 k d (grind (arith, nat_tests, below)) less) (λ e. absurd cc)

pub equal-is : (x y : ℕ) → nat_cmp x y ≡ Equal → x ≡ y
equal-is x y is = by (nat_lt x y) (x == y) refl is
  where
    by : (less same : Bool) → (x == y) ≡ same → cond less Less (cond same Equal Greater) ≡ Equal → x ≡ y
    by true same eq is = absurd cc
    by false true eq is = grind (arith, nat_tests, eq)
    by false false eq is = absurd cc

-- ---- the live ones are in order

placed-rest : (first : ℕ) (one : Transaction) (begun : List Transaction) → ArePlaced first (one ∷ begun) → ArePlaced (first + 1) begun
placed-rest first one begun at_place i transaction at =
    let e : transaction.begun ≡ first + suc i = at_place (suc i) transaction at in
    omega (arith, e)

order-from : (lower low : ℕ) → lower ≤ low → (txns : List LiveTxn) → AreInOrder low txns → AreInOrder lower txns
order-from lower low less [] all = tt
order-from lower low less (txn ∷ txns) all = (omega (arith, less, all.0), all.1)

pub live-in-order : (first : ℕ) (begun : List Transaction) → ArePlaced first begun → AreInOrder first (map live_of (filter is_live begun))
live-in-order first [] at_place = tt
live-in-order first (one ∷ begun) at_place =
    let here : one.begun ≡ first + 0 = at_place zero one refl in
    let rest : AreInOrder (first + 1) (map live_of (filter is_live begun)) = live-in-order (first + 1) begun (placed-rest first one begun at_place) in
    by (is_live one) here rest
  where
    by : (b : Bool) → one.begun ≡ first + 0 → AreInOrder (first + 1) (map live_of (filter is_live begun))
        → AreInOrder first (map live_of (cond b (one ∷ filter is_live begun) (filter is_live begun)))
    by true here rest = (omega (arith, here), order-from (one.begun + 1) (first + 1) (omega (arith, here)) (map live_of (filter is_live begun)) rest)
    by false here rest = order-from first (first + 1) (omega arith) (map live_of (filter is_live begun)) rest

pub in-order : (m : Core) → IsSound m → (txns : List LiveTxn) → txns ≡ map live_of (live m) → AreInOrder 0 txns
in-order m sound txns is = subst (AreInOrder 0) (sym is) (live-in-order 0 m.timeline.begun (placed m sound))
