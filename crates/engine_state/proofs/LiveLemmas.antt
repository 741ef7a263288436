-- The live transactions as the engine keeps them.
use Rattle.std.proofs.Common.{◌≡◌, refl, ◌∙◌, sym, ap, arith, ℕ, zero, suc, ◌+◌, ◌<◌, ◌≤◌, ◌==◌, Bool, true, false, cond, not, List, [], ◌∷◌, ◌++◌, length, map, set, slice_get, Some, None}
use Rattle.std.specs.List.{AllByRecursion, filter}
use Rattle.sorted_lists.specs.laws.Lists.{each-filter, filter-all}
use Rattle.hse_rows.specs.transactions.Transaction.{Transaction, TransactionState, is_active, begins, ended}
use Rattle.engine_state.specs.declared.live.LiveTxn.{LiveTxn}
use Rattle.std.specs.Prelude.{max}
use Rattle.std.proofs.lemmas.Bool.Decides.{nat_tests}
use Rattle.engine_state.specs.Kept.{least_of}
use Rattle.engine_state.specs.Serves.{live_of, AreBetween}

abbrev pub is_live : Transaction → Bool
is_live transaction = is_active transaction.state

abbrev pub is_not : ℕ → Transaction → Bool
is_not order transaction = not (transaction.begun == order)

pub between-push : (low high : ℕ) (txns : List LiveTxn) (txn : LiveTxn) → AreBetween low high txns → txn.snapshot ≡ high
    → AreBetween low high (txns ++ txn ∷ [])
between-push low high [] txn all is = (omega (arith, all, is), omega (arith, is))
between-push low high (one ∷ txns) txn all is = (all.0, between-push one.snapshot high txns txn all.1 is)

pub between-higher : (low high higher : ℕ) (txns : List LiveTxn) → high ≤ higher → AreBetween low high txns → AreBetween low higher txns
between-higher low high higher [] more all = omega (arith, all, more)
between-higher low high higher (one ∷ txns) more all = (all.0, between-higher one.snapshot high higher txns more all.1)

pub between-from : (lower low high : ℕ) (txns : List LiveTxn) → lower ≤ low → AreBetween low high txns → AreBetween lower high txns
between-from lower low high [] less all = omega (arith, all, less)
between-from lower low high (one ∷ txns) less all = (omega (arith, all.0, less), all.1)

pub between-filter : (low high : ℕ) (p : LiveTxn → Bool) (txns : List LiveTxn) → AreBetween low high txns → AreBetween low high (filter p txns)
between-filter low high p [] all = all
between-filter low high p (one ∷ txns) all =
    elim (p one) as (λ b. AreBetween low high (cond b (one ∷ filter p txns) (filter p txns))) [
      | true ↦ (all.0, between-filter one.snapshot high p txns all.1)
      | false ↦ between-from low one.snapshot high (filter p txns) all.0 (between-filter one.snapshot high p txns all.1)
    ]

pub live-push : (begun : List Transaction) (order number : ℕ)
    → map live_of (filter is_live (begun ++ begins order number ∷ [])) ≡ map live_of (filter is_live begun) ++ live_of (begins order number) ∷ []
live-push [] order number = refl
live-push (one ∷ begun) order number =
    elim (is_live one)
    as (λ b. map live_of (cond b (one ∷ filter is_live (begun ++ begins order number ∷ [])) (filter is_live (begun ++ begins order number ∷ [])))
    ≡ map live_of (cond b (one ∷ filter is_live begun) (filter is_live begun)) ++ live_of (begins order number) ∷ [])
    [ true ↦ ap (λ (l : List LiveTxn). live_of one ∷ l) (live-push begun order number) | false ↦ live-push begun order number ]

pub get-last : {X : Type 0} (xs : List X) (x : X) → slice_get (xs ++ x ∷ []) (length xs) ≡ Some x
get-last [] x = refl
get-last (y ∷ xs) x = get-last xs x

pub get-set : {X : Type 0} (xs : List X) (i : ℕ) (old new : X) → slice_get xs i ≡ Some old → slice_get (set xs i new) i ≡ Some new
get-set [] i old new at = absurd (let e : None ≡ Some old = at in cc)
get-set (x ∷ xs) zero old new at = refl
get-set (x ∷ xs) (suc i) old new at = get-set xs i old new at

-- ---- one transaction is live no more

-- each transaction stands at the place of its begin order, where the first has this one
abbrev pub ArePlaced : ℕ → List Transaction → Type 0
ArePlaced first begun = (i : ℕ) (transaction : Transaction) → slice_get begun i ≡ Some transaction → transaction.begun ≡ first + i

placed-rest : (first : ℕ) (one : Transaction) (begun : List Transaction) → ArePlaced first (one ∷ begun) → ArePlaced (first + 1) begun
placed-rest first one begun placed i transaction at =
    let e : transaction.begun ≡ first + suc i = placed (suc i) transaction at in
    omega (arith, e)

others-stay : (order first : ℕ) → order < first → (begun : List Transaction) → ArePlaced first begun
    → AllByRecursion (λ (t : Transaction). is_not order t ≡ true) (filter is_live begun)
others-stay order first less begun placed = each-filter (λ (t : Transaction). is_not order t ≡ true) is_live begun (all first less begun placed)
  where
    all : (first : ℕ) → order < first → (begun : List Transaction) → ArePlaced first begun → AllByRecursion (λ (t : Transaction). is_not order t ≡ true) begun
    all first less [] placed = tt
    all first less (one ∷ begun) placed =
        let e : one.begun ≡ first + 0 = placed zero one refl in
        (grind (arith, nat_tests, e, less), all (first + 1) (omega (arith, less)) begun (placed-rest first one begun placed))

pub live-ended : (first i : ℕ) (begun : List Transaction) (transaction : Transaction) (state : TransactionState)
    → ArePlaced first begun → slice_get begun i ≡ Some transaction → is_active state ≡ false
    → filter is_live (set begun i (ended transaction state)) ≡ filter (is_not (first + i)) (filter is_live begun)
live-ended first i [] transaction state placed at is = absurd (let e : None ≡ Some transaction = at in cc)
live-ended first zero (one ∷ begun) transaction state placed at is =
    let here : one.begun ≡ first + 0 = placed zero one refl in
    let rest : filter (is_not (first + 0)) (filter is_live begun) ≡ filter is_live begun =
    filter-all (is_not (first + 0)) (filter is_live begun)
    (others-stay (first + 0) (first + 1) (omega arith) begun (placed-rest first one begun placed)) in
    let off : is_not (first + 0) one ≡ false = grind (arith, nat_tests, here) in
    ap (λ b. cond b (ended transaction state ∷ filter is_live begun) (filter is_live begun)) is
    ∙ sym (by (is_live one) off rest)
  where
    by : (b : Bool) → is_not (first + 0) one ≡ false → filter (is_not (first + 0)) (filter is_live begun) ≡ filter is_live begun
        → filter (is_not (first + 0)) (cond b (one ∷ filter is_live begun) (filter is_live begun)) ≡ filter is_live begun
    by true off rest = ap (λ b. cond b (one ∷ filter (is_not (first + 0)) (filter is_live begun)) (filter (is_not (first + 0)) (filter is_live begun))) off ∙ rest
    by false off rest = rest
live-ended first (suc i) (one ∷ begun) transaction state placed at is =
    let here : one.begun ≡ first + 0 = placed zero one refl in
    let on : is_not (first + suc i) one ≡ true = grind (arith, nat_tests, here) in
    let shifted : first + 1 + i ≡ first + suc i = omega arith in
    let rest : filter is_live (set begun i (ended transaction state)) ≡ filter (is_not (first + suc i)) (filter is_live begun) =
    live-ended (first + 1) i begun transaction state (placed-rest first one begun placed) at is
    ∙ ap (λ n. filter (is_not n) (filter is_live begun)) shifted in
    by (is_live one) on rest
  where
    by : (b : Bool) → is_not (first + suc i) one ≡ true
        → filter is_live (set begun i (ended transaction state)) ≡ filter (is_not (first + suc i)) (filter is_live begun)
        → cond b (one ∷ filter is_live (set begun i (ended transaction state))) (filter is_live (set begun i (ended transaction state)))
        ≡ filter (is_not (first + suc i)) (cond b (one ∷ filter is_live begun) (filter is_live begun))
    by true on rest =
        ap (λ l. one ∷ l) rest
        ∙ sym (ap (λ b. cond b (one ∷ filter (is_not (first + suc i)) (filter is_live begun)) (filter (is_not (first + suc i)) (filter is_live begun))) on)
    by false on rest = rest

pub kept-filter : (order : ℕ) (txns : List Transaction)
    → filter (λ (t : LiveTxn). not (t.order == order)) (map live_of txns) ≡ map live_of (filter (is_not order) txns)
kept-filter order [] = refl
kept-filter order (one ∷ txns) =
    elim (is_not order one)
    as (λ b. cond b (live_of one ∷ filter (λ (t : LiveTxn). not (t.order == order)) (map live_of txns)) (filter (λ (t : LiveTxn). not (t.order == order)) (map live_of txns))
    ≡ map live_of (cond b (one ∷ filter (is_not order) txns) (filter (is_not order) txns)))
    [ true ↦ ap (λ (l : List LiveTxn). live_of one ∷ l) (kept-filter order txns) | false ↦ kept-filter order txns ]

-- ---- what the live ones ask for

pub between-least : (above number : ℕ) (txns : List LiveTxn) → AreBetween above number txns
    → AreBetween (max above (least_of number txns)) number txns
between-least above number [] all = grind (arith, all)
between-least above number (one ∷ txns) all = (grind (arith, all.0), all.1)
