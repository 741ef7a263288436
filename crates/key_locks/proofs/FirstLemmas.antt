-- The first commit of a history that overlaps, and the first begun transaction that passes a test.
use Rattle.std.proofs.Common.{◌≡◌, ℕ, zero, suc, ◌+◌, ◌≤◌, Bool, true, false, cond, drop, List, [], ◌∷◌, Option, Some, None, refl, sym, ◌∙◌, ap, arith}
use Rattle.std.specs.List.{slice_get, find}
use Rattle.std.specs.Option.{IfSome}
use Rattle.std.proofs.Math.Bool.{true≢false}
use Rattle.std.proofs.lemmas.Option.{same_Some}
use Rattle.hse_rows.specs.declared.write.Write.{Write}
use Rattle.hse_rows.specs.writes.Overlap.{overlaps_some}
use Rattle.hse_rows.specs.states.History.{Event, commits, creates, drops}
use Rattle.hse_rows.specs.transactions.Transaction.{Transaction}
use Rattle.hse_rows.specs.transactions.Conflict.{first_overlap}
use Rattle.key_locks.specs.Holders.{IsFirst}
use Rattle.key_locks.specs.Standing.{written}

pub one_first : (kind : ℕ → Type 0) (one other : Option ℕ) → IsFirst kind one → IsFirst kind other → one ≡ other
one_first kind None None is also = refl
one_first kind None (Some n) is also = absurd (is.least n also.found)
one_first kind (Some n) None is also = absurd (also.least n is.found)
one_first kind (Some a) (Some b) is also =
    let up : a ≤ b = is.least b also.found in
    let down : b ≤ a = also.least a is.found in
    ap Some (omega (arith, up, down))

found-as : (kind other : ℕ → Type 0) → ((n : ℕ) → kind n → other n) → (first : Option ℕ) → IfSome first kind → IfSome first other
found-as kind other leads None is = tt
found-as kind other leads (Some n) is = leads n is

pub first-as : (kind other : ℕ → Type 0) → ((n : ℕ) → kind n → other n) → ((n : ℕ) → other n → kind n) → (first : Option ℕ)
    → IsFirst kind first → IsFirst other first
first-as kind other there back first is = record {
  least = λ n at. is.least n (back n at);
  found = found-as kind other there first is.found;
}

-- ---- the commits of a history

-- something overlaps the event at a place, numbered from this on
abbrev pub At : Write → ℕ → List Event → ℕ → Type 0
At write number events n = (i : ℕ) × ((n ≡ number + i) × (overlaps_some write (written (slice_get events i)) ≡ true))

first-here : (write : Write) (number : ℕ) (event : Event) (events : List Event) → overlaps_some write (written (Some event)) ≡ true
    → IsFirst (At write number (event ∷ events)) (Some number)
first-here write number event events over = record {
  least = λ n at. (let is = at.1.0 in omega (arith, is));
  found = (zero, (omega arith, over));
}

first-later : (write : Write) (number : ℕ) (event : Event) (events : List Event) (first : Option ℕ)
    → overlaps_some write (written (Some event)) ≡ false → IsFirst (At write (number + 1) events) first
    → IsFirst (At write number (event ∷ events)) first
first-later write number event events first apart is =
    first-as (At write (number + 1) events) (At write number (event ∷ events)) there back first is
  where
    there : (n : ℕ) → At write (number + 1) events n → At write number (event ∷ events) n
    there n (i, (same, over)) = (suc i, (omega (arith, same), over))

    back : (n : ℕ) → At write number (event ∷ events) n → At write (number + 1) events n
    back n (zero, (same, over)) = absurd (true≢false (sym over ∙ apart))
    back n (suc i, (same, over)) = (i, (omega (arith, same), over))

pub first_overlap-is : (write : Write) (number : ℕ) (events : List Event) → IsFirst (At write number events) (first_overlap write number events)
first_overlap-is write number [] = record { least = λ n at. true≢false (sym at.1.1); found = tt }
first_overlap-is write number (commits writes ∷ events) =
    by (first_overlap-is write (number + 1) events) (overlaps_some write writes) refl
  where
    by : IsFirst (At write (number + 1) events) (first_overlap write (number + 1) events)
        → (b : Bool) → overlaps_some write writes ≡ b
        → IsFirst (At write number (commits writes ∷ events)) (cond b (Some number) (first_overlap write (number + 1) events))
    by rest true over = first-here write number (commits writes) events over
    by rest false apart = first-later write number (commits writes) events (first_overlap write (number + 1) events) apart rest
first_overlap-is write number (creates name mode prefix_length ∷ events) =
    first-later write number (creates name mode prefix_length) events (first_overlap write (number + 1) events) refl (first_overlap-is write (number + 1) events)
first_overlap-is write number (drops id ∷ events) =
    first-later write number (drops id) events (first_overlap write (number + 1) events) refl (first_overlap-is write (number + 1) events)

pub get-drop : {X : Type 0} (n : ℕ) (xs : List X) (i : ℕ) → slice_get (drop n xs) i ≡ slice_get xs (n + i)
get-drop zero xs i =
    let all : i ≡ zero + i = omega arith in
    ap (slice_get xs) all
get-drop (suc n) [] i = refl
get-drop (suc n) (x ∷ xs) i =
    let next : suc (n + i) ≡ suc n + i = omega arith in
    get-drop n xs i ∙ ap (slice_get (x ∷ xs)) next

-- ---- the first begun

abbrev pub begun_of : Option Transaction → Option ℕ
begun_of None = None
begun_of (Some transaction) = Some transaction.begun

-- a transaction that passes a test, at a place numbered from this on
abbrev pub Passes : (Transaction → Bool) → ℕ → List Transaction → ℕ → Type 0
Passes test number begun n =
    (i : ℕ) × ((n ≡ number + i) × ((transaction : Transaction) × ((slice_get begun i ≡ Some transaction) × (test transaction ≡ true))))

pub find-is : (test : Transaction → Bool) (number : ℕ) (begun : List Transaction)
    → ((i : ℕ) (transaction : Transaction) → slice_get begun i ≡ Some transaction → transaction.begun ≡ number + i)
    → IsFirst (Passes test number begun) (begun_of (find test begun))
find-is test number [] placed = record { least = λ n at. none_is at.0 at.1.1.0 at.1.1.1.0; found = tt }
  where
    none_is : (i : ℕ) (transaction : Transaction) → slice_get [] i ≡ Some transaction → ⊥
    none_is i transaction at = cc
find-is test number (first ∷ begun) placed =
    by (find-is test (number + 1) begun (λ i transaction at. let is = placed (suc i) transaction at in omega (arith, is))) (test first) refl
  where
    by : IsFirst (Passes test (number + 1) begun) (begun_of (find test begun)) → (b : Bool) → test first ≡ b
        → IsFirst (Passes test number (first ∷ begun)) (begun_of (cond b (Some first) (find test begun)))
    by rest true passes =
        let at : first.begun ≡ number = (let is = placed zero first refl in omega (arith, is)) in
        record {
          least = λ n one. (let is = one.1.0 in omega (arith, is, at));
          found = (zero, (omega (arith, at), (first, (refl, passes))));
        }
    by rest false fails =
        first-as (Passes test (number + 1) begun) (Passes test number (first ∷ begun)) there back (begun_of (find test begun)) rest
      where
        there : (n : ℕ) → Passes test (number + 1) begun n → Passes test number (first ∷ begun) n
        there n (i, (same, one)) = (suc i, (omega (arith, same), one))

        back : (n : ℕ) → Passes test number (first ∷ begun) n → Passes test (number + 1) begun n
        back n (zero, (same, (transaction, (at, passes)))) =
            absurd (true≢false (sym passes ∙ sym (ap test (same_Some first transaction at)) ∙ fails))
        back n (suc i, (same, one)) = (i, (omega (arith, same), one))
