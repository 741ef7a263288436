-- The greatest store id that entries name, and whether all that they name are known.
use Rattle.std.proofs.Common.{◌≡◌, ◌⊎◌, inl, inr, ⊎_elim, ℕ, ◌≤◌, max, List, [], ◌∷◌, ◌++◌, Result, Ok, Err, OnOk, refl, sym, subst, arith}
use Rattle.std.specs.List.{All, AllByRecursion}
use Rattle.std.proofs.lemmas.Bool.{cases_lt}
use Rattle.std.proofs.lemmas.List.Elements.{All-cons, All-from_recursion, All-head, All-nil, All-push, All-tail, recursion_from_All}
use Rattle.hse_fields.specs.LogText as log
use Rattle.hse_fields.specs.LogText.{Entry}
use Rattle.hse_rows.specs.declared.change.Change.{Change}
use Rattle.hse_rows.specs.declared.change.Change.TheVariants.{Put, Del, PDel}
use Rattle.hse_rows.specs.declared.write.Write.{Write}
use Rattle.sorted_lists.specs.laws.Lists.{each-front, each-rest}
use Rattle.wal.specs.Logged.{logged_all, logged_change}
use Rattle.wal.specs.Stores.{OfEachStore}
use Rattle.recovery.specs.Layer.{IsGreatestNamed, IsGreatestOf}
use Rattle.recovery.specs.laws.Names.{named_below}

-- ---- writes

-- of a number and the store ids of writes the greatest
abbrev pub greatest_of : ℕ → List Write → ℕ
greatest_of number [] = number
greatest_of number (w ∷ ws) = greatest_of (max number w.store.0) ws

abbrev Within : ℕ → Write → Type 0
Within bound w = w.store.0 ≤ bound

pub is_greatest : (number : ℕ) (ws : List Write) → IsGreatestOf number ws (greatest_of number ws)
is_greatest number [] = record { grows = omega arith; above = tt; least = λ bound le all. le }
is_greatest number (w ∷ ws) =
    let rest = is_greatest (max number w.store.0) ws in
    record {
      grows = omega (arith, rest.grows);
      above = (omega (arith, rest.grows), rest.above);
      least = λ bound le all. rest.least bound (omega (arith, le, all.0)) all.1;
    }

-- what is so where a call succeeds, and what is so too
pub both_on_ok : {T E : Type 0} (r : Result T E) (P Q : Type 0) → OnOk r P → OnOk r Q → OnOk r (P × Q)
both_on_ok (Ok x) P Q p q = (p, q)
both_on_ok (Err e) P Q p q = tt

-- ---- entries

-- these changes name no store id above this one
abbrev Names : ℕ → List log.Change → Type 0
Names bound changes = All (λ (c : log.Change). c.store ≤ bound) changes

named_by : (store : ℕ) (change : Change) → (logged_change store change).store ≡ store
named_by store (Put key value) = refl
named_by store (Del key) = refl
named_by store (PDel prefix) = refl

named_all : (bound : ℕ) (ws : List Write) → AllByRecursion (Within bound) ws → AllByRecursion (λ (c : log.Change). c.store ≤ bound) (logged_all ws)
named_all bound [] all = tt
named_all bound (w ∷ ws) all = (subst (λ (n : ℕ). n ≤ bound) (sym (named_by w.store.0 w.change)) all.0, named_all bound ws all.1)

written_all : (bound : ℕ) (ws : List Write) → AllByRecursion (λ (c : log.Change). c.store ≤ bound) (logged_all ws) → AllByRecursion (Within bound) ws
written_all bound [] all = tt
written_all bound (w ∷ ws) all = (subst (λ (n : ℕ). n ≤ bound) (named_by w.store.0 w.change) all.0, written_all bound ws all.1)

-- no entry names a store
pub none_named : IsGreatestNamed [] 0
none_named = record { above = All-nil (λ (e : Entry). Names 0 e.changes); least = λ bound all. omega arith }

-- one commit more
pub named_more : (entries : List Entry) (old new number : ℕ) (ws : List Write) → IsGreatestNamed entries old → IsGreatestOf old ws new
    → IsGreatestNamed (entries ++ record { number = number; changes = logged_all ws } ∷ []) new
named_more entries old new number ws was now =
    let e : Entry = record { number = number; changes = logged_all ws } in
    record {
      above = All-push (λ (e : Entry). Names new e.changes) entries (record { number = number; changes = logged_all ws })
          (named_below old new entries now.grows was.above)
          (All-from_recursion (λ (c : log.Change). c.store ≤ new) (logged_all ws) (named_all new ws now.above));
      least = λ bound all.
          let each = recursion_from_All (λ (e : Entry). Names bound e.changes) (entries ++ record { number = number; changes = logged_all ws } ∷ []) all in
          let first = each-front (λ (e : Entry). Names bound e.changes) entries (record { number = number; changes = logged_all ws } ∷ []) each in
          let last = each-rest (λ (e : Entry). Names bound e.changes) entries (record { number = number; changes = logged_all ws } ∷ []) each in
          now.least bound (was.least bound (All-from_recursion (λ (e : Entry). Names bound e.changes) entries first))
          (written_all bound ws (recursion_from_All (λ (c : log.Change). c.store ≤ bound) (logged_all ws) last.0));
    }

-- ---- whether all are known

names_or_not : (bound : ℕ) (cs : List log.Change) → Names bound cs ⊎ ¬ Names bound cs
names_or_not bound [] = inl (All-nil (λ (c : log.Change). c.store ≤ bound))
names_or_not bound (c ∷ cs) = elim (cases_lt bound c.store) [
  | inl above ↦ inr (λ all. let le = All-head (λ (c : log.Change). c.store ≤ bound) c cs all in omega (arith, above, le))
  | inr le ↦
      ⊎_elim
      (λ (rest : Names bound cs). inl (All-cons (λ (c : log.Change). c.store ≤ bound) c cs (omega (arith, le)) rest))
      (λ (not : ¬ Names bound cs). inr (λ all. not (All-tail (λ (c : log.Change). c.store ≤ bound) c cs all)))
      (names_or_not bound cs)
]

pub known_or_not : (bound : ℕ) (entries : List Entry) → OfEachStore (λ (store : ℕ). store ≤ bound) entries ⊎ ¬ OfEachStore (λ (store : ℕ). store ≤ bound) entries
known_or_not bound [] = inl (All-nil (λ (e : Entry). Names bound e.changes))
known_or_not bound (e ∷ entries) =
    ⊎_elim
    (λ (first : Names bound e.changes).
    ⊎_elim
    (λ (rest : OfEachStore (λ (store : ℕ). store ≤ bound) entries). inl (All-cons (λ (e : Entry). Names bound e.changes) e entries first rest))
    (λ (not : ¬ OfEachStore (λ (store : ℕ). store ≤ bound) entries). inr (λ all. not (All-tail (λ (e : Entry). Names bound e.changes) e entries all)))
    (known_or_not bound entries))
    (λ (not : ¬ Names bound e.changes). inr (λ all. not (All-head (λ (e : Entry). Names bound e.changes) e entries all)))
    (names_or_not bound e.changes)
