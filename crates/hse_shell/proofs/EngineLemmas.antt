-- What an engine stands for after a commit, and after a flush.
use Rattle.std.proofs.Common.{◌≡◌, ℕ, ◌+◌, ◌≤◌, List, [], ◌∷◌, ◌++◌, length, drop, refl, sym, ap, ◌∙◌, arith, length-append, length-drop}
use Rattle.std.proofs.Math.ListN.{drop_of_length-le}
use Rattle.std.proofs.Math.Seq.{drop-length}
use Rattle.std.proofs.lemmas.List.{drop-append-le}
use Rattle.std.proofs.lemmas.List.Sums.{sum_by_push}
use Rattle.hse_fields.specs.LogForm.{IsChange}
use Rattle.hse_shell.specs.Change.{Change, Contents, put, del, applied}
use Rattle.hse_shell.specs.LogText.{logged, entry_text, entries_text, charge_of}
use Rattle.hse_shell.specs.Machine.{Machine, committed, flushed, unsynced, room}
use Rattle.hse_shell.specs.Stands.{Stands, AreLogged, first_waiting}
use Rattle.hse_shell.specs.Stored.{longest_value}
use Rattle.hse_shell.specs.declared.engine.Engine.{Engine}
use Rattle.hse_shell.proofs.AfterLemmas.{after-append}
use Rattle.hse_shell.proofs.EntryLemmas.{charge_of-put, entries_text-push}

pub logged-push : (changes : List Change) (change : Change) → AreLogged changes → IsChange longest_value (logged change) → AreLogged (changes ++ change ∷ [])
logged-push [] change all new = (new, tt)
logged-push (first ∷ changes) change all new = (all.0, logged-push changes change all.1 new)

-- a put for which there is room is one that the log may have
pub put_is_logged : (key value : List ℕ) (charges : ℕ) → 1 ≤ length key → length key ≤ 1344 → charges + charge_of (put key value) ≤ room
    → IsChange longest_value (logged (put key value))
put_is_logged key value charges some short fits =
    let charge = charge_of-put key value in
    record { store = omega arith; some_name = some; short_name = short; value_fits = omega (arith, charge, fits) }

pub del_is_logged : (key : List ℕ) → 1 ≤ length key → length key ≤ 1344 → IsChange longest_value (logged (del key))
del_is_logged key some short = record { store = omega arith; some_name = some; short_name = short; value_fits = refl }

-- one commit more
pub Stands-committed : (old new : Engine) (m : Machine) (change : Change) → Stands old m → new.rows ≡ applied old.rows change → new.number ≡ old.number + 1
    → new.charges ≡ old.charges + charge_of change → new.count ≡ old.count + 1
    → drop 4 new.waiting.items ≡ drop 4 old.waiting.items ++ entry_text (old.number + 1) change
    → IsChange longest_value (logged change) → Stands new (committed m change)
Stands-committed old new m change s rows number charges count waiting may =
    let later : unsynced (committed m change) ≡ unsynced m ++ change ∷ [] = drop-append-le m.synced m.history (change ∷ []) s.synced in
    let longer : length (m.history ++ change ∷ []) ≡ length m.history + 1 = length-append m.history (change ∷ []) in
    let behind : old.number + 1 ≡ first_waiting m + length (unsynced m) = omega (arith, s.number, s.synced, length-drop m.synced m.history) in
    record {
      rows = rows ∙ ap (λ (c : Contents). applied c change) s.rows ∙ sym (after-append m.base.contents m.history (change ∷ []));
      number = omega (arith, number, s.number, longer);
      charges = omega (arith, charges, s.charges, sum_by_push charge_of m.history change);
      count = omega (arith, count, s.count, ap length later, length-append (unsynced m) (change ∷ []));
      waiting = waiting ∙ ap (λ (l : List ℕ). l ++ entry_text (old.number + 1) change) s.waiting
          ∙ ap (λ (n : ℕ). entries_text (first_waiting m) (unsynced m) ++ entry_text n change) behind
          ∙ sym (entries_text-push (first_waiting m) (unsynced m) change)
          ∙ ap (entries_text (first_waiting m)) (sym later);
      synced = omega (arith, s.synced, longer);
      logged = logged-push m.history change s.logged may;
    }

-- Nothing waits any more.
pub Stands-flushed : (old new : Engine) (m : Machine) → Stands old m → new.rows ≡ old.rows → new.number ≡ old.number
    → new.charges ≡ old.charges → new.count ≡ 0 → length new.waiting.items ≤ 4 → Stands new (flushed m)
Stands-flushed old new m s rows number charges count waiting =
    let none : unsynced (flushed m) ≡ [] = drop-length m.history in
    let empty : drop 4 new.waiting.items ≡ [] = drop_of_length-le new.waiting.items {i = 4} waiting in
    record {
      rows = rows ∙ s.rows;
      number = number ∙ s.number;
      charges = charges ∙ s.charges;
      count = count ∙ sym (ap length none);
      waiting = empty ∙ sym (ap (entries_text (first_waiting (flushed m))) none);
      synced = omega arith;
      logged = s.logged;
    }
