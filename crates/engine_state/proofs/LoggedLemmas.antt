-- One commit more: what the engine keeps of it, and what the machine's log and history have.
use Rattle.std.proofs.Common.{◌≡◌, refl, ◌∙◌, ap, subst, arith, ℕ, ◌+◌, ◌-◌, ◌≤◌, List, [], ◌∷◌, ◌++◌, length, length-append}
use Rattle.std.proofs.lemmas.List.{drop-append-le, length-drop, map-append}
use Rattle.std.proofs.lemmas.Grind.{flat_map-append}
use Rattle.std.proofs.lemmas.List.Sums.{sum_by-append}
use Rattle.std.specs.List.{flat_map}
use Rattle.hse_fields.specs.LogText as log
use Rattle.hse_rows.specs.declared.write.Write.{Write}
use Rattle.hse_rows.specs.writes.Charge.{charge_of}
use Rattle.hse_rows.specs.states.State.{State}
use Rattle.hse_rows.specs.states.History.{Event, commits, creates, drops, last_number, events_since}
use Rattle.hse_rows.specs.states.Rooted.{AreRooted, AreUpTo, writes_in}
use Rattle.hse_rows.specs.machine.Log.{Numbered, charge_of_commits}
use Rattle.hse_rows.specs.machine.Recorded.{commits_in}
use Rattle.wal.specs.Logged.{entry_with}
use Rattle.wal.specs.Waits.{waiting_of, with_entry}
use Rattle.engine_state.specs.Serves.{entries_of}

abbrev pub numbered : ℕ → List Write → Numbered
numbered number writes = record { number = number; writes = writes }

-- ---- commits of a history

pub commits_in-push : (number : ℕ) (events : List Event) (writes : List Write)
    → commits_in number (events ++ commits writes ∷ []) ≡ commits_in number events ++ numbered (number + length events) writes ∷ []
commits_in-push number [] writes = ap (λ (n : ℕ). numbered n writes ∷ []) (omega arith)
commits_in-push number (commits ws ∷ events) writes =
    ap (λ (l : List Numbered). numbered number ws ∷ l)
    (commits_in-push (number + 1) events writes
    ∙ ap (λ (n : ℕ). commits_in (number + 1) events ++ numbered n writes ∷ []) (omega arith))
commits_in-push number (creates name mode prefix ∷ events) writes =
    commits_in-push (number + 1) events writes
    ∙ ap (λ (n : ℕ). commits_in (number + 1) events ++ numbered n writes ∷ []) (omega arith)
commits_in-push number (drops id ∷ events) writes =
    commits_in-push (number + 1) events writes
    ∙ ap (λ (n : ℕ). commits_in (number + 1) events ++ numbered n writes ∷ []) (omega arith)

-- an event that is no commit
pub commits_in-create : (number : ℕ) (events : List Event) (event : Event) → ((n : ℕ) → commits_in n (event ∷ []) ≡ [])
    → commits_in number (events ++ event ∷ []) ≡ commits_in number events
commits_in-create number [] event none = none number
commits_in-create number (commits ws ∷ events) event none =
    ap (λ (l : List Numbered). numbered number ws ∷ l) (commits_in-create (number + 1) events event none)
commits_in-create number (creates name mode prefix ∷ events) event none = commits_in-create (number + 1) events event none
commits_in-create number (drops id ∷ events) event none = commits_in-create (number + 1) events event none

-- ---- commits above a number

module _ (base : State) (history : List Event) (number : ℕ) (low : base.number ≤ number) (high : number ≤ last_number base history) where
  since-push : (event : Event) → events_since base (history ++ event ∷ []) number ≡ events_since base history number ++ event ∷ []
  since-push event = drop-append-le (number - base.number) history (event ∷ []) (omega (arith, low, high))

  pub above-push : (writes : List Write)
      → commits_in (number + 1) (events_since base (history ++ commits writes ∷ []) number)
      ≡ commits_in (number + 1) (events_since base history number) ++ numbered (last_number base history + 1) writes ∷ []
  above-push writes =
      let len : length (events_since base history number) ≡ length history - (number - base.number) = length-drop (number - base.number) history in
      ap (commits_in (number + 1)) (since-push (commits writes))
      ∙ commits_in-push (number + 1) (events_since base history number) writes
      ∙ ap (λ (n : ℕ). commits_in (number + 1) (events_since base history number) ++ numbered n writes ∷ []) (omega (arith, len, low, high))

  pub above-create : (event : Event) → ((n : ℕ) → commits_in n (event ∷ []) ≡ [])
      → commits_in (number + 1) (events_since base (history ++ event ∷ []) number) ≡ commits_in (number + 1) (events_since base history number)
  above-create event none =
      ap (commits_in (number + 1)) (since-push event) ∙ commits_in-create (number + 1) (events_since base history number) event none

-- ---- what waits

pub waiting-push : (these : List Numbered) (number : ℕ) (writes : List Write)
    → waiting_of (entries_of (these ++ numbered number writes ∷ [])) ≡ with_entry (waiting_of (entries_of these)) (entry_with number writes)
waiting-push these number writes =
    let entry = entry_with number writes in
    let more : entries_of (these ++ numbered number writes ∷ []) ≡ entries_of these ++ entry ∷ [] =
    map-append (λ (commit : Numbered). entry_with commit.number commit.writes) these (numbered number writes ∷ []) in
    let count : length (entries_of (these ++ numbered number writes ∷ [])) ≡ length (entries_of these) + 1 =
    ap length more ∙ length-append (entries_of these) (entry ∷ []) in
    let text : flat_map log.entry_text (entries_of (these ++ numbered number writes ∷ [])) ≡ flat_map log.entry_text (entries_of these) ++ log.entry_text entry =
    ap (flat_map log.entry_text) more ∙ flat_map-append log.entry_text (entries_of these) (entry ∷ [])
    ∙ ap (λ l. flat_map log.entry_text (entries_of these) ++ l) (append-none (log.entry_text entry)) in
    λ i. record { count = count i; text = text i }
  where
    append-none : (xs : List ℕ) → xs ++ [] ≡ xs
    append-none [] = refl
    append-none (x ∷ xs) = ap (λ l. x ∷ l) (append-none xs)

-- ---- charges

pub charge-push : (active : List Numbered) (number : ℕ) (writes : List Write)
    → charge_of_commits (active ++ numbered number writes ∷ []) ≡ charge_of_commits active + charge_of writes
charge-push active number writes =
    let both : charge_of_commits (active ++ numbered number writes ∷ []) ≡ charge_of_commits active + (0 + charge_of writes) =
    sum_by-append (λ (commit : Numbered). charge_of commit.writes) active (numbered number writes ∷ []) in
    let same : 0 + charge_of writes ≡ charge_of writes = omega arith in
    both ∙ ap (λ (n : ℕ). charge_of_commits active + n) same

-- ---- stores of a commit's writes

pub rooted-last : (number : ℕ) (events : List Event) (event : Event) → AreRooted number (events ++ event ∷ [])
    → AreUpTo (number + length events) (writes_in event)
rooted-last number [] event rooted = subst (λ n. AreUpTo n (writes_in event)) (omega arith) rooted.0
rooted-last number (one ∷ events) event rooted =
    subst (λ n. AreUpTo n (writes_in event)) (omega arith) (rooted-last (number + 1) events event rooted.1)
