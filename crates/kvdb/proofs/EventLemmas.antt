-- A life with a creation or a drop more, behind commits that wait: what a device stores of it, and what waits.
use Rattle.std.specs.List.{AllByRecursion, filter}
use Rattle.std.proofs.Common.{◌≡◌, ℕ, ◌+◌, ◌-◌, ◌≤◌, List, [], ◌∷◌, ◌++◌, length, take, refl, sym, ◌∙◌, ap, subst, arith}
use Rattle.std.proofs.lemmas.List.{append-nil, drop-append-le, length-append, length-drop}
use Rattle.std.proofs.Math.Seq.{take-length}
use Rattle.hse_rows.specs.states.State.{State, Store}
use Rattle.hse_rows.specs.states.History.{Event, commits, creates, drops, fold, folded, happened, last_number}
use Rattle.hse_rows.specs.laws.Folding.{fold-last, folded_push, folded-number}
use Rattle.hse_rows.specs.machine.Log.{Numbered, LogState}
use Rattle.hse_rows.specs.machine.Sizes.{Sizes}
use Rattle.hse_rows.specs.machine.Core.{Core, now, number_of}
use Rattle.hse_rows.specs.machine.Recorded.{commits_in, taken_in}
use Rattle.hse_rows.specs.transactions.Timeline.{with_event}
use Rattle.kvdb.specs.Found.{Entered, entered_at, entered_with, events_to, is_up_to, log_to, stored_at}
use Rattle.kvdb.specs.Growth.{Grows}
use Rattle.kvdb.specs.Pending.{IsPending, unsafe_events}
use Rattle.kvdb.specs.laws.Events.{commits_in-append, commits_in-below, taken_in-append, up_to-all, up_to-more}
use Rattle.kvdb.specs.laws.Growth.{stored-grown}
use Rattle.kvdb.proofs.EndLemmas.{all-append}
use Rattle.kvdb.proofs.StateLemmas.{fold-since}

-- an event without commits, that has a number of its own
pub record IsEntry (event : Event) : Type 0 where
  pub quiet : (number : ℕ) → commits_in number (event ∷ []) ≡ []
  pub takes : (number : ℕ) → taken_in number (event ∷ []) ≡ number ∷ []

pub creation_is : (name : List ℕ) (mode : _) (prefix : ℕ) → IsEntry (creates name mode prefix)
creation_is name mode prefix = record { quiet = λ number. refl; takes = λ number. refl }

pub drop_is : (id : ℕ) → IsEntry (drops id)
drop_is id = record { quiet = λ number. refl; takes = λ number. refl }

-- the manifest's entries of events behind commits
entered-behind : (sizes : Sizes) (state : State) (before : Entered) (number : ℕ) (events later : List Event) → taken_in number events ≡ []
    → entered_with sizes state before (events ++ later) ≡ entered_with sizes (folded state events) before later
entered-behind sizes state before number [] later none = refl
entered-behind sizes state before number (commits writes ∷ events) later none =
    entered-behind sizes (happened state (commits writes)) before (number + 1) events later none
entered-behind sizes state before number (creates name mode prefix_length ∷ events) later none = absurd cc
entered-behind sizes state before number (drops id ∷ events) later none = absurd cc

abbrev pub with_one : Core → Event → Core
with_one m event = record m { timeline = with_event m.timeline event }

module _ (m : Core) (event : Event) (is : IsEntry event) (from : m.timeline.base.number ≤ m.safe) (until : m.safe ≤ number_of m) where
  pub one_grows : Grows m (with_one m event)
  one_grows = record {
    sizes = refl;
    base = refl;
    more = event ∷ [];
    history = refl;
    log = ap (λ (l : List Numbered). record m.log { active = l })
        (sym (append-nil m.log.active) ∙ ap (λ (l : List Numbered). m.log.active ++ l) (sym (is.quiet (number_of m + 1))));
    manifest = refl;
    layout = refl;
    used_slots = refl;
    safe = refl;
    is_broken = refl;
    turn = refl;
    jobs = refl;
  }

  -- what the device has of it below its number stays
  pub stored_before : stored_at (with_one m event) (number_of m) ≡ stored_at m (number_of m)
  stored_before = stored-grown m (with_one m event) (number_of m) one_grows from until (omega arith)

  pub stored_safe : stored_at (with_one m event) m.safe ≡ stored_at m m.safe
  stored_safe = stored-grown m (with_one m event) m.safe one_grows from (omega arith) until

  pub number_next : number_of (with_one m event) ≡ number_of m + 1
  number_next = omega (arith, length-append m.timeline.history (event ∷ []))

  pub now_next : now (with_one m event) ≡ happened (now m) event
  now_next = folded_push m.timeline.base m.timeline.history event

  pub base_next : fold m.timeline.base (m.timeline.history ++ event ∷ []) (number_of m + 1) ≡ happened (now m) event
  base_next =
      ap (fold m.timeline.base (m.timeline.history ++ event ∷ [])) (sym number_next)
      ∙ fold-last m.timeline.base (m.timeline.history ++ event ∷ []) ∙ now_next

  -- ---- events above what is safe

  long : m.safe + 1 + length (unsafe_events m) ≡ number_of m + 1
  long = omega (arith, from, until, length-drop (m.safe - m.timeline.base.number) m.timeline.history)

  unsafe_next : unsafe_events (with_one m event) ≡ unsafe_events m ++ event ∷ []
  unsafe_next = drop-append-le (m.safe - m.timeline.base.number) m.timeline.history (event ∷ []) (omega (arith, until))

  pub commits_next : commits_in (m.safe + 1) (unsafe_events (with_one m event)) ≡ commits_in (m.safe + 1) (unsafe_events m)
  commits_next =
      ap (commits_in (m.safe + 1)) unsafe_next
      ∙ commits_in-append (m.safe + 1) (unsafe_events m) (event ∷ [])
      ∙ ap (λ (l : List Numbered). commits_in (m.safe + 1) (unsafe_events m) ++ l) (is.quiet (m.safe + 1 + length (unsafe_events m)))
      ∙ append-nil (commits_in (m.safe + 1) (unsafe_events m))

  module _ (none : taken_in (m.safe + 1) (unsafe_events m) ≡ []) where
    pub taken_next : taken_in (m.safe + 1) (unsafe_events (with_one m event)) ≡ (number_of m + 1) ∷ []
    taken_next =
        ap (taken_in (m.safe + 1)) unsafe_next
        ∙ taken_in-append (m.safe + 1) (unsafe_events m) (event ∷ [])
        ∙ ap (λ (l : List ℕ). l ++ taken_in (m.safe + 1 + length (unsafe_events m)) (event ∷ [])) none
        ∙ is.takes (m.safe + 1 + length (unsafe_events m))
        ∙ ap (λ (n : ℕ). n ∷ []) long

    events_next : events_to (with_one m event) (number_of m + 1) ≡ unsafe_events m ++ event ∷ []
    events_next =
        ap (take (number_of m + 1 - m.safe)) unsafe_next
        ∙ ap (λ (n : ℕ). take n (unsafe_events m ++ event ∷ []))
        (let e : number_of m + 1 - m.safe ≡ length (unsafe_events m ++ event ∷ []) =
        omega (arith, long, until, length-append (unsafe_events m) (event ∷ [])) in e)
        ∙ take-length (unsafe_events m ++ event ∷ [])

    -- the manifest has the event's entry
    pub entered_next : entered_at (with_one m event) (number_of m + 1)
        ≡ entered_with m.sizes (now m) (record { manifest = m.manifest; layout = m.layout }) (event ∷ [])
    entered_next =
        let before : Entered = record { manifest = m.manifest; layout = m.layout } in
        let safe : fold m.timeline.base (m.timeline.history ++ event ∷ []) m.safe ≡ fold m.timeline.base m.timeline.history m.safe =
        ap (λ s. s.base) stored_safe in
        (λ i. entered_with m.sizes (safe i) (record { manifest = m.manifest; layout = m.layout }) (events_next i))
        ∙ entered-behind m.sizes (fold m.timeline.base m.timeline.history m.safe) (record { manifest = m.manifest; layout = m.layout })
        (m.safe + 1) (unsafe_events m) (event ∷ []) none
        ∙ ap (λ (s : State). entered_with m.sizes s (record { manifest = m.manifest; layout = m.layout }) (event ∷ []))
        (fold-since m.timeline.base m.timeline.history m.safe)

  -- ---- the log

  pub log_next : (p : IsPending m) → log_to (number_of m + 1) m.log ≡ log_to (number_of m) m.log
  log_next p =
      ap (λ (l : List Numbered). record m.log { active = l })
      (all_up (number_of m + 1) (omega arith) ∙ sym (all_up (number_of m) (omega arith)))
    where
      up : (number : ℕ) → number_of m ≤ number → AllByRecursion (λ (commit : Numbered). commit.number ≤ number) m.log.active
      up number le =
          subst (AllByRecursion (λ (commit : Numbered). commit.number ≤ number)) (sym p.active)
          (all-append (λ (commit : Numbered). commit.number ≤ number) p.settled (commits_in (m.safe + 1) (unsafe_events m))
          (up_to-more m.safe number p.settled (omega (arith, until, le)) p.below)
          (commits_in-below number (m.safe + 1) (unsafe_events m) (omega (arith, long, le))))

      all_up : (number : ℕ) → number_of m ≤ number → filter (is_up_to number) m.log.active ≡ m.log.active
      all_up number le = up_to-all number m.log.active (up number le)
