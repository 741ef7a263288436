-- What the end of a turn leads to.
use Rattle.std.specs.List.{AllByRecursion}
use Rattle.std.proofs.Common.{◌≡◌, ◌⊎◌, ⊎_elim, ℕ, zero, suc, ◌+◌, ◌-◌, ◌≤◌, false, List, [], ◌∷◌, ◌++◌, length, take, drop, refl, sym, ◌∙◌, ap, subst, arith, append_assoc}
use Rattle.std.proofs.lemmas.List.{take-append-drop, length-drop, length-take-le}
use Rattle.std.proofs.Math.Seq.{drop-nil}
use Rattle.hse_rows.specs.states.History.{Event, fold, events_since}
use Rattle.hse_rows.specs.states.Rooted.{AreUpTo}
use Rattle.hse_rows.specs.laws.Folding.{folded-number}
use Rattle.hse_rows.specs.rows.Layout.{Layout}
use Rattle.hse_rows.specs.machine.Log.{Numbered}
use Rattle.hse_rows.specs.machine.ManifestRoom.{ManifestState}
use Rattle.hse_rows.specs.machine.Turn.{home}
use Rattle.hse_rows.specs.machine.Core.{Core, now, number_of}
use Rattle.hse_rows.specs.machine.Recorded.{commits_in, taken_in}
use Rattle.engine_state.specs.Serves.{handed}
use Rattle.kvdb.specs.Found.{Entered, entered_at, entered_with, events_to, stored_at}
use Rattle.kvdb.specs.Pending.{IsLoggable, IsPending, CommitsName, unsafe_events}
use Rattle.kvdb.specs.laws.Events.{commits_in-append, taken_in-append, commits_in-below, entered_taken, none_taken, up_to-more}
use Rattle.kvdb.specs.laws.Growth.{stored_same}

pub all-append : {A : Type 0} (P : A → Type 0) (xs ys : List A) → AllByRecursion P xs → AllByRecursion P ys → AllByRecursion P (xs ++ ys)
all-append P [] ys one other = other
all-append P (x ∷ xs) ys one other = (one.0, all-append P xs ys one.1 other)

all-right : {A : Type 0} (P : A → Type 0) (xs ys : List A) → AllByRecursion P (xs ++ ys) → AllByRecursion P ys
all-right P [] ys all = all
all-right P (x ∷ xs) ys all = all-right P xs ys all.1

-- two lists that together have no number, or one that the second has not
none-parts : (xs ys : List ℕ) → xs ++ ys ≡ [] → (xs ≡ []) × (ys ≡ [])
none-parts [] ys none = (refl, none)
none-parts (x ∷ xs) ys none = absurd cc

one-parts : (number : ℕ) (xs ys : List ℕ) → (ys ≡ number ∷ [] → ⊥) → xs ++ ys ≡ number ∷ [] → (xs ≡ number ∷ []) × (ys ≡ [])
one-parts number [] ys other one = absurd (other one)
one-parts number (x ∷ xs) ys other one =
    let first : x ≡ number = cc in
    let rest : xs ++ ys ≡ [] = cc in
    (ap (λ (n : ℕ). n ∷ xs) first ∙ ap (λ (l : List ℕ). number ∷ l) (none-parts xs ys rest).0, (none-parts xs ys rest).1)

drop-zero : {A : Type 0} (xs : List A) → drop 0 xs ≡ xs
drop-zero [] = refl
drop-zero (x ∷ xs) = refl

drop-sum : {A : Type 0} (a b : ℕ) (xs : List A) → drop (a + b) xs ≡ drop b (drop a xs)
drop-sum zero b xs = ap (λ (n : ℕ). drop n xs) (let e : 0 + b ≡ b = omega arith in e) ∙ ap (drop b) (sym (drop-zero xs))
drop-sum (suc a) b [] = drop-nil (suc a + b) ∙ sym (drop-nil b)
drop-sum (suc a) b (x ∷ xs) =
    ap (λ (n : ℕ). drop n (x ∷ xs)) (let e : suc a + b ≡ suc (a + b) = omega arith in e) ∙ drop-sum a b xs

-- with all up to a number safe, and another manifest and layout
abbrev pub settled_at : Core → ℕ → ManifestState → Layout → ℕ → Core
settled_at m number manifest layout used =
    record m { safe = number; manifest = manifest; layout = layout; used_slots = used; turn = home }

module _ (m : Core) (number : ℕ) (from : m.timeline.base.number ≤ m.safe) (low : m.safe ≤ number) (high : number ≤ number_of m) where
  since : events_since m.timeline.base m.timeline.history number ≡ drop (number - m.safe) (unsafe_events m)
  since =
      ap (λ (n : ℕ). drop n m.timeline.history)
      (let e : number - m.timeline.base.number ≡ (m.safe - m.timeline.base.number) + (number - m.safe) = omega arith in e)
      ∙ drop-sum (m.safe - m.timeline.base.number) (number - m.safe) m.timeline.history

  split : unsafe_events m ≡ events_to m number ++ events_since m.timeline.base m.timeline.history number
  split = sym (take-append-drop (number - m.safe) (unsafe_events m)) ∙ ap (λ (l : List Event). events_to m number ++ l) (sym since)

  first : length (events_to m number) ≡ number - m.safe
  first = length-take-le (number - m.safe) (unsafe_events m)
      (omega (arith, from, low, high, length-drop (m.safe - m.timeline.base.number) m.timeline.history))

  commits-split : commits_in (m.safe + 1) (unsafe_events m)
      ≡ commits_in (m.safe + 1) (events_to m number) ++ commits_in (number + 1) (events_since m.timeline.base m.timeline.history number)
  commits-split =
      ap (commits_in (m.safe + 1)) split
      ∙ commits_in-append (m.safe + 1) (events_to m number) (events_since m.timeline.base m.timeline.history number)
      ∙ ap (λ (n : ℕ). commits_in (m.safe + 1) (events_to m number) ++ commits_in n (events_since m.timeline.base m.timeline.history number))
      (let e : m.safe + 1 + length (events_to m number) ≡ number + 1 = omega (arith, first, low) in e)

  taken-split : taken_in (m.safe + 1) (unsafe_events m)
      ≡ taken_in (m.safe + 1) (events_to m number) ++ taken_in (number + 1) (events_since m.timeline.base m.timeline.history number)
  taken-split =
      ap (taken_in (m.safe + 1)) split
      ∙ taken_in-append (m.safe + 1) (events_to m number) (events_since m.timeline.base m.timeline.history number)
      ∙ ap (λ (n : ℕ). taken_in (m.safe + 1) (events_to m number) ++ taken_in n (events_since m.timeline.base m.timeline.history number))
      (let e : m.safe + 1 + length (events_to m number) ≡ number + 1 = omega (arith, first, low) in e)

  safe_number : (fold m.timeline.base m.timeline.history m.safe).number ≡ m.safe
  safe_number =
      folded-number m.timeline.base (take (m.safe - m.timeline.base.number) m.timeline.history)
      ∙ (let some : length (take (m.safe - m.timeline.base.number) m.timeline.history) ≡ m.safe - m.timeline.base.number =
      length-take-le (m.safe - m.timeline.base.number) m.timeline.history (omega (arith, low, high)) in
      let e : m.timeline.base.number + length (take (m.safe - m.timeline.base.number) m.timeline.history) ≡ m.safe = omega (arith, some, from) in e)

  -- the numbers that the manifest has taken with the entries up to it
  pub taken_at : (entered_at m number).manifest.taken ≡ m.manifest.taken ++ taken_in (m.safe + 1) (events_to m number)
  taken_at =
      entered_taken m.sizes (fold m.timeline.base m.timeline.history m.safe) (record { manifest = m.manifest; layout = m.layout }) (events_to m number)
      ∙ ap (λ (n : ℕ). m.manifest.taken ++ taken_in (n + 1) (events_to m number)) safe_number

  -- where no creation or drop is due but one of this number, none is above it
  pub due_parts : (numbers : List ℕ) → ((numbers ≡ []) ⊎ (numbers ≡ number ∷ [])) → taken_in (m.safe + 1) (unsafe_events m) ≡ numbers
      → (taken_in (m.safe + 1) (events_to m number) ≡ numbers) × (taken_in (number + 1) (events_since m.timeline.base m.timeline.history number) ≡ [])
  due_parts numbers which are =
      ⊎_elim
      (λ none.
      let p = none-parts first_taken last_taken (sym taken-split ∙ are ∙ none) in (p.0 ∙ sym none, p.1))
      (λ one.
      let p = one-parts number first_taken last_taken
      (none_taken number (number + 1) (events_since m.timeline.base m.timeline.history number) [] (omega arith))
      (sym taken-split ∙ are ∙ one) in (p.0 ∙ sym one, p.1))
      which
    where
      first_taken : List ℕ
      first_taken = taken_in (m.safe + 1) (events_to m number)

      last_taken : List ℕ
      last_taken = taken_in (number + 1) (events_since m.timeline.base m.timeline.history number)

  -- what waits behind it
  pub pending_ended : (manifest : ManifestState) (layout : Layout) (used : ℕ) → IsPending m → handed m ≡ number
      → (m.is_broken ≡ false → taken_in (number + 1) (events_since m.timeline.base m.timeline.history number) ≡ []) → IsPending (settled_at m number manifest layout used)
  pending_ended manifest layout used p handed_is none = record {
    settled = p.settled ++ commits_in (m.safe + 1) (events_to m number);
    below = all-append (λ (commit : Numbered). commit.number ≤ number) p.settled (commits_in (m.safe + 1) (events_to m number))
        (up_to-more m.safe number p.settled low p.below)
        (commits_in-below number (m.safe + 1) (events_to m number) (omega (arith, first, low)));
    active = p.active ∙ ap (λ (l : List Numbered). p.settled ++ l) commits-split
        ∙ sym (append_assoc p.settled (commits_in (m.safe + 1) (events_to m number))
        (commits_in (number + 1) (events_since m.timeline.base m.timeline.history number)));
    due = none;
    waiting = all-right (IsLoggable m.sizes (now m).stores) (commits_in (m.safe + 1) (events_to m number))
        (commits_in (number + 1) (events_since m.timeline.base m.timeline.history number))
        (subst (AllByRecursion (IsLoggable m.sizes (now m).stores)) commits-split p.waiting);
    written = p.written;
    named = p.named;
    known = λ whole. let was : p.named ≤ handed m = p.known whole in let now : p.named ≤ number = omega (arith, was, handed_is) in now;
    stores = p.stores;
    waiting_named = all-right (λ (commit : Numbered). AreUpTo p.named commit.writes) (commits_in (m.safe + 1) (events_to m number))
        (commits_in (number + 1) (events_since m.timeline.base m.timeline.history number))
        (subst (CommitsName p.named) commits-split p.waiting_named);
    written_named = p.written_named;
  }

  -- what the device has of it
  pub stored_ended : (manifest : ManifestState) (layout : Layout) (used : ℕ) → entered_at m number ≡ record { manifest = manifest; layout = layout }
      → stored_at m number ≡ stored_at (settled_at m number manifest layout used) number
  stored_ended manifest layout used is =
      let nothing : entered_at (settled_at m number manifest layout used) number ≡ record { manifest = manifest; layout = layout } =
      ap (λ (n : ℕ). entered_with m.sizes (fold m.timeline.base m.timeline.history number) (record { manifest = manifest; layout = layout })
      (take n (events_since m.timeline.base m.timeline.history number)))
      (let e : number - number ≡ 0 = omega arith in e) in
      stored_same (stored_at m number) (stored_at (settled_at m number manifest layout used) number) refl refl refl
      (ap (λ (e : Entered). e.manifest) (is ∙ sym nothing)) (ap (λ (e : Entered). e.layout) (is ∙ sym nothing))
