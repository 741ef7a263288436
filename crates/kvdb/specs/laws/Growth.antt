-- What stands for a life stands for it when it has grown.
use Rattle.std.specs.List.{filter}
use Rattle.std.proofs.Common.{◌≡◌, ℕ, ◌+◌, ◌-◌, ◌≤◌, List, ◌++◌, length, take, drop, ◌∙◌, ap, arith}
use Rattle.std.proofs.lemmas.List.{append-nil, length-drop, take-append-le, drop-append-le}
use Rattle.std.proofs.lemmas.List.Elements.{filter-append}
use Rattle.hse_rows.specs.states.State.{State}
use Rattle.hse_rows.specs.states.History.{Event, fold, events_since}
use Rattle.hse_rows.specs.laws.Folding.{fold-stays}
use Rattle.hse_rows.specs.rows.Layout.{Layout}
use Rattle.hse_rows.specs.machine.Log.{Numbered, LogState}
use Rattle.hse_rows.specs.machine.ManifestRoom.{ManifestState}
use Rattle.hse_rows.specs.machine.Sizes.{Sizes}
use Rattle.hse_rows.specs.machine.Core.{Core, Stored, number_of}
use Rattle.hse_rows.specs.machine.Recorded.{commits_in}
use Rattle.kvdb.specs.Found.{Entered, entered_with, entered_at, events_to, is_up_to, log_to, stored_at}
use Rattle.kvdb.specs.Growth.{Grows}
use Rattle.kvdb.specs.laws.Events.{up_to-none}

pub stored_same : (one other : Stored) → one.sizes ≡ other.sizes → one.base ≡ other.base → one.log ≡ other.log
    → one.manifest ≡ other.manifest → one.layout ≡ other.layout → one ≡ other
stored_same one other sizes base log manifest layout =
    ap (λ (x : Sizes). record { sizes = x; base = one.base; log = one.log; manifest = one.manifest; layout = one.layout }) sizes
    ∙ ap (λ (x : State). record { sizes = other.sizes; base = x; log = one.log; manifest = one.manifest; layout = one.layout }) base
    ∙ ap (λ (x : LogState). record { sizes = other.sizes; base = other.base; log = x; manifest = one.manifest; layout = one.layout }) log
    ∙ ap (λ (x : ManifestState). record { sizes = other.sizes; base = other.base; log = other.log; manifest = x; layout = one.layout }) manifest
    ∙ ap (λ (x : Layout). record { sizes = other.sizes; base = other.base; log = other.log; manifest = other.manifest; layout = x }) layout

-- the events between two numbers
between-grown : (from to : ℕ) (events more : List Event) → from + to ≤ length events
    → take to (drop from (events ++ more)) ≡ take to (drop from events)
between-grown from to events more within =
    ap (take to) (drop-append-le from events more (omega arith))
    ∙ take-append-le to (drop from events) more (omega (arith, length-drop from events))

-- what the device has of it at a number
module _ (old new : Core) (number : ℕ) (grows : Grows old new) (from : old.timeline.base.number ≤ old.safe) (low : old.safe ≤ number)
    (high : number ≤ number_of old) where
  fold_at : (n : ℕ) → n ≤ number_of old
      → fold new.timeline.base new.timeline.history n ≡ fold old.timeline.base old.timeline.history n
  fold_at n within =
      ap (λ (b : State). fold b new.timeline.history n) grows.base
      ∙ ap (λ (h : List Event). fold old.timeline.base h n) grows.history
      ∙ fold-stays old.timeline.base old.timeline.history grows.more n within

  base : fold new.timeline.base new.timeline.history number ≡ fold old.timeline.base old.timeline.history number
  base = fold_at number high

  log : log_to number new.log ≡ log_to number old.log
  log =
      ap (log_to number) grows.log
      ∙ ap (λ (active : List Numbered). record old.log { active = active })
      (filter-append (is_up_to number) old.log.active (commits_in (number_of old + 1) grows.more)
      ∙ ap (λ (l : List Numbered). filter (is_up_to number) old.log.active ++ l)
      (up_to-none number (number_of old + 1) grows.more (omega arith))
      ∙ append-nil (filter (is_up_to number) old.log.active))

  events : events_to new number ≡ events_to old number
  events =
      ap (λ (n : ℕ). take (number - n) (events_since new.timeline.base new.timeline.history n)) grows.safe
      ∙ ap (λ (b : State). take (number - old.safe) (events_since b new.timeline.history old.safe)) grows.base
      ∙ ap (λ (h : List Event). take (number - old.safe) (events_since old.timeline.base h old.safe)) grows.history
      ∙ between-grown (old.safe - old.timeline.base.number) (number - old.safe) old.timeline.history grows.more (omega arith)

  pub entered-grown : entered_at new number ≡ entered_at old number
  entered-grown =
      ap (λ (n : ℕ). entered_with new.sizes (fold new.timeline.base new.timeline.history n)
      (record { manifest = new.manifest; layout = new.layout }) (events_to new number)) grows.safe
      ∙ ap (λ (b : State). entered_with new.sizes b (record { manifest = new.manifest; layout = new.layout }) (events_to new number))
      (fold_at old.safe (omega arith))
      ∙ ap (λ (s : Sizes). entered_with s (fold old.timeline.base old.timeline.history old.safe)
      (record { manifest = new.manifest; layout = new.layout }) (events_to new number)) grows.sizes
      ∙ ap (λ (x : ManifestState). entered_with old.sizes (fold old.timeline.base old.timeline.history old.safe)
      (record { manifest = x; layout = new.layout }) (events_to new number)) grows.manifest
      ∙ ap (λ (x : Layout). entered_with old.sizes (fold old.timeline.base old.timeline.history old.safe)
      (record { manifest = old.manifest; layout = x }) (events_to new number)) grows.layout
      ∙ ap (λ (e : List Event). entered_with old.sizes (fold old.timeline.base old.timeline.history old.safe)
      (record { manifest = old.manifest; layout = old.layout }) e) events

  pub stored-grown : stored_at new number ≡ stored_at old number
  stored-grown =
      stored_same (stored_at new number) (stored_at old number) grows.sizes base log
      (ap (λ (e : Entered). e.manifest) entered-grown) (ap (λ (e : Entered). e.layout) entered-grown)
