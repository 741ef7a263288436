-- Plans, as the machine counts the manifest's room.
use Rattle.std.proofs.Common.{◌≡◌, ℕ, ◌-◌, ◌<◌, ◌≤◌, Bool, true, false, List, Ok, refl, sym, ap, subst, inl, inr, ⊎_elim}
use Rattle.std.specs.Prelude.{nat_le, nat_lt, ◌&&◌, ◌||◌, not}
use Rattle.std.proofs.lemmas.Bool.{cases_lt, le-leb, lt-leb, lt-ltb, le-ltb}
use Rattle.gate_log.specs.Places.{need_of}
use Rattle.hse_rows.specs.machine.ManifestRoom.{ManifestState, goes_into_no_half, greatest_sequence}
use Rattle.manifest.specs.Writing.{IsRollFull, room_in, room_of_half}
use Rattle.manifest.specs.declared.manifest.Manifest.{Manifest}
use Rattle.back.specs.Plans.{HasRoomFor, IsCounted, IsPlan}
use Rattle.back.specs.declared.plan.EntryPlan.{EntryPlan}
use Rattle.back.specs.declared.plan.EntryPlan.TheVariants.{Log, Roll}

pub planned_room : (m : Manifest) (entry after : List ℕ) (plan : EntryPlan) → IsPlan m entry after (Ok plan) → HasRoomFor m plan
planned_room m entry after (Log batch) is = subst (λ (payload : List ℕ). need_of payload ≤ room_in m) (sym is.0) is.1
planned_room m entry after (Roll batch) is = subst (λ (payload : List ℕ). ¬ IsRollFull m payload) (sym is.0) is.2

fits_by : (fits lacks : Bool) → fits ≡ true → (not fits && lacks) ≡ false
fits_by fits lacks is = rw is refl

rolls_by : (fits lacks : Bool) → lacks ≡ false → (not fits && lacks) ≡ false
rolls_by true lacks is = refl
rolls_by false lacks is = is

neither_by : (fits lacks : Bool) → fits ≡ false → lacks ≡ true → (not fits && lacks) ≡ true
neither_by fits lacks is other = rw is other

both_false : (one other : Bool) → one ≡ false → other ≡ false → (one || other) ≡ false
both_false one other is more = rw is more

first_true : (one other : Bool) → one ≡ true → (one || other) ≡ true
first_true one other is = rw is refl

second_true : (one other : Bool) → other ≡ true → (one || other) ≡ true
second_true true other is = refl
second_true false other is = is

not_lt : (a b : ℕ) → ¬ (a < b) → b ≤ a
not_lt a b is = elim (cases_lt a b) [ inl lt ↦ absurd (is lt) | inr le ↦ le ]

not_le : (a b : ℕ) → ¬ (a ≤ b) → b < a
not_le a b is = elim (cases_lt b a) [ inl lt ↦ lt | inr le ↦ absurd (is le) ]

module _ (m : Manifest) (state : ManifestState) (entry after : List ℕ) (counted : IsCounted m state) where
  room_is : room_in m ≡ m.layout.manifest - state.used
  room_is = ap (λ (n : ℕ). m.layout.manifest - n) (sym counted.used)

  pub plan_counts : (plan : EntryPlan) → IsPlan m entry after (Ok plan)
      → goes_into_no_half m.layout.manifest state (need_of entry) (need_of after) ≡ false
  plan_counts (Log batch) is =
      fits_by (nat_le (need_of entry) (m.layout.manifest - state.used))
      (nat_lt (m.layout.manifest - 10) (need_of after) || nat_le greatest_sequence state.sequence)
      (le-leb _ _ (subst (λ (n : ℕ). need_of entry ≤ n) room_is is.1))
  plan_counts (Roll batch) is =
      let room : need_of after ≤ m.layout.manifest - 10 = not_lt (m.layout.manifest - 10) (need_of after) (λ lt. is.2 (inl lt)) in
      let left : m.sequence < greatest_sequence = not_le greatest_sequence m.sequence (λ le. is.2 (inr le)) in
      rolls_by (nat_le (need_of entry) (m.layout.manifest - state.used))
      (nat_lt (m.layout.manifest - 10) (need_of after) || nat_le greatest_sequence state.sequence)
      (both_false (nat_lt (m.layout.manifest - 10) (need_of after)) (nat_le greatest_sequence state.sequence) (le-ltb _ _ room)
      (lt-leb _ _ (subst (λ (n : ℕ). n < greatest_sequence) (sym counted.sequence) left)))

  pub full_counts : room_in m < need_of entry → IsRollFull m after
      → goes_into_no_half m.layout.manifest state (need_of entry) (need_of after) ≡ true
  full_counts lacks full =
      neither_by (nat_le (need_of entry) (m.layout.manifest - state.used))
      (nat_lt (m.layout.manifest - 10) (need_of after) || nat_le greatest_sequence state.sequence)
      (lt-leb _ _ (subst (λ (n : ℕ). n < need_of entry) room_is lacks))
      (⊎_elim
      (λ (lt : room_of_half m.layout < need_of after). first_true (nat_lt (m.layout.manifest - 10) (need_of after)) (nat_le greatest_sequence state.sequence) (lt-ltb _ _ lt))
      (λ (le : greatest_sequence ≤ m.sequence). second_true (nat_lt (m.layout.manifest - 10) (need_of after)) (nat_le greatest_sequence state.sequence)
      (le-leb _ _ (subst (λ (n : ℕ). greatest_sequence ≤ n) (sym counted.sequence) le)))
      full)
