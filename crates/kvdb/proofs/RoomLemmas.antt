-- What the machine finds of the manifest's room for an entry that is planned.
use Rattle.std.specs.Prelude.{nat_le, if◌then◌else◌}
use Rattle.std.proofs.Common.{◌≡◌, ℕ, ◌+◌, ◌-◌, ◌<◌, ◌≤◌, Bool, true, false, List, Option, Some, None, Ok, Err, refl, sym, ◌∙◌, ap, subst, arith}
use Rattle.gate_log.specs.Places.{need_of}
use Rattle.hse_rows.specs.machine.Sizes.{Sizes}
use Rattle.hse_rows.specs.machine.ManifestRoom.{ManifestState, fits, gained, goes_into_no_half, half_room, head_bytes}
use Rattle.hse_rows.specs.machine.ManifestEntry.{ManifestEntry, entered, has_no_room, whole_need}
use Rattle.hse_rows.specs.machine.Replies.{manifest_full}
use Rattle.hse_rows.specs.machine.Core.{Core}
use Rattle.hse_rows.specs.machine.CoreRefusal.{entry_refusal, refuse}
use Rattle.media_disk.specs.declared.device.Device.{Ghosts}
use Rattle.manifest.specs.Writing.{room_in}
use Rattle.manifest.specs.declared.manifest.Manifest.{Manifest}
use Rattle.back.specs.Plans.{IsCounted, IsPlan}
use Rattle.back.specs.declared.back.Back.{Back}
use Rattle.back.specs.declared.plan.EntryPlan.{EntryPlan}
use Rattle.back.specs.declared.plan.EntryPlan.TheVariants.{Log, Roll}
use Rattle.back.specs.declared.plan.PlanFault.TheVariants.{ManifestFull}
use Rattle.kvdb.specs.Serves.{IsPlaced}
use Rattle.kvdb.specs.Turns.{IsPutBy}

-- the laws of plans
abbrev pub PlansCount : Type 0
PlansCount =
    (manifest : Manifest) (state : ManifestState) (entry after : List ℕ) (plan : EntryPlan) → IsCounted manifest state
    → IsPlan manifest entry after (Ok plan) → goes_into_no_half manifest.layout.manifest state (need_of entry) (need_of after) ≡ false

abbrev pub FullCounts : Type 0
FullCounts =
    (manifest : Manifest) (state : ManifestState) (entry after : List ℕ) (need room : ℕ) → IsCounted manifest state
    → IsPlan manifest entry after (Err (ManifestFull need room))
    → (goes_into_no_half manifest.layout.manifest state (need_of entry) (need_of after) ≡ true) × (need ≡ need_of after)
    × (room ≡ half_room manifest.layout.manifest)

fits_true : (need room : ℕ) → need ≤ room → nat_le need room ≡ true
fits_true need room le = grind arith

fits_false : (need room : ℕ) → room < need → nat_le need room ≡ false
fits_false need room less = grind arith

module _ {D : Type 0} (g : Ghosts D) (back : Back D g) (m : Core) (placed : IsPlaced back m.sizes m.manifest) (e : ManifestEntry)
    (text base : List ℕ) (need : need_of text ≡ e.need) (whole : need_of base ≡ whole_need e) where
  counted : IsCounted back.manifest m.manifest
  counted = record { sequence = sym placed.sequence; used = sym placed.used }

  half : back.manifest.layout.manifest ≡ m.sizes.half_size
  half = ap (λ (s : Sizes). s.half_size) placed.sizes_are

  same_room : goes_into_no_half back.manifest.layout.manifest m.manifest (need_of text) (need_of base) ≡ has_no_room m e
  same_room =
      ap (λ (n : ℕ). goes_into_no_half n m.manifest (need_of text) (need_of base)) half
      ∙ ap (λ (n : ℕ). goes_into_no_half m.sizes.half_size m.manifest n (need_of base)) need
      ∙ ap (λ (n : ℕ). goes_into_no_half m.sizes.half_size m.manifest e.need n) whole

  -- the refusal of an entry that has no room
  pub entry_full : FullCounts → (needed room : ℕ) → IsPlan back.manifest text base (Err (ManifestFull needed room))
      → entry_refusal m e ≡ Some (manifest_full needed room)
  entry_full law needed room is =
      let counts = law back.manifest m.manifest text base needed room counted is in
      ap (λ (b : Bool). refuse b (manifest_full (whole_need e) (half_room m.sizes.half_size)) None) (sym same_room ∙ counts.0)
      ∙ ap (λ (n : ℕ). Some (manifest_full n (half_room m.sizes.half_size))) (sym (counts.1 ∙ whole))
      ∙ ap (λ (n : ℕ). Some (manifest_full needed n)) (sym (counts.2 ∙ ap half_room half))

  pub entry_fits : PlansCount → (plan : EntryPlan) → IsPlan back.manifest text base (Ok plan) → entry_refusal m e ≡ None
  entry_fits law plan is =
      ap (λ (b : Bool). refuse b (manifest_full (whole_need e) (half_room m.sizes.half_size)) None)
      (sym same_room ∙ law back.manifest m.manifest text base plan counted is)

  -- ---- the manifest after it

  room_is : room_in back.manifest ≡ m.sizes.half_size - m.manifest.used
  room_is = let used : back.manifest.tail.place + 1 ≡ m.manifest.used = placed.used in omega (arith, used, half)

  put_where : (b : Bool) (plan : EntryPlan) (one other : ManifestState) → IsPutBy m.manifest plan (if b then one else other)
      → (fits m.sizes.half_size m.manifest e.need ≡ b) → IsPutBy m.manifest plan (if (fits m.sizes.half_size m.manifest e.need) then one else other)
  put_where b plan one other put is = subst (λ (x : Bool). IsPutBy m.manifest plan (if x then one else other)) (sym is) put

  pub put_by : (plan : EntryPlan) → IsPlan back.manifest text base (Ok plan) → IsPutBy m.manifest plan (entered m e)
  put_by (Log batch) is =
      put_where true (Log batch)
      (record { sequence = m.manifest.sequence; used = m.manifest.used + e.need; taken = e.taken })
      (record { sequence = m.manifest.sequence + 1; used = head_bytes + whole_need e; taken = e.taken })
      (refl, ap (λ (n : ℕ). m.manifest.used + n) (sym (ap need_of is.0 ∙ need)))
      (fits_true e.need (m.sizes.half_size - m.manifest.used)
      (let le : need_of text ≤ room_in back.manifest = is.1 in omega (arith, le, need, room_is)))
  put_by (Roll batch) is =
      put_where false (Roll batch)
      (record { sequence = m.manifest.sequence; used = m.manifest.used + e.need; taken = e.taken })
      (record { sequence = m.manifest.sequence + 1; used = head_bytes + whole_need e; taken = e.taken })
      (refl, ap (λ (n : ℕ). head_bytes + n) (sym (ap need_of is.0 ∙ whole)))
      (fits_false e.need (m.sizes.half_size - m.manifest.used)
      (let less : room_in back.manifest < need_of text = is.1 in omega (arith, less, need, room_is)))
