-- All three phases of a turn, with a mark.
use Rattle.std.specs.Prelude.{nat_lt, nat_le, is_some, Bool, true, false, Option, Some, None, IfSome, Ok, Err}
use Rattle.std.proofs.Common.{◌≡◌, ℕ, ◌≤◌, List, [], ◌∷◌, ◌++◌, length, refl, sym, ap, ◌∙◌, arith, length-append}
use Rattle.std.proofs.lemmas.List.{append-nil}
use Rattle.media_disk.specs.Images.{OnlyNow}
use Rattle.media_disk.specs.Leaves.{LeavesOnly}
use Rattle.media_disk.specs.declared.device.Device.{Ghosts}
use Rattle.hse_rows.specs.declared.store.Mode.{Mode}
use Rattle.hse_rows.specs.writes.Lengths.{longest_prefix}
use Rattle.hse_rows.specs.states.State.{State, Store, store_named}
use Rattle.hse_rows.specs.states.History.{Event, creates, drops}
use Rattle.hse_rows.specs.transactions.Moves as moves
use Rattle.hse_rows.specs.transactions.Timeline.{for_some}
use Rattle.hse_rows.specs.machine.Turn as turns
use Rattle.hse_rows.specs.machine.Turn.{TurnWish, sync, freeze, create, drop, Turn, home}
use Rattle.hse_rows.specs.machine.Replies.{Answer, Refusal, ok, no_store, broken, prefix_length, spent, store_exists, too_many}
use Rattle.hse_rows.specs.machine.Calls.{take, write_turn, end_turn}
use Rattle.hse_rows.specs.machine.Core.{Core, now, number_of, with_move}
use Rattle.hse_rows.specs.machine.ManifestEntry.{creation_entry, drop_entry, entered}
use Rattle.hse_rows.specs.machine.CoreRefusal.{refusal, refuse, drop_refusal, entry_refusal, is_spent, unless_busy}
use Rattle.hse_rows.specs.machine.CoreReply.{reply}
use Rattle.hse_rows.specs.machine.CoreDone.{done, refused_to, failing, taking, with_turn}
use Rattle.engine_state.specs.Serves.{IsSound, handed}
use Rattle.kvdb.specs.Found.{StoresFrom}
use Rattle.kvdb.specs.Sides.{clock_in}
use Rattle.turn_phases.specs.Devices.{device_of}
use Rattle.turn_phases.specs.Turns.{StaysRefused, taken_for, written_for, turned, turned_badly}
use Rattle.turn_phases.specs.Turns as engine
use Rattle.turn_phases.specs.declared.faults.WholeFault.{WholeFault}
use Rattle.turn_phases.specs.declared.faults.WholeFault.TheVariants as whole_fault
use Rattle.lives.specs.Goes.{Goes}
use Rattle.lives.specs.Keeping.{Keeps}
use Rattle.lives.specs.Serves.{LivesServe, Notes}
use Rattle.lives.specs.Stories.{Point, Story, turn_failed, turned_to}
use Rattle.lives.specs.Turns.{TurnsWhole}
use Rattle.lives.specs.declared.faults.Unmarked.TheVariants as unmarked
use Rattle.lives.specs.declared.run.Lives.{Lives}
use Rattle.lives.proofs.EndLemmas.{noted_now}
use Rattle.lives.proofs.ServeLemmas.{served, served_over}
use Rattle.lives.proofs.StoryLemmas.{goes_on, goes_still, keeps_from}

-- ---- where a turn leads as a whole

-- the machine when it was taken, when it ended well, and when it ended badly
record Leads (m took good bad : Core) (said : Answer ℕ) : Type 0 where
  more : List Event
  base : took.timeline.base ≡ m.timeline.base
  history : took.timeline.history ≡ m.timeline.history ++ more
  safe : took.safe ≡ m.safe
  handed_is : handed took ≡ number_of took
  good_timeline : good.timeline ≡ took.timeline
  good_turn : good.turn ≡ home
  good_broken : good.is_broken ≡ m.is_broken
  good_safe : good.safe ≡ number_of took
  said_is : ◌≡◌ {A = Answer ℕ} said (ok (number_of took))
  bad_timeline : bad.timeline ≡ took.timeline
  bad_safe : bad.safe ≡ m.safe

abbrev LeadsBy : Core → Core → Type 0
LeadsBy m took =
    Leads m took (done (done took write_turn) end_turn) (refused_to (failing took write_turn) end_turn) (reply (done took write_turn) end_turn)

no_event : (m : Core) → m.timeline.history ≡ m.timeline.history ++ []
no_event m = sym (append-nil m.timeline.history)

leads : (m : Core) (what : TurnWish) → refusal m (take what) ≡ None → LeadsBy m (taking m what)
leads m sync none = record { more = []; base = refl; history = no_event m; safe = refl; handed_is = refl; good_timeline = refl; good_turn = refl; good_broken = refl; good_safe = refl; said_is = refl; bad_timeline = refl; bad_safe = refl }
leads m freeze none = record { more = []; base = refl; history = no_event m; safe = refl; handed_is = refl; good_timeline = refl; good_turn = refl; good_broken = refl; good_safe = refl; said_is = refl; bad_timeline = refl; bad_safe = refl }
leads m (create name mode prefix) none = record { more = creates name mode prefix ∷ []; base = refl; history = refl; safe = refl; handed_is = refl; good_timeline = refl; good_turn = refl; good_broken = refl; good_safe = refl; said_is = refl; bad_timeline = refl; bad_safe = refl }
leads m (drop name) none = by (store_named (now m) name) none
  where
    by : (found : Option Store) → for_some found (Some no_store) (drop_refusal m) ≡ None
        → LeadsBy m (for_some found m (λ store. with_turn (with_move m (moves.remove store.id)) turns.dropping
        (turns.removes store.id (entered m (drop_entry m store))) true))
    by None is = absurd cc
    by (Some store) is = record { more = drops store.id ∷ []; base = refl; history = refl; safe = refl; handed_is = refl; good_timeline = refl; good_turn = refl; good_broken = refl; good_safe = refl; said_is = refl; bad_timeline = refl; bad_safe = refl }

-- ---- the engine is not broken

passed : (test : Bool) (reason : Refusal ℕ) (later : Option (Refusal ℕ)) → refuse test reason later ≡ None → (test ≡ false) × (later ≡ None)
passed true reason later is = absurd cc
passed false reason later is = (refl, is)

-- what is asked behind that
abbrev behind : Core → List ℕ → Mode → ℕ → Option (Refusal ℕ)
behind m name mode prefix =
    refuse (nat_le m.sizes.most_stores (length (now m).stores)) (too_many m.sizes.most_stores)
    (refuse (is_spent m) spent
    (unless_busy m.turn (entry_refusal m (creation_entry m name mode prefix))))

whole_by : (m : Core) (what : TurnWish) → refusal m (take what) ≡ None → m.is_broken ≡ false
whole_by m sync none = (passed m.is_broken _ _ none).0
whole_by m freeze none = (passed m.is_broken _ _ none).0
whole_by m (create name mode prefix) none = (passed m.is_broken broken (behind m name mode prefix)
    (passed (nat_lt longest_prefix prefix) (prefix_length prefix) (refuse m.is_broken broken (behind m name mode prefix))
    (passed (is_some (store_named (now m) name)) store_exists
    (refuse (nat_lt longest_prefix prefix) (prefix_length prefix) (refuse m.is_broken broken (behind m name mode prefix))) none).1).1).0
whole_by m (drop name) none = by (store_named (now m) name) none
  where
    by : (found : Option Store) → for_some found (Some no_store) (drop_refusal m) ≡ None → m.is_broken ≡ false
    by None is = absurd cc
    by (Some store) is = (passed m.is_broken _ _ is).0

-- ---- the story

module _ (s : Story) (what : TurnWish) (sound : IsSound s.machine) (none : refusal s.machine (take what) ≡ None) where
  to : Leads s.machine (taken_for s.machine what) (turned s.machine what) (turned_badly s.machine what) (reply (written_for s.machine what) end_turn)
  to = leads s.machine what none

  longer : number_of s.machine ≤ number_of (taken_for s.machine what)
  longer =
      let base : (taken_for s.machine what).timeline.base.number ≡ s.machine.timeline.base.number = ap (λ (b : State). b.number) to.base in
      let events : length (taken_for s.machine what).timeline.history ≡ length (s.machine.timeline.history ++ to.more) = ap (λ (h : List Event). length h) to.history in
      omega (arith, base, events, length-append s.machine.timeline.history to.more)

  goes_to : (m : Core) (points : List Point) → m.timeline ≡ (taken_for s.machine what).timeline → s.machine.safe ≤ m.safe
      → Goes s (record { past = s.past; machine = m; marked = points })
  goes_to m points same safer =
      goes_on s m points to.more (ap (λ t. t.base) same ∙ to.base) (ap (λ t. t.history) same ∙ to.history) safer

  keeps_to : (m : Core) (points : List Point) → m.timeline ≡ (taken_for s.machine what).timeline → (image : List ℕ)
      → StoresFrom (taken_for s.machine what) (handed (taken_for s.machine what)) image
      → Keeps (record { past = s.past; machine = m; marked = points }) (length s.past) s.machine.safe image
  keeps_to m points same image has =
      let base : (taken_for s.machine what).timeline.base.number ≡ s.machine.timeline.base.number = ap (λ (b : State). b.number) to.base in
      keeps_from (record { past = s.past; machine = m; marked = points }) (taken_for s.machine what) (handed (taken_for s.machine what)) s.machine.safe image
      (sym same) (omega (arith, base, to.safe, sound.limits.since_base)) (omega (arith, to.handed_is)) (omega (arith, to.safe)) has

-- ---- the call

module _ {D : Type 0} (g : Ghosts D) (s : Story) (what : TurnWish) (mid : Lives D g) (l : LivesServe g mid s) where
  abbrev Crash : Lives D g → Type 0
  Crash new =
      g.tells → LeavesOnly g (device_of mid.phases) (device_of new.phases) (StoresFrom (taken_for s.machine what) (handed (taken_for s.machine what)))

  pub turn_noted : OnlyNow g → (number : ℕ) (between new : Lives D g) → between.marks.items ≡ mid.marks.items → between.life ≡ mid.life
      → g.clock (device_of mid.phases) ≤ g.clock (device_of between.phases) → Crash between
      → engine.TurnsWhole g s.machine what (Ok number) between.phases
      → IfSome (clock_in g between.phases.db.side) (λ clock. Notes between new between.life number clock)
      → TurnsWhole g s what (Ok number) new
  turn_noted only number between new marks life le crash is noted =
      let to = leads s.machine what is.0 in
      let later = longer s what l.phases.sound is.0 in
      let safe : number ≡ (turned s.machine what).safe = (let e : ◌≡◌ {A = Answer ℕ} (ok number) (ok (number_of (taken_for s.machine what))) = is.1 ∙ to.said_is in let n : number ≡ number_of (taken_for s.machine what) = cc in n ∙ sym to.good_safe) in (
        is.0,
        is.1,
        noted_now g only s (turned_to s what number) number mid between new
            (StoresFrom (taken_for s.machine what) (handed (taken_for s.machine what))) marks (life ∙ l.life) le crash
            (λ told image has. keeps_to s what l.phases.sound is.0 (turned s.machine what) _ to.good_timeline image has) refl
            (goes_to s what l.phases.sound is.0 (turned s.machine what) _ to.good_timeline (omega (arith, later, to.good_safe, l.phases.sound.limits.until_now)))
            to.good_turn (to.good_broken ∙ whole_by s.machine what is.0) safe is.2 noted l,
      )

  pub turn_refused : (fault : WholeFault) (new : Lives D g) → new.life ≡ mid.life → new.marks.items ≡ mid.marks.items
      → g.clock (device_of mid.phases) ≤ g.clock (device_of new.phases) → Crash new
      → StaysRefused (device_of mid.phases) (device_of new.phases) (Err fault)
      → engine.TurnsWhole g s.machine what (Err fault) new.phases → TurnsWhole g s what (Err (unmarked.Fault fault)) new
  turn_refused (whole_fault.Refused fault) new life marks le crash stays is =
      (is.0, served g mid new s s life marks stays refl refl (goes_still s s.machine s.marked refl (omega arith)) is.1 l)
  turn_refused whole_fault.Device new life marks le crash stays is =
      let to = leads s.machine what is.0 in (
        is.0,
        is.1,
        served_over g mid new (StoresFrom (taken_for s.machine what) (handed (taken_for s.machine what))) s (turn_failed s what) life marks refl refl
            (goes_to s what l.phases.sound is.0 (turned_badly s.machine what) _ to.bad_timeline (omega (arith, to.bad_safe))) le crash
            (λ told image has. keeps_to s what l.phases.sound is.0 (turned_badly s.machine what) _ to.bad_timeline image has) is.2 l,
      )
