-- A turn ends, with a mark or without one.
use Rattle.std.specs.Prelude.{Bool, true, false, Option, Some, None, IfSome, Ok, Err}
use Rattle.std.proofs.Common.{◌≡◌, ℕ, ◌≤◌, List, [], ◌∷◌, ◌++◌, length, refl, sym, ap, ◌∙◌, subst, inl, arith}
use Rattle.hse_io.specs.declared.outcome.Mark.{Mark}
use Rattle.media_disk.specs.Images.{IsImage, OnlyNow}
use Rattle.media_disk.specs.Leaves.{LeavesOnly}
use Rattle.media_disk.specs.declared.device.Device.{Ghosts}
use Rattle.hse_rows.specs.machine.Sizes.{Sizes}
use Rattle.hse_rows.specs.machine.Limits.{TurnFits}
use Rattle.hse_rows.specs.machine.Turn.{TakenTurn, Plan, settles, enters, removes, installs, Turn, home, taken, ran}
use Rattle.hse_rows.specs.machine.Replies.{Answer, ok}
use Rattle.hse_rows.specs.machine.Calls.{end_turn}
use Rattle.hse_rows.specs.machine.Core.{Core, number_of}
use Rattle.hse_rows.specs.machine.CoreRefusal.{unless_run_well}
use Rattle.hse_rows.specs.machine.CoreReply.{end_reply, number_for}
use Rattle.hse_rows.specs.machine.CoreDone.{done, refused_to, ending, ending_failed, planned, given_up, brought_home}
use Rattle.back.specs.declared.back.Back.{Back}
use Rattle.recovery.specs.Image.{IsLoaded}
use Rattle.kvdb.specs.Serves.{IsHome, IsOut, SideIs}
use Rattle.kvdb.specs.Sides.{clock_in, out_of}
use Rattle.kvdb.specs.Turns.{IsPlanOf}
use Rattle.kvdb.specs.declared.side.Side.{Side}
use Rattle.kvdb.specs.declared.side.Side.TheVariants as side
use Rattle.kvdb.specs.declared.side.TurnKind.{TurnKind}
use Rattle.kvdb.specs.declared.side.TurnKind.TheVariants as kind
use Rattle.turn_phases.specs.Devices.{device_at, device_of}
use Rattle.turn_phases.specs.HeldTurns.{turn_of}
use Rattle.turn_phases.specs.Serves.{HeldIs, PhasesServe}
use Rattle.turn_phases.specs.Turns.{EndSays}
use Rattle.turn_phases.specs.Turns as engine
use Rattle.turn_phases.specs.declared.faults.EndFault.{EndFault}
use Rattle.turn_phases.specs.declared.held.Held.{Held}
use Rattle.turn_phases.specs.declared.held.Held.TheVariants as held
use Rattle.turn_phases.specs.declared.phases.TurnPhases.{TurnPhases}
use Rattle.lives.specs.Goes.{Goes}
use Rattle.lives.specs.Keeping.{Keeps}
use Rattle.lives.specs.Marks.{IsMark, Marked}
use Rattle.lives.specs.Serves.{IsSame, LivesServe, Notes}
use Rattle.lives.specs.Stories.{Story, ended, refused}
use Rattle.lives.specs.Turns.{Ends}
use Rattle.lives.specs.declared.run.Lives.{Lives}
use Rattle.lives.specs.declared.faults.Unmarked.TheVariants as unmarked
use Rattle.lives.proofs.MarkLemmas.{marked_on}
use Rattle.lives.proofs.ServeLemmas.{served}
use Rattle.lives.proofs.StoryLemmas.{goes_still, keeps_now}

-- ---- the device that is in

pub record IsIn {D : Type 0} (g : Ghosts D) (s : Side D g) (h : Held D g) (paired : out_of s ≡ turn_of h) (m : Core) : Type 0 where
  pub back : Back D g
  pub device : device_at s h paired ≡ back.disk
  pub clock : clock_in g s ≡ Some (g.clock back.disk)
  pub is : IsHome g back m

in_by : {D : Type 0} (g : Ghosts D) (s : Side D g) (h : Held D g) (paired : out_of s ≡ turn_of h) (m : Core) → m.turn ≡ home → SideIs g s m → IsIn g s h paired m
in_by g (side.In back) h paired m at is = record { back = back; device = refl; clock = refl; is = is }
in_by g (side.Out what number) h paired m at is = absurd (subst (IsOut what number) at is)

pub home_in : {D : Type 0} (g : Ghosts D) (phases : TurnPhases D g) (m : Core) → m.turn ≡ home → PhasesServe g phases m
    → IsIn g phases.db.side phases.held phases.paired m
home_in g phases m at p = in_by g phases.db.side phases.held phases.paired m at p.engine.side

-- ---- the mark of what is safe

pub is_mark : {D : Type 0} (g : Ghosts D) (phases : TurnPhases D g) (to : Story) (mark : Mark) → PhasesServe g phases to.machine
    → to.machine.turn ≡ home → to.machine.is_broken ≡ false → mark.life ≡ length to.past → mark.number ≡ to.machine.safe
    → mark.moment ≤ g.clock (device_of phases)
    → (g.tells → (image : List ℕ) → g.could (device_of phases) mark.moment image → image ≡ g.seen (device_of phases))
    → g.tells → IsMark (g.could (device_of phases)) (g.clock (device_of phases)) to mark
is_mark {D = D} g phases to mark p at whole life number le since told =
    let h = home_in g phases to.machine at p in
    let r = h.is.settled whole told in
    record {
      past = le;
      lived = omega (arith, life);
      synced = omega (arith, number);
      kept = λ image left.
          let seen : image ≡ g.seen h.back.disk = since told image left ∙ ap (λ (d : D). g.seen d) h.device in
          subst (λ (n : ℕ). Keeps to n mark.number image) (sym life)
          (keeps_now to mark.number image (record {
            number = to.machine.safe;
            reaches = omega (arith, number);
            from = p.sound.limits.since_base;
            within = p.sound.limits.until_now;
            loaded = r.loaded;
            is = subst (λ (bytes : List ℕ). IsLoaded bytes r.loaded) (sym seen) r.rests.says;
            same = ap (λ stored. stored.base) r.same;
          }));
    }

-- nothing is pending
pub since_now : {D : Type 0} (g : Ghosts D) → OnlyNow g → (phases : TurnPhases D g) (m : Core) → m.turn ≡ home → m.is_broken ≡ false → PhasesServe g phases m
    → g.tells → (image : List ℕ) → g.could (device_of phases) (g.clock (device_of phases)) image → image ≡ g.seen (device_of phases)
since_now {D = D} g only phases m at whole p told image left =
    let h = home_in g phases m at p in
    let still : g.pending (device_of phases) ≡ [] = ap (λ (d : D). g.pending d) h.device ∙ (h.is.settled whole told).rests.still in
    subst (λ (ranges : List (ℕ × ℕ)). IsImage (g.seen (device_of phases)) ranges image) still (only (device_of phases) image told left)

-- ---- what the end of a turn makes of the machine

-- its plan makes all up to the turn's number safe
abbrev Settles : Plan → Type 0
Settles settles = Unit {0}
Settles (enters manifest) = Unit {0}
Settles (removes id manifest) = Unit {0}
Settles (installs id work new manifest) = ⊥

abbrev TurnSettles : Turn → Type 0
TurnSettles home = Unit {0}
TurnSettles (taken turn) = Unit {0}
TurnSettles (ran turn has_failed) = Settles turn.plan

plan_settles : (what : TurnKind) (plan : Plan) → IsPlanOf what plan → Settles plan
plan_settles kind.Sync plan is = subst Settles (sym is) tt
plan_settles kind.Freeze plan is = absurd is
plan_settles kind.Install plan is = absurd is
plan_settles kind.Create plan is = subst Settles (sym is.1) tt
plan_settles kind.Drop plan is = subst Settles (sym is.2) tt

held_settles : {D : Type 0} (g : Ghosts D) (h : Held D g) (m : Core) → HeldIs g h m → TurnSettles m.turn
held_settles g held.Nothing m is = subst TurnSettles (sym is) tt
held_settles g (held.Taken turn) m is = subst TurnSettles (sym is.phase) tt
held_settles g (held.Run done) m is = subst TurnSettles (sym is.phase) (plan_settles done.kind is.out.plan is.of.plan)

run_well : (out : TakenTurn) (has_failed : Bool) → unless_run_well (ran out has_failed) ≡ None → has_failed ≡ false
run_well out true is = absurd cc
run_well out false is = refl

held_whole : {D : Type 0} (g : Ghosts D) (h : Held D g) (m : Core) → HeldIs g h m → unless_run_well m.turn ≡ None → m.is_broken ≡ false
held_whole g held.Nothing m is none = absurd (let e : unless_run_well home ≡ None = ap unless_run_well (sym is) ∙ none in cc)
held_whole g (held.Taken turn) m is none = absurd (let e : unless_run_well (taken is.out) ≡ None = ap unless_run_well (sym is.phase) ∙ none in cc)
held_whole g (held.Run done) m is none = is.broken ∙ run_well is.out done.has_failed (ap unless_run_well (sym is.phase) ∙ none)

record EndsAt (m after : Core) (number : ℕ) : Type 0 where
  turn : after.turn ≡ home
  broken : after.is_broken ≡ m.is_broken
  timeline : after.timeline ≡ m.timeline
  safe : number ≡ after.safe

ends_by : (m : Core) (number : ℕ) (out : TakenTurn) (plan : Plan) → Settles plan → ◌≡◌ {A = Answer ℕ} (ok number) (ok (number_for out plan))
    → EndsAt m (brought_home (planned m out.number plan)) number
ends_by m number out settles is said = record { turn = refl; broken = refl; timeline = refl; safe = cc }
ends_by m number out (enters manifest) is said = record { turn = refl; broken = refl; timeline = refl; safe = cc }
ends_by m number out (removes id manifest) is said = record { turn = refl; broken = refl; timeline = refl; safe = cc }
ends_by m number out (installs id work new manifest) is said = absurd is

ends_at : (m : Core) (number : ℕ) (turn : Turn) → TurnSettles turn → unless_run_well turn ≡ None → ok number ≡ end_reply turn → EndsAt m (ending m turn) number
ends_at m number home is none said = absurd cc
ends_at m number (taken turn) is none said = absurd cc
ends_at m number (ran turn true) is none said = absurd cc
ends_at m number (ran turn false) is none said = ends_by m number turn turn.plan is said

-- what is safe does not fall
planned_safer : (sizes : Sizes) (m : Core) (number : ℕ) (plan : Plan) → m.safe ≤ number → m.safe ≤ (planned m number plan).safe
planned_safer sizes m number settles le = le
planned_safer sizes m number (enters manifest) le = le
planned_safer sizes m number (removes id manifest) le = le
planned_safer sizes m number (installs id work new manifest) le = omega arith

pub ending_safer : (m : Core) (sizes : Sizes) (last : ℕ) (turn : Turn) → TurnFits sizes m.safe last turn → m.safe ≤ (ending m turn).safe
ending_safer m sizes last home fits = omega arith
ending_safer m sizes last (taken turn) fits = omega arith
ending_safer m sizes last (ran turn has_failed) fits = planned_safer sizes m turn.number turn.plan fits.0

-- nor does the history change
planned_timeline : (m : Core) (number : ℕ) (plan : Plan) → (planned m number plan).timeline ≡ m.timeline
planned_timeline m number settles = refl
planned_timeline m number (enters manifest) = refl
planned_timeline m number (removes id manifest) = refl
planned_timeline m number (installs id work new manifest) = refl

pub ending_timeline : (m : Core) (turn : Turn) → (ending m turn).timeline ≡ m.timeline
ending_timeline m home = refl
ending_timeline m (taken turn) = refl
ending_timeline m (ran turn has_failed) = planned_timeline m turn.number turn.plan

-- a turn that failed changes neither
pub record Unchanged (m after : Core) : Type 0 where
  pub timeline : after.timeline ≡ m.timeline
  pub safe : after.safe ≡ m.safe

given_up_same : (m : Core) (plan : Plan) → Unchanged m (brought_home (given_up m plan))
given_up_same m settles = record { timeline = refl; safe = refl }
given_up_same m (enters manifest) = record { timeline = refl; safe = refl }
given_up_same m (removes id manifest) = record { timeline = refl; safe = refl }
given_up_same m (installs id work new manifest) = record { timeline = refl; safe = refl }

pub failed_same : (m : Core) (turn : Turn) → Unchanged m (ending_failed m turn)
failed_same m home = record { timeline = refl; safe = refl }
failed_same m (taken turn) = record { timeline = refl; safe = refl }
failed_same m (ran turn false) = record { timeline = refl; safe = refl }
failed_same m (ran turn true) = given_up_same m turn.plan

-- ---- the calls

-- the same with more room
pub roomy : {D : Type 0} (g : Ghosts D) (old mid : Lives D g) (s : Story) → IsSame old mid → LivesServe g old s → LivesServe g mid s
roomy {D = D} g old mid s same l = record {
  phases = subst (λ (p : TurnPhases D g). PhasesServe g p s.machine) (sym same.phases) l.phases;
  life = same.life ∙ l.life;
  marked = subst (λ (p : TurnPhases D g). Marked g (device_of p) mid.marks.items s) (sym same.phases)
      (subst (λ (marks : List Mark). Marked g (device_of old.phases) marks s) (sym same.marks) l.marked);
}

-- with one mark more, of what is safe now
pub noted_at : {D : Type 0} (g : Ghosts D) (s to : Story) (of number moment : ℕ) (mid between new : Lives D g) (P : List ℕ → Type 0)
    → between.marks.items ≡ mid.marks.items → of ≡ length to.past
    → g.clock (device_of mid.phases) ≤ moment → moment ≤ g.clock (device_of between.phases)
    → (g.tells → LeavesOnly g (device_of mid.phases) (device_of between.phases) P)
    → (g.tells → (image : List ℕ) → P image → Keeps to (length s.past) s.machine.safe image)
    → to.marked ≡ s.marked ++ record { life = length to.past; number = number } ∷ [] → Goes s to
    → to.machine.turn ≡ home → to.machine.is_broken ≡ false → number ≡ to.machine.safe → PhasesServe g between.phases to.machine
    → (g.tells → (image : List ℕ) → g.could (device_of between.phases) moment image → image ≡ g.seen (device_of between.phases))
    → Notes between new of number moment → LivesServe g mid s → LivesServe g new to
noted_at {D = D} g s to of number moment mid between new P marks life from until leaves keeps points goes at whole safe phases since n l =
    let mark : Mark = record { life = of; number = number; moment = moment } in
    let items : new.marks.items ≡ mid.marks.items ++ mark ∷ [] = n.marks ∙ ap (λ (ms : List Mark). ms ++ mark ∷ []) marks in
    let pointed : to.marked ≡ s.marked ++ record { life = of; number = number } ∷ [] =
    points ∙ ap (λ (i : ℕ). s.marked ++ record { life = i; number = number } ∷ []) (sym life) in
    record {
      phases = subst (λ (p : TurnPhases D g). PhasesServe g p to.machine) (sym n.phases) phases;
      life = n.life ∙ life;
      marked = subst (λ (p : TurnPhases D g). Marked g (device_of p) new.marks.items to) (sym n.phases)
          (subst (λ (ms : List Mark). Marked g (device_of between.phases) ms to) (sym items)
          (marked_on g (device_of mid.phases) (device_of between.phases) P s to mid.marks.items mark goes pointed from until leaves keeps
          (is_mark g between.phases to mark phases at whole life safe until since) l.marked));
    }

-- since now
pub noted_now : {D : Type 0} (g : Ghosts D) → OnlyNow g → (s to : Story) (number : ℕ) (mid between new : Lives D g) (P : List ℕ → Type 0)
    → between.marks.items ≡ mid.marks.items → between.life ≡ length to.past
    → g.clock (device_of mid.phases) ≤ g.clock (device_of between.phases)
    → (g.tells → LeavesOnly g (device_of mid.phases) (device_of between.phases) P)
    → (g.tells → (image : List ℕ) → P image → Keeps to (length s.past) s.machine.safe image)
    → to.marked ≡ s.marked ++ record { life = length to.past; number = number } ∷ [] → Goes s to
    → to.machine.turn ≡ home → to.machine.is_broken ≡ false → number ≡ to.machine.safe → PhasesServe g between.phases to.machine
    → IfSome (clock_in g between.phases.db.side) (λ clock. Notes between new between.life number clock)
    → LivesServe g mid s → LivesServe g new to
noted_now {D = D} g only s to number mid between new P marks life le leaves keeps points goes at whole safe phases noted l =
    let h = home_in g between.phases to.machine at phases in
    let here : clock_in g between.phases.db.side ≡ Some (g.clock (device_of between.phases)) =
    h.clock ∙ ap (λ (d : D). Some (g.clock d)) (sym h.device) in
    noted_at g s to between.life number (g.clock (device_of between.phases)) mid between new P marks life le (omega arith) leaves keeps points goes at whole
    safe phases (since_now g only between.phases to.machine at whole phases)
    (subst (λ (clock : Option ℕ). IfSome clock (λ now. Notes between new between.life number now)) here noted) l

pub end_noted : {D : Type 0} (g : Ghosts D) → OnlyNow g → (s : Story) (number : ℕ) (mid between new : Lives D g) → between.marks.items ≡ mid.marks.items
    → between.life ≡ mid.life → device_of between.phases ≡ device_of mid.phases → engine.Ends g s.machine (Ok number) between.phases
    → IfSome (clock_in g between.phases.db.side) (λ clock. Notes between new between.life number clock)
    → LivesServe g mid s → Ends g s (Ok number) new
end_noted {D = D} g only s number mid between new marks life device is noted l =
    let e = ends_at s.machine number s.machine.turn (held_settles g mid.phases.held s.machine l.phases.turn) is.unrefused is.replied in
    let le : g.clock (device_of mid.phases) ≤ g.clock (device_of between.phases) =
    (let same : g.clock (device_of between.phases) ≡ g.clock (device_of mid.phases) = ap (λ (d : D). g.clock d) device in omega (arith, same)) in (
      is.unrefused,
      is.replied,
      noted_now g only s (ended s number) number mid between new (λ image. ⊥) marks (life ∙ l.life) le
          (λ told clock image before left. inl (subst (λ (d : D). g.could d clock image) device left))
          (λ told image has. absurd has) refl
          (goes_still s (done s.machine end_turn) _ e.timeline
          (ending_safer s.machine s.machine.sizes (number_of s.machine) s.machine.turn l.phases.sound.limits.turn))
          e.turn (e.broken ∙ held_whole g mid.phases.held s.machine l.phases.turn is.unrefused) e.safe is.serves noted l,
    )

pub end_refused : {D : Type 0} (g : Ghosts D) (s : Story) (fault : EndFault) (old new : Lives D g) → new.life ≡ old.life → new.marks.items ≡ old.marks.items
    → device_of new.phases ≡ device_of old.phases → LivesServe g old s → engine.Ends g s.machine (Err fault) new.phases
    → Ends g s (Err (unmarked.Fault fault)) new
end_refused g s fault old new life marks device l is =
    let same = failed_same s.machine s.machine.turn in (
      is.0,
      served g old new s (refused s end_turn) life marks device refl refl
          (goes_still s (refused_to s.machine end_turn) s.marked same.timeline (omega (arith, same.safe))) is.1 l,
    )
