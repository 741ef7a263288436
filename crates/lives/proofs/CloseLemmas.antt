-- A run is closed, with a mark or without one.
use Rattle.std.specs.Prelude.{true, false, Ok}
use Rattle.std.proofs.Common.{◌≡◌, ⊎_elim, ℕ, ◌≤◌, List, [], ◌∷◌, ◌++◌, length, refl, sym, ap, ◌∙◌, subst, arith}
use Rattle.hse_io.specs.declared.outcome.Mark.{Mark}
use Rattle.media_disk.specs.Images.{IsImage, OnlyNow}
use Rattle.media_disk.specs.Leaves.{LeavesOnly}
use Rattle.media_disk.specs.declared.device.Device.{Ghosts}
use Rattle.hse_rows.specs.transactions.Timeline.{Timeline}
use Rattle.hse_rows.specs.transactions.Timeline as timelines
use Rattle.hse_rows.specs.machine.Limits.{TurnFits}
use Rattle.hse_rows.specs.machine.Turn.{Turn, sync, home, taken, ran, written}
use Rattle.hse_rows.specs.machine.Calls.{write_turn}
use Rattle.hse_rows.specs.machine.Core.{Core, number_of}
use Rattle.hse_rows.specs.machine.CoreDone.{done}
use Rattle.recovery.specs.Image.{IsLoaded}
use Rattle.engine_state.specs.Serves.{IsSound, handed}
use Rattle.turn_phases.specs.Closing.{ClosesWith, StoresWithin, finished, finished_from}
use Rattle.turn_phases.specs.Devices.{device_of}
use Rattle.turn_phases.specs.Turns.{turned}
use Rattle.lives.specs.Keeping.{Keeps}
use Rattle.lives.specs.Marks.{IsMark, Marked}
use Rattle.lives.specs.Serves.{LivesServe}
use Rattle.lives.specs.Stories.{Point, Story, closed}
use Rattle.lives.specs.declared.run.Lives.{Lives}
use Rattle.lives.proofs.EndLemmas.{ending_safer, ending_timeline, failed_same}
use Rattle.lives.proofs.MarkLemmas.{marked_goes, marked_on}
use Rattle.lives.proofs.ServeLemmas.{handed_within}
use Rattle.lives.proofs.StoryLemmas.{goes_still, keeps_from, keeps_now}

-- ---- the turn that is out is finished

record Finishes (m after : Core) : Type 0 where
  timeline : after.timeline ≡ m.timeline
  safer : m.safe ≤ after.safe

finished_by : (m : Core) (turn : Turn) → m.turn ≡ turn → TurnFits m.sizes m.safe (number_of m) turn → Finishes m (finished_from m turn)
finished_by m home at fits = record { timeline = refl; safer = omega arith }
finished_by m (taken turn) at fits = record {
  timeline = ending_timeline (done m write_turn) (written m.turn false);
  safer = ending_safer (done m write_turn) m.sizes (number_of m) (written m.turn false)
      (subst (λ (t : Turn). TurnFits m.sizes m.safe (number_of m) (written t false)) (sym at) fits);
}
finished_by m (ran turn true) at fits =
    let same = failed_same m m.turn in
    record { timeline = same.timeline; safer = omega (arith, same.safe) }
finished_by m (ran turn false) at fits = record {
  timeline = ending_timeline m m.turn;
  safer = ending_safer m m.sizes (number_of m) m.turn (subst (λ (t : Turn). TurnFits m.sizes m.safe (number_of m) t) (sym at) fits);
}

finishes : (m : Core) → IsSound m → Finishes m (finished m)
finishes m sound = finished_by m m.turn refl sound.limits.turn

same_number : (m : Core) → IsSound m → number_of (finished m) ≡ number_of m
same_number m sound = ap (λ (t : Timeline). timelines.number_of t) (finishes m sound).timeline

-- ---- what a crash within leaves

keeps_within : (s : Story) (m : Core) (points : List Point) → IsSound s.machine → m.timeline ≡ s.machine.timeline → (image : List ℕ)
    → StoresWithin s.machine image → Keeps (record { past = s.past; machine = m; marked = points }) (length s.past) s.machine.safe image
keeps_within s m points sound same image has =
    let f = finishes s.machine sound in
    let base : (finished s.machine).timeline.base.number ≡ s.machine.timeline.base.number = ap (λ (t : Timeline). t.base.number) f.timeline in
    ⊎_elim
    (λ early. keeps_from (record { past = s.past; machine = m; marked = points }) s.machine (handed s.machine) s.machine.safe image (sym same)
    sound.limits.since_base (handed_within s.machine sound) (omega arith) early)
    (λ late. keeps_from (record { past = s.past; machine = m; marked = points }) (finished s.machine) (number_of (finished s.machine)) s.machine.safe image
    (f.timeline ∙ sym same) (omega (arith, base, f.safer, sound.limits.since_base)) (omega arith) f.safer late)
    has

module _ {D : Type 0} (g : Ghosts D) (s : Story) (lives : Lives D g) (l : LivesServe g lives s) (disk : D)
    (le : g.clock (device_of lives.phases) ≤ g.clock disk)
    (crash : g.tells → LeavesOnly g (device_of lives.phases) disk (StoresWithin s.machine)) where
  -- ---- it fails

  pub closed_badly : Marked g disk lives.marks.items s
  closed_badly =
      marked_goes g (device_of lives.phases) disk (StoresWithin s.machine) s s lives.marks.items
      (goes_still s s.machine s.marked refl (omega arith)) refl le crash
      (λ told image has. keeps_within s s.machine s.marked l.phases.sound refl image has) l.marked

  -- ---- or all is safe

  closing_mark : OnlyNow g → (number : ℕ) → ClosesWith g s.machine (Ok number) disk → g.tells
      → IsMark (g.could disk) (g.clock disk) (closed s number) (record { life = length s.past; number = number; moment = g.clock disk })
  closing_mark only number is told =
      let all = is.2 told in
      record {
        past = omega arith;
        lived = omega arith;
        synced = omega (arith, is.1);
        kept = λ image left.
            let seen : image ≡ g.seen disk =
            subst (λ (ranges : List (ℕ × ℕ)). IsImage (g.seen disk) ranges image) all.durable (only disk image told left) in
            keeps_now (closed s number) number image (record {
              number = number_of (finished s.machine);
              reaches = omega (arith, is.1);
              from = omega arith;
              within = omega arith;
              loaded = all.stored.loaded;
              is = subst (λ (bytes : List ℕ). IsLoaded bytes all.stored.loaded) (sym seen) all.stored.is;
              same = ap (λ stored. stored.base) all.stored.same;
            });
      }

  pub closed_well : OnlyNow g → (number moment : ℕ) (marks : List Mark) → moment ≡ g.clock disk
      → marks ≡ lives.marks.items ++ record { life = lives.life; number = number; moment = moment } ∷ [] → ClosesWith g s.machine (Ok number) disk
      → Marked g disk marks (closed s number)
  closed_well only number moment marks now items is =
      let mark : Mark = record { life = length s.past; number = number; moment = g.clock disk } in
      let f = finishes s.machine l.phases.sound in
      let same = same_number s.machine l.phases.sound in
      let noted : marks ≡ lives.marks.items ++ mark ∷ [] =
      items ∙ ap (λ (n : ℕ). lives.marks.items ++ record { life = n; number = number; moment = moment } ∷ []) l.life
      ∙ ap (λ (n : ℕ). lives.marks.items ++ record { life = length s.past; number = number; moment = n } ∷ []) now in
      subst (λ (ms : List Mark). Marked g disk ms (closed s number)) (sym noted)
      (marked_on g (device_of lives.phases) disk (StoresWithin s.machine) s (closed s number) lives.marks.items mark
      (goes_still s (turned (finished s.machine) sync) _ f.timeline (omega (arith, same, l.phases.sound.limits.until_now))) refl le (omega arith) crash
      (λ told image has. keeps_within s (turned (finished s.machine) sync) _ l.phases.sound f.timeline image has)
      (closing_mark only number is) l.marked)
