-- Marks go on with their story.
use Rattle.std.specs.Prelude.{map}
use Rattle.std.specs.List.{AllByRecursion}
use Rattle.std.proofs.Common.{◌≡◌, ℕ, ◌≤◌, List, [], ◌∷◌, ◌++◌, length, refl, sym, ap, ◌∙◌, inl, ⊎_elim, arith}
use Rattle.hse_io.specs.declared.outcome.Mark.{Mark}
use Rattle.media_disk.specs.Images.{CountsNow}
use Rattle.media_disk.specs.Leaves.{LeavesOnly}
use Rattle.media_disk.specs.declared.device.Device.{Ghosts}
use Rattle.lives.specs.Goes.{Goes}
use Rattle.lives.specs.Keeping.{Keeps}
use Rattle.lives.specs.Marks.{IsMark, Left, Marked, Rise, point_of}
use Rattle.lives.specs.Stories.{Point, Story}
use Rattle.lives.proofs.StoryLemmas.{keeps_goes, keeps_less}

-- ---- what they say of the device

mark_goes : {D : Type 0} (g : Ghosts D) (old new : D) (P : List ℕ → Type 0) (s to : Story) (mark : Mark) → Goes s to → g.clock old ≤ g.clock new
    → LeavesOnly g old new P → ((image : List ℕ) → P image → Keeps to (length s.past) s.machine.safe image)
    → IsMark (g.could old) (g.clock old) s mark → IsMark (g.could new) (g.clock new) to mark
mark_goes g old new P s to mark goes le leaves keeps m = record {
  past = omega (arith, m.past);
  lived = omega (arith, m.lived, goes.lived);
  synced = omega (arith, m.synced, goes.safer);
  kept = λ image left. ⊎_elim
      (λ was. keeps_goes s to mark.life mark.number image goes (m.kept image was))
      (λ has. keeps_less to mark.life mark.number (length s.past) s.machine.safe image m.lived m.synced (keeps image has))
      (leaves mark.moment image m.past left);
}

-- Marks go on over calls that leave only what is kept from the life of now and from what is safe on.
pub marks_go : {D : Type 0} (g : Ghosts D) (old new : D) (P : List ℕ → Type 0) (s to : Story) (marks : List Mark) → Goes s to → g.clock old ≤ g.clock new
    → LeavesOnly g old new P → ((image : List ℕ) → P image → Keeps to (length s.past) s.machine.safe image)
    → AllByRecursion (IsMark (g.could old) (g.clock old) s) marks → AllByRecursion (IsMark (g.could new) (g.clock new) to) marks
marks_go g old new P s to [] goes le leaves keeps all = tt
marks_go g old new P s to (mark ∷ marks) goes le leaves keeps all =
    (mark_goes g old new P s to mark goes le leaves keeps all.0, marks_go g old new P s to marks goes le leaves keeps all.1)

all_push : {X : Type 0} (P : X → Type 0) (xs : List X) (x : X) → AllByRecursion P xs → P x → AllByRecursion P (xs ++ x ∷ [])
all_push P [] x all has = (has, tt)
all_push P (first ∷ xs) x all has = (all.0, all_push P xs x all.1 has)

-- ---- their order

rise_later : (from earlier later : ℕ) (marks : List Mark) → earlier ≤ later → Rise from marks earlier → Rise from marks later
rise_later from earlier later [] le rise = omega (arith, rise)
rise_later from earlier later (mark ∷ marks) le rise = (rise.0, rise_later mark.moment earlier later marks le rise.1)

rise_push : (from to : ℕ) (marks : List Mark) (mark : Mark) → Rise from marks mark.moment → mark.moment ≤ to → Rise from (marks ++ mark ∷ []) to
rise_push from to [] mark rise le = (rise, le)
rise_push from to (first ∷ marks) mark rise le = (rise.0, rise_push first.moment to marks mark rise.1 le)

points_push : (marks : List Mark) (mark : Mark) → map point_of (marks ++ mark ∷ []) ≡ map point_of marks ++ point_of mark ∷ []
points_push [] mark = refl
points_push (first ∷ marks) mark = ap (λ (points : List Point). point_of first ∷ points) (points_push marks mark)

-- ---- both

-- without a mark more
pub marked_goes : {D : Type 0} (g : Ghosts D) (old new : D) (P : List ℕ → Type 0) (s to : Story) (marks : List Mark) → Goes s to → to.marked ≡ s.marked
    → g.clock old ≤ g.clock new → (g.tells → LeavesOnly g old new P)
    → (g.tells → (image : List ℕ) → P image → Keeps to (length s.past) s.machine.safe image) → Marked g old marks s → Marked g new marks to
marked_goes g old new P s to marks goes same le leaves keeps m = record {
  marks_are = record {
    points_are = m.marks_are.points_are ∙ sym same;
    rise = rise_later 0 (g.clock old) (g.clock new) marks le m.marks_are.rise;
  };
  kept = λ told. marks_go g old new P s to marks goes le (leaves told) (keeps told) (m.kept told);
}

-- where the device is the same
pub marked_stays : {D : Type 0} (g : Ghosts D) (disk : D) (s to : Story) (marks : List Mark) → Goes s to → to.marked ≡ s.marked
    → Marked g disk marks s → Marked g disk marks to
marked_stays g disk s to marks goes same m =
    marked_goes g disk disk (λ image. ⊥) s to marks goes same (omega arith) (λ told clock image le was. inl was) (λ told image has. absurd has) m

-- with one more
pub marked_on : {D : Type 0} (g : Ghosts D) (old new : D) (P : List ℕ → Type 0) (s to : Story) (marks : List Mark) (mark : Mark) → Goes s to
    → to.marked ≡ s.marked ++ point_of mark ∷ [] → g.clock old ≤ mark.moment → mark.moment ≤ g.clock new
    → (g.tells → LeavesOnly g old new P) → (g.tells → (image : List ℕ) → P image → Keeps to (length s.past) s.machine.safe image)
    → (g.tells → IsMark (g.could new) (g.clock new) to mark) → Marked g old marks s → Marked g new (marks ++ mark ∷ []) to
marked_on g old new P s to marks mark goes more from until leaves keeps is m = record {
  marks_are = record {
    points_are = points_push marks mark ∙ ap (λ (points : List Point). points ++ point_of mark ∷ []) m.marks_are.points_are
        ∙ sym more;
    rise = rise_push 0 (g.clock new) marks mark (rise_later 0 (g.clock old) mark.moment marks from m.marks_are.rise) until;
  };
  kept = λ told. all_push (IsMark (g.could new) (g.clock new) to) marks mark
      (marks_go g old new P s to marks goes (omega (arith, from, until)) (leaves told) (keeps told) (m.kept told)) (is told);
}

-- ---- a crash now

pub left_of : {D : Type 0} (g : Ghosts D) → CountsNow g → (disk : D) (s : Story) (marks : List Mark) → Marked g disk marks s → Left g disk marks s
left_of {D = D} g counts disk s marks m told image left = by marks (m.kept told)
  where
    by : (these : List Mark) → AllByRecursion (IsMark (g.could disk) (g.clock disk) s) these
        → AllByRecursion (λ (mark : Mark). Keeps s mark.life mark.number image) these
    by [] all = tt
    by (mark ∷ these) all = (all.0.kept image (counts disk mark.moment image told all.0.past left), by these all.1)
