-- Marks, and what a crash since one of them leaves.
use Rattle.std.proofs.Common.{◌≡◌, ◌≢◌, ℕ, ◌≤◌, List, [], ◌∷◌, ◌++◌, refl, ap, ◌∙◌, arith}
use Rattle.std.specs.List.{AllByRecursion}
use Rattle.std.proofs.lemmas.List.{map-append}
use Rattle.hse_io.specs.declared.outcome.Mark.{Mark}
use Rattle.media_disk.specs.Images.{CountsNow}
use Rattle.media_disk.specs.declared.device.Device.{Ghosts}
use Rattle.hse_shell.specs.Machine.{Machine}
use Rattle.hse_shell.specs.Marks.{StoresPrefix, IsMark, Rise, AreMarks, Marked, mark_of}
use Rattle.hse_shell.specs.Logged.{Serves}
use Rattle.hse_shell.specs.declared.engine.Engine.{Engine}

rise_later : (from now later : ℕ) (marks : List Mark) → now ≤ later → Rise from marks now → Rise from marks later
rise_later from now later [] le rise = omega (arith, rise, le)
rise_later from now later (mark ∷ marks) le rise = (rise.0, rise_later mark.moment now later marks le rise.1)

rise_push : (from now later : ℕ) (marks : List Mark) (mark : Mark) → now ≤ mark.moment → mark.moment ≤ later → Rise from marks now
    → Rise from (marks ++ mark ∷ []) later
rise_push from now later [] mark le last rise = (omega (arith, rise, le), last)
rise_push from now later (first ∷ marks) mark le last rise = (rise.0, rise_push first.moment now later marks mark le last rise.1)

pub all_push : (P : Mark → Type 0) (marks : List Mark) (mark : Mark) → AllByRecursion P marks → P mark → AllByRecursion P (marks ++ mark ∷ [])
all_push P [] mark all new = (new, tt)
all_push P (first ∷ marks) mark all new = (all.0, all_push P marks mark all.1 new)

-- the clock went on
pub marks_later : (marks : List Mark) (numbers : List ℕ) (now later : ℕ) → now ≤ later → AreMarks marks numbers now → AreMarks marks numbers later
marks_later marks numbers now later le a = record {
  some = a.some;
  numbers_are = a.numbers_are;
  first_life = a.first_life;
  rise = rise_later 0 now later marks le a.rise;
}

pushed_some : (marks : List Mark) (mark : Mark) → marks ++ mark ∷ [] ≢ []
pushed_some [] mark e = cc
pushed_some (first ∷ marks) mark e = cc

-- one mark more
pub marks_push : (marks : List Mark) (numbers : List ℕ) (now later number moment : ℕ) → now ≤ moment → moment ≤ later
    → AreMarks marks numbers now → AreMarks (marks ++ mark_of number moment ∷ []) (numbers ++ number ∷ []) later
marks_push marks numbers now later number moment le last a = record {
  some = pushed_some marks (mark_of number moment);
  numbers_are = map-append (λ (m : Mark). m.number) marks (mark_of number moment ∷ []) ∙ ap (λ (ns : List ℕ). ns ++ number ∷ []) a.numbers_are;
  first_life = all_push (λ (m : Mark). m.life ≡ 0) marks (mark_of number moment) a.first_life refl;
  rise = rise_push 0 now later marks (mark_of number moment) le last a.rise;
}

-- the first mark
pub marks_first : (number moment later : ℕ) → moment ≤ later → AreMarks (mark_of number moment ∷ []) (number ∷ []) later
marks_first number moment later last = record {
  some = (λ e. cc);
  numbers_are = refl;
  first_life = (refl, tt);
  rise = (omega arith, last);
}

-- an image of now is among what a crash since a mark might have left
pub left_of : (could : ℕ → List ℕ → Type 0) (now : ℕ) (m : Machine) (image : List ℕ) → ((clock : ℕ) → clock ≤ now → could clock image)
    → (marks : List Mark) → AllByRecursion (IsMark could now m) marks → AllByRecursion (λ mark. StoresPrefix m mark.number image) marks
left_of could now m image counts [] all = tt
left_of could now m image counts (mark ∷ marks) all =
    (all.0.kept image (counts mark.moment all.0.past), left_of could now m image counts marks all.1)

pub marked : {D : Type 0} (g : Ghosts D) → CountsNow g → (disk : D) (marks : List Mark) (m : Machine) → AreMarks marks m.marked (g.clock disk)
    → (g.tells → AllByRecursion (IsMark (g.could disk) (g.clock disk) m) marks) → Marked g disk marks m
marked g counts disk marks m are kept = record {
  marks_are = are;
  kept = kept;
  left = λ told image now. left_of (g.could disk) (g.clock disk) m image (λ clock le. counts disk clock image told le now) marks (kept told);
}

-- whoever serves a state leaves it
pub marked_of : {D : Type 0} (g : Ghosts D) → CountsNow g → (disk : D) (engine : Engine) (m : Machine) → Serves g disk engine m
    → Marked g disk engine.marks.items m
marked_of g counts disk engine m s = marked g counts disk engine.marks.items m s.marks_are s.marks
