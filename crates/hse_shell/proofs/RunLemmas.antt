-- A run that goes on by one line, and ends.
use Rattle.std.proofs.Common.{◌≡◌, ℕ, ◌+◌, List, [], ◌∷◌, ◌++◌, length, Option, Some, None, refl, sym, ap, subst, ◌∙◌, append_assoc, IfSome, arith}
use Rattle.std.specs.Prelude.{Ok, flat_map}
use Rattle.std.specs.Io.KnownBytes.{Appends}
use Rattle.std.specs.List.{AllByRecursion}
use Rattle.std.proofs.lemmas.List.Concat.{flat_map-append}
use Rattle.std.proofs.lemmas.List.Sums.{sum_by_push}
use Rattle.std.proofs.lemmas.List.{append-nil}
use Rattle.hse_io.specs.declared.source.Got.TheVariants.{Text, Ended}
use Rattle.hse_io.specs.Lines.{after_line, lines_of}
use Rattle.hse_io.specs.laws.Lines.{lines_of-first}
use Rattle.hse_io.specs.Takes.{Takes}
use Rattle.media_disk.specs.declared.device.Device.{Ghosts}
use Rattle.hse_shell.specs.Base.{Base}
use Rattle.hse_shell.specs.Grammar.{Meaning, Means}
use Rattle.hse_shell.specs.Replies.{Answer, answer_line, opened_text}
use Rattle.hse_shell.specs.Machine.{Machine, Step, opening, led_to}
use Rattle.hse_shell.specs.Stored.{Begins}
use Rattle.hse_shell.specs.Logged.{Serves}
use Rattle.hse_shell.specs.Runs.{Run, replies}
use Rattle.hse_shell.specs.Turns.{Replied}
use Rattle.hse_shell.specs.SoFar.{Start, Took, Ran, SoFar, IsShort, script_length}
use Rattle.hse_shell.specs.declared.engine.Engine.{Engine}

-- one line and its answer more
pub Run-push : (old mid new : Machine) (lines : List (List ℕ)) (answers : List Answer) (line : List ℕ) (answer : Answer) (meaning : Meaning)
    → Run old lines answers mid → Means line meaning → Step mid meaning answer new → Run old (lines ++ line ∷ []) (answers ++ answer ∷ []) new
Run-push old mid new [] [] line answer meaning run means step =
    (meaning, new, means, subst (λ m. Step m meaning answer new) run step, refl)
Run-push old mid new (first ∷ lines) (reply ∷ answers) line answer meaning (m, next, says, stepped, run) means step =
    (m, next, says, stepped, Run-push next mid new lines answers line answer meaning run means step)
Run-push old mid new [] (reply ∷ answers) line answer meaning run means step = absurd run
Run-push old mid new (first ∷ lines) [] line answer meaning run means step = absurd run

-- what is appended in two parts
pub Appends-both : (before between after : Option (List ℕ)) (first more : List ℕ) → Appends before between first → Appends between after more → Appends before after (first ++ more)
Appends-both None between after first more one two = tt
Appends-both (Some b) None after first more one two = absurd one
Appends-both (Some b) (Some m) None first more one two = absurd two
Appends-both (Some b) (Some m) (Some a) first more one two = two ∙ ap (λ (l : List ℕ). l ++ more) one ∙ append_assoc b first more

-- what stays is appended to by nothing
pub Appends-none : (before : Option (List ℕ)) → Appends before before []
Appends-none None = tt
Appends-none (Some b) = sym (append-nil b)

-- nothing is appended after the rest
pub Appends-then_none : (before between after : Option (List ℕ)) (first : List ℕ) → Appends before between first → Appends between after [] → Appends before after first
Appends-then_none before between after first one two =
    subst (Appends before after) (append-nil first) (Appends-both before between after first [] one two)

-- a line was taken of what was left
pub took_line : (input left now : Option (List ℕ)) (lines : List (List ℕ)) (line : List ℕ)
    → Took input lines left → IfSome left (λ all. Takes all (Ok Text) line now) → Took input (lines ++ line ∷ []) now
took_line None left now lines line took takes = tt
took_line (Some all) None now lines line (rest, is, parts) takes = absurd (cc (is))
took_line (Some all) (Some left) now lines line (rest, is, parts) (some, first, short, next) =
    let same : left ≡ rest = cc (is) in (
      after_line left,
      next,
      parts ∙ ap (λ (r : List ℕ). lines ++ lines_of r) (sym same)
          ∙ ap (λ (ls : List (List ℕ)). lines ++ ls) (lines_of-first left some)
          ∙ ap (λ (l : List ℕ). lines ++ l ∷ lines_of (after_line left)) (sym first)
          ∙ sym (append_assoc lines (line ∷ []) (lines_of (after_line left))),
    )

-- nothing was left
pub took_end : (input left now : Option (List ℕ)) (lines : List (List ℕ)) (line : List ℕ)
    → Took input lines left → IfSome left (λ all. Takes all (Ok Ended) line now) → Took input lines now × IfSome input (λ all. now ≡ Some [])
took_end None left now lines line took takes = (tt, tt)
took_end (Some all) None now lines line (rest, is, parts) takes = absurd (cc (is))
took_end (Some all) (Some left) now lines line (rest, is, parts) (none, next) =
    let same : left ≡ rest = cc (is) in
    (([], next, parts ∙ ap (λ (r : List ℕ). lines ++ lines_of r) (sym same ∙ none)), next)

pub replies-push : (number : ℕ) (answers : List Answer) (answer : Answer)
    → replies number (answers ++ answer ∷ []) ≡ replies number answers ++ answer_line answer
replies-push number answers answer =
    ap (λ (l : List ℕ). opened_text number ++ l) (flat_map-append answer_line answers (answer ∷ []))
    ∙ ap (λ (l : List ℕ). opened_text number ++ (flat_map answer_line answers ++ l)) (append-nil (answer_line answer))
    ∙ sym (append_assoc (opened_text number) (flat_map answer_line answers) (answer_line answer))

-- one line more
pub short-push : (lines : List (List ℕ)) (line : List ℕ) → AllByRecursion IsShort lines → IsShort line → AllByRecursion IsShort (lines ++ line ∷ [])
short-push [] line all short = (short, tt)
short-push (first ∷ lines) line all short = (all.0, short-push lines line all.1 short)

pub script_length-push : (lines : List (List ℕ)) (line : List ℕ) → script_length (lines ++ line ∷ []) ≡ script_length lines + (length line + 1)
script_length-push lines line = sum_by_push (λ (l : List ℕ). length l + 1) lines line

module _ {D : Type 0} (g : Ghosts D) (start : Start D) (left now : Option (List ℕ)) where
  -- one line more, with an answer of the machine's
  abbrev pub ran_more : (line : List ℕ) (r : Ran g start left) → IfSome left (λ all. Takes all (Ok Text) line now) → IsShort line
      → (meaning : Meaning) (answer : Answer) → Means line meaning → Step r.state meaning answer (led_to r.state meaning answer) → Ran g start now
  ran_more line r takes short meaning answer means step = record {
    base = r.base;
    begins = r.begins;
    lines = r.lines ++ line ∷ [];
    answers = r.answers ++ answer ∷ [];
    state = led_to r.state meaning answer;
    run = Run-push (opening r.base) r.state (led_to r.state meaning answer) r.lines r.answers line answer meaning r.run means step;
    took = took_line start.input left now r.lines line r.took takes;
    short = short-push r.lines line r.short short;
  }

  -- the input is at its end
  abbrev pub ran_ended : (line : List ℕ) (r : Ran g start left) → IfSome left (λ all. Takes all (Ok Ended) line now) → Ran g start now
  ran_ended line r takes = record {
    base = r.base;
    begins = r.begins;
    lines = r.lines;
    answers = r.answers;
    state = r.state;
    run = r.run;
    took = (took_end start.input left now r.lines line r.took takes).0;
    short = r.short;
  }

module _ {D : Type 0} (g : Ghosts D) (start : Start D) (left now between after : Option (List ℕ)) (old new : D) (engine next : Engine) (taken : ℕ) where
  -- one line more, its reply written
  pub so_far_more : (line : List ℕ) (s : SoFar g start left between old engine taken)
      → IfSome left (λ all. Takes all (Ok Text) line now) → IsShort line → Replied g s.ran.state line between after new next
      → SoFar g start now after new next (taken + length line + 1)
  so_far_more line s takes short r = record {
    ran = ran_more g start left now line s.ran takes short r.turned.meaning r.turned.answer r.turned.means r.turned.turned.step;
    wrote = subst (Appends start.held after) (sym (replies-push s.ran.base.number s.ran.answers r.turned.answer))
        (Appends-both start.held between after (replies s.ran.base.number s.ran.answers) (answer_line r.turned.answer) s.wrote r.wrote);
    counted = omega (arith, s.counted, script_length-push s.ran.lines line);
    serves = r.turned.turned.serves;
  }

module _ {D : Type 0} (g : Ghosts D) (start : Start D) (left now after : Option (List ℕ)) (disk : D) (engine : Engine) (taken : ℕ) where
  -- the input is at its end
  pub so_far_ended : (line : List ℕ) → SoFar g start left after disk engine taken → IfSome left (λ all. Takes all (Ok Ended) line now)
      → SoFar g start now after disk engine taken × IfSome start.input (λ all. now ≡ Some [])
  so_far_ended line s takes = (
    record { ran = ran_ended g start left now line s.ran takes; wrote = s.wrote; counted = s.counted; serves = s.serves },
    (took_end start.input left now s.ran.lines line s.ran.took takes).1,
  )

pub took_none : (input : Option (List ℕ)) → Took input [] input
took_none None = tt
took_none (Some all) = (all, refl, refl)

module _ {D : Type 0} (g : Ghosts D) (start : Start D) (base : Base) (begins : g.tells → Begins (g.seen start.device) base) where
  -- no line was taken
  abbrev pub ran_none : Ran g start start.input
  ran_none = record {
    base = base;
    begins = begins;
    lines = [];
    answers = [];
    state = opening base;
    run = refl;
    took = took_none start.input;
    short = tt;
  }

  -- and the opening's line was written
  pub so_far_opened : (after : Option (List ℕ)) (disk : D) (engine : Engine) → Serves g disk engine (opening base)
      → Appends start.held after (opened_text base.number) → SoFar g start start.input after disk engine 0
  so_far_opened after disk engine serves wrote = record {
    ran = ran_none;
    wrote = subst (Appends start.held after) (sym (append-nil (opened_text base.number))) wrote;
    counted = refl;
    serves = serves;
  }
