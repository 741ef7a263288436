-- How a run stops, from what it did so far.
use Rattle.std.proofs.Common.{◌≡◌, ◌⊎◌, inl, inr, ℕ, ◌+◌, ◌<◌, ◌≤◌, List, [], ◌++◌, length, Option, Some, None, refl, sym, ap, subst, ◌∙◌, IfSome, arith}
use Rattle.std.specs.Prelude.{Ok, Err}
use Rattle.std.specs.Io.KnownBytes.{Appends}
use Rattle.std.proofs.lemmas.List.{append-nil}
use Rattle.hse_io.specs.declared.source.Got.TheVariants.{Text}
use Rattle.hse_io.specs.declared.source.LineFault.TheVariants.{TooLong}
use Rattle.hse_io.specs.declared.outcome.Mark.{Mark}
use Rattle.hse_io.specs.declared.outcome.Status.{Status}
use Rattle.hse_io.specs.declared.outcome.Status.TheVariants as status
use Rattle.hse_io.specs.Lines.{lines_of}
use Rattle.hse_io.specs.Longest.{longest_script}
use Rattle.hse_io.specs.Takes.{Takes}
use Rattle.media_disk.specs.Images.{CountsNow}
use Rattle.media_disk.specs.declared.device.Device.{Ghosts}
use Rattle.hse_shell.specs.Base.{Base}
use Rattle.hse_shell.specs.Ends.{Answered, FailedToRead, MeetsLongLine, MeetsLimit, Unopened, at_line, at_closing, before_opening, for_opening, for_line, for_closing, of_opening, of_reply, of_closing, Greets, Stops, EndsServed, IsNotFormed, EndsTold}
use Rattle.hse_shell.specs.Marks.{Marked}
use Rattle.hse_shell.specs.Machine.{opening, led_to, number_of}
use Rattle.hse_shell.specs.Replies.{answer_line, opened_text, closed_text}
use Rattle.hse_shell.specs.Runs.{replies}
use Rattle.hse_shell.specs.SoFar.{Start, Took, SoFar, IsShort}
use Rattle.hse_shell.specs.Stored.{Begins}
use Rattle.hse_shell.specs.Turns.{Unreplied, Replied, Closes}
use Rattle.hse_shell.specs.declared.engine.Engine.{Engine}
use Rattle.hse_shell.proofs.MarkLemmas.{marked_of}
use Rattle.hse_shell.proofs.RunLemmas.{Appends-both, Appends-none, Appends-then_none, took_line, replies-push, script_length-push, ran_more}

took_all : (left input : Option (List ℕ)) (lines : List (List ℕ)) → Took input lines left → IfSome input (λ all. left ≡ Some [])
    → IfSome input (λ all. (lines ≡ lines_of all) × (left ≡ Some []))
took_all left None lines took end = tt
took_all left (Some all) lines (rest, is, parts) end =
    let none : rest ≡ [] = cc (is, end) in
    (sym (append-nil lines) ∙ sym (parts ∙ ap (λ (r : List ℕ). lines ++ lines_of r) none), end)

module _ {D : Type 0} (g : Ghosts D) (counts : CountsNow g) (start : Start D) (left between : Option (List ℕ)) (disk : D) (engine : Engine) (taken : ℕ)
    (within : taken < longest_script + 1) (s : SoFar g start left between disk engine taken) where
  abbrev answered_still : (after : Option (List ℕ)) → Appends between after [] → Answered g start left after
  answered_still after none = record {
    ran = s.ran;
    wrote = Appends-then_none start.held between after (replies s.ran.base.number s.ran.answers) s.wrote none;
    within = omega (arith, s.counted);
  }

  -- each line has its reply, and no line more was read
  pub failed_to_read : FailedToRead g start between disk engine.marks.items
  failed_to_read = record {
    rest = left;
    answered = answered_still between (Appends-none between);
    marked = marked_of g counts disk engine s.ran.state s.serves;
  }

  pub meets_long_line : (line : List ℕ) (now : Option (List ℕ)) → IfSome left (λ all. Takes all (Err TooLong) line now)
      → MeetsLongLine g start between disk engine.marks.items
  meets_long_line line now takes = record {
    rest = left;
    answered = answered_still between (Appends-none between);
    long = takes;
    marked = marked_of g counts disk engine s.ran.state s.serves;
  }

  -- a line has no reply
  pub stops_unreplied : (ended : Status) (line : List ℕ) (now after : Option (List ℕ)) (new : D) (marks : List Mark)
      → IfSome left (λ all. Takes all (Ok Text) line now) → IsShort line → Unreplied g ended s.ran.state line between after new marks → Stops g ended start now after new marks
  stops_unreplied status.DeviceFault line now after new marks takes short (asks, none) = at_line (record {
    rest = left;
    answered = answered_still after none;
    line = line;
    short = short;
    took = took_line start.input left now s.ran.lines line s.ran.took takes;
    fits = asks;
  })
  stops_unreplied status.NoMemory line now after new marks takes short (speaks, none) = for_line (record {
    rest = left;
    answered = answered_still after none;
    line = line;
    short = short;
    took = took_line start.input left now s.ran.lines line s.ran.took takes;
    fits = speaks;
  })
  stops_unreplied status.WriteFault line now after new marks takes short reply = of_reply (record {
    rest = left;
    between = between;
    answered = answered_still between (Appends-none between);
    line = line;
    short = short;
    took = took_line start.input left now s.ran.lines line s.ran.took takes;
    reply = reply;
  })
  stops_unreplied status.Done line now after new marks takes short never = absurd never
  stops_unreplied status.Usage line now after new marks takes short never = absurd never
  stops_unreplied status.ReadFault line now after new marks takes short never = absurd never
  stops_unreplied status.NotFormed line now after new marks takes short never = absurd never
  stops_unreplied status.LineTooLong line now after new marks takes short never = absurd never
  stops_unreplied status.ScriptTooLong line now after new marks takes short never = absurd never
  stops_unreplied status.NotEmpty line now after new marks takes short never = absurd never
  stops_unreplied status.BadParams line now after new marks takes short never = absurd never
  stops_unreplied status.Refused line now after new marks takes short never = absurd never

  -- the line brought the sum to the limit
  pub meets_limit : (line : List ℕ) (now after : Option (List ℕ)) (new : D) (next : Engine) → IfSome left (λ all. Takes all (Ok Text) line now) → IsShort line
      → Replied g s.ran.state line between after new next → longest_script + 1 ≤ taken + length line + 1 → MeetsLimit g start now after new next.marks.items
  meets_limit line now after new next takes short r reached = record {
    ran = ran_more g start left now line s.ran takes short r.turned.meaning r.turned.answer r.turned.means r.turned.turned.step;
    wrote = subst (Appends start.held after) (sym (replies-push s.ran.base.number s.ran.answers r.turned.answer))
        (Appends-both start.held between after (replies s.ran.base.number s.ran.answers) (answer_line r.turned.answer) s.wrote r.wrote);
    front = s.ran.lines;
    last = line;
    lines_are = refl;
    within = omega (arith, s.counted);
    reached = omega (arith, s.counted, script_length-push s.ran.lines line);
    marked = marked_of g counts new next (led_to s.ran.state r.turned.meaning r.turned.answer) r.turned.turned.serves;
  }

  -- the input is at its end, and the engine was closed
  pub ends_closed : (ended : Status) (after : Option (List ℕ)) (last : D) (marks : List Mark) → IfSome start.input (λ all. left ≡ Some [])
      → Closes g ended s.ran.state between after last marks → EndsServed g ended start left after last marks
  ends_closed status.Done after last marks end closed = record {
    ran = s.ran;
    whole = took_all left start.input s.ran.lines s.ran.took end;
    within = omega (arith, s.counted);
    wrote = Appends-both start.held between after (replies s.ran.base.number s.ran.answers) (closed_text (number_of s.ran.state)) s.wrote closed.wrote;
    stores = closed.stores;
    durable = closed.durable;
    marked = closed.marked;
  }
  ends_closed status.WriteFault after last marks end closed = of_closing (record {
    between = between;
    answered = answered_still between (Appends-none between);
    ended = end;
    closed = closed;
  })
  ends_closed status.DeviceFault after last marks end (asks, none) = at_closing (record { answered = answered_still after none; ended = end; fits = asks })
  ends_closed status.NoMemory after last marks end (refused, none) = for_closing (record { answered = answered_still after none; ended = end; fits = refused })
  ends_closed status.Usage after last marks end never = absurd never
  ends_closed status.ReadFault after last marks end never = absurd never
  ends_closed status.NotFormed after last marks end never = absurd never
  ends_closed status.LineTooLong after last marks end never = absurd never
  ends_closed status.ScriptTooLong after last marks end never = absurd never
  ends_closed status.NotEmpty after last marks end never = absurd never
  ends_closed status.BadParams after last marks end never = absurd never
  ends_closed status.Refused after last marks end never = absurd never

-- Who stops early ends once the store is open.
pub ends_stopped : {D : Type 0} (g : Ghosts D) (ended : Status) (start : Start D) (left after : Option (List ℕ)) (disk : D) (marks : List Mark)
    → Stops g ended start left after disk marks → EndsServed g ended start left after disk marks
ends_stopped g status.Done start left after disk marks never = absurd never
ends_stopped g status.Usage start left after disk marks never = absurd never
ends_stopped g status.ReadFault start left after disk marks stops = stops
ends_stopped g status.WriteFault start left after disk marks stops = stops
ends_stopped g status.DeviceFault start left after disk marks stops = stops
ends_stopped g status.NotFormed start left after disk marks never = absurd never
ends_stopped g status.NoMemory start left after disk marks stops = stops
ends_stopped g status.LineTooLong start left after disk marks stops = stops
ends_stopped g status.ScriptTooLong start left after disk marks stops = stops
ends_stopped g status.NotEmpty start left after disk marks never = absurd never
ends_stopped g status.BadParams start left after disk marks never = absurd never
ends_stopped g status.Refused start left after disk marks never = absurd never

-- A run whose first line was not written whole.
pub stops_greeting : {D : Type 0} (g : Ghosts D) (ended : Status) (start : Start D) (after : Option (List ℕ)) (disk : D) (marks : List Mark) (base : Base)
    → (g.tells → Begins (g.seen start.device) base) → Marked g disk marks (opening base) → Greets ended base.number start.held after
    → Stops g ended start start.input after disk marks
stops_greeting g status.WriteFault start after disk marks base begins marked front =
    of_opening (record { unread = refl; base = base; begins = begins; front = front; marked = marked })
stops_greeting g status.NoMemory start after disk marks base begins marked none =
    for_opening (record {
      unread = refl;
      base = base;
      begins = begins;
      front = record { front = []; rest = opened_text base.number; parts = refl; appended = none };
      marked = marked;
    }) none
stops_greeting g status.Done start after disk marks base begins marked never = absurd never
stops_greeting g status.Usage start after disk marks base begins marked never = absurd never
stops_greeting g status.ReadFault start after disk marks base begins marked never = absurd never
stops_greeting g status.DeviceFault start after disk marks base begins marked never = absurd never
stops_greeting g status.NotFormed start after disk marks base begins marked never = absurd never
stops_greeting g status.LineTooLong start after disk marks base begins marked never = absurd never
stops_greeting g status.ScriptTooLong start after disk marks base begins marked never = absurd never
stops_greeting g status.NotEmpty start after disk marks base begins marked never = absurd never
stops_greeting g status.BadParams start after disk marks base begins marked never = absurd never
stops_greeting g status.Refused start after disk marks base begins marked never = absurd never

-- A device that is refused was told of, or there was no memory for the line.
pub ends_refused : {D : Type 0} (g : Ghosts D) (ended : Status) (start : Start D) (left after : Option (List ℕ)) (faults now : ℕ) (disk : D) (marks : List Mark)
    → (ended ≡ status.NotFormed) ⊎ (ended ≡ status.NoMemory) → (ended ≡ status.NotFormed → IsNotFormed g start left after faults now disk marks)
    → (ended ≡ status.NoMemory → Unopened g start left after disk marks) → EndsTold g ended start left after faults now disk marks
ends_refused g ended start left after faults now disk marks (inl is) told silent =
    subst (λ (s : Status). EndsTold g s start left after faults now disk marks) (sym is) (told is)
ends_refused g ended start left after faults now disk marks (inr is) told silent =
    subst (λ (s : Status). EndsTold g s start left after faults now disk marks) (sym is) (before_opening (silent is))

-- Who ends once the store is open ends the run.
pub ends_served : {D : Type 0} (g : Ghosts D) (ended : Status) (start : Start D) (left after : Option (List ℕ)) (faults now : ℕ) (disk : D) (marks : List Mark)
    → EndsServed g ended start left after disk marks → EndsTold g ended start left after faults now disk marks
ends_served g status.Done start left after faults now disk marks ends = ends
ends_served g status.Usage start left after faults now disk marks ends = ends
ends_served g status.ReadFault start left after faults now disk marks ends = ends
ends_served g status.WriteFault start left after faults now disk marks ends = ends
ends_served g status.DeviceFault start left after faults now disk marks ends = ends
ends_served g status.NotFormed start left after faults now disk marks ends = absurd ends
ends_served g status.NoMemory start left after faults now disk marks ends = ends
ends_served g status.LineTooLong start left after faults now disk marks ends = ends
ends_served g status.ScriptTooLong start left after faults now disk marks ends = ends
ends_served g status.NotEmpty start left after faults now disk marks ends = ends
ends_served g status.BadParams start left after faults now disk marks ends = ends
ends_served g status.Refused start left after faults now disk marks ends = ends
