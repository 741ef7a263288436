-- What follows from how a run ended: where no object failed, lines within their limits on an empty or formed device
-- ran to their end; and without a mark a device that held something stays as it was.
use Rattle.std.proofs.Common.{◌≡◌, ◌≢◌, ◌⊎◌, inl, inr, ℕ, ◌+◌, ◌<◌, ◌≤◌, List, [], ◌∷◌, ◌++◌, length, Option, Some, None, refl, sym, ap, subst, ◌∙◌, IfSome, arith}
use Rattle.std.specs.List.{AllByRecursion}
use Rattle.std.proofs.lemmas.List.Sums.{sum_by-append}
use Rattle.hse_io.specs.Faults.{Rose}
use Rattle.hse_io.specs.Lines.{lines_of, first_line, after_line}
use Rattle.hse_io.specs.laws.Lines.{lines_of-first}
use Rattle.hse_io.specs.Longest.{longest_line}
use Rattle.hse_io.specs.declared.outcome.Mark.{Mark}
use Rattle.hse_io.specs.declared.outcome.Status.{Status}
use Rattle.hse_io.specs.declared.outcome.Status.TheVariants as status
use Rattle.media_disk.specs.declared.device.Device.{Ghosts}
use Rattle.hse_shell.specs.Ending.{status_text, AppendsOrFails}
use Rattle.hse_shell.specs.Ends.{EndsTold, Ends, IsGoodInput, IsGoodImage, WroteFront, of_opening, of_reply, of_closing, DeviceFails, at_opening, at_line, at_closing, MemoryFails, before_opening, for_opening, for_line, for_closing}
use Rattle.hse_shell.specs.Logged.{WasEmptyOrStays}
use Rattle.hse_shell.specs.Machine.{Machine}
use Rattle.hse_shell.specs.Turns.{IsRefusedAtLast}
use Rattle.hse_shell.specs.SoFar.{Start, Took, IsShort, script_length, script_limit}
use Rattle.hse_shell.proofs.FormedLemmas.{good_not_refused}

-- the sum of lines is that of its parts
script_length-append : (lines more : List (List ℕ)) → script_length (lines ++ more) ≡ script_length lines + script_length more
script_length-append lines more = sum_by-append (λ (line : List ℕ). length line + 1) lines more

-- no part of lines within the limit reaches it
no_limit : (input left : Option (List ℕ)) (lines : List (List ℕ)) → IsGoodInput input → Took input lines left → script_limit ≤ script_length lines → ⊥
no_limit None left lines good took reached = cc (good.is)
no_limit (Some all) left lines good (rest, is, parts) reached =
    let same : all ≡ good.all = cc (good.is) in
    let sum : script_length (lines_of good.all) ≡ script_length lines + script_length (lines_of rest) =
    ap (λ (a : List ℕ). script_length (lines_of a)) (sym same) ∙ ap script_length parts ∙ script_length-append lines (lines_of rest) in
    omega (arith, good.within, sum, reached)

-- what holds of all lines holds of a later one
all_later : (lines : List (List ℕ)) (line : List ℕ) (more : List (List ℕ)) → AllByRecursion IsShort (lines ++ line ∷ more) → IsShort line
all_later [] line more all = all.0
all_later (first ∷ lines) line more all = all_later lines line more all.1

-- nor is one of them too long
no_long_line : (input left : Option (List ℕ)) (lines : List (List ℕ)) → IsGoodInput input → Took input lines left
    → IfSome left (λ bytes. longest_line < length (first_line bytes)) → ⊥
no_long_line None left lines good took long = cc (good.is)
no_long_line (Some all) None lines good (rest, is, parts) long = cc (is)
no_long_line (Some all) (Some []) lines good (rest, is, parts) long = omega (arith, long)
no_long_line (Some all) (Some (b ∷ bytes)) lines good (rest, is, parts) long =
    let same : all ≡ good.all = cc (good.is) in
    let left : b ∷ bytes ≡ rest = cc (is) in
    let some : b ∷ bytes ≢ [] = (λ e. cc) in
    let lines_are : lines_of good.all ≡ lines ++ first_line (b ∷ bytes) ∷ lines_of (after_line (b ∷ bytes)) =
    ap lines_of (sym same) ∙ parts ∙ ap (λ (r : List ℕ). lines ++ lines_of r) (sym left)
    ∙ ap (λ (ls : List (List ℕ)). lines ++ ls) (lines_of-first (b ∷ bytes) some) in
    let short : length (first_line (b ∷ bytes)) ≤ longest_line =
    all_later lines (first_line (b ∷ bytes)) (lines_of (after_line (b ∷ bytes))) (subst (AllByRecursion IsShort) lines_are good.short) in
    omega (arith, long, short)

pub runs_to_its_end : {D : Type 0} (g : Ghosts D) (ended : Status) (start : Start D) (left after : Option (List ℕ)) (faults now : ℕ) (disk : D) (marks : List Mark)
    → EndsTold g ended start left after faults now disk marks → g.tells → IsGoodImage (g.seen start.device) → IsGoodInput start.input
    → (ended ≡ status.ReadFault → ⊥) → (ended ≡ status.WriteFault → ⊥) → (ended ≡ status.DeviceFault → ⊥)
    → (ended ≡ status.Done) ⊎ (ended ≡ status.NoMemory)
runs_to_its_end g status.Done start left after faults now disk marks ends told formed good read wrote failed = inl refl
runs_to_its_end g status.NoMemory start left after faults now disk marks ends told formed good read wrote failed = inr refl
runs_to_its_end g status.ReadFault start left after faults now disk marks ends told formed good read wrote failed = absurd (read refl)
runs_to_its_end g status.WriteFault start left after faults now disk marks ends told formed good read wrote failed = absurd (wrote refl)
runs_to_its_end g status.DeviceFault start left after faults now disk marks ends told formed good read wrote failed = absurd (failed refl)
runs_to_its_end g status.LineTooLong start left after faults now disk marks ends told formed good read wrote failed =
    absurd (no_long_line start.input ends.rest ends.answered.ran.lines good ends.answered.ran.took ends.long)
runs_to_its_end g status.ScriptTooLong start left after faults now disk marks ends told formed good read wrote failed =
    absurd (no_limit start.input left ends.ran.lines good ends.ran.took ends.reached)
runs_to_its_end g status.NotFormed start left after faults now disk marks ends told formed good read wrote failed =
    absurd (good_not_refused (g.seen start.device) formed.0 ends.place formed.1 (ends.refused told))
runs_to_its_end g status.NotEmpty start left after faults now disk marks ends told formed good read wrote failed = absurd ends
runs_to_its_end g status.Usage start left after faults now disk marks ends told formed good read wrote failed = absurd ends
runs_to_its_end g status.BadParams start left after faults now disk marks ends told formed good read wrote failed = absurd ends
runs_to_its_end g status.Refused start left after faults now disk marks ends told formed good read wrote failed = absurd ends

-- whoever wrote a front has marks
some_written : {D : Type 0} (g : Ghosts D) (start : Start D) (left after : Option (List ℕ)) (disk : D) (marks : List Mark)
    → WroteFront g start left after disk marks → marks ≡ [] → ⊥
some_written g start left after disk marks (of_opening o) none = o.marked.marks_are.some none
some_written g start left after disk marks (of_reply a) none = a.reply.led.marked.marks_are.some none
some_written g start left after disk marks (of_closing c) none = c.closed.marked.marks_are.some none

kept_failed : {D : Type 0} (g : Ghosts D) (start : Start D) (left after : Option (List ℕ)) (disk : D) (marks : List Mark)
    → DeviceFails g start left after disk marks → marks ≡ [] → WasEmptyOrStays g start.device disk
kept_failed g start left after disk marks (at_opening u) none = u.stays
kept_failed g start left after disk marks (at_line l) none = absurd (l.fits.2.marks_are.some none)
kept_failed g start left after disk marks (at_closing c) none = absurd (c.fits.1.marks_are.some none)

refused_last : {D : Type 0} (g : Ghosts D) (disk : D) (marks : List Mark) (m : Machine) → IsRefusedAtLast g m disk marks → marks ≡ [] → ⊥
refused_last g disk marks m (inl marked) none = marked.marks_are.some none
refused_last g disk marks m (inr marked) none = marked.marks_are.some none

kept_unremembered : {D : Type 0} (g : Ghosts D) (start : Start D) (left after : Option (List ℕ)) (disk : D) (marks : List Mark)
    → MemoryFails g start left after disk marks → marks ≡ [] → WasEmptyOrStays g start.device disk
kept_unremembered g start left after disk marks (before_opening u) none = u.stays
kept_unremembered g start left after disk marks (for_opening o silent) none = absurd (o.marked.marks_are.some none)
kept_unremembered g start left after disk marks (for_line l) none = absurd (l.fits.1.marked.marks_are.some none)
kept_unremembered g start left after disk marks (for_closing c) none = absurd (refused_last g disk marks c.answered.ran.state c.fits none)

-- without a mark a device that held something stays as it was
pub kept_unmarked : {D : Type 0} (g : Ghosts D) (ended : Status) (start : Start D) (left after : Option (List ℕ)) (faults now : ℕ) (disk : D) (marks : List Mark)
    → EndsTold g ended start left after faults now disk marks → marks ≡ [] → WasEmptyOrStays g start.device disk
kept_unmarked g status.Done start left after faults now disk marks ends none = absurd (ends.marked.marks_are.some none)
kept_unmarked g status.NotFormed start left after faults now disk marks ends none = λ told. inr (ends.stays told)
kept_unmarked g status.ReadFault start left after faults now disk marks ends none = absurd (ends.marked.marks_are.some none)
kept_unmarked g status.LineTooLong start left after faults now disk marks ends none = absurd (ends.marked.marks_are.some none)
kept_unmarked g status.ScriptTooLong start left after faults now disk marks ends none = absurd (ends.marked.marks_are.some none)
kept_unmarked g status.WriteFault start left after faults now disk marks ends none = absurd (some_written g start left after disk marks ends none)
kept_unmarked g status.DeviceFault start left after faults now disk marks ends none = kept_failed g start left after disk marks ends none
kept_unmarked g status.NoMemory start left after faults now disk marks ends none = kept_unremembered g start left after disk marks ends none
kept_unmarked g status.Usage start left after faults now disk marks ends none = absurd ends
kept_unmarked g status.NotEmpty start left after faults now disk marks ends none = absurd ends
kept_unmarked g status.BadParams start left after faults now disk marks ends none = absurd ends
kept_unmarked g status.Refused start left after faults now disk marks ends none = absurd ends

-- the count of faults went on
rose_later : (before middle now : ℕ) → before ≤ middle → Rose middle now → Rose before now
rose_later before middle now le rose = omega (arith, rose)

told_since : (faults now last : ℕ) (before after : Option (List ℕ)) (bytes : List ℕ) → faults ≤ now
    → AppendsOrFails now last before after bytes → AppendsOrFails faults last before after bytes
told_since faults now last before after bytes le (inl all) = inl all
told_since faults now last before after bytes le (inr failed) = inr (rose_later faults now last le failed.0, failed.1)

-- whoever ended early has told it at last
pub ends_early : {D : Type 0} (g : Ghosts D) (ended : Status) (start : Start D) (left after later : Option (List ℕ)) (faults now last : ℕ) (disk : D) (marks : List Mark)
    → faults ≤ now → EndsTold g ended start left after faults now disk marks → AppendsOrFails now last after later (status_text ended)
    → (ended ≡ status.Done → ⊥) → (ended ≡ status.WriteFault → ⊥) → (ended ≡ status.NotFormed → ⊥)
    → Ends g ended start left later faults last disk marks
ends_early g status.Done start left after later faults now last disk marks le ends told done wrote refused = absurd (done refl)
ends_early g status.WriteFault start left after later faults now last disk marks le ends told done wrote refused = absurd (wrote refl)
ends_early g status.NotFormed start left after later faults now last disk marks le ends told done wrote refused = absurd (refused refl)
ends_early g status.ReadFault start left after later faults now last disk marks le ends told done wrote refused =
    record { written = after; stops = ends; told = told_since faults now last after later (status_text status.ReadFault) le told }
ends_early g status.DeviceFault start left after later faults now last disk marks le ends told done wrote refused =
    record { written = after; stops = ends; told = told_since faults now last after later (status_text status.DeviceFault) le told }
ends_early g status.NoMemory start left after later faults now last disk marks le ends told done wrote refused =
    record { written = after; stops = ends; told = told_since faults now last after later (status_text status.NoMemory) le told }
ends_early g status.LineTooLong start left after later faults now last disk marks le ends told done wrote refused =
    record { written = after; stops = ends; told = told_since faults now last after later (status_text status.LineTooLong) le told }
ends_early g status.ScriptTooLong start left after later faults now last disk marks le ends told done wrote refused =
    record { written = after; stops = ends; told = told_since faults now last after later (status_text status.ScriptTooLong) le told }
ends_early g status.Usage start left after later faults now last disk marks le ends told done wrote refused = absurd ends
ends_early g status.NotEmpty start left after later faults now last disk marks le ends told done wrote refused = absurd ends
ends_early g status.BadParams start left after later faults now last disk marks le ends told done wrote refused = absurd ends
ends_early g status.Refused start left after later faults now last disk marks le ends told done wrote refused = absurd ends
