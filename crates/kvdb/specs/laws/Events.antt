-- Events in parts: their commits, their creations and drops, and the manifest's entries for them.
use Rattle.std.specs.List.{filter}
use Rattle.std.proofs.Common.{◌≡◌, ℕ, suc, ◌+◌, ◌<◌, ◌≤◌, nat_le, Bool, true, false, cond, if◌then◌else◌, List, [], ◌∷◌, ◌++◌, length, refl, sym, ◌∙◌, ap, arith, append_assoc}
use Rattle.std.proofs.lemmas.List.{append-nil}
use Rattle.hse_rows.specs.states.State.{State}
use Rattle.hse_rows.specs.states.History.{Event, commits, creates, drops, happened}
use Rattle.hse_rows.specs.machine.Log.{Numbered}
use Rattle.hse_rows.specs.rows.Layout.{Layout}
use Rattle.hse_rows.specs.machine.ManifestRoom.{ManifestState, batch_bytes, creation_bytes, drop_bytes, fits, gained, head_bytes}
use Rattle.hse_rows.specs.machine.Sizes.{Sizes}
use Rattle.hse_rows.specs.machine.Core.{base_need, layout_but}
use Rattle.hse_rows.specs.machine.Recorded.{commits_in, taken_in, CommitsUpTo}
use Rattle.kvdb.specs.Found.{Entered, entered_by, entered_with, is_up_to}

-- ---- commits and taken numbers of events in two parts

pub commits_in-append : (number : ℕ) (events later : List Event)
    → commits_in number (events ++ later) ≡ commits_in number events ++ commits_in (number + length events) later
commits_in-append number [] later = ap (λ (n : ℕ). commits_in n later) (let e : number ≡ number + 0 = omega arith in e)
commits_in-append number (commits writes ∷ events) later =
    ap (λ (l : List Numbered). record { number = number; writes = writes } ∷ l)
    (commits_in-append (number + 1) events later
    ∙ ap (λ (n : ℕ). commits_in (number + 1) events ++ commits_in n later)
    (let e : number + 1 + length events ≡ number + suc (length events) = omega arith in e))
commits_in-append number (creates name mode prefix_length ∷ events) later =
    commits_in-append (number + 1) events later
    ∙ ap (λ (n : ℕ). commits_in (number + 1) events ++ commits_in n later)
    (let e : number + 1 + length events ≡ number + suc (length events) = omega arith in e)
commits_in-append number (drops id ∷ events) later =
    commits_in-append (number + 1) events later
    ∙ ap (λ (n : ℕ). commits_in (number + 1) events ++ commits_in n later)
    (let e : number + 1 + length events ≡ number + suc (length events) = omega arith in e)

pub taken_in-append : (number : ℕ) (events later : List Event)
    → taken_in number (events ++ later) ≡ taken_in number events ++ taken_in (number + length events) later
taken_in-append number [] later = ap (λ (n : ℕ). taken_in n later) (let e : number ≡ number + 0 = omega arith in e)
taken_in-append number (commits writes ∷ events) later =
    taken_in-append (number + 1) events later
    ∙ ap (λ (n : ℕ). taken_in (number + 1) events ++ taken_in n later)
    (let e : number + 1 + length events ≡ number + suc (length events) = omega arith in e)
taken_in-append number (creates name mode prefix_length ∷ events) later =
    ap (λ (l : List ℕ). number ∷ l)
    (taken_in-append (number + 1) events later
    ∙ ap (λ (n : ℕ). taken_in (number + 1) events ++ taken_in n later)
    (let e : number + 1 + length events ≡ number + suc (length events) = omega arith in e))
taken_in-append number (drops id ∷ events) later =
    ap (λ (l : List ℕ). number ∷ l)
    (taken_in-append (number + 1) events later
    ∙ ap (λ (n : ℕ). taken_in (number + 1) events ++ taken_in n later)
    (let e : number + 1 + length events ≡ number + suc (length events) = omega arith in e))

-- ---- commits alone

-- they have no entry in the manifest
pub entered-commits : (sizes : Sizes) (state : State) (before : Entered) (number : ℕ) (events : List Event) → taken_in number events ≡ []
    → entered_with sizes state before events ≡ before
entered-commits sizes state before number [] none = refl
entered-commits sizes state before number (commits writes ∷ events) none =
    entered-commits sizes (happened state (commits writes)) before (number + 1) events none
entered-commits sizes state before number (creates name mode prefix_length ∷ events) none = absurd cc
entered-commits sizes state before number (drops id ∷ events) none = absurd cc

-- the manifest takes the numbers of creations and drops
gained_taken : (half : ℕ) (manifest : ManifestState) (need base : ℕ) (taken : List ℕ) → (gained half manifest need base taken).taken ≡ taken
gained_taken half manifest need base taken =
    by (fits half manifest need) (record { sequence = manifest.sequence; used = manifest.used + need; taken = taken })
    (record { sequence = manifest.sequence + 1; used = head_bytes + base; taken = taken }) refl refl
  where
    by : (b : Bool) (one other : ManifestState) → one.taken ≡ taken → other.taken ≡ taken → (if b then one else other).taken ≡ taken
    by true one other first second = first
    by false one other first second = second

entered_by_taken : (sizes : Sizes) (before : Entered) (state : State) (need : ℕ) (layout : Layout)
    → (entered_by sizes before state need layout).manifest.taken ≡ before.manifest.taken ++ state.number ∷ []
entered_by_taken sizes before state need layout =
    gained_taken sizes.half_size before.manifest (batch_bytes need)
    (base_need (before.manifest.taken ++ state.number ∷ []) state.stores layout) (before.manifest.taken ++ state.number ∷ [])

pub entered_taken : (sizes : Sizes) (state : State) (before : Entered) (events : List Event)
    → (entered_with sizes state before events).manifest.taken ≡ before.manifest.taken ++ taken_in (state.number + 1) events
entered_taken sizes state before [] = sym (append-nil before.manifest.taken)
entered_taken sizes state before (commits writes ∷ events) = entered_taken sizes (happened state (commits writes)) before events
entered_taken sizes state before (creates name mode prefix_length ∷ events) =
    let after = happened state (creates name mode prefix_length) in
    let entered = entered_by sizes before after (creation_bytes name) before.layout in
    entered_taken sizes after entered events
    ∙ ap (λ (l : List ℕ). l ++ taken_in (after.number + 1) events) (entered_by_taken sizes before after (creation_bytes name) before.layout)
    ∙ append_assoc before.manifest.taken (after.number ∷ []) (taken_in (after.number + 1) events)
entered_taken sizes state before (drops id ∷ events) =
    let after = happened state (drops id) in
    let entered = entered_by sizes before after drop_bytes (layout_but before.layout id) in
    entered_taken sizes after entered events
    ∙ ap (λ (l : List ℕ). l ++ taken_in (after.number + 1) events) (entered_by_taken sizes before after drop_bytes (layout_but before.layout id))
    ∙ append_assoc before.manifest.taken (after.number ∷ []) (taken_in (after.number + 1) events)

-- no number below the first
pub none_taken : (number first : ℕ) (events : List Event) (rest : List ℕ) → number < first → taken_in first events ≡ number ∷ rest → ⊥
none_taken number first [] rest less is = cc
none_taken number first (commits writes ∷ events) rest less is = none_taken number (first + 1) events rest (omega arith) is
none_taken number first (creates name mode prefix_length ∷ events) rest less is =
    let same : first ≡ number = cc in omega (arith, same)
none_taken number first (drops id ∷ events) rest less is = let same : first ≡ number = cc in omega (arith, same)

pub length-commits_in : (number : ℕ) (events : List Event) → taken_in number events ≡ [] → length (commits_in number events) ≡ length events
length-commits_in number [] none = refl
length-commits_in number (commits writes ∷ events) none = ap suc (length-commits_in (number + 1) events none)
length-commits_in number (creates name mode prefix_length ∷ events) none = absurd cc
length-commits_in number (drops id ∷ events) none = absurd cc

-- ---- commits up to a number, and above it

pub le_true : (a b : ℕ) → a ≤ b → nat_le a b ≡ true
le_true a b le = grind arith

pub lt_false : (a b : ℕ) → b < a → nat_le a b ≡ false
lt_false a b lt = grind arith

pub up_to-all : (number : ℕ) (these : List Numbered) → CommitsUpTo number these → filter (is_up_to number) these ≡ these
up_to-all number [] all = refl
up_to-all number (commit ∷ these) all =
    ap (λ (b : Bool). cond b (commit ∷ filter (is_up_to number) these) (filter (is_up_to number) these))
    (le_true commit.number number all.0)
    ∙ ap (λ (l : List Numbered). commit ∷ l) (up_to-all number these all.1)

-- none of events that all have greater numbers
pub up_to-none : (number first : ℕ) (events : List Event) → number < first → filter (is_up_to number) (commits_in first events) ≡ []
up_to-none number first [] less = refl
up_to-none number first (commits writes ∷ events) less =
    ap (λ (b : Bool). cond b (record { number = first; writes = writes } ∷ filter (is_up_to number) (commits_in (first + 1) events))
    (filter (is_up_to number) (commits_in (first + 1) events)))
    (lt_false first number less)
    ∙ up_to-none number (first + 1) events (omega arith)
up_to-none number first (creates name mode prefix_length ∷ events) less = up_to-none number (first + 1) events (omega arith)
up_to-none number first (drops id ∷ events) less = up_to-none number (first + 1) events (omega arith)

-- all of events up to it
pub commits_in-below : (number first : ℕ) (events : List Event) → first + length events ≤ number + 1 → CommitsUpTo number (commits_in first events)
commits_in-below number first [] within = tt
commits_in-below number first (commits writes ∷ events) within =
    (let le : first ≤ number = omega arith in le, commits_in-below number (first + 1) events (omega arith))
commits_in-below number first (creates name mode prefix_length ∷ events) within = commits_in-below number (first + 1) events (omega arith)
commits_in-below number first (drops id ∷ events) within = commits_in-below number (first + 1) events (omega arith)

pub up_to-more : (number higher : ℕ) (these : List Numbered) → number ≤ higher → CommitsUpTo number these → CommitsUpTo higher these
up_to-more number higher [] le all = tt
up_to-more number higher (commit ∷ these) le all =
    (let less : commit.number ≤ number = all.0 in let more : commit.number ≤ higher = omega arith in more, up_to-more number higher these le all.1)
