-- What more commits make of a state, as the machine says it and as it is loaded.
use Rattle.std.proofs.Common.{◌≡◌, ℕ, suc, ◌+◌, ◌-◌, ◌≤◌, ◌==◌, nat_lt, Bool, true, false, cond, List, [], ◌∷◌, ◌++◌, length, take, drop, map, refl, sym, ◌∙◌, ap, arith}
use Rattle.std.specs.Prelude.{flat_map}
use Rattle.std.proofs.lemmas.List.{take-append-drop}
use Rattle.std.proofs.lemmas.List.Concat.{flat_map-append}
use Rattle.std.specs.FinMap as fin_map
use Rattle.hse_fields.specs.LogText.{Entry}
use Rattle.hse_rows.specs.declared.write.Write.{Write}
use Rattle.hse_rows.specs.states.State.{Contents, Store, State, contents_after, contents_after_all}
use Rattle.hse_rows.specs.states.History.{Event, commits, creates, drops, happened, folded, fold, events_since}
use Rattle.hse_rows.specs.states.Rooted.{writes_of}
use Rattle.hse_rows.specs.laws.Holding.{written_all, applied_all-stores}
use Rattle.hse_rows.specs.laws.Folding.{folded-append}
use Rattle.hse_rows.specs.machine.Log.{Numbered}
use Rattle.hse_rows.specs.machine.Recorded.{commits_in, taken_in}
use Rattle.manifest.specs.Metadata.{LiveStore}
use Rattle.recovery.specs.Stored.{writes_in, store_in, write_in}
use Rattle.recovery.specs.Machine.{numbered_of}
use Rattle.wal.specs.Numbering.{free_from, taken_from}

contents-append : (id : ℕ) (contents : Contents) (writes later : List Write)
    → contents_after_all id contents (writes ++ later) ≡ contents_after_all id (contents_after_all id contents writes) later
contents-append id contents [] later = refl
contents-append id contents (write ∷ writes) later = contents-append id (contents_after id contents write) writes later

-- writes in two parts
written-append : (writes later : List Write) (stores : List Store)
    → map (written_all later) (map (written_all writes) stores) ≡ map (written_all (writes ++ later)) stores
written-append writes later [] = refl
written-append writes later (store ∷ stores) =
    ap (λ (contents : Contents). (record store { contents = contents }) ∷ map (written_all later) (map (written_all writes) stores))
    (sym (contents-append store.id store.contents writes later))
    ∙ ap (λ (l : List Store). written_all (writes ++ later) store ∷ l) (written-append writes later stores)

-- the state after commits alone
pub folded-commits : (number : ℕ) (state : State) (events : List Event) → taken_in number events ≡ []
    → folded state events ≡ record { number = state.number + length events; stores = map (written_all (writes_of events)) state.stores }
folded-commits number state [] none =
    applied_all-stores state []
    ∙ ap (λ (n : ℕ). record { number = n; stores = map (written_all []) state.stores }) (let e : state.number ≡ state.number + 0 = omega arith in e)
folded-commits number state (commits writes ∷ events) none =
    folded-commits (number + 1) (happened state (commits writes)) events none
    ∙ ap (λ (l : List Store). record { number = state.number + 1 + length events; stores = map (written_all (writes_of events)) l })
    (ap (λ (s : State). s.stores) (applied_all-stores state writes))
    ∙ ap (λ (l : List Store). record { number = state.number + 1 + length events; stores = l }) (written-append writes (writes_of events) state.stores)
    ∙ ap (λ (n : ℕ). record { number = n; stores = map (written_all (writes ++ writes_of events)) state.stores })
    (let e : state.number + 1 + length events ≡ state.number + suc (length events) = omega arith in e)
folded-commits number state (creates name mode prefix_length ∷ events) none = absurd cc
folded-commits number state (drops id ∷ events) none = absurd cc

-- the writes of commits are those of their entries
writes-commits : (number : ℕ) (events : List Event) → flat_map (λ (commit : Numbered). commit.writes) (commits_in number events) ≡ writes_of events
writes-commits number [] = refl
writes-commits number (commits writes ∷ events) = ap (λ (l : List Write). writes ++ l) (writes-commits (number + 1) events)
writes-commits number (creates name mode prefix_length ∷ events) = writes-commits (number + 1) events
writes-commits number (drops id ∷ events) = writes-commits (number + 1) events

writes-entries : (entries : List Entry) → flat_map (λ (commit : Numbered). commit.writes) (map numbered_of entries) ≡ writes_in entries
writes-entries [] = refl
writes-entries (entry ∷ entries) = ap (λ (l : List Write). map write_in entry.changes ++ l) (writes-entries entries)

pub writes-logged : (entries : List Entry) (number : ℕ) (events : List Event) → map numbered_of entries ≡ commits_in number events
    → writes_in entries ≡ writes_of events
writes-logged entries number events same =
    sym (writes-entries entries)
    ∙ ap (flat_map (λ (commit : Numbered). commit.writes)) same
    ∙ writes-commits number events

-- stores with more entries
pub stores-with : (entries more : List Entry) (stores : List LiveStore)
    → map (store_in (entries ++ more)) stores ≡ map (written_all (writes_in more)) (map (store_in entries) stores)
stores-with entries more [] = refl
stores-with entries more (store ∷ stores) =
    ap (λ (contents : Contents). (record { id = store.id; name = store.name; mode = store.mode; prefix_length = store.prefix_length; contents = contents })
    ∷ map (store_in (entries ++ more)) stores)
    (ap (contents_after_all store.id fin_map.empty) (flat_map-append (λ (entry : Entry). map write_in entry.changes) entries more)
    ∙ contents-append store.id fin_map.empty (writes_in entries) (writes_in more))
    ∙ ap (λ (l : List Store). written_all (writes_in more) (store_in entries store) ∷ l) (stores-with entries more stores)

-- the state of a number, and the events since
pub fold-since : (base : State) (events : List Event) (number : ℕ)
    → folded (fold base events number) (events_since base events number) ≡ folded base events
fold-since base events number =
    sym (folded-append base (take (number - base.number) events) (drop (number - base.number) events))
    ∙ ap (folded base) (take-append-drop (number - base.number) events)

-- ---- the next number, where taken numbers leave no gap

from-free : (next : ℕ) (taken : List ℕ) → next ≤ free_from next taken
from-free next [] = omega arith
from-free next (t ∷ ts) = by (nat_lt next t) (t == next) (from-free (next + 1) ts) (from-free next ts)
  where
    by : (less same : Bool) → next + 1 ≤ free_from (next + 1) ts → next ≤ free_from next ts
        → next ≤ cond less next (cond same (free_from (next + 1) ts) (free_from next ts))
    by true same one other = omega arith
    by false true one other = omega arith
    by false false one other = other

pub free-behind : (next later : ℕ) (taken : List ℕ) → taken_from next taken ≡ [] → free_from next taken ≤ later → free_from later taken ≡ later
free-behind next later [] none le = refl
free-behind next later (t ∷ ts) none le =
    by (nat_lt next t) (t == next) (nat_lt later t) (t == later) refl refl refl refl none le
    (λ gone within. free-behind (next + 1) later ts gone within) (λ gone within. free-behind next later ts gone within)
  where
    by : (less same later_less later_same : Bool) → nat_lt next t ≡ less → (t == next) ≡ same → nat_lt later t ≡ later_less → (t == later) ≡ later_same
        → cond less (t ∷ ts) (cond same (taken_from (next + 1) ts) (taken_from next ts)) ≡ []
        → cond less next (cond same (free_from (next + 1) ts) (free_from next ts)) ≤ later
        → (taken_from (next + 1) ts ≡ [] → free_from (next + 1) ts ≤ later → free_from later ts ≡ later)
        → (taken_from next ts ≡ [] → free_from next ts ≤ later → free_from later ts ≡ later)
        → cond later_less later (cond later_same (free_from (later + 1) ts) (free_from later ts)) ≡ later
    by true same later_less later_same a b c d gone within one other = absurd cc
    by false true true later_same a b c d gone within one other = refl
    by false true false true a b c d gone within one other =
        let least : next + 1 ≤ free_from (next + 1) ts = from-free (next + 1) ts in
        absurd (grind (arith, least, within, b, d))
    by false true false false a b c d gone within one other = one gone within
    by false false true later_same a b c d gone within one other = refl
    by false false false true a b c d gone within one other =
        let least : next ≤ free_from next ts = from-free next ts in
        absurd (grind (arith, least, within, a, b, d))
    by false false false false a b c d gone within one other = other gone within
