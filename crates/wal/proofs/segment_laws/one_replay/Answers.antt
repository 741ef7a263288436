use Rattle.std.proofs.Common.{◌≡◌, ◌∙◌, ℕ, List, Result, Ok, Err, ap, sym}
use Rattle.gate_log.specs.laws.OneFront.{one_front, front_not_closed}
use Rattle.gate_log.specs.declared.front.End.TheVariants.{Closed}
use Rattle.gate_log.specs.declared.region.Tail.{Tail}
use Rattle.hse_fields.specs.LogText.{Entry}
use Rattle.wal.specs.Charges.{charges}
use Rattle.wal.specs.Logged.{entries_of}
use Rattle.wal.specs.Numbering.{Numbers}
use Rattle.wal.specs.Replaying.{segment_of}
use Rattle.wal.proofs.segment_laws.one_replay.Goals as goal

same_closed : (a b : Tail) → Closed a ≡ Closed b → a ≡ b
same_closed a b e = cc

same_entries : (a b : List Entry × Numbers) (r s : Result (List Entry × Numbers) ℕ) → r ≡ s → r ≡ Ok a → s ≡ Ok b → a.0 ≡ b.0
same_entries a b r s e f g = let h : a ≡ b = cc in ap (λ (x : List Entry × Numbers). x.0) h

same_next : (a b : List Entry × Numbers) (r s : Result (List Entry × Numbers) ℕ) → r ≡ s → r ≡ Ok a → s ≡ Ok b → a.1.next ≡ b.1.next
same_next a b r s e f g = let h : a ≡ b = cc in ap (λ (x : List Entry × Numbers). x.1.next) h

same_place : (a b : ℕ) (r s : Result (List Entry × Numbers) ℕ) → r ≡ s → r ≡ Err a → s ≡ Err b → a ≡ b
same_place a b r s e f g = cc

not_both : (a : List Entry × Numbers) (b : ℕ) (r s : Result (List Entry × Numbers) ℕ) → r ≡ s → r ≡ Ok a → s ≡ Err b → ⊥
not_both a b r s e f g = cc

pub returns-clause-segment : goal.returns-clause-segment
returns-clause-segment c = λ region live most start one other first second.
    let same = one_front region one.sequence other.sequence first.payloads second.payloads (Closed one.tail) (Closed other.tail) first.ends second.ends in
    let read : segment_of live most start first.payloads (Closed one.tail) ≡ segment_of live most start second.payloads (Closed other.tail) =
    λ i. segment_of live most start (same.1 i) (same.2 i) in
    let entries : entries_of one.commits.items ≡ entries_of other.commits.items =
    same_entries (entries_of one.commits.items, first.last) (entries_of other.commits.items, second.last)
    (segment_of live most start first.payloads (Closed one.tail)) (segment_of live most start second.payloads (Closed other.tail)) read first.read second.read in
    let next : first.last.next ≡ second.last.next =
    same_next (entries_of one.commits.items, first.last) (entries_of other.commits.items, second.last)
    (segment_of live most start first.payloads (Closed one.tail)) (segment_of live most start second.payloads (Closed other.tail)) read first.read second.read in
    (entries, same.0, first.next ∙ next ∙ sym second.next, first.charges ∙ ap charges entries ∙ sym second.charges, same_closed one.tail other.tail same.2)

pub returns-clause-refused : goal.returns-clause-refused
returns-clause-refused c = λ region live most start place other first second.
    let same = one_front region first.sequence second.sequence first.payloads second.payloads first.end second.end first.ends second.ends in
    same_place place other (segment_of live most start first.payloads first.end) (segment_of live most start second.payloads second.end)
    (λ i. segment_of live most start (same.1 i) (same.2 i)) first.refused second.refused

pub returns-clause-segment_not_refused : goal.returns-clause-segment_not_refused
returns-clause-segment_not_refused c = λ region live most start segment place first second.
    let same = one_front region segment.sequence second.sequence first.payloads second.payloads (Closed segment.tail) second.end first.ends second.ends in
    not_both (entries_of segment.commits.items, first.last) place (segment_of live most start first.payloads (Closed segment.tail)) (segment_of live most start second.payloads second.end)
    (λ i. segment_of live most start (same.1 i) (same.2 i)) first.read second.refused

pub returns-clause-segment_not_closed : goal.returns-clause-segment_not_closed
returns-clause-segment_not_closed c = λ region live most start segment first shut.
    front_not_closed region segment.sequence first.payloads (Closed segment.tail) first.ends shut

pub returns-clause-refused_not_closed : goal.returns-clause-refused_not_closed
returns-clause-refused_not_closed c = λ region live most start place first shut.
    front_not_closed region first.sequence first.payloads first.end first.ends shut
