-- What is read where some stores are live is read where others are, if the stores of the changes read are alike.
use Rattle.std.specs.Prelude.{◌≡◌, ◌≢◌, ℕ, Bool, true, false, List, [], ◌∷◌, ◌++◌, Ok, ◌==◌, nat_le}
use Rattle.std.specs.List.{All, AllByRecursion}
use Rattle.std.proofs.Common.{refl, sym, ap, subst, ◌∙◌, cond, inl, inr}
use Rattle.std.proofs.lemmas.Bool.{cases_eq}
use Rattle.std.proofs.lemmas.Bool.{ne_eqb}
use Rattle.std.proofs.lemmas.List.Elements.{All-weaker, recursion_from_All}
use Rattle.gate_log.specs.declared.front.End.{End}
use Rattle.gate_log.specs.declared.front.End.TheVariants.{Closed, CutOff}
use Rattle.gate_log.specs.declared.region.Tail.{Tail}
use Rattle.hse_fields.specs.LogText.{Kind, put, del, pdel, Change, Entry}
use Rattle.hse_fields.specs.LogReading.{name_fits}
use Rattle.hse_fields.specs.laws.Fields.{bind_ok}
use Rattle.hse_fields.specs.laws.Prefixes.{AllowsToo, AllowsAll, payload_too}
use Rattle.wal.specs.Batches.{Reads}
use Rattle.wal.specs.Live.{prefix_fits}
use Rattle.wal.specs.Numbering.{Numbers, numbering}
use Rattle.wal.specs.Replaying.{batches_of, ended, segment_of}
use Rattle.wal.specs.Stores.{OfEachStore, LacksStore, FitsAlike}
use Rattle.wal.specs.declared.live.StorePrefix.{StorePrefix}
use Rattle.wal.specs.laws.Batches.{first_of, none_read, reads_none, reads_first, no_ok, closed_read}

-- ---- changes of stores that are alike

allows_too : (live other : List StorePrefix) (kind : Kind) (store size : ℕ) → FitsAlike live other store
    → name_fits (prefix_fits live) kind store size ≡ true → name_fits (prefix_fits other) kind store size ≡ true
allows_too live other put store size alike e = refl
allows_too live other del store size alike e = refl
allows_too live other pdel store size alike e = sym (alike size) ∙ e

changes_allow : (live other : List StorePrefix) (cs : List Change) → AllByRecursion (λ (c : Change). FitsAlike live other c.store) cs
    → AllByRecursion (AllowsToo (prefix_fits live) (prefix_fits other)) cs
changes_allow live other [] alike = tt
changes_allow live other (c ∷ cs) alike =
    ((λ size e. allows_too live other c.kind c.store size alike.0 e), changes_allow live other cs alike.1)

entries_allow : (live other : List StorePrefix) (es : List Entry)
    → AllByRecursion (λ (e : Entry). All (λ (c : Change). FitsAlike live other c.store) e.changes) es → AllowsAll (prefix_fits live) (prefix_fits other) es
entries_allow live other [] alike = tt
entries_allow live other (e ∷ es) alike =
    (changes_allow live other e.changes (recursion_from_All (λ (c : Change). FitsAlike live other c.store) e.changes alike.0), entries_allow live other es alike.1)

-- ---- batches

allows_front : (one two : ℕ → ℕ → Bool) (es fs : List Entry) → AllowsAll one two (es ++ fs) → AllowsAll one two es
allows_front one two [] fs all = tt
allows_front one two (e ∷ es) fs all = (all.0, allows_front one two es fs all.1)

allows_behind : (one two : ℕ → ℕ → Bool) (es fs : List Entry) → AllowsAll one two (es ++ fs) → AllowsAll one two fs
allows_behind one two [] fs all = all
allows_behind one two (e ∷ es) fs all = allows_behind one two es fs all.1

batches_too : (live other : List StorePrefix) (most : ℕ) (state : Numbers) (gate : ℕ) (payloads : List (List ℕ)) (x : List Entry × Numbers)
    → AllowsAll (prefix_fits live) (prefix_fits other) x.0 → batches_of live most state gate payloads ≡ Ok x → Reads other most state payloads x
batches_too live other most state gate [] x allows e =
    subst (λ (y : List Entry × Numbers). Reads other most state [] y) (none_read live most state gate x e) (reads_none other most state)
batches_too live other most state gate (payload ∷ payloads) x allows e =
    let f = first_of live most state gate payload payloads x e in
    let all : AllowsAll (prefix_fits live) (prefix_fits other) (f.first.0 ++ f.others.0) =
    subst (λ (y : List Entry × Numbers). AllowsAll (prefix_fits live) (prefix_fits other) y.0) f.is allows in
    let first = payload_too (numbering live) (prefix_fits other) most state payload f.first
    (allows_front (prefix_fits live) (prefix_fits other) f.first.0 f.others.0 all) f.read in
    let others = batches_too live other most f.first.1 f.gate payloads f.others
    (allows_behind (prefix_fits live) (prefix_fits other) f.first.0 f.others.0 all) f.rest in
    subst (λ (y : List Entry × Numbers). Reads other most state (payload ∷ payloads) y) (sym f.is)
    (reads_first other most state payload payloads f.first f.others first others)

-- a segment that is read ends in a closed gate
ends_closed : (live : List StorePrefix) (most : ℕ) (start : Numbers) (payloads : List (List ℕ)) (end : End) (x : List Entry × Numbers)
    → segment_of live most start payloads end ≡ Ok x → (tail : Tail) × (end ≡ Closed tail)
ends_closed live most start payloads (Closed tail) x e = (tail, refl)
ends_closed live most start payloads (CutOff place) x e =
    let a = bind_ok (batches_of live most start 9 payloads) (ended (CutOff place)) x e in
    absurd (no_ok place x a.2)

closed_too : (other : List StorePrefix) (most : ℕ) (start : Numbers) (payloads : List (List ℕ)) (end : End) (x : List Entry × Numbers)
    → (tail : Tail) × (end ≡ Closed tail) → Reads other most start payloads x → segment_of other most start payloads end ≡ Ok x
closed_too other most start payloads end x closed read = rw (closed.1, read 9) refl

-- A segment is read the same by two lists of live stores by which the stores of its changes are alike.
pub segment_alike : (live other : List StorePrefix) (most : ℕ) (start last : Numbers) (payloads : List (List ℕ)) (end : End) (entries : List Entry)
    → OfEachStore (FitsAlike live other) entries → segment_of live most start payloads end ≡ Ok (entries, last)
    → segment_of other most start payloads end ≡ Ok (entries, last)
segment_alike live other most start last payloads end entries alike e =
    let allows = entries_allow live other entries (recursion_from_All (λ (e : Entry). All (λ (c : Change). FitsAlike live other c.store) e.changes) entries alike) in
    let read = batches_too live other most start 9 payloads (entries, last) allows (closed_read live most start payloads end (entries, last) e) in
    closed_too other most start payloads end (entries, last) (ends_closed live most start payloads end (entries, last) e) read

-- ---- one store more

-- a store that is listed changes nothing of the others
fits_without : (beginning behind : List StorePrefix) (p : StorePrefix) (store size : ℕ) → store ≢ p.store.0
    → prefix_fits (beginning ++ p ∷ behind) store size ≡ prefix_fits (beginning ++ behind) store size
fits_without [] behind p store size apart =
    let test : (p.store.0 == store) ≡ false = ne_eqb p.store.0 store (λ e. apart (sym e)) in
    rw test refl
fits_without (q ∷ beginning) behind p store size apart =
    ap (λ (b : Bool). cond (q.store.0 == store) (nat_le size q.length) b) (fits_without beginning behind p store size apart)

lacks_alike : (beginning behind : List StorePrefix) (p : StorePrefix) (entries : List Entry) → LacksStore p.store.0 entries
    → OfEachStore (FitsAlike (beginning ++ p ∷ behind) (beginning ++ behind)) entries
lacks_alike beginning behind p entries lacks =
    All-weaker (λ (e : Entry). All (λ (c : Change). c.store ≢ p.store.0) e.changes)
    (λ (e : Entry). All (λ (c : Change). FitsAlike (beginning ++ p ∷ behind) (beginning ++ behind) c.store) e.changes)
    (λ (e : Entry) (all : All (λ (c : Change). c.store ≢ p.store.0) e.changes). All-weaker (λ (c : Change). c.store ≢ p.store.0)
    (λ (c : Change). FitsAlike (beginning ++ p ∷ behind) (beginning ++ behind) c.store)
    (λ (c : Change) (apart : c.store ≢ p.store.0) (size : ℕ). fits_without beginning behind p c.store size apart) e.changes all)
    entries lacks

turned : (live other : List StorePrefix) (entries : List Entry) → OfEachStore (FitsAlike live other) entries → OfEachStore (FitsAlike other live) entries
turned live other entries alike =
    All-weaker (λ (e : Entry). All (λ (c : Change). FitsAlike live other c.store) e.changes)
    (λ (e : Entry). All (λ (c : Change). FitsAlike other live c.store) e.changes)
    (λ (e : Entry) (all : All (λ (c : Change). FitsAlike live other c.store) e.changes). All-weaker (λ (c : Change). FitsAlike live other c.store)
    (λ (c : Change). FitsAlike other live c.store)
    (λ (c : Change) (same : FitsAlike live other c.store) (size : ℕ). sym (same size)) e.changes all)
    entries alike

-- A segment is read the same with a store taken out that none of its changes names.
pub segment_without : (beginning behind : List StorePrefix) (p : StorePrefix) (most : ℕ) (start last : Numbers) (payloads : List (List ℕ)) (end : End) (entries : List Entry)
    → LacksStore p.store.0 entries → segment_of (beginning ++ p ∷ behind) most start payloads end ≡ Ok (entries, last)
    → segment_of (beginning ++ behind) most start payloads end ≡ Ok (entries, last)
segment_without beginning behind p most start last payloads end entries lacks e =
    segment_alike (beginning ++ p ∷ behind) (beginning ++ behind) most start last payloads end entries (lacks_alike beginning behind p entries lacks) e

-- And with one put in.
pub segment_with : (beginning behind : List StorePrefix) (p : StorePrefix) (most : ℕ) (start last : Numbers) (payloads : List (List ℕ)) (end : End) (entries : List Entry)
    → LacksStore p.store.0 entries → segment_of (beginning ++ behind) most start payloads end ≡ Ok (entries, last)
    → segment_of (beginning ++ p ∷ behind) most start payloads end ≡ Ok (entries, last)
segment_with beginning behind p most start last payloads end entries lacks e =
    segment_alike (beginning ++ behind) (beginning ++ p ∷ behind) most start last payloads end entries
    (turned (beginning ++ p ∷ behind) (beginning ++ behind) entries (lacks_alike beginning behind p entries lacks)) e

-- ---- a store taken out that its changes name

more_too : (live other : List StorePrefix) → ((store size : ℕ) → prefix_fits live store size ≡ true → prefix_fits other store size ≡ true)
    → (kind : Kind) (store size : ℕ) → name_fits (prefix_fits live) kind store size ≡ true → name_fits (prefix_fits other) kind store size ≡ true
more_too live other more put store size e = refl
more_too live other more del store size e = refl
more_too live other more pdel store size e = more store size e

changes_more : (live other : List StorePrefix) → ((store size : ℕ) → prefix_fits live store size ≡ true → prefix_fits other store size ≡ true)
    → (cs : List Change) → AllByRecursion (AllowsToo (prefix_fits live) (prefix_fits other)) cs
changes_more live other more [] = tt
changes_more live other more (c ∷ cs) = ((λ size e. more_too live other more c.kind c.store size e), changes_more live other more cs)

entries_more : (live other : List StorePrefix) → ((store size : ℕ) → prefix_fits live store size ≡ true → prefix_fits other store size ≡ true)
    → (es : List Entry) → AllowsAll (prefix_fits live) (prefix_fits other) es
entries_more live other more [] = tt
entries_more live other more (e ∷ es) = (changes_more live other more e.changes, entries_more live other more es)

fits_unlisted : (live : List StorePrefix) (id size : ℕ) → AllByRecursion (λ (q : StorePrefix). q.store.0 ≢ id) live → prefix_fits live id size ≡ true
fits_unlisted [] id size none = refl
fits_unlisted (q ∷ live) id size none =
    let test : (q.store.0 == id) ≡ false = ne_eqb q.store.0 id none.0 in
    let rest = fits_unlisted live id size none.1 in
    rw test rest

cond_more : (b x y z : Bool) → (y ≡ true → z ≡ true) → cond b x y ≡ true → cond b x z ≡ true
cond_more true x y z more e = e
cond_more false x y z more e = more e

fits_dropped : (beginning behind : List StorePrefix) (p : StorePrefix) (store size : ℕ) → AllByRecursion (λ (q : StorePrefix). q.store.0 ≢ p.store.0) behind
    → prefix_fits (beginning ++ p ∷ behind) store size ≡ true → prefix_fits (beginning ++ behind) store size ≡ true
fits_dropped [] behind p store size none e =
    elim (cases_eq p.store.0 store) [
      | inl same ↦ subst (λ (id : ℕ). prefix_fits behind id size ≡ true) same (fits_unlisted behind p.store.0 size none)
      | inr apart ↦ sym (fits_without [] behind p store size (λ s. apart (sym s))) ∙ e
    ]
fits_dropped (q ∷ beginning) behind p store size none e =
    cond_more (q.store.0 == store) (nat_le size q.length) _ _ (λ h. fits_dropped beginning behind p store size none h) e

-- A segment that is read is read the same where all the lengths are allowed that were.
pub segment_allowed : (live other : List StorePrefix) → ((store size : ℕ) → prefix_fits live store size ≡ true → prefix_fits other store size ≡ true)
    → (most : ℕ) (start last : Numbers) (payloads : List (List ℕ)) (end : End) (entries : List Entry)
    → segment_of live most start payloads end ≡ Ok (entries, last) → segment_of other most start payloads end ≡ Ok (entries, last)
segment_allowed live other more most start last payloads end entries e =
    let allows = entries_more live other more entries in
    let read = batches_too live other most start 9 payloads (entries, last) allows (closed_read live most start payloads end (entries, last) e) in
    closed_too other most start payloads end (entries, last) (ends_closed live most start payloads end (entries, last) e) read

-- A segment is read the same with a store taken out, whatever its changes name, if it is not listed again.
pub segment_dropped : (beginning behind : List StorePrefix) (p : StorePrefix) (most : ℕ) (start last : Numbers) (payloads : List (List ℕ)) (end : End) (entries : List Entry)
    → All (λ (q : StorePrefix). q.store.0 ≢ p.store.0) behind → segment_of (beginning ++ p ∷ behind) most start payloads end ≡ Ok (entries, last)
    → segment_of (beginning ++ behind) most start payloads end ≡ Ok (entries, last)
segment_dropped beginning behind p most start last payloads end entries none e =
    let once = recursion_from_All (λ (q : StorePrefix). q.store.0 ≢ p.store.0) behind none in
    segment_allowed (beginning ++ p ∷ behind) (beginning ++ behind) (λ store size h. fits_dropped beginning behind p store size once h)
    most start last payloads end entries e
