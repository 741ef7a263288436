-- Entries follow one another, and a segment is read, also where more numbers are taken behind the others.
use Rattle.std.proofs.Common.{◌≡◌, ℕ, zero, suc, ◌+◌, ◌≤◌, ◌<◌, ◌-◌, ◌==◌, true, false, Bool, List, [], ◌∷◌, ◌++◌, ◌&&◌, inl, inr, length, Some, None, Result, Ok, Err, refl, sym, ap, subst, ◌∙◌, cond, arith}
use Rattle.std.specs.Prelude.{is_some, nat_lt, nat_le}
use Rattle.std.specs.List.{AllByRecursion}
use Rattle.gate_log.specs.declared.front.End.TheVariants.{Closed}
use Rattle.gate_log.specs.declared.region.Tail.{Tail}
use Rattle.hse_fields.specs.LogText.{Change, Entry}
use Rattle.hse_fields.specs.Fields.{number_of}
use Rattle.hse_fields.specs.LogReading.{◌>>=◌, ensure, given, changes_of, any_changes_of, comes_with, has_room, entry_of, entries_of, payload_of, Follow}
use Rattle.hse_fields.specs.laws.Fields.{bind_ok, ensure_ok, given_ok, ok_is}
use Rattle.hse_fields.specs.laws.Prefixes.{entry_reads, entries_read, payload_reads}
use Rattle.hse_fields.specs.laws.Payloads.{entry, from_changes, from_room, from_next, from_number, other_entries_of, ended_of}
use Rattle.wal.specs.Batches.{Reads}
use Rattle.wal.specs.laws.Batches.{first_of, none_read, reads_none, reads_first, batches_follow, closed_read}
use Rattle.wal.specs.Live.{prefix_fits}
use Rattle.wal.specs.Logged.{charge}
use Rattle.wal.specs.Numbering.{Numbers, free_from, taken_from, last_number, is_next, after, numbering}
use Rattle.wal.specs.laws.Numbering.{known_after, came, comes, number_is}
use Rattle.wal.specs.Replaying.{batches_of, segment_of}
use Rattle.wal.specs.Taken.{with_taken}
use Rattle.wal.specs.declared.live.StorePrefix.{StorePrefix}
use Rattle.wal.specs.laws.Free.{place, is_above, through}
use Rattle.wal.specs.laws.Taken.{AreFrom, lower, follow_grows}

-- ---- more taken numbers

free_more : (next : ℕ) (ts more : List ℕ) → AllByRecursion (λ (t : ℕ). free_from next ts < t) more → free_from next (ts ++ more) ≡ free_from next ts
free_more next [] [] above = refl
free_more next [] (m ∷ ms) above = (is_above next m above.0).free ms
free_more next (t ∷ ts) more above =
    elim (place next t) [
      | inl a ↦ a.free (ts ++ more) ∙ sym (a.free ts)
      | inr p ↦
          let behind = subst (λ (n : ℕ). AllByRecursion (λ (u : ℕ). n < u) more) (p.free ts) above in
          p.free (ts ++ more) ∙ free_more p.from ts more behind ∙ sym (p.free ts)
    ]

taken_more : (next : ℕ) (ts more : List ℕ) → AllByRecursion (λ (t : ℕ). free_from next ts < t) more
    → taken_from next (ts ++ more) ≡ taken_from next ts ++ more
taken_more next [] [] above = refl
taken_more next [] (m ∷ ms) above = (is_above next m above.0).taken ms
taken_more next (t ∷ ts) more above =
    elim (place next t) [
      | inl a ↦ a.taken (ts ++ more) ∙ ap (λ (l : List ℕ). l ++ more) (sym (a.taken ts))
      | inr p ↦
          let behind = subst (λ (n : ℕ). AllByRecursion (λ (u : ℕ). n < u) more) (p.free ts) above in
          p.taken (ts ++ more) ∙ taken_more p.from ts more behind ∙ ap (λ (l : List ℕ). l ++ more) (sym (p.taken ts))
    ]

all_above : (n high : ℕ) (more : List ℕ) → n < high → AreFrom high more → AllByRecursion (λ (t : ℕ). n < t) more
all_above n high [] lt from = tt
all_above n high (m ∷ ms) lt from = (through n high m lt from.0, all_above n high ms lt from.1)

pub follow_more : (live : List StorePrefix) (state last : Numbers) (es : List Entry) (more : List ℕ) → AllByRecursion (λ (t : ℕ). last.next ≤ t) more
    → Follow (numbering live) state es last → Follow (numbering live) (with_taken state more) es (with_taken last more)
follow_more live state last [] more all follow = ap (λ (s : Numbers). with_taken s more) follow
follow_more live state last (e ∷ es) more all follow =
    let c = came state follow.1 e follow.2 in
    let fits : charge e ≤ state.room = c.fits in
    let number : e.number ≡ free_from state.next state.taken = number_is state e.number follow.0 in
    let next : e.number + 1 ≡ follow.1.next = ap (λ (n : Numbers). n.next) c.is in
    let grows : follow.1.next ≤ last.next = follow_grows live follow.1 last es follow.3 in
    let behind : e.number < last.next = omega (arith, next, grows) in
    let above = all_above (free_from state.next state.taken) last.next more (subst (λ (n : ℕ). n < last.next) number behind) all in
    let first : is_next (with_taken state more) e.number ≡ true =
    ap (λ (n : ℕ). (e.number == n) && nat_le e.number last_number) (free_more state.next state.taken more above) ∙ follow.0 in
    let same : known_after (with_taken state more) e ≡ with_taken follow.1 more =
    ap (λ (ts : List ℕ). record { next = e.number + 1; taken = ts; room = state.room - charge e }) (taken_more state.next state.taken more above)
    ∙ ap (λ (s : Numbers). with_taken s more) c.is in
    let comes_too : after (with_taken state more) e ≡ Some (with_taken follow.1 more) =
    comes (with_taken state more) e fits ∙ ap (λ (s : Numbers). Some s) same in
    (first, with_taken follow.1 more, comes_too, follow_more live follow.1 last es more all follow.3)

-- ---- the room does not depend on the taken numbers

both_some : {A : Type 0} (b : Bool) (x y : A) → is_some (cond b None (Some x)) ≡ is_some (cond b None (Some y))
both_some true x y = refl
both_some false x y = refl

same_told : (live : List StorePrefix) (state : Numbers) (more : List ℕ) (number : ℕ) (r : Result (List Change × List ℕ) ℕ)
    → comes_with (numbering live) (with_taken state more) number r ≡ comes_with (numbering live) state number r
same_told live state more number (Ok x) =
    let e = entry number x.0 in
    both_some (nat_lt state.room (charge e)) (known_after (with_taken state more) e) (known_after state e)
same_told live state more number (Err left) = refl

same_room : (live : List StorePrefix) (state : Numbers) (more : List ℕ) (number : ℕ) (bytes : List ℕ)
    → has_room (numbering live) (with_taken state more) number bytes ≡ has_room (numbering live) state number bytes
unfolding has_room
same_room live state more number bytes = same_told live state more number (any_changes_of bytes)

-- ---- one entry

record EntryAgain (live : List StorePrefix) (most : ℕ) (state : Numbers) (bytes : List ℕ) (x : (Entry × Numbers) × List ℕ) : Type 0 where
  grows : state.next ≤ x.0.1.next
  again :
      (more : List ℕ) → AreFrom x.0.1.next more
      → entry_of (numbering live) most (with_taken state more) bytes ≡ Ok ((x.0.0, with_taken x.0.1 more), x.1)

entry_more : (live : List StorePrefix) (most : ℕ) (state next : Numbers) (bytes : List ℕ) (number : ℕ) (behind : List ℕ) (changes : List Change)
    (rest : List ℕ) → number_of 8 bytes ≡ Ok (number, behind) → is_next state number ≡ true → has_room (numbering live) state number behind ≡ true
    → changes_of (prefix_fits live) most behind ≡ Ok (changes, rest) → after state (entry number changes) ≡ Some next
    → EntryAgain live most state bytes ((entry number changes, next), rest)
entry_more live most state next bytes number behind changes rest first fits room read comes = record {
  grows = follow_grows live state next (entry number changes ∷ []) (fits, next, comes, refl);
  again = λ more all.
      let f = follow_more live state next (entry number changes ∷ []) more all (fits, next, comes, refl) in
      let room_too : has_room (numbering live) (with_taken state more) number behind ≡ true = same_room live state more number behind ∙ room in
      let comes_too : after (with_taken state more) (entry number changes) ≡ Some (with_taken next more) = f.2 ∙ ap (λ (s : Numbers). Some s) f.3 in
      entry_reads (numbering live) most (with_taken state more) (with_taken next more) bytes number behind changes rest
      first f.0 room_too read comes_too;
}

entry_again : (live : List StorePrefix) (most : ℕ) (state : Numbers) (bytes : List ℕ) (x : (Entry × Numbers) × List ℕ)
    → entry_of (numbering live) most state bytes ≡ Ok x → EntryAgain live most state bytes x
unfolding entry_of
entry_again live most state bytes x e =
    let rule = numbering live in
    let a = bind_ok (number_of 8 bytes) (from_number rule most state bytes) x e in
    let number = a.0.0 in
    let b = bind_ok (ensure (rule.number_fits state number) (length bytes)) (λ next. from_next rule most state bytes a.0) x a.2 in
    let r = bind_ok (ensure (has_room rule state number a.0.1) (length bytes)) (λ room. from_room rule most state bytes a.0) x b.2 in
    let c = bind_ok (changes_of rule.prefix_fits most a.0.1) (from_changes rule state bytes number) x r.2 in
    let made = entry number c.0.0 in
    let d = bind_ok (given (rule.after state made) (length bytes)) (λ after. Ok ((made, after), c.0.1)) x c.2 in
    subst (λ (y : (Entry × Numbers) × List ℕ). EntryAgain live most state bytes y) (ok_is ((made, d.0), c.0.1) x d.2)
    (entry_more live most state d.0 bytes number a.0.1 c.0.0 c.0.1 a.1 (ensure_ok _ _ _ b.1) (ensure_ok _ _ _ r.1) c.1 (given_ok _ _ _ d.1))

-- ---- entries

record EntriesAgain (live : List StorePrefix) (most : ℕ) (state : Numbers) (n : ℕ) (bytes : List ℕ)
    (x : (List Entry × Numbers) × List ℕ) : Type 0 where
  grows : state.next ≤ x.0.1.next
  again :
      (more : List ℕ) → AreFrom x.0.1.next more
      → entries_of (numbering live) most (with_taken state more) n bytes ≡ Ok ((x.0.0, with_taken x.0.1 more), x.1)

entries_again : (live : List StorePrefix) (most : ℕ) (state : Numbers) (n : ℕ) (bytes : List ℕ) (x : (List Entry × Numbers) × List ℕ)
    → entries_of (numbering live) most state n bytes ≡ Ok x → EntriesAgain live most state n bytes x
unfolding entries_of
entries_again live most state zero bytes x e =
    subst (λ (y : (List Entry × Numbers) × List ℕ). EntriesAgain live most state zero bytes y) (ok_is (([], state), bytes) x e)
    (record { grows = omega arith; again = λ more all. refl })
entries_again live most state (suc n) bytes x e =
    let rule = numbering live in
    let a = bind_ok (entry_of rule most state bytes) (other_entries_of rule most n) x e in
    let b = bind_ok (entries_of rule most a.0.0.1 n a.0.1) (λ others. Ok ((a.0.0.0 ∷ others.0.0, others.0.1), others.1)) x a.2 in
    let first = entry_again live most state bytes a.0 a.1 in
    let others = entries_again live most a.0.0.1 n a.0.1 b.0 b.1 in
    let low : state.next ≤ a.0.0.1.next = first.grows in
    let high : a.0.0.1.next ≤ b.0.0.1.next = others.grows in
    subst (λ (y : (List Entry × Numbers) × List ℕ). EntriesAgain live most state (suc n) bytes y) (ok_is ((a.0.0.0 ∷ b.0.0.0, b.0.0.1), b.0.1) x b.2)
    (record {
      grows = omega (arith, low, high);
      again = λ more all.
          entries_read rule most (with_taken state more) (with_taken a.0.0.1 more) (with_taken b.0.0.1 more) n bytes a.0.0.0 b.0.0.0 a.0.1 b.0.1
          (first.again more (lower a.0.0.1.next b.0.0.1.next more high all)) (others.again more all);
    })

-- ---- batches

payload_more : (live : List StorePrefix) (most : ℕ) (state : Numbers) (bytes : List ℕ) (x : List Entry × Numbers) (more : List ℕ)
    → AreFrom x.1.next more → payload_of (numbering live) most state bytes ≡ Ok x
    → payload_of (numbering live) most (with_taken state more) bytes ≡ Ok (x.0, with_taken x.1 more)
unfolding payload_of
payload_more live most state bytes x more all e =
    let rule = numbering live in
    let a = bind_ok (number_of 4 bytes)
    (λ count. ensure (nat_lt 0 count.0) (length bytes) >>= λ some. (entries_of rule most state count.0 count.1 >>= ended_of bytes)) x e in
    let b = bind_ok (ensure (nat_lt 0 a.0.0) (length bytes)) (λ some. entries_of rule most state a.0.0 a.0.1 >>= ended_of bytes) x a.2 in
    let c = bind_ok (entries_of rule most state a.0.0 a.0.1) (ended_of bytes) x b.2 in
    let d = bind_ok (ensure (length c.0.1 == 0) (4 + length bytes)) (λ ended. Ok c.0.0) x c.2 in
    let is : c.0.0 ≡ x = ok_is c.0.0 x d.2 in
    let from : AreFrom c.0.0.1.next more = subst (λ (y : List Entry × Numbers). AreFrom y.1.next more) (sym is) all in
    let read = (entries_again live most state a.0.0 a.0.1 c.0 c.1).again more from in
    payload_reads rule most (with_taken state more) bytes a.0.0 a.0.1 (c.0.0.0, with_taken c.0.0.1 more) c.0.1 a.1
    (ensure_ok _ _ _ b.1) read (ensure_ok _ _ _ d.1)
    ∙ ap (λ (y : List Entry × Numbers). Ok (y.0, with_taken y.1 more)) is

batches_more : (live : List StorePrefix) (most : ℕ) (state : Numbers) (gate : ℕ) (payloads : List (List ℕ)) (x : List Entry × Numbers) (more : List ℕ)
    → AreFrom x.1.next more → batches_of live most state gate payloads ≡ Ok x
    → Reads live most (with_taken state more) payloads (x.0, with_taken x.1 more)
batches_more live most state gate [] x more all e =
    subst (λ (y : List Entry × Numbers). Reads live most (with_taken state more) [] (y.0, with_taken y.1 more)) (none_read live most state gate x e)
    (reads_none live most (with_taken state more))
batches_more live most state gate (payload ∷ payloads) x more all e =
    let f = first_of live most state gate payload payloads x e in
    let from : AreFrom f.others.1.next more = subst (λ (y : List Entry × Numbers). AreFrom y.1.next more) f.is all in
    let grows = follow_grows live f.first.1 f.others.1 f.others.0 (batches_follow live most f.first.1 f.gate payloads f.others f.rest) in
    let first = payload_more live most state payload f.first more (lower f.first.1.next f.others.1.next more grows from) f.read in
    let others = batches_more live most f.first.1 f.gate payloads f.others more from f.rest in
    subst (λ (y : List Entry × Numbers). Reads live most (with_taken state more) (payload ∷ payloads) (y.0, with_taken y.1 more)) (sym f.is)
    (reads_first live most (with_taken state more) payload payloads (f.first.0, with_taken f.first.1 more)
    (f.others.0, with_taken f.others.1 more) first others)

pub segment_more : (live : List StorePrefix) (most : ℕ) (start : Numbers) (payloads : List (List ℕ)) (tail : Tail) (entries : List Entry)
    (last : Numbers) (more : List ℕ) → AreFrom last.next more → segment_of live most start payloads (Closed tail) ≡ Ok (entries, last)
    → segment_of live most (with_taken start more) payloads (Closed tail) ≡ Ok (entries, with_taken last more)
segment_more live most start payloads tail entries last more all e =
    let read = closed_read live most start payloads (Closed tail) (entries, last) e in
    rw (batches_more live most start 9 payloads (entries, last) more all read 9) refl
