-- Entries and payloads that are read are those that were written, and what was written is read again.
use Rattle.std.specs.Prelude.{◌≡◌, ℕ, zero, suc, ◌+◌, ◌^◌, ◌<◌, true, List, [], ◌∷◌, ◌++◌, length, Some, is_some, Result, Ok, nat_lt, ◌==◌}
use Rattle.std.specs.List.{flat_map, AllByRecursion}
use Rattle.std.proofs.Common.{refl, sym, ap, subst, ◌∙◌, append_assoc, arith}
use Rattle.std.proofs.lemmas.Bool.{ltb-true, lt-ltb, eqb-true}
use Rattle.std.proofs.lemmas.List.{append-nil, nil_from_length}
use Rattle.byteorder.specs.Endian.{big_bytes}
use Rattle.hse_fields.specs.LogText.{Change, Entry, changes_text, entry_text, payload_text}
use Rattle.hse_fields.specs.LogForm.{IsEntry, ArePayload}
use Rattle.hse_fields.specs.Fields.{number_of}
use Rattle.hse_fields.specs.LogReading.{◌>>=◌, ensure, given, changes_of, any_changes_of, Rule, has_room, entry_of, entries_of, payload_of, Follow, PrefixFits, PrefixesFit}
use Rattle.hse_fields.specs.laws.Fields.{IsBytes, bind_ok, ensure_ok, given_ok, ok_is, Takes, Takes-then, width_4, width_8, number_takes, number_again}
use Rattle.hse_fields.specs.laws.AllChanges.{changes_take, changes_again, any_changes_again}

-- ---- entries

-- what a reading of an entry gives
record TakesEntry {S : Type 0} (rule : Rule S) (most : ℕ) (state : S) (bytes : List ℕ) (x : (Entry × S) × List ℕ) : Type 0 where
  taken : Takes bytes (entry_text x.0.0) x.1
  formed : IsEntry most x.0.0
  next : rule.number_fits state x.0.0.number ≡ true
  after : rule.after state x.0.0 ≡ Some x.0.1
  fits : AllByRecursion (PrefixFits rule.prefix_fits) x.0.0.changes

abbrev pub entry : ℕ → List Change → Entry
entry number changes = record { number = number; changes = changes }

abbrev pub from_changes : {S : Type 0} → Rule S → S → List ℕ → ℕ → List Change × List ℕ → Result ((Entry × S) × List ℕ) ℕ
from_changes rule state bytes number changes =
    given (rule.after state (entry number changes.0)) (length bytes) >>= λ after. Ok ((entry number changes.0, after), changes.1)

abbrev pub from_room : {S : Type 0} → Rule S → ℕ → S → List ℕ → ℕ × List ℕ → Result ((Entry × S) × List ℕ) ℕ
from_room rule most state bytes number = changes_of rule.prefix_fits most number.1 >>= from_changes rule state bytes number.0

abbrev pub from_next : {S : Type 0} → Rule S → ℕ → S → List ℕ → ℕ × List ℕ → Result ((Entry × S) × List ℕ) ℕ
from_next rule most state bytes number =
    ensure (has_room rule state number.0 number.1) (length bytes) >>= λ room. from_room rule most state bytes number

abbrev pub from_number : {S : Type 0} → Rule S → ℕ → S → List ℕ → ℕ × List ℕ → Result ((Entry × S) × List ℕ) ℕ
from_number rule most state bytes number =
    ensure (rule.number_fits state number.0) (length bytes) >>= λ next. from_next rule most state bytes number

entry_takes : {S : Type 0} (rule : Rule S) (most : ℕ) (state : S) (bytes : List ℕ) (x : (Entry × S) × List ℕ) → IsBytes bytes
    → entry_of rule most state bytes ≡ Ok x → TakesEntry rule most state bytes x
unfolding entry_of
entry_takes {S} rule most state bytes x fits e =
    let a = bind_ok (number_of 8 bytes) (from_number rule most state bytes) x e in
    let number = a.0.0 in
    let b = bind_ok (ensure (rule.number_fits state number) (length bytes)) (λ next. from_next rule most state bytes a.0) x a.2 in
    let r = bind_ok (ensure (has_room rule state number a.0.1) (length bytes)) (λ room. from_room rule most state bytes a.0) x b.2 in
    let c = bind_ok (changes_of rule.prefix_fits most a.0.1) (from_changes rule state bytes number) x r.2 in
    let made = entry number c.0.0 in
    let d = bind_ok (given (rule.after state made) (length bytes)) (λ after. Ok ((made, after), c.0.1)) x c.2 in
    let head = number_takes 8 width_8 bytes number a.0.1 fits a.1 in
    let read = changes_take rule.prefix_fits most a.0.1 c.0 head.0.rest_fits c.1 in
    subst (TakesEntry rule most state bytes) (ok_is ((made, d.0), c.0.1) x d.2)
    (record {
      taken = Takes-then bytes (big_bytes 8 number) a.0.1 (changes_text c.0.0) c.0.1 head.0 read.taken;
      formed = record { number = omega (arith, head.1); changes = read.formed };
      next = ensure_ok _ _ _ b.1;
      after = given_ok _ _ _ d.1;
      fits = read.fits;
    })

-- There is room exactly for an entry that may come, where its changes are read.
pub room_is : {S : Type 0} (rule : Rule S) (state : S) (number : ℕ) (bytes : List ℕ) (changes : List Change) (rest : List ℕ)
    → any_changes_of bytes ≡ Ok (changes, rest) → has_room rule state number bytes ≡ is_some (rule.after state (entry number changes))
unfolding has_room
room_is rule state number bytes changes rest e = rw e refl

entry_again : {S : Type 0} (rule : Rule S) (most : ℕ) (state after : S) (e : Entry) (rest : List ℕ) → most < 2 ^ 32 → IsEntry most e
    → rule.number_fits state e.number ≡ true → rule.after state e ≡ Some after → AllByRecursion (PrefixFits rule.prefix_fits) e.changes
    → entry_of rule most state (entry_text e ++ rest) ≡ Ok ((e, after), rest)
unfolding entry_of
entry_again rule most state after e rest small formed next follows fits =
    let regrouped : entry_text e ++ rest ≡ big_bytes 8 e.number ++ (changes_text e.changes ++ rest) =
    append_assoc (big_bytes 8 e.number) (changes_text e.changes) rest in
    let is : rule.after state (entry e.number e.changes) ≡ Some after = follows in
    let room : has_room rule state e.number (changes_text e.changes ++ rest) ≡ true =
    room_is rule state e.number (changes_text e.changes ++ rest) e.changes rest (any_changes_again most e.changes rest small formed.changes)
    ∙ ap is_some is in
    ap (entry_of rule most state) regrouped
    ∙ rw (
      number_again 8 e.number (changes_text e.changes ++ rest) (omega (arith, formed.number)),
      next,
      room,
      changes_again rule.prefix_fits most e.changes rest small formed.changes fits,
      is,
    ) refl

record TakesEntries {S : Type 0} (rule : Rule S) (most : ℕ) (state : S) (n : ℕ) (bytes : List ℕ) (x : (List Entry × S) × List ℕ) : Type 0 where
  taken : Takes bytes (flat_map entry_text x.0.0) x.1
  counted : length x.0.0 ≡ n
  formed : AllByRecursion (IsEntry most) x.0.0
  follow : Follow rule state x.0.0 x.0.1
  fits : PrefixesFit rule.prefix_fits x.0.0

abbrev pub other_entries_of : {S : Type 0} → Rule S → ℕ → ℕ → (Entry × S) × List ℕ → Result ((List Entry × S) × List ℕ) ℕ
other_entries_of rule most n first =
    entries_of rule most first.0.1 n first.1 >>= λ others. Ok ((first.0.0 ∷ others.0.0, others.0.1), others.1)

entries_take : {S : Type 0} (rule : Rule S) (most : ℕ) (state : S) (n : ℕ) (bytes : List ℕ) (x : (List Entry × S) × List ℕ) → IsBytes bytes
    → entries_of rule most state n bytes ≡ Ok x → TakesEntries rule most state n bytes x
unfolding entries_of
entries_take {S} rule most state zero bytes x fits e =
    subst (TakesEntries rule most state 0 bytes) (ok_is (([], state), bytes) x e)
    (record { taken = record { parts = refl; rest_fits = fits }; counted = refl; formed = tt; follow = refl; fits = tt })
entries_take {S} rule most state (suc n) bytes x fits e =
    let a = bind_ok (entry_of rule most state bytes) (other_entries_of rule most n) x e in
    let b = bind_ok (entries_of rule most a.0.0.1 n a.0.1) (λ others. Ok ((a.0.0.0 ∷ others.0.0, others.0.1), others.1)) x a.2 in
    let first = entry_takes rule most state bytes a.0 fits a.1 in
    let others = entries_take rule most a.0.0.1 n a.0.1 b.0 first.taken.rest_fits b.1 in
    subst (TakesEntries rule most state (suc n) bytes) (ok_is ((a.0.0.0 ∷ b.0.0.0, b.0.0.1), b.0.1) x b.2)
    (record {
      taken = Takes-then bytes (entry_text a.0.0.0) a.0.1 (flat_map entry_text b.0.0.0) b.0.1 first.taken others.taken;
      counted = ap suc others.counted;
      formed = (first.formed, others.formed);
      follow = (first.next, a.0.0.1, first.after, others.follow);
      fits = (first.fits, others.fits);
    })

entries_again : {S : Type 0} (rule : Rule S) (most : ℕ) (state last : S) (es : List Entry) (rest : List ℕ) → most < 2 ^ 32
    → AllByRecursion (IsEntry most) es → Follow rule state es last → PrefixesFit rule.prefix_fits es
    → entries_of rule most state (length es) (flat_map entry_text es ++ rest) ≡ Ok ((es, last), rest)
unfolding entries_of
entries_again rule most state last [] rest small formed follow fits = ap (λ s. Ok (([], s), rest)) follow
entries_again rule most state last (e ∷ es) rest small formed follow fits =
    let regrouped : flat_map entry_text (e ∷ es) ++ rest ≡ entry_text e ++ (flat_map entry_text es ++ rest) =
    append_assoc (entry_text e) (flat_map entry_text es) rest in
    ap (entries_of rule most state (suc (length es))) regrouped
    ∙ rw (
      entry_again rule most state follow.1 e (flat_map entry_text es ++ rest) small formed.0 follow.0 follow.2 fits.0,
      entries_again rule most follow.1 last es rest small formed.1 follow.3 fits.1,
    ) refl

-- ---- payloads

abbrev pub ended_of : {S : Type 0} → List ℕ → (List Entry × S) × List ℕ → Result (List Entry × S) ℕ
ended_of bytes read = ensure (length read.1 == 0) (4 + length bytes) >>= λ ended. Ok read.0

-- What is read is spelled so, its entries may come one after another, and its prefix deletes fit.
pub payload_takes : {S : Type 0} (rule : Rule S) (most : ℕ) (state : S) (bytes : List ℕ) (x : List Entry × S) → IsBytes bytes
    → payload_of rule most state bytes ≡ Ok x → (bytes ≡ payload_text x.0) × ArePayload most x.0 × Follow rule state x.0 x.1 × PrefixesFit rule.prefix_fits x.0
unfolding payload_of
payload_takes {S} rule most state bytes x fits e =
    let a = bind_ok (number_of 4 bytes) (λ count. ensure (nat_lt 0 count.0) (length bytes) >>= λ some. (entries_of rule most state count.0 count.1 >>= ended_of bytes)) x e in
    let b = bind_ok (ensure (nat_lt 0 a.0.0) (length bytes)) (λ some. entries_of rule most state a.0.0 a.0.1 >>= ended_of bytes) x a.2 in
    let c = bind_ok (entries_of rule most state a.0.0 a.0.1) (ended_of bytes) x b.2 in
    let d = bind_ok (ensure (length c.0.1 == 0) (4 + length bytes)) (λ ended. Ok c.0.0) x c.2 in
    let count = number_takes 4 width_4 bytes a.0.0 a.0.1 fits a.1 in
    let read = entries_take rule most state a.0.0 a.0.1 c.0 count.0.rest_fits c.1 in
    let some : 0 < a.0.0 = ltb-true _ _ (ensure_ok _ _ _ b.1) in
    let ended : c.0.1 ≡ [] = nil_from_length c.0.1 (eqb-true _ _ (ensure_ok _ _ _ d.1)) in
    let es = c.0.0.0 in
    let head : Takes bytes (big_bytes 4 (length es)) a.0.1 = subst (λ (k : ℕ). Takes bytes (big_bytes 4 k) a.0.1) (sym read.counted) count.0 in
    let all = Takes-then bytes (big_bytes 4 (length es)) a.0.1 (flat_map entry_text es) c.0.1 head read.taken in
    let spelled : bytes ≡ payload_text es = all.parts ∙ ap (λ (l : List ℕ). payload_text es ++ l) ended ∙ append-nil (payload_text es) in
    let formed : ArePayload most es = record { some = omega (arith, some, read.counted); counted = omega (arith, count.1, read.counted); formed = read.formed } in
    subst (λ (y : List Entry × S). (bytes ≡ payload_text y.0) × ArePayload most y.0 × Follow rule state y.0 y.1 × PrefixesFit rule.prefix_fits y.0) (ok_is c.0.0 x d.2)
    (spelled, formed, read.follow, read.fits)

-- What is spelled so is read.
pub payload_again : {S : Type 0} (rule : Rule S) (most : ℕ) (state last : S) (es : List Entry) → most < 2 ^ 32 → ArePayload most es
    → Follow rule state es last → PrefixesFit rule.prefix_fits es → payload_of rule most state (payload_text es) ≡ Ok (es, last)
unfolding payload_of
payload_again rule most state last es small formed follow fits =
    let some : nat_lt 0 (length es) ≡ true = lt-ltb _ _ (omega (arith, formed.some)) in
    let text : flat_map entry_text es ≡ flat_map entry_text es ++ [] = sym (append-nil (flat_map entry_text es)) in
    let read : entries_of rule most state (length es) (flat_map entry_text es) ≡ Ok ((es, last), []) =
    ap (entries_of rule most state (length es)) text ∙ entries_again rule most state last es [] small formed.formed follow fits in
    rw (number_again 4 (length es) (flat_map entry_text es) (omega (arith, formed.counted)), some, read) refl
