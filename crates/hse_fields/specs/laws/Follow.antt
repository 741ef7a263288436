-- What is read may come one after another by its rule, whatever the bytes are. Entries follow in parts as they do
-- in one list.
use Rattle.std.specs.Prelude.{◌≡◌, ℕ, zero, suc, ◌+◌, true, List, [], ◌∷◌, ◌++◌, length, Some, Ok, nat_lt, ◌==◌}
use Rattle.std.proofs.Common.{refl, sym, subst}
use Rattle.hse_fields.specs.LogText.{Entry}
use Rattle.hse_fields.specs.Fields.{number_of}
use Rattle.hse_fields.specs.LogReading.{◌>>=◌, ensure, given, changes_of, Rule, has_room, entry_of, entries_of, payload_of, Follow}
use Rattle.hse_fields.specs.laws.Fields.{bind_ok, ensure_ok, given_ok, ok_is}
use Rattle.hse_fields.specs.laws.Payloads.{entry, from_changes, from_room, from_next, from_number, other_entries_of, ended_of}

record Comes {S : Type 0} (rule : Rule S) (state : S) (x : Entry × S) : Type 0 where
  next : rule.number_fits state x.0.number ≡ true
  after : rule.after state x.0 ≡ Some x.1

entry_comes : {S : Type 0} (rule : Rule S) (most : ℕ) (state : S) (bytes : List ℕ) (x : (Entry × S) × List ℕ)
    → entry_of rule most state bytes ≡ Ok x → Comes rule state x.0
unfolding entry_of
entry_comes {S} rule most state bytes x e =
    let a = bind_ok (number_of 8 bytes) (from_number rule most state bytes) x e in
    let number = a.0.0 in
    let b = bind_ok (ensure (rule.number_fits state number) (length bytes)) (λ next. from_next rule most state bytes a.0) x a.2 in
    let r = bind_ok (ensure (has_room rule state number a.0.1) (length bytes)) (λ room. from_room rule most state bytes a.0) x b.2 in
    let c = bind_ok (changes_of rule.prefix_fits most a.0.1) (from_changes rule state bytes number) x r.2 in
    let made = entry number c.0.0 in
    let d = bind_ok (given (rule.after state made) (length bytes)) (λ after. Ok ((made, after), c.0.1)) x c.2 in
    subst (λ (y : (Entry × S) × List ℕ). Comes rule state y.0) (ok_is ((made, d.0), c.0.1) x d.2)
    (record { next = ensure_ok _ _ _ b.1; after = given_ok _ _ _ d.1 })

entries_follow : {S : Type 0} (rule : Rule S) (most : ℕ) (state : S) (n : ℕ) (bytes : List ℕ) (x : (List Entry × S) × List ℕ)
    → entries_of rule most state n bytes ≡ Ok x → Follow rule state x.0.0 x.0.1
unfolding entries_of
entries_follow {S} rule most state zero bytes x e =
    subst (λ (y : (List Entry × S) × List ℕ). Follow rule state y.0.0 y.0.1) (ok_is (([], state), bytes) x e) refl
entries_follow {S} rule most state (suc n) bytes x e =
    let a = bind_ok (entry_of rule most state bytes) (other_entries_of rule most n) x e in
    let b = bind_ok (entries_of rule most a.0.0.1 n a.0.1) (λ others. Ok ((a.0.0.0 ∷ others.0.0, others.0.1), others.1)) x a.2 in
    let first = entry_comes rule most state bytes a.0 a.1 in
    let others = entries_follow rule most a.0.0.1 n a.0.1 b.0 b.1 in
    subst (λ (y : (List Entry × S) × List ℕ). Follow rule state y.0.0 y.0.1) (ok_is ((a.0.0.0 ∷ b.0.0.0, b.0.0.1), b.0.1) x b.2)
    (first.next, a.0.0.1, first.after, others)

-- The entries of a payload may come one after another.
pub payload_follows : {S : Type 0} (rule : Rule S) (most : ℕ) (state : S) (bytes : List ℕ) (x : List Entry × S)
    → payload_of rule most state bytes ≡ Ok x → Follow rule state x.0 x.1
unfolding payload_of
payload_follows {S} rule most state bytes x e =
    let a = bind_ok (number_of 4 bytes) (λ count. ensure (nat_lt 0 count.0) (length bytes) >>= λ some. (entries_of rule most state count.0 count.1 >>= ended_of bytes)) x e in
    let b = bind_ok (ensure (nat_lt 0 a.0.0) (length bytes)) (λ some. entries_of rule most state a.0.0 a.0.1 >>= ended_of bytes) x a.2 in
    let c = bind_ok (entries_of rule most state a.0.0 a.0.1) (ended_of bytes) x b.2 in
    let d = bind_ok (ensure (length c.0.1 == 0) (4 + length bytes)) (λ ended. Ok c.0.0) x c.2 in
    subst (λ (y : List Entry × S). Follow rule state y.0 y.1) (ok_is c.0.0 x d.2) (entries_follow rule most state a.0.0 a.0.1 c.0 c.1)

-- entries behind others
pub follow-append : {S : Type 0} (rule : Rule S) (first middle last : S) (es fs : List Entry)
    → Follow rule first es middle → Follow rule middle fs last → Follow rule first (es ++ fs) last
follow-append {S} rule first middle last [] fs before behind = subst (λ (s : S). Follow rule s fs last) (sym before) behind
follow-append {S} rule first middle last (e ∷ es) fs before behind =
    (before.0, before.1, before.2, follow-append rule before.1 middle last es fs before.3 behind)
