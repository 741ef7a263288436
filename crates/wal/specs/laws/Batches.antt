-- Batches are read one behind another, wherever the first of them stands.
use Rattle.std.specs.Prelude.{◌≡◌, ℕ, ◌+◌, List, [], ◌∷◌, ◌++◌, Result, Ok, Err}
use Rattle.std.proofs.Common.{refl, sym, ap, subst, ◌∙◌, append_assoc}
use Rattle.std.proofs.lemmas.List.{append-nil}
use Rattle.gate_log.specs.Places.{need_of}
use Rattle.gate_log.specs.declared.front.End.{End}
use Rattle.gate_log.specs.declared.front.End.TheVariants.{Closed, CutOff}
use Rattle.gate_log.specs.declared.region.Tail.{Tail}
use Rattle.hse_fields.specs.LogText.{Entry}
use Rattle.hse_fields.specs.LogReading.{◌>>=◌, payload_of, Follow}
use Rattle.hse_fields.specs.laws.Fields.{bind_ok, ok_is}
use Rattle.hse_fields.specs.laws.Follow.{payload_follows, follow-append}
use Rattle.wal.specs.Batches.{Reads, IsBeginningRead}
use Rattle.wal.specs.Numbering.{Numbers, numbering}
use Rattle.wal.specs.Replaying.{before, batches_of, ended, segment_of}
use Rattle.wal.specs.declared.live.StorePrefix.{StorePrefix}

-- what reading gives does not depend on the place
pub before_ok : {A : Type 0} (end : ℕ) (r : Result A ℕ) (x : A) → before end r ≡ Ok x → r ≡ Ok x
before_ok end (Ok y) x e = e
before_ok end (Err left) x e = absurd cc

ok_before : {A : Type 0} (end : ℕ) (r : Result A ℕ) (x : A) → r ≡ Ok x → before end r ≡ Ok x
ok_before end r x e = rw e refl

abbrev others_of : List StorePrefix → ℕ → ℕ → List (List ℕ) → List Entry × Numbers → Result (List Entry × Numbers) ℕ
others_of live most gate payloads first =
    batches_of live most first.1 gate payloads >>= λ others. Ok (first.0 ++ others.0, others.1)

-- a batch before others
pub reads_first : (live : List StorePrefix) (most : ℕ) (state : Numbers) (payload : List ℕ) (payloads : List (List ℕ))
    (first others : List Entry × Numbers) → payload_of (numbering live) most state payload ≡ Ok first
    → Reads live most first.1 payloads others → Reads live most state (payload ∷ payloads) (first.0 ++ others.0, others.1)
unfolding batches_of
reads_first live most state payload payloads first others e more gate =
    rw (ok_before (gate + need_of payload) (payload_of (numbering live) most state payload) first e, more (gate + need_of payload)) refl

-- the first batch and the others
pub record IsFirst (live : List StorePrefix) (most : ℕ) (state : Numbers) (payload : List ℕ) (payloads : List (List ℕ))
    (x : List Entry × Numbers) : Type 0 where
  pub first : List Entry × Numbers
  pub others : List Entry × Numbers
  pub gate : ℕ
  pub read : payload_of (numbering live) most state payload ≡ Ok first
  pub rest : batches_of live most first.1 gate payloads ≡ Ok others
  pub is : x ≡ (first.0 ++ others.0, others.1)

pub first_of : (live : List StorePrefix) (most : ℕ) (state : Numbers) (gate : ℕ) (payload : List ℕ) (payloads : List (List ℕ))
    (x : List Entry × Numbers) → batches_of live most state gate (payload ∷ payloads) ≡ Ok x → IsFirst live most state payload payloads x
unfolding batches_of
first_of live most state gate payload payloads x e =
    let a = bind_ok (before (gate + need_of payload) (payload_of (numbering live) most state payload)) (others_of live most (gate + need_of payload) payloads) x e in
    let b = bind_ok (batches_of live most a.0.1 (gate + need_of payload) payloads) (λ others. Ok (a.0.0 ++ others.0, others.1)) x a.2 in
    record {
      first = a.0;
      others = b.0;
      gate = gate + need_of payload;
      read = before_ok (gate + need_of payload) (payload_of (numbering live) most state payload) a.0 a.1;
      rest = b.1;
      is = sym (ok_is (a.0.0 ++ b.0.0, b.0.1) x b.2);
    }

pub none_read : (live : List StorePrefix) (most : ℕ) (state : Numbers) (gate : ℕ) (x : List Entry × Numbers)
    → batches_of live most state gate [] ≡ Ok x → ([], state) ≡ x
unfolding batches_of
none_read live most state gate x e = ok_is ([], state) x e

pub reads_none : (live : List StorePrefix) (most : ℕ) (state : Numbers) → Reads live most state [] ([], state)
unfolding batches_of
reads_none live most state gate = refl

pub reads_anywhere : (live : List StorePrefix) (most : ℕ) (state : Numbers) (gate : ℕ) (payloads : List (List ℕ)) (x : List Entry × Numbers)
    → batches_of live most state gate payloads ≡ Ok x → Reads live most state payloads x
reads_anywhere live most state gate [] x e = subst (λ (y : List Entry × Numbers). Reads live most state [] y) (none_read live most state gate x e) (reads_none live most state)
reads_anywhere live most state gate (payload ∷ payloads) x e =
    let f = first_of live most state gate payload payloads x e in
    let others = reads_anywhere live most f.first.1 f.gate payloads f.others f.rest in
    subst (λ (y : List Entry × Numbers). Reads live most state (payload ∷ payloads) y) (sym f.is)
    (reads_first live most state payload payloads f.first f.others f.read others)

-- batches behind others
pub reads_behind : (live : List StorePrefix) (most : ℕ) (state : Numbers) (payloads others : List (List ℕ)) (x y : List Entry × Numbers)
    → Reads live most state payloads x → Reads live most x.1 others y → Reads live most state (payloads ++ others) (x.0 ++ y.0, y.1)
reads_behind live most state [] others x y beginning behind =
    let is = none_read live most state 9 x (beginning 9) in
    subst (λ (z : List Entry × Numbers). Reads live most z.1 others y → Reads live most state others (z.0 ++ y.0, y.1)) is (λ more. more) behind
reads_behind live most state (payload ∷ payloads) others x y beginning behind =
    let f = first_of live most state 9 payload payloads x (beginning 9) in
    let rest = reads_anywhere live most f.first.1 f.gate payloads f.others f.rest in
    let last : x.1 ≡ f.others.1 = ap (λ (z : List Entry × Numbers). z.1) f.is in
    let front_is : x.0 ≡ f.first.0 ++ f.others.0 = ap (λ (z : List Entry × Numbers). z.0) f.is in
    let more = reads_behind live most f.first.1 payloads others f.others y rest (subst (λ (s : Numbers). Reads live most s others y) last behind) in
    let joined : f.first.0 ++ (f.others.0 ++ y.0) ≡ x.0 ++ y.0 =
    sym (append_assoc f.first.0 f.others.0 y.0) ∙ ap (λ (es : List Entry). es ++ y.0) (sym front_is) in
    subst (λ (es : List Entry). Reads live most state (payload ∷ (payloads ++ others)) (es, y.1)) joined
    (reads_first live most state payload (payloads ++ others) f.first (f.others.0 ++ y.0, y.1) f.read more)

-- what was read of the beginning, and of what stands behind it
pub record IsSplit (live : List StorePrefix) (most : ℕ) (state : Numbers) (payloads others : List (List ℕ))
    (x : List Entry × Numbers) : Type 0 where
  pub beginning : List Entry
  pub middle : Numbers
  pub behind : List Entry
  pub beginning_read : Reads live most state payloads (beginning, middle)
  pub behind_read : Reads live most middle others (behind, x.1)
  pub joined : x.0 ≡ beginning ++ behind

pub reads_split : (live : List StorePrefix) (most : ℕ) (state : Numbers) (gate : ℕ) (payloads others : List (List ℕ)) (x : List Entry × Numbers)
    → batches_of live most state gate (payloads ++ others) ≡ Ok x → IsSplit live most state payloads others x
reads_split live most state gate [] others x e = record {
  beginning = [];
  middle = state;
  behind = x.0;
  beginning_read = reads_none live most state;
  behind_read = reads_anywhere live most state gate others x e;
  joined = refl;
}
reads_split live most state gate (payload ∷ payloads) others x e =
    let f = first_of live most state gate payload (payloads ++ others) x e in
    let rest = reads_split live most f.first.1 f.gate payloads others f.others f.rest in
    let last : f.others.1 ≡ x.1 = sym (ap (λ (z : List Entry × Numbers). z.1) f.is) in
    let entries : x.0 ≡ f.first.0 ++ f.others.0 = ap (λ (z : List Entry × Numbers). z.0) f.is in
    record {
      beginning = f.first.0 ++ rest.beginning;
      middle = rest.middle;
      behind = rest.behind;
      beginning_read = reads_first live most state payload payloads f.first (rest.beginning, rest.middle) f.read rest.beginning_read;
      behind_read = subst (λ (s : Numbers). Reads live most rest.middle others (rest.behind, s)) last rest.behind_read;
      joined = entries ∙ ap (λ (es : List Entry). f.first.0 ++ es) rest.joined ∙ sym (append_assoc f.first.0 rest.beginning rest.behind);
    }

-- The entries of batches follow one another.
pub batches_follow : (live : List StorePrefix) (most : ℕ) (state : Numbers) (gate : ℕ) (payloads : List (List ℕ)) (x : List Entry × Numbers)
    → batches_of live most state gate payloads ≡ Ok x → Follow (numbering live) state x.0 x.1
batches_follow live most state gate [] x e =
    subst (λ (y : List Entry × Numbers). Follow (numbering live) state y.0 y.1) (none_read live most state gate x e) refl
batches_follow live most state gate (payload ∷ payloads) x e =
    let f = first_of live most state gate payload payloads x e in
    let first = payload_follows (numbering live) most state payload f.first f.read in
    let others = batches_follow live most f.first.1 f.gate payloads f.others f.rest in
    subst (λ (y : List Entry × Numbers). Follow (numbering live) state y.0 y.1) (sym f.is)
    (follow-append (numbering live) state f.first.1 f.others.1 f.first.0 f.others.0 first others)

-- ---- segments

pub no_ok : (place : ℕ) (x : List Entry × Numbers) → Err place ≡ Ok x → ⊥
no_ok place x e = cc

-- a segment that was read ends in a closed gate
pub closed_read : (live : List StorePrefix) (most : ℕ) (start : Numbers) (payloads : List (List ℕ)) (end : End) (x : List Entry × Numbers)
    → segment_of live most start payloads end ≡ Ok x → batches_of live most start 9 payloads ≡ Ok x
closed_read live most start payloads (Closed tail) x e =
    let a = bind_ok (batches_of live most start 9 payloads) (ended (Closed tail)) x e in
    a.1 ∙ ap (λ (y : List Entry × Numbers). Ok y) (ok_is a.0 x a.2)
closed_read live most start payloads (CutOff place) x e =
    let a = bind_ok (batches_of live most start 9 payloads) (ended (CutOff place)) x e in
    absurd (no_ok place x a.2)

pub beginning_is_read : (live : List StorePrefix) (most : ℕ) (start : Numbers) (payloads others : List (List ℕ)) (end : End)
    (entries : List Entry) (last : Numbers) → segment_of live most start (payloads ++ others) end ≡ Ok (entries, last)
    → IsBeginningRead live most start payloads others entries last
beginning_is_read live most start payloads others end entries last e =
    let s = reads_split live most start 9 payloads others (entries, last) (closed_read live most start (payloads ++ others) end (entries, last) e) in
    record {
      beginning = s.beginning;
      middle = s.middle;
      behind = s.behind;
      beginning_read = λ tail. rw (s.beginning_read 9) refl;
      behind_read = s.behind_read;
      joined = s.joined;
    }

pub more_is_read : (live : List StorePrefix) (most : ℕ) (start : Numbers) (payloads : List (List ℕ)) (tail other : Tail)
    (entries : List Entry) (last : Numbers) (payload : List ℕ) (more : List Entry) (after : Numbers) → segment_of live most start payloads (Closed tail) ≡ Ok (entries, last)
    → payload_of (numbering live) most last payload ≡ Ok (more, after)
    → segment_of live most start (payloads ++ payload ∷ []) (Closed other) ≡ Ok (entries ++ more, after)
more_is_read live most start payloads tail other entries last payload more after e f =
    let beginning = reads_anywhere live most start 9 payloads (entries, last) (closed_read live most start payloads (Closed tail) (entries, last) e) in
    let one : Reads live most last (payload ∷ []) (more, after) =
    subst (λ (es : List Entry). Reads live most last (payload ∷ []) (es, after)) (append-nil more)
    (reads_first live most last payload [] (more, after) ([], after) f (reads_none live most after)) in
    rw (reads_behind live most start payloads (payload ∷ []) (entries, last) (more, after) beginning one 9) refl
