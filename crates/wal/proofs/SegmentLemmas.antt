-- What the reading of a segment's batches says of their places and charges.
use Rattle.std.proofs.Common.{◌≡◌, ℕ, ◌+◌, ◌-◌, ◌≤◌, List, [], ◌∷◌, ◌++◌, Result, Ok, Err, sym, ap, subst, arith}
use Rattle.std.specs.List.{sum_by}
use Rattle.std.proofs.lemmas.List.Sums.{sum_by-cons}
use Rattle.gate_log.specs.Places.{need_of}
use Rattle.gate_log.specs.Reading.{payloads_of, LiesInside}
use Rattle.gate_log.specs.declared.found.Payload.{Payload}
use Rattle.gate_log.specs.declared.region.Tail.{Tail}
use Rattle.gate_log.specs.declared.front.End.{End}
use Rattle.gate_log.specs.declared.front.End.TheVariants.{Closed, CutOff}
use Rattle.hse_fields.specs.LogText.{Entry}
use Rattle.hse_fields.specs.LogReading.{◌>>=◌, payload_of}
use Rattle.wal.specs.Given.{Refuses}
use Rattle.wal.specs.Numbering.{Numbers, numbering}
use Rattle.wal.specs.Replaying.{before, batches_of, ended, segment_of, starting}
use Rattle.wal.specs.declared.live.StorePrefix.{StorePrefix}
use Rattle.wal.specs.declared.segment.SegmentFault.{SegmentFault}
use Rattle.wal.specs.declared.segment.SegmentFault.TheVariants.{Damaged, NoMemory}

-- ---- the refused place

-- a refusal at this place at most
abbrev pub Within : {A : Type 0} → ℕ → Result A ℕ → Type 0
Within n (Ok x) = Unit {0}
Within n (Err place) = place ≤ n

then : {A B : Type 0} (n : ℕ) (r : Result A ℕ) (f : A → Result B ℕ) → Within n r → ((x : A) → Within n (f x)) → Within n (r >>= f)
then n (Ok x) f w more = more x
then n (Err place) f w more = w

wider : {A : Type 0} (m n : ℕ) (r : Result A ℕ) → m ≤ n → Within m r → Within n r
wider m n (Ok x) le w = tt
wider m n (Err place) le w = omega (arith, le, w)

before_within : {A : Type 0} (end : ℕ) (r : Result A ℕ) → Within end (before end r)
before_within end (Ok x) = tt
before_within end (Err left) = omega arith

batches_within : (live : List StorePrefix) (most : ℕ) (state : Numbers) (gate : ℕ) (payloads : List (List ℕ))
    → Within (gate + sum_by need_of payloads) (batches_of live most state gate payloads)
unfolding batches_of
batches_within live most state gate [] = tt
batches_within live most state gate (payload ∷ payloads) =
    let sum : sum_by need_of (payload ∷ payloads) ≡ need_of payload + sum_by need_of payloads = sum_by-cons need_of payload payloads in
    let end = gate + need_of payload in
    let all = gate + sum_by need_of (payload ∷ payloads) in
    then all (before end (payload_of (numbering live) most state payload))
    (λ first. batches_of live most first.1 end payloads >>= λ others. Ok (first.0 ++ others.0, others.1))
    (wider end all (before end (payload_of (numbering live) most state payload)) (omega (arith, sum)) (before_within end (payload_of (numbering live) most state payload)))
    (λ first. then all (batches_of live most first.1 end payloads) (λ others. Ok (first.0 ++ others.0, others.1))
    (wider (end + sum_by need_of payloads) all (batches_of live most first.1 end payloads) (omega (arith, sum)) (batches_within live most first.1 end payloads))
    (λ others. tt))

at_err : {A : Type 0} (n place : ℕ) (r : Result A ℕ) → r ≡ Err place → Within n r → place ≤ n
at_err n place (Ok x) e w = absurd cc
at_err n place (Err other) e w = let same : place ≡ other = cc in omega (arith, same, w)

-- where the batches lie inside, so does the refused place
pub place_within : (live : List StorePrefix) (most : ℕ) (state : Numbers) (size place : ℕ) (payloads : List (List ℕ)) (end : End) → LiesInside size payloads end
    → batches_of live most state 9 payloads ≡ Err place → place ≤ size
place_within live most state size place payloads (Closed tail) inside e =
    let h : place ≤ 9 + sum_by need_of payloads = at_err (9 + sum_by need_of payloads) place (batches_of live most state 9 payloads) e (batches_within live most state 9 payloads) in
    omega (arith, h, inside.0, inside.1)
place_within live most state size place payloads (CutOff cut) inside e =
    let h : place ≤ 9 + sum_by need_of payloads = at_err (9 + sum_by need_of payloads) place (batches_of live most state 9 payloads) e (batches_within live most state 9 payloads) in
    omega (arith, h, inside.0, inside.1)

pub fault_within : (fault : SegmentFault) (live : List StorePrefix) (most : ℕ) (state : Numbers) (size place : ℕ) (payloads : List (List ℕ)) (end : End)
    → LiesInside size payloads end → Refuses fault (batches_of live most state 9 payloads) → fault ≡ Damaged place → place ≤ size
fault_within (Damaged other) live most state size place payloads end inside refused e =
    let same : place ≡ other = cc in
    subst (λ (n : ℕ). n ≤ size) (sym same) (place_within live most state size other payloads end inside refused)
fault_within NoMemory live most state size place payloads end inside refused e = absurd cc

-- what a failed call hands on
same_fault : {X : Type 0} (r : Result X SegmentFault) (fault other : SegmentFault) → r ≡ Err fault → r ≡ Err other → fault ≡ other
same_fault r fault other e f = cc

pub result_within : {X : Type 0} (r : Result X SegmentFault) (fault : SegmentFault) (live : List StorePrefix) (most : ℕ) (state : Numbers) (size place : ℕ)
    (payloads : List (List ℕ)) (end : End) → r ≡ Err fault → LiesInside size payloads end → Refuses fault (batches_of live most state 9 payloads)
    → r ≡ Err (Damaged place) → place ≤ size
result_within r fault live most state size place payloads end is inside refused e =
    fault_within fault live most state size place payloads end inside refused (same_fault r fault (Damaged place) is e)

-- ---- a segment by its batches

-- what was read of the batches is what a segment that ends in a closed gate says
pub segment_is : (live : List StorePrefix) (most next : ℕ) (taken : List ℕ) (size room : ℕ) (read batches : List Payload) (tail : Tail) (x : List Entry × Numbers)
    → room ≡ size - 64 → read ≡ batches → batches_of live most (record { next = next; taken = taken; room = room }) 9 (payloads_of read) ≡ Ok x
    → segment_of live most (starting next taken size) (payloads_of batches) (Closed tail) ≡ Ok x
segment_is live most next taken size room read batches tail x is same e =
    let moved : batches_of live most (starting next taken size) 9 (payloads_of batches) ≡ Ok x =
    subst (λ (r : ℕ). batches_of live most (record { next = next; taken = taken; room = r }) 9 (payloads_of batches) ≡ Ok x) is
    (subst (λ (bs : List Payload). batches_of live most (record { next = next; taken = taken; room = room }) 9 (payloads_of bs) ≡ Ok x) same e) in
    ap (λ r. r >>= ended (Closed tail)) moved
