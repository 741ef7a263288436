-- Reading batches one after the other, as a loop does.
use Rattle.std.proofs.Common.{◌≡◌, ℕ, ◌+◌, ◌≤◌, ◌<◌, List, [], ◌∷◌, ◌++◌, length, get_or, drop, Result, Ok, Err, refl, sym, ap, ◌∙◌, append_assoc}
use Rattle.std.specs.List.{sum_by}
use Rattle.std.proofs.lemmas.List.{append-nil, drop_more, drop_all}
use Rattle.std.proofs.lemmas.List.Sums.{sum_by-cons}
use Rattle.gate_log.specs.Places.{need_of}
use Rattle.gate_log.specs.Reading.{payloads_of}
use Rattle.gate_log.specs.declared.found.Payload.{Payload}
use Rattle.hse_fields.specs.LogText.{Entry}
use Rattle.hse_fields.specs.LogReading.{◌>>=◌, payload_of}
use Rattle.wal.specs.declared.segment.SegmentFault.{SegmentFault}
use Rattle.wal.specs.declared.segment.SegmentFault.TheVariants.{Damaged, NoMemory}
use Rattle.wal.specs.Given.{Refuses}
use Rattle.wal.specs.Numbering.{Numbers, numbering}
use Rattle.wal.specs.Replaying.{before, batches_of}
use Rattle.wal.specs.declared.live.StorePrefix.{StorePrefix}

-- what was read before, and what is still read
abbrev pub with_beginning : List Entry → Result (List Entry × Numbers) ℕ → Result (List Entry × Numbers) ℕ
with_beginning beginning read = read >>= λ x. Ok (beginning ++ x.0, x.1)

regroup : (beginning es : List Entry) (read : Result (List Entry × Numbers) ℕ)
    → with_beginning beginning (read >>= λ x. Ok (es ++ x.0, x.1)) ≡ with_beginning (beginning ++ es) read
regroup beginning es (Ok x) = ap (λ (l : List Entry). Ok (l, x.1)) (sym (append_assoc beginning es x.0))
regroup beginning es (Err f) = refl

-- the batches from the one at i on
pub rest_is : (batches : List Payload) (i : ℕ) (batch : Payload) → i < length batches → batch ≡ get_or batches i batch
    → drop i batches ≡ batch ∷ drop (i + 1) batches
rest_is batches i batch lt is = drop_more batches i batch lt ∙ ap (λ (b : Payload). b ∷ drop (i + 1) batches) (sym is)

pub goes_on : (live : List StorePrefix) (most : ℕ) (beginning : List Entry) (state : Numbers) (gate : ℕ) (batches : List Payload) (i : ℕ) (batch : Payload) (es : List Entry) (next : Numbers) (total : Result (List Entry × Numbers) ℕ)
    → i < length batches → batch ≡ get_or batches i batch
    → before (gate + need_of batch.bytes.items) (payload_of (numbering live) most state batch.bytes.items) ≡ Ok (es, next)
    → with_beginning beginning (batches_of live most state gate (payloads_of (drop i batches))) ≡ total
    → with_beginning (beginning ++ es) (batches_of live most next (gate + need_of batch.bytes.items) (payloads_of (drop (i + 1) batches))) ≡ total
unfolding batches_of
goes_on live most beginning state gate batches i batch es next total lt is h so_far =
    let one : with_beginning beginning (batches_of live most state gate (payloads_of (drop i batches)))
    ≡ with_beginning (beginning ++ es) (batches_of live most next (gate + need_of batch.bytes.items) (payloads_of (drop (i + 1) batches))) =
    ap (λ (bs : List Payload). with_beginning beginning (batches_of live most state gate (payloads_of bs))) (rest_is batches i batch lt is)
    ∙ rw h (regroup beginning es (batches_of live most next (gate + need_of batch.bytes.items) (payloads_of (drop (i + 1) batches)))) in
    sym one ∙ so_far

pub stops : (fault : SegmentFault) (live : List StorePrefix) (most : ℕ) (beginning : List Entry) (state : Numbers) (gate : ℕ) (batches : List Payload) (i : ℕ) (batch : Payload) (total : Result (List Entry × Numbers) ℕ)
    → i < length batches → batch ≡ get_or batches i batch
    → Refuses fault (before (gate + need_of batch.bytes.items) (payload_of (numbering live) most state batch.bytes.items))
    → with_beginning beginning (batches_of live most state gate (payloads_of (drop i batches))) ≡ total → Refuses fault total
unfolding batches_of
stops NoMemory live most beginning state gate batches i batch total lt is h so_far = tt
stops (Damaged place) live most beginning state gate batches i batch total lt is h so_far =
    let one : with_beginning beginning (batches_of live most state gate (payloads_of (drop i batches))) ≡ Err place =
    ap (λ (bs : List Payload). with_beginning beginning (batches_of live most state gate (payloads_of bs))) (rest_is batches i batch lt is)
    ∙ rw h refl in
    sym so_far ∙ one

pub is_done : (live : List StorePrefix) (most : ℕ) (beginning : List Entry) (state : Numbers) (gate : ℕ) (batches : List Payload) (i : ℕ) (total : Result (List Entry × Numbers) ℕ)
    → length batches ≤ i → with_beginning beginning (batches_of live most state gate (payloads_of (drop i batches))) ≡ total → total ≡ Ok (beginning, state)
unfolding batches_of
is_done live most beginning state gate batches i total le so_far =
    let one : with_beginning beginning (batches_of live most state gate (payloads_of (drop i batches))) ≡ Ok (beginning, state) =
    ap (λ (bs : List Payload). with_beginning beginning (batches_of live most state gate (payloads_of bs))) (drop_all i batches le)
    ∙ ap (λ (es : List Entry). Ok (es, state)) (append-nil beginning) in
    sym so_far ∙ one

-- what the batches from one on take
pub tail_goes_on : (batches : List Payload) (i : ℕ) (batch : Payload) → i < length batches → batch ≡ get_or batches i batch
    → sum_by need_of (payloads_of (drop i batches)) ≡ need_of batch.bytes.items + sum_by need_of (payloads_of (drop (i + 1) batches))
tail_goes_on batches i batch lt is =
    ap (λ (bs : List Payload). sum_by need_of (payloads_of bs)) (rest_is batches i batch lt is)
    ∙ sum_by-cons need_of batch.bytes.items (payloads_of (drop (i + 1) batches))

-- behind the last one there is none
pub tail_is_done : (batches : List Payload) (i : ℕ) → length batches ≤ i → sum_by need_of (payloads_of (drop i batches)) ≡ 0
tail_is_done batches i le = ap (λ (bs : List Payload). sum_by need_of (payloads_of bs)) (drop_all i batches le)

-- nothing was read yet
pub begins : (read : Result (List Entry × Numbers) ℕ) → with_beginning [] read ≡ read
begins (Ok x) = refl
begins (Err place) = refl
