-- An image stores one thing, or is refused at one place.
use Rattle.std.proofs.Common.{◌≡◌, inl, inr, ℕ, ◌<◌, List, [], length, Result, refl, sym, ap, subst, ◌∙◌, arith}
use Rattle.std.specs.Prelude.{Ok, Err}
use Rattle.gate_log.specs.laws.OneFront.{one_front, front_not_closed}
use Rattle.gate_log.specs.laws.OneReading.{one_gated}
use Rattle.gate_log.specs.Places.{region_of}
use Rattle.gate_log.specs.declared.front.End.{End}
use Rattle.hse_fields.specs.LogText as log
use Rattle.wal.specs.Numbering.{Numbers}
use Rattle.wal.specs.Replaying.{segment_of}
use Rattle.hse_shell.specs.Base.{Base}
use Rattle.hse_shell.specs.Stored.{device_size, log_region, IsLogSequence, live_stores, longest_value, first_numbers, base_of, closed_behind, Loads, Stores, Begins, IsRefusedAt, of_size, of_head, of_sequence, of_batches}

abbrev ok_of : List log.Entry × Numbers → Result (List log.Entry × Numbers) ℕ
ok_of p = Ok p

abbrev err_of : ℕ → Result (List log.Entry × Numbers) ℕ
err_of place = Err place

-- what a reading of batches gives is one
same_entries : (read : List (List ℕ) → Result (List log.Entry × Numbers) ℕ) (one other : List (List ℕ)) (entries more : List log.Entry) (last ending : Numbers)
    → one ≡ other → read one ≡ Ok (entries, last) → read other ≡ Ok (more, ending) → entries ≡ more
same_entries read one other entries more last ending same first second =
    let both : ok_of (entries, last) ≡ ok_of (more, ending) = sym first ∙ ap read same ∙ second in
    let pair : (entries, last) ≡ (more, ending) = cc in
    ap (λ (p : List log.Entry × Numbers). p.0) pair

-- and so is where it is refused
same_refusal : (read : List (List ℕ) → End → Result (List log.Entry × Numbers) ℕ) (one other : List (List ℕ)) (end ending : End) (place elsewhere : ℕ)
    → one ≡ other → end ≡ ending → read one end ≡ Err place → read other ending ≡ Err elsewhere → place ≡ elsewhere
same_refusal read one other end ending place elsewhere same ends first second =
    let both : err_of place ≡ err_of elsewhere = sym first ∙ (λ i. read (same i) (ends i)) ∙ second in cc

not_read : (read : List (List ℕ) → End → Result (List log.Entry × Numbers) ℕ) (one other : List (List ℕ)) (end ending : End) (entries : List log.Entry) (last : Numbers) (place : ℕ)
    → one ≡ other → end ≡ ending → read one end ≡ Ok (entries, last) → read other ending ≡ Err place → ⊥
not_read read one other end ending entries last place same ends first second =
    let both : ok_of (entries, last) ≡ err_of place = sym first ∙ (λ i. read (same i) (ends i)) ∙ second in cc

abbrev read_by : List (List ℕ) → End → Result (List log.Entry × Numbers) ℕ
read_by payloads end = segment_of live_stores longest_value (first_numbers device_size) payloads end

-- an image says one list of commits
pub one_loading : (image : List ℕ) (entries more : List log.Entry) → Loads image entries → Loads image more → entries ≡ more
one_loading image entries more a b =
    let same = one_gated (region_of log_region image) a.sequence b.sequence a.payloads b.payloads a.gated b.gated in
    same_entries (λ payloads. read_by payloads (closed_behind payloads)) a.payloads b.payloads entries more a.last b.last same.1 a.read b.read

one_stored : (image : List ℕ) (one other : Base) → Stores image one → Stores image other → one ≡ other
one_stored image one other a b = sym a.is ∙ ap base_of (one_loading image a.entries b.entries a.loads b.loads) ∙ b.is

not_empty : (image : List ℕ) (size : ℕ) → 0 < size → length image ≡ size → image ≡ [] → ⊥
not_empty image size some long none = omega (arith, ap length none)

-- what a run begins with is one
pub one_beginning : (image : List ℕ) (one other : Base) → Begins image one → Begins image other → one ≡ other
one_beginning image one other (inl a) (inl b) = a.1 ∙ sym b.1
one_beginning image one other (inl a) (inr b) = absurd (not_empty image device_size (omega arith) b.loads.as_long a.0)
one_beginning image one other (inr a) (inl b) = absurd (not_empty image device_size (omega arith) a.loads.as_long b.0)
one_beginning image one other (inr a) (inr b) = one_stored image one other a b

-- an image is refused at one place
pub one_refusal : (image : List ℕ) (place elsewhere : ℕ) → IsRefusedAt image place → IsRefusedAt image elsewhere → place ≡ elsewhere
one_refusal image place elsewhere (of_size some long is) (of_size some' long' is') = is ∙ sym is'
one_refusal image place elsewhere (of_size some long is) (of_head size shut is') = absurd (long size)
one_refusal image place elsewhere (of_size some long is) (of_sequence sequence payloads end size ends none is') = absurd (long size)
one_refusal image place elsewhere (of_size some long is) (of_batches sequence payloads end size ends of_log refused) = absurd (long size)
one_refusal image place elsewhere (of_head size shut is) (of_size some long is') = absurd (long size)
one_refusal image place elsewhere (of_head size shut is) (of_head size' shut' is') = is ∙ sym is'
one_refusal image place elsewhere (of_head size shut is) (of_sequence sequence payloads end size' ends none is') =
    absurd (front_not_closed (region_of log_region image) sequence payloads end ends shut)
one_refusal image place elsewhere (of_head size shut is) (of_batches sequence payloads end size' ends of_log refused) =
    absurd (front_not_closed (region_of log_region image) sequence payloads end ends shut)
one_refusal image place elsewhere (of_sequence sequence payloads end size ends none is) (of_size some long is') = absurd (long size)
one_refusal image place elsewhere (of_sequence sequence payloads end size ends none is) (of_head size' shut is') =
    absurd (front_not_closed (region_of log_region image) sequence payloads end ends shut)
one_refusal image place elsewhere (of_sequence sequence payloads end size ends none is) (of_sequence other others ending size' ends' none' is') = is ∙ sym is'
one_refusal image place elsewhere (of_sequence sequence payloads end size ends none is) (of_batches other others ending size' ends' of_log refused) =
    let same = one_front (region_of log_region image) sequence other payloads others end ending ends ends' in
    absurd (none (subst IsLogSequence (sym same.0) of_log))
one_refusal image place elsewhere (of_batches sequence payloads end size ends of_log refused) (of_size some long is') = absurd (long size)
one_refusal image place elsewhere (of_batches sequence payloads end size ends of_log refused) (of_head size' shut is') =
    absurd (front_not_closed (region_of log_region image) sequence payloads end ends shut)
one_refusal image place elsewhere (of_batches sequence payloads end size ends of_log refused) (of_sequence other others ending size' ends' none is') =
    let same = one_front (region_of log_region image) sequence other payloads others end ending ends ends' in
    absurd (none (subst IsLogSequence same.0 of_log))
one_refusal image place elsewhere (of_batches sequence payloads end size ends of_log refused) (of_batches other others ending size' ends' of_log' refused') =
    let same = one_front (region_of log_region image) sequence other payloads others end ending ends ends' in
    same_refusal read_by payloads others end ending place elsewhere same.1 same.2 refused refused'

-- what loads is not refused
loads_not_refused : (image : List ℕ) (entries : List log.Entry) (place : ℕ) → Loads image entries → IsRefusedAt image place → ⊥
loads_not_refused image entries place l (of_size some long is) = long l.as_long
loads_not_refused image entries place l (of_head size shut is) =
    front_not_closed (region_of log_region image) l.sequence l.payloads (closed_behind l.payloads) (l.gated, refl) shut
loads_not_refused image entries place l (of_sequence sequence payloads end size ends none is) =
    let same = one_front (region_of log_region image) l.sequence sequence l.payloads payloads (closed_behind l.payloads) end (l.gated, refl) ends in
    none (subst IsLogSequence same.0 l.of_log)
loads_not_refused image entries place l (of_batches sequence payloads end size ends of_log refused) =
    let same = one_front (region_of log_region image) l.sequence sequence l.payloads payloads (closed_behind l.payloads) end (l.gated, refl) ends in
    not_read read_by l.payloads payloads (closed_behind l.payloads) end entries l.last place same.1 same.2 l.read refused

empty_not_refused : (image : List ℕ) (place : ℕ) → image ≡ [] → IsRefusedAt image place → ⊥
empty_not_refused image place none (of_size some long is) = some none
empty_not_refused image place none (of_head size shut is) = not_empty image device_size (omega arith) size none
empty_not_refused image place none (of_sequence sequence payloads end size ends never is) = not_empty image device_size (omega arith) size none
empty_not_refused image place none (of_batches sequence payloads end size ends of_log refused) = not_empty image device_size (omega arith) size none

-- an image on which a run can begin is not refused
pub good_not_refused : (image : List ℕ) (base : Base) (place : ℕ) → Begins image base → IsRefusedAt image place → ⊥
good_not_refused image base place (inl empty) refused = empty_not_refused image place empty.0 refused
good_not_refused image base place (inr stores) refused = loads_not_refused image stores.entries place stores.loads refused
