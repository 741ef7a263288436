-- One batch more of a half.
use Rattle.std.proofs.Common.{◌≡◌, ◌∙◌, ℕ, suc, ◌+◌, ◌-◌, ◌≤◌, ◌<◌, List, [], ◌∷◌, length, take, drop, get_or, Option, Some, Ok, Err, refl, sym, ap, subst, arith}
use Rattle.std.specs.List.{sum_by}
use Rattle.std.proofs.lemmas.List.{take_all}
use Rattle.std.proofs.lemmas.List.Sums.{sum_by-cons}
use Rattle.gate_log.specs.Places.{need_of}
use Rattle.gate_log.specs.Reading.{payloads_of}
use Rattle.gate_log.specs.declared.found.Payload.{Payload}
use Rattle.manifest.specs.Half.{entries_of, placed}
use Rattle.manifest.specs.Loading.{Refuses}
use Rattle.manifest.specs.Metadata.{Metadata}
use Rattle.manifest.specs.Reading.{payload_of}
use Rattle.manifest.specs.declared.loaded.LoadFault.{LoadFault}
use Rattle.manifest.specs.declared.loaded.LoadFault.TheVariants.{Damaged, Device, NoMemory}

-- the first of a list, and the others
pub parts : {A : Type 0} (xs : List A) (x : A) → 1 ≤ length xs → x ≡ get_or xs 0 x → x ∷ take (length xs - 1) (drop 1 xs) ≡ xs
parts {A = A} [] x le is = absurd (omega (arith, le))
parts {A = A} (y ∷ ys) x le is =
    let k : suc (length ys) - 1 ≡ length ys = omega arith in
    let all : take (suc (length ys) - 1) ys ≡ ys = rw k (take_all (length ys) ys (omega arith)) in
    λ i. is i ∷ all i

-- one that does not have one is empty
pub is_empty : {A : Type 0} (xs : List A) → length xs < 1 → xs ≡ []
is_empty {A = A} [] lt = refl
is_empty {A = A} (x ∷ xs) lt = absurd (omega (arith, lt))

module _ (most : ℕ) (before : Option Metadata) (gate end : ℕ) (batches : List Payload) (first : Payload) (more : List Payload)
    (are : first ∷ more ≡ batches) (ends : end ≡ gate + need_of first.bytes.items) where
  pub goes_on : (after : Metadata) → placed end (payload_of most before first.bytes.items) ≡ Ok after
      → entries_of most (Some after) end (payloads_of more) ≡ entries_of most before gate (payloads_of batches)
  unfolding entries_of
  goes_on after read =
      let here = subst (λ (e : ℕ). placed e (payload_of most before first.bytes.items) ≡ Ok after) ends read in
      let one : entries_of most before gate (payloads_of (first ∷ more))
      ≡ entries_of most (Some after) (gate + need_of first.bytes.items) (payloads_of more) = rw here refl in
      ap (λ (e : ℕ). entries_of most (Some after) e (payloads_of more)) ends
      ∙ sym one ∙ ap (λ (bs : List Payload). entries_of most before gate (payloads_of bs)) are

  pub stops : (half : ℕ) (fault : LoadFault) → Refuses half fault (placed end (payload_of most before first.bytes.items))
      → Refuses half fault (entries_of most before gate (payloads_of batches))
  unfolding entries_of
  stops half (Damaged which place) refused =
      let here = subst (λ (e : ℕ). placed e (payload_of most before first.bytes.items) ≡ Err place) ends refused.1 in
      let one : entries_of most before gate (payloads_of (first ∷ more)) ≡ Err place = rw here refl in
      (refused.0, sym (ap (λ (bs : List Payload). entries_of most before gate (payloads_of bs)) are) ∙ one)
  stops half Device refused = refused
  stops half NoMemory refused = tt

  pub sums : end + sum_by need_of (payloads_of more) ≡ gate + sum_by need_of (payloads_of batches)
  sums =
      let all : sum_by need_of (payloads_of (first ∷ more)) ≡ sum_by need_of (payloads_of batches) =
      ap (λ (bs : List Payload). sum_by need_of (payloads_of bs)) are in
      omega (arith, ends, all, sum_by-cons need_of first.bytes.items (payloads_of more))

pub no_batch : (most : ℕ) (before : Option Metadata) (gate : ℕ) (batches : List Payload) → length batches < 1
    → entries_of most before gate (payloads_of batches) ≡ Ok before
unfolding entries_of
no_batch most before gate batches none =
    ap (λ (bs : List Payload). entries_of most before gate (payloads_of bs)) (is_empty batches none)
