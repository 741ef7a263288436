-- Reading prefix deletes one after the other, as a loop does.
use Rattle.std.proofs.Common.{◌≡◌, ℕ, zero, suc, ◌-◌, ◌+◌, ◌≤◌, ◌<◌, List, [], ◌∷◌, ◌++◌, length, Option, Some, Result, Ok, Err, refl, sym, ap, ◌∙◌, append_assoc, arith}
use Rattle.std.specs.Prelude.{slice_get}
use Rattle.std.proofs.lemmas.List.{append-nil}
use Rattle.hse_fields.specs.LogReading.{◌>>=◌}
use Rattle.hse_fields.specs.BlockText.{PrefixEntry}
use Rattle.hse_fields.specs.BlockReading.{prefix_of, prefixes_of}
use Rattle.prefix_delete.specs.declared.entry.Entry.{Entry}
use Rattle.hse_fields.specs.declared.refusal.Refusal.{Refusal}
use Rattle.hse_fields.specs.declared.refusal.Refusal.TheVariants.{Left, NoMemory}
use Rattle.prefix_delete.specs.Blocks.{last_prefix}
use Rattle.prefix_delete.specs.Read.{Fails}

-- the last entry has the last prefix
last_found : (last : Option (List ℕ)) (xs : List Entry) (i : ℕ) (e : Entry) → suc i ≡ length xs → slice_get xs i ≡ Some e
    → last_prefix last xs ≡ Some e.prefix
last_found last [] i e long is = absurd (omega arith)
last_found last (x ∷ []) zero e long is = let same : x ≡ e = cc in ap (λ (y : Entry). Some y.prefix) same
last_found last (x ∷ []) (suc i) e long is = absurd (omega arith)
last_found last (x ∷ y ∷ ys) zero e long is = absurd (omega arith)
last_found last (x ∷ y ∷ ys) (suc i) e long is = last_found (Some x.prefix) (y ∷ ys) i e (omega arith) is

pub last_is : (last : Option (List ℕ)) (xs : List Entry) (e : Entry) → slice_get xs (length xs - 1) ≡ Some e
    → last_prefix last xs ≡ Some e.prefix
last_is last [] e is = absurd cc
last_is last (x ∷ xs) e is = last_found last (x ∷ xs) (length (x ∷ xs) - 1) e (omega arith) is

pub last_pushed : (last : Option (List ℕ)) (xs : List Entry) (e : Entry) → last_prefix last (xs ++ e ∷ []) ≡ Some e.prefix
last_pushed last [] e = refl
last_pushed last (x ∷ xs) e = last_pushed (Some x.prefix) xs e

-- what was read before, and what is still read
abbrev pub with_beginning : List PrefixEntry → Result (List PrefixEntry × List ℕ) ℕ → Result (List PrefixEntry × List ℕ) ℕ
with_beginning beginning read = read >>= λ x. Ok (beginning ++ x.0, x.1)

regroup : (beginning : List PrefixEntry) (e : PrefixEntry) (read : Result (List PrefixEntry × List ℕ) ℕ)
    → with_beginning beginning (read >>= λ x. Ok (e ∷ x.0, x.1)) ≡ with_beginning (beginning ++ e ∷ []) read
regroup beginning e (Ok x) = ap (λ (es : List PrefixEntry). Ok (es, x.1)) (simp append_assoc)
regroup beginning e (Err left) = refl

module _ (last : Option (List ℕ)) (beginning : List PrefixEntry) (count i : ℕ) (bytes : List ℕ) (total : Result (List PrefixEntry × List ℕ) ℕ) where
  pub goes_on : (first : PrefixEntry × List ℕ) → i < count → prefix_of last bytes ≡ Ok first
      → with_beginning beginning (prefixes_of last (count - i) bytes) ≡ total
      → with_beginning (beginning ++ first.0 ∷ []) (prefixes_of (Some first.0.prefix) (count - (i + 1)) first.1) ≡ total
  unfolding prefixes_of
  goes_on first lt h so_far =
      let k : count - i ≡ suc (count - (i + 1)) = omega arith in
      let one : with_beginning beginning (prefixes_of last (count - i) bytes)
      ≡ with_beginning (beginning ++ first.0 ∷ []) (prefixes_of (Some first.0.prefix) (count - (i + 1)) first.1) =
      rw (k, h) (regroup beginning first.0 (prefixes_of (Some first.0.prefix) (count - (i + 1)) first.1)) in
      sym one ∙ so_far

  pub stops : (r : Refusal) → i < count → Fails r (prefix_of last bytes)
      → with_beginning beginning (prefixes_of last (count - i) bytes) ≡ total → Fails r total
  unfolding prefixes_of
  stops NoMemory lt h so_far = tt
  stops (Left left) lt h so_far =
      let k : count - i ≡ suc (count - (i + 1)) = omega arith in
      let one : with_beginning beginning (prefixes_of last (count - i) bytes) ≡ Err left = rw (k, h) refl in
      sym so_far ∙ one

  pub is_done : count ≤ i → with_beginning beginning (prefixes_of last (count - i) bytes) ≡ total → total ≡ Ok (beginning, bytes)
  unfolding prefixes_of
  is_done le so_far =
      let k : count - i ≡ 0 = omega arith in
      let one : with_beginning beginning (prefixes_of last (count - i) bytes) ≡ Ok (beginning, bytes) =
      rw k (ap (λ (es : List PrefixEntry). Ok (es, bytes)) (append-nil beginning)) in
      sym so_far ∙ one
