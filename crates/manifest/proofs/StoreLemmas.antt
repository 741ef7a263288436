-- One store more of a base, and the last of stores.
use Rattle.std.proofs.Common.{◌≡◌, ◌∙◌, ℕ, suc, ◌-◌, List, [], ◌∷◌, ◌++◌, length, map, Option, Some, None, Ok, refl, sym, ap, arith, Bool, true, false, cond}
use Rattle.std.specs.Prelude.{slice_get}
use Rattle.std.specs.List.{filter}
use Rattle.hse_rows.specs.machine.TakenRuns.{NumberRun}
use Rattle.manifest.specs.Metadata.{LiveStore, last_by}
use Rattle.manifest.specs.Reading.{store_of, store_step}
use Rattle.manifest.specs.Views.{Fails}
use Rattle.hse_fields.specs.declared.refusal.Refusal.{Refusal}
use Rattle.hse_fields.specs.declared.refusal.Refusal.TheVariants.{Left, NoMemory}

pub store_more : (most horizon : ℕ) (runs : List NumberRun) (stores : List LiveStore) (store : LiveStore) (bytes rest : List ℕ)
    → store_of most horizon runs stores bytes ≡ Ok (store, rest) → store_step most horizon runs stores bytes ≡ Ok (stores ++ store ∷ [], rest)
unfolding store_step
store_more most horizon runs stores store bytes rest is = rw is refl

pub store_refused : (refusal : Refusal) (most horizon : ℕ) (runs : List NumberRun) (stores : List LiveStore) (bytes : List ℕ)
    → Fails refusal (store_of most horizon runs stores bytes) → Fails refusal (store_step most horizon runs stores bytes)
unfolding store_step
store_refused (Left left) most horizon runs stores bytes is = rw is refl
store_refused NoMemory most horizon runs stores bytes is = tt

-- what f gives of the one that stands last
abbrev pub of_last : {A : Type 0} → (A → ℕ) → ℕ → Option A → ℕ
of_last f low None = low
of_last f low (Some x) = f x

pub last_by_end : {A B : Type 0} (view : A → B) (f : B → ℕ) (low : ℕ) (xs : List A)
    → last_by f low (map view xs) ≡ of_last (λ (x : A). f (view x)) low (slice_get xs (length xs - 1))
last_by_end {A = A} view f low [] = refl
last_by_end {A = A} view f low (x ∷ []) = refl
last_by_end {A = A} view f low (x ∷ y ∷ xs) =
    let k : suc (suc (length xs)) - 1 ≡ suc (length xs) = omega arith in
    let j : suc (length xs) - 1 ≡ length xs = omega arith in
    rw k (rw j at (last_by_end view f low (y ∷ xs)))

-- the same where it is one
pub last_by_some : {A B : Type 0} (view : A → B) (f : B → ℕ) (low : ℕ) (xs : List A) (last : A) → Some last ≡ slice_get xs (length xs - 1)
    → f (view last) ≡ last_by f low (map view xs)
last_by_some {A = A} view f low xs last is = ap (of_last (λ (x : A). f (view x)) low) is ∙ sym (last_by_end view f low xs)

pub last_by_none : {A B : Type 0} (view : A → B) (f : B → ℕ) (low : ℕ) (xs : List A) → None ≡ slice_get xs (length xs - 1)
    → low ≡ last_by f low (map view xs)
last_by_none {A = A} view f low xs is = ap (of_last (λ (x : A). f (view x)) low) is ∙ sym (last_by_end view f low xs)

filter_one : {A B : Type 0} (view : A → B) (keeps : Bool) (x : A) (xs : List A) (rest : List B) → map view xs ≡ rest
    → map view (cond keeps (x ∷ xs) xs) ≡ cond keeps (view x ∷ rest) rest
filter_one {A = A} {B = B} view true x xs rest is = ap (λ (l : List B). view x ∷ l) is
filter_one {A = A} {B = B} view false x xs rest is = is

-- what stays of a list, seen by view
pub filter_map_view : {A B : Type 0} (view : A → B) (test : B → Bool) (xs : List A)
    → map view (filter (λ (x : A). test (view x)) xs) ≡ filter test (map view xs)
filter_map_view {A = A} {B = B} view test [] = refl
filter_map_view {A = A} {B = B} view test (x ∷ xs) =
    filter_one view (test (view x)) x (filter (λ (y : A). test (view y)) xs) (filter test (map view xs)) (filter_map_view view test xs)
