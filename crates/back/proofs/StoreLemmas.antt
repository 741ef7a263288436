-- The stores that live, and the numbers that are taken, after a creation and a drop.
use Rattle.std.proofs.Common.{◌≡◌, ◌≢◌, ◌∙◌, ℕ, zero, suc, ◌+◌, Bool, true, false, List, [], ◌∷◌, ◌++◌, refl, sym, ap, subst, arith, cond, inl, inr, append_assoc}
use Rattle.std.specs.Prelude.{◌==◌, nat_lt, nat_le, not, if◌then◌else◌}
use Rattle.std.proofs.lemmas.Bool.{cases_eq, eq-eqb, ne_eqb, eqb-true, and_parts}
use Rattle.std.proofs.lemmas.List.{append-nil}
use Rattle.hse_rows.specs.machine.TakenRuns.{NumberRun, counted, longest_run, numbers_of}
use Rattle.manifest.specs.Metadata.{LiveStore, is_joined, with_taken, without}
use Rattle.recovery.specs.Image.{prefix_of, prefixes_of}
use Rattle.wal.specs.Live.{prefix_fits}

-- ---- taken numbers

counted_more : (first count : ℕ) → counted first (suc count) ≡ counted first count ++ (first + count) ∷ []
counted_more first zero = ap (λ (n : ℕ). n ∷ []) (let is : first ≡ first + 0 = omega arith in is)
counted_more first (suc count) =
    ap (λ (l : List ℕ). first ∷ l) (counted_more (first + 1) count
    ∙ ap (λ (n : ℕ). counted (first + 1) count ++ n ∷ []) (let is : first + 1 + count ≡ first + suc count = omega arith in is))

joined_by : (joins : Bool) (run : NumberRun) (number : ℕ) → (joins ≡ true → number ≡ run.first + run.count)
    → numbers_of (if joins then record { first = run.first; count = run.count + 1 } ∷ [] else (run ∷ record { first = number; count = 1 } ∷ []))
    ≡ numbers_of (run ∷ []) ++ number ∷ []
joined_by true run number next =
    append-nil (counted run.first (run.count + 1))
    ∙ ap (counted run.first) (let is : run.count + 1 ≡ suc run.count = omega arith in is) ∙ counted_more run.first run.count
    ∙ (λ i. sym (append-nil (counted run.first run.count)) i ++ sym (next refl) i ∷ [])
joined_by false run number next = sym (append_assoc (counted run.first run.count) [] (number ∷ []))

-- the numbers of runs with one number more
pub numbers_more : (runs : List NumberRun) (number : ℕ) → numbers_of (with_taken runs number) ≡ numbers_of runs ++ number ∷ []
numbers_more [] number = refl
numbers_more (run ∷ []) number =
    joined_by (is_joined run number) run number
    (λ joins. eqb-true number (run.first + run.count) (and_parts (number == run.first + run.count) (nat_lt run.count longest_run) joins).0)
numbers_more (run ∷ next ∷ runs) number =
    ap (λ (l : List ℕ). counted run.first run.count ++ l) (numbers_more (next ∷ runs) number)
    ∙ sym (append_assoc (counted run.first run.count) (numbers_of (next ∷ runs)) (number ∷ []))

-- ---- prefix lengths

-- with one store more
pub prefixes_more : (stores : List LiveStore) (store : LiveStore) → prefixes_of (stores ++ store ∷ []) ≡ prefixes_of stores ++ prefix_of store ∷ []
prefixes_more [] store = refl
prefixes_more (first ∷ stores) store = ap (λ l. prefix_of first ∷ l) (prefixes_more stores store)

-- a dropped store's prefix deletes may have any length
unlisted : (id : ℕ) (stores : List LiveStore) (size : ℕ) → prefix_fits (prefixes_of (without id stores)) id size ≡ true
unlisted id [] size = refl
unlisted id (store ∷ stores) size =
    elim (cases_eq store.id id) [
      | inl is ↦
          let same : (store.id == id) ≡ true = eq-eqb store.id id is in
          rw same (unlisted id stores size)
      | inr apart ↦
          let other : (store.id == id) ≡ false = ne_eqb store.id id apart in
          rw other (rw other (unlisted id stores size))
    ]

cond_more : (b x y z : Bool) → (y ≡ true → z ≡ true) → cond b x y ≡ true → cond b x z ≡ true
cond_more true x y z more e = e
cond_more false x y z more e = more e

-- one store, which is dropped or not
still_by : (dropped : Bool) (id : ℕ) (store : LiveStore) (stores : List LiveStore) (of size : ℕ) → (dropped ≡ true → store.id ≡ id) → of ≢ id
    → cond (store.id == of) (nat_le size store.prefix_length) (prefix_fits (prefixes_of stores) of size) ≡ true
    → (prefix_fits (prefixes_of stores) of size ≡ true → prefix_fits (prefixes_of (without id stores)) of size ≡ true)
    → prefix_fits (prefixes_of (cond (not dropped) (store ∷ without id stores) (without id stores))) of size ≡ true
still_by true id store stores of size is apart fits more =
    let other : (store.id == of) ≡ false = ne_eqb store.id of (λ e. apart (sym e ∙ is refl)) in
    more (sym (ap (λ (b : Bool). cond b (nat_le size store.prefix_length) (prefix_fits (prefixes_of stores) of size)) other) ∙ fits)
still_by false id store stores of size is apart fits more =
    cond_more (store.id == of) (nat_le size store.prefix_length) (prefix_fits (prefixes_of stores) of size)
    (prefix_fits (prefixes_of (without id stores)) of size) more fits

-- and those of the other stores the lengths that they might have
pub still_allowed : (id : ℕ) (stores : List LiveStore) (of size : ℕ) → prefix_fits (prefixes_of stores) of size ≡ true
    → prefix_fits (prefixes_of (without id stores)) of size ≡ true
still_allowed id [] of size fits = refl
still_allowed id (store ∷ stores) of size fits =
    elim (cases_eq of id) [
      | inl is ↦ subst (λ (n : ℕ). prefix_fits (prefixes_of (without id (store ∷ stores))) n size ≡ true) (sym is) (unlisted id (store ∷ stores) size)
      | inr apart ↦ still_by (store.id == id) id store stores of size (eqb-true store.id id) apart fits (still_allowed id stores of size)
    ]
