-- All changes of an entry that are read are those that were written, and what was written is read again.
use Rattle.std.specs.Prelude.{◌≡◌, ℕ, zero, suc, ◌^◌, ◌<◌, Bool, true, List, [], ◌∷◌, ◌++◌, length, Option, Some, None, Result, Ok, nat_lt}
use Rattle.std.specs.List.{flat_map, AllByRecursion}
use Rattle.std.proofs.Common.{refl, sym, ap, subst, ◌∙◌, append_assoc, arith}
use Rattle.std.proofs.lemmas.Bool.{ltb-true, lt-ltb}
use Rattle.byteorder.specs.Endian.{big_bytes}
use Rattle.hse_fields.specs.LogText.{Kind, put, del, pdel, Change, change_text, changes_text}
use Rattle.hse_fields.specs.LogLimits.{longest_value}
use Rattle.hse_fields.specs.LogForm.{IsChange, AreInOrder, AreChanges}
use Rattle.hse_fields.specs.Fields.{number_of}
use Rattle.hse_fields.specs.LogReading.{◌>>=◌, ensure, change_of, more_changes_of, changes_of, any_changes_of, name_fits, PrefixFits}
use Rattle.hse_fields.specs.laws.Fields.{IsBytes, bind_ok, ensure_ok, ok_is, Takes, Takes-then, width_4, number_takes, number_again}
use Rattle.hse_fields.specs.laws.Changes.{change_takes, change_again, change_bounded}

-- what a reading of changes behind the last one gives
pub record TakesChanges (prefix_fits : ℕ → ℕ → Bool) (most : ℕ) (last : Option Change) (n : ℕ) (bytes : List ℕ) (x : List Change × List ℕ) : Type 0 where
  pub taken : Takes bytes (flat_map change_text x.0) x.1
  pub counted : length x.0 ≡ n
  pub formed : AllByRecursion (IsChange most) x.0
  pub bounded : AllByRecursion (IsChange longest_value) x.0
  pub in_order : AreInOrder last x.0
  pub fits : AllByRecursion (PrefixFits prefix_fits) x.0

abbrev others_of : (ℕ → ℕ → Bool) → ℕ → ℕ → Change × List ℕ → Result (List Change × List ℕ) ℕ
others_of prefix_fits most n first = more_changes_of prefix_fits most (Some first.0) n first.1 >>= λ others. Ok (first.0 ∷ others.0, others.1)

pub more_changes_take : (prefix_fits : ℕ → ℕ → Bool) (most : ℕ) (last : Option Change) (n : ℕ) (bytes : List ℕ) (x : List Change × List ℕ) → IsBytes bytes
    → more_changes_of prefix_fits most last n bytes ≡ Ok x → TakesChanges prefix_fits most last n bytes x
unfolding more_changes_of
more_changes_take prefix_fits most last zero bytes x small e =
    subst (TakesChanges prefix_fits most last 0 bytes) (ok_is ([], bytes) x e)
    (record { taken = record { parts = refl; rest_fits = small }; counted = refl; formed = tt; bounded = tt; in_order = tt; fits = tt })
more_changes_take prefix_fits most last (suc n) bytes x small e =
    let a = bind_ok (change_of prefix_fits most last bytes) (others_of prefix_fits most n) x e in
    let b = bind_ok (more_changes_of prefix_fits most (Some a.0.0) n a.0.1) (λ others. Ok (a.0.0 ∷ others.0, others.1)) x a.2 in
    let first = change_takes prefix_fits most last bytes a.0 small a.1 in
    let others = more_changes_take prefix_fits most (Some a.0.0) n a.0.1 b.0 first.taken.rest_fits b.1 in
    subst (TakesChanges prefix_fits most last (suc n) bytes) (ok_is (a.0.0 ∷ b.0.0, b.0.1) x b.2)
    (record {
      taken = Takes-then bytes (change_text a.0.0) a.0.1 (flat_map change_text b.0.0) b.0.1 first.taken others.taken;
      counted = ap suc others.counted;
      formed = (first.formed, others.formed);
      bounded = (first.bounded, others.bounded);
      in_order = (first.in_order, others.in_order);
      fits = (first.fits, others.fits);
    })

more_changes_again : (prefix_fits : ℕ → ℕ → Bool) (most : ℕ) (last : Option Change) (cs : List Change) (rest : List ℕ) → most < 2 ^ 32
    → AllByRecursion (IsChange most) cs → AreInOrder last cs → AllByRecursion (PrefixFits prefix_fits) cs
    → more_changes_of prefix_fits most last (length cs) (flat_map change_text cs ++ rest) ≡ Ok (cs, rest)
unfolding more_changes_of
more_changes_again prefix_fits most last [] rest small formed in_order fits = refl
more_changes_again prefix_fits most last (c ∷ cs) rest small formed in_order fits =
    let regrouped : flat_map change_text (c ∷ cs) ++ rest ≡ change_text c ++ (flat_map change_text cs ++ rest) =
    append_assoc (change_text c) (flat_map change_text cs) rest in
    ap (more_changes_of prefix_fits most last (suc (length cs))) regrouped
    ∙ rw (
      change_again prefix_fits most last c (flat_map change_text cs ++ rest) small formed.0 in_order.0 fits.0,
      more_changes_again prefix_fits most (Some c) cs rest small formed.1 in_order.1 fits.1,
    ) refl

-- what a reading of a commit's changes gives
pub record TakesAllChanges (prefix_fits : ℕ → ℕ → Bool) (most : ℕ) (bytes : List ℕ) (x : List Change × List ℕ) : Type 0 where
  pub taken : Takes bytes (changes_text x.0) x.1
  pub formed : AreChanges most x.0
  pub bounded : AreChanges longest_value x.0
  pub fits : AllByRecursion (PrefixFits prefix_fits) x.0

pub changes_take : (prefix_fits : ℕ → ℕ → Bool) (most : ℕ) (bytes : List ℕ) (x : List Change × List ℕ) → IsBytes bytes
    → changes_of prefix_fits most bytes ≡ Ok x → TakesAllChanges prefix_fits most bytes x
unfolding changes_of
changes_take prefix_fits most bytes x small e =
    let a = bind_ok (number_of 4 bytes) (λ count. ensure (nat_lt 0 count.0) (length bytes) >>= λ some. more_changes_of prefix_fits most None count.0 count.1) x e in
    let b = bind_ok (ensure (nat_lt 0 a.0.0) (length bytes)) (λ some. more_changes_of prefix_fits most None a.0.0 a.0.1) x a.2 in
    let some : 0 < a.0.0 = ltb-true _ _ (ensure_ok _ _ _ b.1) in
    let count = number_takes 4 width_4 bytes a.0.0 a.0.1 small a.1 in
    let read = more_changes_take prefix_fits most None a.0.0 a.0.1 x count.0.rest_fits b.2 in
    let head : Takes bytes (big_bytes 4 (length x.0)) a.0.1 = subst (λ (k : ℕ). Takes bytes (big_bytes 4 k) a.0.1) (sym read.counted) count.0 in
    record {
      taken = Takes-then bytes (big_bytes 4 (length x.0)) a.0.1 (flat_map change_text x.0) x.1 head read.taken;
      formed = record { some = omega (arith, some, read.counted); counted = omega (arith, count.1, read.counted); formed = read.formed; in_order = read.in_order };
      bounded = record { some = omega (arith, some, read.counted); counted = omega (arith, count.1, read.counted); formed = read.bounded; in_order = read.in_order };
      fits = read.fits;
    }

pub changes_again : (prefix_fits : ℕ → ℕ → Bool) (most : ℕ) (cs : List Change) (rest : List ℕ) → most < 2 ^ 32 → AreChanges most cs
    → AllByRecursion (PrefixFits prefix_fits) cs → changes_of prefix_fits most (changes_text cs ++ rest) ≡ Ok (cs, rest)
unfolding changes_of
changes_again prefix_fits most cs rest small formed fits =
    let regrouped : changes_text cs ++ rest ≡ big_bytes 4 (length cs) ++ (flat_map change_text cs ++ rest) =
    append_assoc (big_bytes 4 (length cs)) (flat_map change_text cs) rest in
    let some : nat_lt 0 (length cs) ≡ true = lt-ltb _ _ (omega (arith, formed.some)) in
    ap (changes_of prefix_fits most) regrouped
    ∙ rw (
      number_again 4 (length cs) (flat_map change_text cs ++ rest) (omega (arith, formed.counted)),
      some,
      more_changes_again prefix_fits most None cs rest small formed.formed formed.in_order fits,
    ) refl

-- ---- changes that are read where no rule is asked

one_prefix_fits : (kind : Kind) (store size : ℕ) → name_fits (λ _ _. true) kind store size ≡ true
one_prefix_fits put store size = refl
one_prefix_fits del store size = refl
one_prefix_fits pdel store size = refl

-- where prefixes may have any lengths, they have such
pub any_prefixes_fit : (cs : List Change) → AllByRecursion (PrefixFits (λ _ _. true)) cs
any_prefixes_fit [] = tt
any_prefixes_fit (c ∷ cs) = (one_prefix_fits c.kind c.store (length c.name), any_prefixes_fit cs)

-- What is read by a rule is read where none is asked.
pub any_changes_too : (prefix_fits : ℕ → ℕ → Bool) (most : ℕ) (bytes : List ℕ) (changes : List Change) (rest : List ℕ) → IsBytes bytes
    → changes_of prefix_fits most bytes ≡ Ok (changes, rest) → any_changes_of bytes ≡ Ok (changes, rest)
any_changes_too prefix_fits most bytes changes rest small e =
    let read = changes_take prefix_fits most bytes (changes, rest) small e in
    ap any_changes_of read.taken.parts ∙ changes_again (λ _ _. true) longest_value changes rest (omega arith) read.bounded (any_prefixes_fit changes)

all_bounded : (most : ℕ) (cs : List Change) → most < 2 ^ 32 → AllByRecursion (IsChange most) cs → AllByRecursion (IsChange longest_value) cs
all_bounded most [] small formed = tt
all_bounded most (c ∷ cs) small formed = (change_bounded most c small formed.0, all_bounded most cs small formed.1)

-- So is what is spelled so.
pub any_changes_again : (most : ℕ) (cs : List Change) (rest : List ℕ) → most < 2 ^ 32 → AreChanges most cs → any_changes_of (changes_text cs ++ rest) ≡ Ok (cs, rest)
any_changes_again most cs rest small formed =
    changes_again (λ _ _. true) longest_value cs rest (omega arith)
    (record { some = formed.some; counted = formed.counted; formed = all_bounded most cs small formed.formed; in_order = formed.in_order })
    (any_prefixes_fit cs)
