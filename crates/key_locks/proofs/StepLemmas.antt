-- One name of several after the other.
use Rattle.std.proofs.Common.{◌≡◌, ℕ, Bool, true, false, cond, ◌||◌, Option, Some, None, List, ◌∷◌, max, refl, ap, sym, ◌∙◌, arith}
use Rattle.std.specs.Option.{IsSome}
use Rattle.std.specs.Ordering.{is_eq}
use Rattle.std.specs.BTreeMap.{BTreeMap}
use Rattle.key_locks.specs.declared.lock.Lock.{Lock}
use Rattle.key_locks.specs.declared.name.Name.{Name}
use Rattle.key_locks.specs.Names.{name_cmp}
use Rattle.key_locks.specs.Held.{has}
use Rattle.key_locks.specs.Table.{lock_at, no_lock}

pub or-cond : {X : Type 0} (a b : Bool) (x y : X) → cond b x (cond a x y) ≡ cond (a || b) x y
or-cond true true x y = refl
or-cond true false x y = refl
or-cond false b x y = refl

max-cond : (a b : Bool) (n number : ℕ) → cond b (max (cond a (max n number) n) number) (cond a (max n number) n) ≡ cond (a || b) (max n number) n
max-cond true true n number = omega arith
max-cond true false n number = refl
max-cond false true n number = refl
max-cond false false n number = refl

module _ (old new : BTreeMap Name Lock) (name : Name) (all rest : List Name) (is : all ≡ name ∷ rest) (q : Name) where
  pub freed-step : (lock_at new q).holder ≡ cond (is_eq (name_cmp name q)) None (lock_at old q).holder
      → cond (has rest q) None (lock_at new q).holder ≡ cond (has all q) None (lock_at old q).holder
  freed-step step =
      ap (cond (has rest q) None) step ∙ or-cond (is_eq (name_cmp name q)) (has rest q) None (lock_at old q).holder
      ∙ ap (λ l. cond (has l q) None (lock_at old q).holder) (sym is)

  pub logged-step : (number : ℕ) → (lock_at new q).newest ≡ cond (is_eq (name_cmp name q)) (max (lock_at old q).newest number) (lock_at old q).newest
      → cond (has rest q) (max (lock_at new q).newest number) (lock_at new q).newest ≡ cond (has all q) (max (lock_at old q).newest number) (lock_at old q).newest
  logged-step number step =
      ap (λ n. cond (has rest q) (max n number) n) step ∙ max-cond (is_eq (name_cmp name q)) (has rest q) (lock_at old q).newest number
      ∙ ap (λ l. cond (has l q) (max (lock_at old q).newest number) (lock_at old q).newest) (sym is)

  pub locked-step : (number : ℕ) → (lock_at new q).newest ≡ cond (is_eq (name_cmp name q)) (max (lock_at old q).newest number) (lock_at old q).newest
      → (lock_at new q).holder ≡ cond (is_eq (name_cmp name q)) None (lock_at old q).holder
      → (has all q ≡ true → lock_at old q ≡ no_lock → number ≡ 0)
      → has rest q ≡ true → lock_at new q ≡ no_lock → number ≡ 0
  locked-step number newest holder was at none = by (is_eq (name_cmp name q)) refl newest holder
    where
      by : (b : Bool) → is_eq (name_cmp name q) ≡ b → (lock_at new q).newest ≡ cond b (max (lock_at old q).newest number) (lock_at old q).newest
          → (lock_at new q).holder ≡ cond b None (lock_at old q).holder → number ≡ 0
      by true same newest holder =
          let zero : max (lock_at old q).newest number ≡ 0 = sym newest ∙ ap (λ (l : Lock). l.newest) none in
          omega (arith, zero)
      by false apart newest holder =
          let with_holder : Option ℕ → Lock = λ h. record { holder = h; newest = (lock_at old q).newest } in
          let with_newest : ℕ → Lock = λ n. record { holder = None; newest = n } in
          let old_none : lock_at old q ≡ no_lock =
          ap with_holder (sym holder ∙ ap (λ (l : Lock). l.holder) none) ∙ ap with_newest (sym newest ∙ ap (λ (l : Lock). l.newest) none) in
          was (ap (λ l. has l q) is ∙ ap (λ b. b || has rest q) apart ∙ at) old_none

pub some-locked : (table : BTreeMap Name Lock) (q : Name) (number : ℕ) → IsSome (lock_at table q).holder → lock_at table q ≡ no_lock → number ≡ 0
some-locked table q number some none = absurd (no (lock_at table q).holder some (ap (λ (l : Lock). l.holder) none))
  where
    no : (h : Option ℕ) → IsSome h → h ≡ None → ⊥
    no None some is = absurd cc
    no (Some u) some is = cc
