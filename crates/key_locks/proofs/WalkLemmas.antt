-- What the first entries that begin with a name say.
use Rattle.std.proofs.Common.{◌≡◌, ℕ, Bool, true, false, cond, List, [], ◌∷◌, refl, ap, sym, subst, ◌∙◌, ◌⊎◌, inl, inr}
use Rattle.std.specs.Ordering.{is_gt}
use Rattle.std.specs.declared.cmp.Ordering.TheVariants.{Less}
use Rattle.std.specs.BTreeMap.{BTreeMap}
use Rattle.std.specs.List.{AllByRecursion}
use Rattle.std.specs.List.Sorted.{IsStrictlySortedBy}
use Rattle.std.specs.Map.{keys_of}
use Rattle.key_locks.specs.declared.lock.Lock.{Lock}
use Rattle.key_locks.specs.declared.lock.Seen.{Seen}
use Rattle.key_locks.specs.declared.name.Name.{Name}
use Rattle.key_locks.specs.Names.{name_cmp}
use Rattle.key_locks.specs.Table.{lock_at}
use Rattle.key_locks.specs.Seen.{seen_with, seen_below, begins_with, IsSeen}
use Rattle.key_locks.proofs.RangeLemmas.{name-between}
use Rattle.key_locks.proofs.SeenLemmas.{seen-same, seen-more}

-- the name is one of an entry
abbrev pub IsIn : List (Name × Lock) → Name → Type 0
IsIn [] q = ⊥
IsIn (e ∷ es) q = (e.0 ≡ q) ⊎ IsIn es q

module _ (table : BTreeMap Name Lock) (txn : ℕ) (start : Name) where
  abbrev pub IsEntry : Name × Lock → Type 0
  IsEntry e = (is_gt (name_cmp start e.0) ≡ false) × (lock_at table e.0 ≡ e.1)

  -- none of later entries begins with the name
  past : (e : Name × Lock) (es : List (Name × Lock)) → AllByRecursion (λ k. name_cmp e.0 k ≡ Less) (keys_of es) → is_gt (name_cmp start e.0) ≡ false
      → begins_with start e.0 ≡ false → (q : Name) → IsIn es q → begins_with start q ≡ true → ⊥
  past e [] rising low apart q at is = absurd at
  past e (x ∷ es) rising low apart q (inl same) is =
      let high : is_gt (name_cmp e.0 x.0) ≡ false = ap is_gt rising.0 in
      let at : begins_with start x.0 ≡ true = ap (begins_with start) same ∙ is in
      absurd (no (sym apart ∙ name-between start e.0 x.0 low high at))
    where
      no : false ≡ true → ⊥
      no e = cc
  past e (x ∷ es) rising low apart q (inr at) is = past e es rising.1 low apart q at is

  pub walked : (es : List (Name × Lock)) (P : Name → Type 0) (seen : Seen) → IsStrictlySortedBy name_cmp (keys_of es) → AllByRecursion IsEntry es
      → IsSeen table txn P seen → IsSeen table txn (λ q. P q ⊎ (IsIn es q × (begins_with start q ≡ true))) (seen_below txn start es seen)
  unfolding IsStrictlySortedBy
  walked [] P seen rising are is = seen-same table txn P _ seen (λ q at. inl at) (λ q at. inl (only q at)) is
    where
      only : (q : Name) → P q ⊎ (⊥ × (begins_with start q ≡ true)) → P q
      only q (inl at) = at
      only q (inr at) = absurd at.0
  walked (e ∷ es) P seen rising are is = by (begins_with start e.0) refl (λ next. walked es (λ q. P q ⊎ (q ≡ e.0)) next rising.1 are.1)
    where
      T : Name → Type 0
      T = λ q. P q ⊎ (IsIn (e ∷ es) q × (begins_with start q ≡ true))

      by : (b : Bool) → begins_with start e.0 ≡ b
          → ((next : Seen) → IsSeen table txn (λ q. P q ⊎ (q ≡ e.0)) next → IsSeen table txn (λ q. (P q ⊎ (q ≡ e.0)) ⊎ (IsIn es q × (begins_with start q ≡ true))) (seen_below txn start es next))
          → IsSeen table txn (λ q. P q ⊎ (IsIn (e ∷ es) q × (begins_with start q ≡ true))) (cond b (seen_below txn start es (seen_with txn seen e.1)) seen)
      by true at rest = seen-same table txn _ _ _ forth (λ q is. inl (back q is)) (rest (seen_with txn seen e.1) one)
        where
          one : IsSeen table txn (λ q. P q ⊎ (q ≡ e.0)) (seen_with txn seen e.1)
          one = subst (λ l. IsSeen table txn (λ q. P q ⊎ (q ≡ e.0)) (seen_with txn seen l)) are.0.1
              (seen-more table txn P (λ q. P q ⊎ (q ≡ e.0)) e.0 seen (λ q old. inl old) (inr refl) (λ q is. is) is)

          forth : (q : Name) → (P q ⊎ (q ≡ e.0)) ⊎ (IsIn es q × (begins_with start q ≡ true)) → P q ⊎ (IsIn (e ∷ es) q × (begins_with start q ≡ true))
          forth q (inl (inl old)) = inl old
          forth q (inl (inr same)) = inr (inl (sym same), ap (begins_with start) same ∙ at)
          forth q (inr later) = inr (inr later.0, later.1)

          back : (q : Name) → P q ⊎ (IsIn (e ∷ es) q × (begins_with start q ≡ true)) → (P q ⊎ (q ≡ e.0)) ⊎ (IsIn es q × (begins_with start q ≡ true))
          back q (inl old) = inl (inl old)
          back q (inr (inl same, is)) = inl (inr (sym same))
          back q (inr (inr later, is)) = inr (later, is)
      by false at rest = seen-same table txn P _ seen (λ q old. inl old) (λ q is. inl (back q is)) is
        where
          no : true ≡ false → ⊥
          no e = cc

          back : (q : Name) → P q ⊎ (IsIn (e ∷ es) q × (begins_with start q ≡ true)) → P q
          back q (inl old) = old
          back q (inr (inl same, is)) = absurd (no (sym (ap (begins_with start) same ∙ is) ∙ at))
          back q (inr (inr later, is)) = absurd (past e es rising.0 are.0.0 at q later is)
