-- What a range of the table from a prefix on says of all that begins with it.
use Rattle.std.proofs.Common.{◌≡◌, ℕ, Bool, true, false, cond, ◌&&◌, Option, Some, None, List, [], ◌∷◌, refl, ap, sym, subst, suc, ◌∙◌, ◌⊎◌, ⊎_elim, inl, inr, arith}
use Rattle.std.specs.Option.{unwrap_or}
use Rattle.std.specs.Ordering.{is_eq, is_gt, is_le}
use Rattle.std.specs.declared.cmp.Ordering.{Ordering}
use Rattle.std.specs.declared.cmp.Ordering.TheVariants.{Less, Equal, Greater}
use Rattle.std.specs.declared.ops.Bound.TheVariants.{Included, Unbounded}
use Rattle.std.specs.BTreeMap.{BTreeMap, is_at, get, IsOrdered}
use Rattle.std.specs.BTreeMap.Range.{entries_between, range_contains, IsEntryInRange}
use Rattle.std.specs.List.{AllByRecursion, All, filter}
use Rattle.std.specs.List.Sorted.{IsStrictlySortedBy}
use Rattle.std.specs.Map.{lookup, keys_of}
use Rattle.key_locks.specs.declared.lock.Lock.{Lock}
use Rattle.key_locks.specs.declared.lock.Seen.{Seen}
use Rattle.key_locks.specs.declared.name.Name.{Name}
use Rattle.key_locks.specs.Names.{name_cmp}
use Rattle.key_locks.specs.Table.{lock_at, no_lock}
use Rattle.key_locks.specs.Seen.{seen_below, begins_with, nothing_seen, IsSeen, IsBelow}
use Rattle.key_locks.proofs.NameLemmas.{same-name}
use Rattle.key_locks.proofs.RangeLemmas.{least-below}
use Rattle.key_locks.proofs.SeenLemmas.{seen-same, seen-nothing}
use Rattle.key_locks.proofs.WalkLemmas.{IsIn, IsEntry, walked}

each-filter : {X : Type 0} (P : X → Type 0) (Q : Name → Type 0) (t : Name → Bool) (es : List (Name × Lock))
    → AllByRecursion Q (keys_of es) → AllByRecursion Q (keys_of (filter (λ (e : Name × Lock). t e.0) es))
each-filter P Q t [] all = tt
each-filter P Q t (e ∷ es) all = by (t e.0) (each-filter P Q t es all.1)
  where
    by : (b : Bool) → AllByRecursion Q (keys_of (filter (λ (e : Name × Lock). t e.0) es))
        → AllByRecursion Q (keys_of (cond b (e ∷ filter (λ (e : Name × Lock). t e.0) es) (filter (λ (e : Name × Lock). t e.0) es)))
    by true rest = (all.0, rest)
    by false rest = rest

rising-filter : (t : Name → Bool) (es : List (Name × Lock)) → IsStrictlySortedBy name_cmp (keys_of es)
    → IsStrictlySortedBy name_cmp (keys_of (filter (λ (e : Name × Lock). t e.0) es))
unfolding IsStrictlySortedBy
rising-filter t [] rise = tt
rising-filter t (e ∷ es) rise = by (t e.0) (rising-filter t es rise.1)
  where
    by : (b : Bool) → IsStrictlySortedBy name_cmp (keys_of (filter (λ (e : Name × Lock). t e.0) es))
        → IsStrictlySortedBy name_cmp (keys_of (cond b (e ∷ filter (λ (e : Name × Lock). t e.0) es) (filter (λ (e : Name × Lock). t e.0) es)))
    by true rest = (each-filter {X = Name} (λ n. Name) (λ k. name_cmp e.0 k ≡ Less) t es rise.0, rest)
    by false rest = rest

-- a name that a look-up finds is that of an entry
found : (q : Name) (v : Lock) (es : List (Name × Lock)) → lookup (is_at (name_cmp q)) es ≡ Some v → IsIn es q
found q v [] is = absurd cc
found q v (e ∷ es) is = by (is_eq (name_cmp q e.0)) refl is (found q v es)
  where
    by : (b : Bool) → is_eq (name_cmp q e.0) ≡ b → cond b (Some e.1) (lookup (is_at (name_cmp q)) es) ≡ Some v
        → (lookup (is_at (name_cmp q)) es ≡ Some v → IsIn es q) → IsIn (e ∷ es) q
    by true same is rest = inl (sym (same-name q e.0 same))
    by false apart is rest = inr (rest is)

kept : (t : Name → Bool) (q : Name) → t q ≡ true → (es : List (Name × Lock)) → IsIn es q → IsIn (filter (λ (e : Name × Lock). t e.0) es) q
kept t q is [] at = at
kept t q is (e ∷ es) (inl same) =
    let pass : t e.0 ≡ true = ap t same ∙ is in
    subst (λ b. IsIn (cond b (e ∷ filter (λ (e : Name × Lock). t e.0) es) (filter (λ (e : Name × Lock). t e.0) es)) q) (sym pass) (inl same)
kept t q is (e ∷ es) (inr at) = by (t e.0) (kept t q is es at)
  where
    by : (b : Bool) → IsIn (filter (λ (e : Name × Lock). t e.0) es) q → IsIn (cond b (e ∷ filter (λ (e : Name × Lock). t e.0) es) (filter (λ (e : Name × Lock). t e.0) es)) q
    by true rest = inr rest
    by false rest = rest

module _ (table : BTreeMap Name Lock) (txn : ℕ) (start : Name) (prefix : start.is_key ≡ false) (ordered : IsOrdered name_cmp table) where
  abbrev from : Name → Bool
  from q = range_contains name_cmp (Included start) Unbounded q

  from-below : (q : Name) → begins_with start q ≡ true → from q ≡ true
  from-below q is = by (name_cmp start q) (least-below start q prefix is)
    where
      by : (o : Ordering) → is_gt o ≡ false → (is_le o && true) ≡ true
      by Less is = refl
      by Equal is = refl
      by Greater is = absurd cc

  each-entry : (es : List (Name × Lock)) → All (IsEntryInRange name_cmp (Included start) Unbounded table) es → AllByRecursion (IsEntry table txn start) es
  each-entry [] all = tt
  each-entry (e ∷ es) all =
      let one = all 0 e (omega arith) in
      ((one.0.0, ap (λ o. unwrap_or o no_lock) one.1), each-entry es (λ k d less. all (suc k) d (omega (arith, less))))

  locked : (q : Name) → begins_with start q ≡ true → (IsIn (entries_between name_cmp (Included start) Unbounded table.entries) q) ⊎ (lock_at table q ≡ no_lock)
  locked q is = by (get name_cmp table q) refl
    where
      by : (o : Option Lock) → get name_cmp table q ≡ o → (IsIn (entries_between name_cmp (Included start) Unbounded table.entries) q) ⊎ (lock_at table q ≡ no_lock)
      by None none = inr (ap (λ o. unwrap_or o no_lock) none)
      by (Some v) some = inl (kept from q (from-below q is) table.entries (found q v table.entries some))

  pub range-seen : (es : List (Name × Lock)) (seen : Seen) → es ≡ entries_between name_cmp (Included start) Unbounded table.entries
      → All (IsEntryInRange name_cmp (Included start) Unbounded table) es → seen ≡ seen_below txn start es nothing_seen
      → IsSeen table txn (IsBelow start) seen
  range-seen es seen are all is =
      let rising : IsStrictlySortedBy name_cmp (keys_of es) =
      subst (λ l. IsStrictlySortedBy name_cmp (keys_of l)) (sym are) (rising-filter from table.entries ordered) in
      let walk = walked table txn start es (λ q. ⊥) nothing_seen rising (each-entry es all) (seen-nothing table txn) in
      seen-same table txn _ (IsBelow start) seen forth back (subst (IsSeen table txn _) (sym is) walk)
    where
      forth : (q : Name) → ⊥ ⊎ (IsIn es q × (begins_with start q ≡ true)) → IsBelow start q
      forth q (inl none) = absurd none
      forth q (inr at) = at.1

      back : (q : Name) → IsBelow start q → (⊥ ⊎ (IsIn es q × (begins_with start q ≡ true))) ⊎ (lock_at table q ≡ no_lock)
      back q at = ⊎_elim (λ (i : IsIn (entries_between name_cmp (Included start) Unbounded table.entries) q). inl (inr (subst (λ l. IsIn l q) (sym are) i, at))) (λ n. inr n) (locked q at)
