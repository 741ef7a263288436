-- What becomes of the locks of a table.
use Rattle.std.proofs.Common.{◌≡◌, Bool, true, false, cond, Some, refl, ap, ◌∙◌}
use Rattle.std.specs.Option.{unwrap_or}
use Rattle.std.specs.Ordering.{is_eq}
use Rattle.std.specs.BTreeMap.{BTreeMap, get, Updates}
use Rattle.key_locks.specs.declared.lock.Lock.{Lock}
use Rattle.key_locks.specs.declared.name.Name.{Name}
use Rattle.key_locks.specs.Names.{name_cmp}
use Rattle.key_locks.specs.Table.{lock_at, no_lock}
use Rattle.key_locks.proofs.NameLemmas.{same-name}

module _ (old new : BTreeMap Name Lock) (name : Name) (lock : Lock) (put : (q : Name) → lock_at new q ≡ cond (is_eq (name_cmp name q)) lock (lock_at old q)) where
  here : (q : Name) → is_eq (name_cmp name q) ≡ true → lock_at new q ≡ lock
  here q same = put q ∙ ap (λ b. cond b lock (lock_at old q)) same

  elsewhere : (q : Name) → is_eq (name_cmp name q) ≡ false → lock_at new q ≡ lock_at old q
  elsewhere q apart = put q ∙ ap (λ b. cond b lock (lock_at old q)) apart

  module _ {X : Type 0} (part : Lock → X) where
    -- a part of the lock that stays
    pub part-same : part lock ≡ part (lock_at old name) → (q : Name) → part (lock_at new q) ≡ part (lock_at old q)
    part-same is q = by (is_eq (name_cmp name q)) refl
      where
        by : (b : Bool) → is_eq (name_cmp name q) ≡ b → part (lock_at new q) ≡ part (lock_at old q)
        by true same = ap part (here q same) ∙ is ∙ ap (λ n. part (lock_at old n)) (same-name name q same)
        by false apart = ap part (elsewhere q apart)

    -- a part that is put
    pub part-put : (q : Name) (x : X) → (is_eq (name_cmp name q) ≡ true → part lock ≡ x) → part (lock_at new q) ≡ cond (is_eq (name_cmp name q)) x (part (lock_at old q))
    part-put q x is = by (is_eq (name_cmp name q)) refl
      where
        by : (b : Bool) → is_eq (name_cmp name q) ≡ b → part (lock_at new q) ≡ cond b x (part (lock_at old q))
        by true same = ap part (here q same) ∙ is same
        by false apart = ap part (elsewhere q apart)

    pub part-kept : (q : Name) → (is_eq (name_cmp name q) ≡ true → ⊥) → part (lock_at new q) ≡ part (lock_at old q)
    part-kept q apart = by (is_eq (name_cmp name q)) refl
      where
        by : (b : Bool) → is_eq (name_cmp name q) ≡ b → part (lock_at new q) ≡ part (lock_at old q)
        by true same = absurd (apart same)
        by false other = ap part (elsewhere q other)

-- what an insert puts
pub put-inserted : (old new : BTreeMap Name Lock) (name : Name) (lock : Lock) → Updates name_cmp old new name (Some lock)
    → (q : Name) → lock_at new q ≡ cond (is_eq (name_cmp name q)) lock (lock_at old q)
put-inserted old new name lock updates q = by (is_eq (name_cmp name q)) refl
  where
    by : (b : Bool) → is_eq (name_cmp name q) ≡ b → lock_at new q ≡ cond b lock (lock_at old q)
    by true same = ap (λ o. unwrap_or o no_lock) (updates.0 q ∙ ap (λ b. cond b (Some lock) (get name_cmp old q)) same)
    by false apart = ap (λ o. unwrap_or o no_lock) (updates.0 q ∙ ap (λ b. cond b (Some lock) (get name_cmp old q)) apart)
