-- The locks agree after each move.
use Rattle.std.proofs.Common.{◌≡◌, ◌≤◌, ◌==◌, ℕ, Bool, true, false, cond, ◌||◌, Option, Some, None, List, [], ◌∷◌, ◌++◌, length, max, map, refl, ap, sym, nat_lt, is_some, ◌∙◌, ◌⊎◌, inl, inr, arith}
use Rattle.std.specs.Ordering.{is_eq}
use Rattle.std.specs.BTreeMap.{BTreeMap}
use Rattle.key_locks.specs.declared.lock.Lock.{Lock}
use Rattle.key_locks.specs.declared.logged.Logged.{Logged}
use Rattle.key_locks.specs.declared.name.Name.{Name}
use Rattle.key_locks.specs.Names.{name_cmp}
use Rattle.key_locks.specs.Agrees.{HoldersAgree, CommitsAgree, LocksAgree, is_locked}
use Rattle.key_locks.specs.Held.{has, held_by}
use Rattle.key_locks.specs.Logged.{entries_of}
use Rattle.key_locks.specs.Seen.{KnowsLengths, IsUsed}
use Rattle.key_locks.specs.Table.{lock_at, no_lock}
use Rattle.key_locks.proofs.NameLemmas.{name-self}

pub unlocked : (l : Lock) → l.holder ≡ None → l.newest ≡ 0 → l ≡ no_lock
unlocked l holder newest =
    let with_holder : Option ℕ → Lock = λ h. record { holder = h; newest = l.newest } in
    let with_newest : ℕ → Lock = λ n. record { holder = None; newest = n } in
    ap with_holder holder ∙ ap with_newest newest

pub some-same : (u v : ℕ) → Some u ≡ Some v → u ≡ v
some-same u v is = cc

pub none-some : (u : ℕ) → None ≡ Some u → ⊥
none-some u is = cc

pub false-true : false ≡ true → ⊥
false-true is = cc

pub is-same : (u v : ℕ) → (u == v) ≡ true → u ≡ v
is-same u v is = grind (arith, is)

module _ (table new : BTreeMap Name Lock) where
  -- the holders after the names of a transaction are let go
  module _ (held rest : BTreeMap ℕ (List Name)) (txn : ℕ) (names : List Name) (are : names ≡ held_by held txn)
      (holder : (q : Name) → (lock_at new q).holder ≡ cond (has names q) None (lock_at table q).holder)
      (others : (u : ℕ) → held_by rest u ≡ cond (u == txn) [] (held_by held u)) (agree : HoldersAgree table held) where
    pub released : HoldersAgree new rest
    released = record {
      known = λ u q at. known u q at (u == txn) refl (others u);
      taken = λ u q is. taken u q is (has names q) refl (holder q);
    }
      where
        free : (u : ℕ) (q : Name) → (lock_at table q).holder ≡ Some u → (u == txn) ≡ false → (b : Bool) → has names q ≡ b → cond b None (lock_at table q).holder ≡ Some u
        free u q is apart false at = is
        free u q is apart true at =
            let own = agree.known txn q (ap (λ l. has l q) (sym are) ∙ at) in
            let same = some-same u txn (sym is ∙ own) in
            absurd (false-true (sym apart ∙ (grind (arith, same))))

        known : (u : ℕ) (q : Name) → has (held_by rest u) q ≡ true → (b : Bool) → (u == txn) ≡ b → held_by rest u ≡ cond b [] (held_by held u) → (lock_at new q).holder ≡ Some u
        known u q at true same is = absurd (false-true (ap (λ l. has l q) (sym is) ∙ at))
        known u q at false apart is =
            holder q ∙ free u q (agree.known u q (ap (λ l. has l q) (sym is) ∙ at)) apart (has names q) refl

        taken : (u : ℕ) (q : Name) → (lock_at new q).holder ≡ Some u → (b : Bool) → has names q ≡ b → (lock_at new q).holder ≡ cond b None (lock_at table q).holder → has (held_by rest u) q ≡ true
        taken u q is true at now = absurd (none-some u (sym now ∙ is))
        taken u q is false at now =
            let was = agree.taken u q (sym now ∙ is) in
            ap (λ l. has l q) (others u) ∙ still (u == txn) refl was
          where
            still : (b : Bool) → (u == txn) ≡ b → has (held_by held u) q ≡ true → has (cond b [] (held_by held u)) q ≡ true
            still false apart was = was
            still true same was =
                let own = ap (λ v. has (held_by held v) q) (sym (is-same u txn same)) ∙ was in
                absurd (false-true (sym at ∙ ap (λ l. has l q) are ∙ own))

    -- the same where the commit's number is noted
    pub lengths-logged : (lengths : List Bool) (number : ℕ)
        → ((q : Name) → (lock_at new q).newest ≡ cond (has names q) (max (lock_at table q).newest number) (lock_at table q).newest)
        → KnowsLengths table lengths → KnowsLengths new lengths
    lengths-logged lengths number newest knows q prefix = by (knows q prefix)
      where
        none : lock_at table q ≡ no_lock → (b : Bool) → has names q ≡ b → (lock_at new q).holder ≡ cond b None (lock_at table q).holder
            → (lock_at new q).newest ≡ cond b (max (lock_at table q).newest number) (lock_at table q).newest → lock_at new q ≡ no_lock
        none is true at holder newest =
            let own = agree.known txn q (ap (λ l. has l q) (sym are) ∙ at) in
            absurd (none-some txn (ap (λ (l : Lock). l.holder) (sym is) ∙ own))
        none is false at holder newest = unlocked (lock_at new q) (holder ∙ ap (λ (l : Lock). l.holder) is) (newest ∙ ap (λ (l : Lock). l.newest) is)

        by : (lock_at table q ≡ no_lock) ⊎ IsUsed lengths (length q.bytes) → (lock_at new q ≡ no_lock) ⊎ IsUsed lengths (length q.bytes)
        by (inl is) = inl (none is (has names q) refl (holder q) (newest q))
        by (inr used) = inr used

  -- the lengths in use where no name is taken
  pub lengths-kept : (lengths : List Bool) → ((q : Name) → (lock_at table q).holder ≡ None → (lock_at new q).holder ≡ None)
      → ((q : Name) → (lock_at new q).newest ≤ (lock_at table q).newest) → KnowsLengths table lengths → KnowsLengths new lengths
  lengths-kept lengths holder newest knows q prefix = by (knows q prefix)
    where
      by : (lock_at table q ≡ no_lock) ⊎ IsUsed lengths (length q.bytes) → (lock_at new q ≡ no_lock) ⊎ IsUsed lengths (length q.bytes)
      by (inl is) =
          let most = newest q in let none = ap (λ (l : Lock). l.newest) is in
          inl (unlocked (lock_at new q) (holder q (ap (λ (l : Lock). l.holder) is)) (omega (arith, most, none)))
      by (inr used) = inr used

  pub commits-kept : (entries : List Logged) (least : ℕ) → ((q : Name) → (lock_at table q).newest ≤ (lock_at new q).newest)
      → CommitsAgree table entries least → CommitsAgree new entries least
  commits-kept [] least more all = tt
  commits-kept (e ∷ es) least more all = ((λ less. let was = all.0 less in let now = more e.name in omega (arith, was, now)), commits-kept es least more all.1)

pub commits-both : (table : BTreeMap Name Lock) (first last : List Logged) (least : ℕ) → CommitsAgree table first least → CommitsAgree table last least
    → CommitsAgree table (first ++ last) least
commits-both table [] last least one other = other
commits-both table (e ∷ es) last least one other = (one.0, commits-both table es last least one.1 other)

-- the new entries of a commit
pub commits-new : (table : BTreeMap Name Lock) (number least : ℕ) (names : List Name) → ((q : Name) → has names q ≡ true → number ≤ (lock_at table q).newest)
    → CommitsAgree table (entries_of number names) least
commits-new table number least [] all = tt
commits-new table number least (n ∷ names) all =
    ((λ less. all n (ap (λ b. b || has names n) (name-self n))), commits-new table number least names (λ q at. all q (later (is_eq (name_cmp n q)) (has names q) at)))
  where
    later : (a b : Bool) → b ≡ true → (a || b) ≡ true
    later true b at = refl
    later false b at = at

-- a lock that is none, or one of a length in use
pub knows-lengths : (table : BTreeMap Name Lock) (lengths : List Bool) → LocksAgree table lengths → KnowsLengths table lengths
knows-lengths table lengths agree q prefix = by (lock_at table q) refl
  where
    by : (l : Lock) → lock_at table q ≡ l → (lock_at table q ≡ no_lock) ⊎ IsUsed lengths (length q.bytes)
    by l is = cases (is_locked l) refl
      where
        none : (h : Option ℕ) (n : ℕ) → (is_some h || nat_lt 0 n) ≡ false → (h ≡ None) × (n ≡ 0)
        none None n is = (refl, grind (arith, is))
        none (Some u) n is = absurd cc

        cases : (b : Bool) → is_locked l ≡ b → (lock_at table q ≡ no_lock) ⊎ IsUsed lengths (length q.bytes)
        cases true locked = inr (agree q prefix (ap is_locked is ∙ locked))
        cases false free = let parts = none l.holder l.newest free in inl (is ∙ unlocked l parts.0 parts.1)

pub locks-agree : (table : BTreeMap Name Lock) (lengths : List Bool) → KnowsLengths table lengths → LocksAgree table lengths
locks-agree table lengths knows q prefix locked = by (knows q prefix)
  where
    by : (lock_at table q ≡ no_lock) ⊎ IsUsed lengths (length q.bytes) → IsUsed lengths (length q.bytes)
    by (inl none) = absurd (false-true (sym (ap is_locked none) ∙ locked))
    by (inr used) = used

pub cond-none : (b : Bool) (h : Option ℕ) → h ≡ None → cond b None h ≡ None
cond-none true h is = refl
cond-none false h is = is

pub cond-more : (b : Bool) (n number : ℕ) → n ≤ cond b (max n number) n
cond-more true n number = omega arith
cond-more false n number = omega arith

pub cond-number : (b : Bool) (n number : ℕ) → b ≡ true → number ≤ cond b (max n number) n
cond-number true n number is = omega arith
cond-number false n number is = absurd (false-true is)

pub entries-written : {X : Type 0} (f : Name → X) (number : ℕ) (names : List Name)
    → map {B = ℕ × X} (λ (e : Logged). (e.number, f e.name)) (entries_of number names) ≡ map {B = ℕ × X} (λ (x : X). (number, x)) (map f names)
entries-written f number [] = refl
entries-written f number (n ∷ names) = ap (λ l. (number, f n) ∷ l) (entries-written f number names)
