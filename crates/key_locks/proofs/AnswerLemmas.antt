-- What the locks that are met say is the answer.
use Rattle.std.proofs.Common.{◌≡◌, ◌<◌, ◌≤◌, ◌==◌, ◌&&◌, ◌||◌, ℕ, Bool, true, false, cond, Option, Some, None, List, [], ◌∷◌, ◌++◌, length, map, take, Result, Ok, Err, OnOk, OnErr, refl, ap, sym, subst, ◌∙◌, ◌⊎◌, inl, inr, arith}
use Rattle.std.specs.Option.{IfSome}
use Rattle.std.specs.Ordering.{is_eq}
use Rattle.std.specs.BTreeMap.{BTreeMap}
use Rattle.hse_rows.specs.declared.write.Write.{Write}
use Rattle.hse_rows.specs.writes.Change.{covers}
use Rattle.hse_rows.specs.laws.Covering.{covers-is}
use Rattle.hse_rows.specs.writes.Overlap.{overlaps, overlaps_some}
use Rattle.key_locks.specs.declared.lock.Lock.{Lock}
use Rattle.key_locks.specs.declared.lock.Seen.{Seen}
use Rattle.key_locks.specs.declared.locks.KeyLocks.{KeyLocks}
use Rattle.key_locks.specs.declared.logged.Logged.{Logged}
use Rattle.key_locks.specs.declared.name.Name.{Name}
use Rattle.key_locks.specs.Agrees.{Agrees, HoldersAgree, CommitsAgree}
use Rattle.key_locks.specs.Answers.{IsHolder, IsUnheld}
use Rattle.key_locks.specs.Held.{has, held_by}
use Rattle.key_locks.specs.Locks.{writes_of, commits_of}
use Rattle.key_locks.specs.Logged.{logged_write}
use Rattle.key_locks.specs.Names.{name_cmp, write_at}
use Rattle.key_locks.specs.Seen.{IsSeen, IsMet, IsUpTo, begins_with, IsUsed, KnowsLengths}
use Rattle.key_locks.specs.Since.{has_commit, IsFirstSince}
use Rattle.key_locks.specs.Table.{lock_at, no_lock}
use Rattle.key_locks.proofs.NameLemmas.{same-name}
use Rattle.key_locks.proofs.RangeLemmas.{both, and-true}
use Rattle.key_locks.proofs.OverlapLemmas.{met-from, overlaps-from, some-from, some-is}
use Rattle.key_locks.proofs.MoveLemmas.{false-true, some-same, is-same, commits-kept, lengths-kept, knows-lengths, locks-agree}

pub or-true : (a b : Bool) → (a || b) ≡ true → (a ≡ true) ⊎ (b ≡ true)
or-true true b is = inl refl
or-true false b is = inr is

not-true : (b : Bool) → (b ≡ true → ⊥) → b ≡ false
not-true true never = absurd (never refl)
not-true false never = refl

-- a commit that wrote what overlaps has a name that is met
logged-name : (table : BTreeMap Name Lock) (entries : List Logged) (least : ℕ) (write : Write) (n : ℕ) → CommitsAgree table entries least
    → least < n → has_commit write n (map logged_write entries) ≡ true → (q : Name) × ((overlaps write (write_at q) ≡ true) × (n ≤ (lock_at table q).newest))
logged-name table [] least write n all less has = absurd cc
logged-name table (e ∷ es) least write n all less has =
    by (logged-name table es least write n all.1 less) (or-true ((e.number == n) && overlaps write (write_at e.name)) (has_commit write n (map logged_write es)) has)
  where
    T : Type 0
    T = (q : Name) × ((overlaps write (write_at q) ≡ true) × (n ≤ (lock_at table q).newest))

    by : (has_commit write n (map logged_write es) ≡ true → (q : Name) × ((overlaps write (write_at q) ≡ true) × (n ≤ (lock_at table q).newest)))
        → (((e.number == n) && overlaps write (write_at e.name)) ≡ true) ⊎ (has_commit write n (map logged_write es) ≡ true)
        → (q : Name) × ((overlaps write (write_at q) ≡ true) × (n ≤ (lock_at table q).newest))
    by rest (inr later) = rest later
    by rest (inl here) =
        let parts = both (e.number == n) (overlaps write (write_at e.name)) here in
        let same : e.number ≡ n = is-same e.number n parts.0 in
        let up = all.0 (omega (arith, same, less)) in
        (e.name, (parts.1, omega (arith, same, up)))

module _ (locks : KeyLocks) (txn : ℕ) (name : Name) (seen : Seen) (is : IsSeen locks.table txn (IsMet name) seen) where
  met-up : (u : ℕ) → (u ≡ txn → ⊥) → overlaps_some (write_at name) (writes_of locks u) ≡ true → IsUpTo seen.holder u
  met-up u apart some =
      let q = some-is (write_at name) (held_by locks.held u) some in
      is.first q.0 u (met-from name q.0 q.1.1) (locks.agrees.holders.known u q.0 q.1.0) apart

  pub unheld : seen.holder ≡ None → IsUnheld locks txn (write_at name)
  unheld none u apart = not-true (overlaps_some (write_at name) (writes_of locks u)) (λ some. subst (λ h. IsUpTo h u) none (met-up u apart some))

  pub holder-is : (u : ℕ) → seen.holder ≡ Some u → IsHolder locks txn (write_at name) u
  holder-is u held =
      let w = subst (λ h. IfSome h (λ other. (other ≡ txn → ⊥) × ((q : Name) × (IsMet name q × ((lock_at locks.table q).holder ≡ Some other))))) held is.holder in
      record {
        other = w.0;
        overlapping = some-from (write_at name) (held_by locks.held u) w.1.0 (locks.agrees.holders.taken u w.1.0 w.1.1.1) (overlaps-from name w.1.0 w.1.1.0);
        first = λ v apart some. subst (λ h. IsUpTo h v) held (met-up v apart some);
      }

  pub none-since : (snapshot : ℕ) → locks.least ≤ snapshot → seen.newest ≤ snapshot → IsFirstSince (write_at name) snapshot (commits_of locks) None
  none-since snapshot least most = record {
    least = λ n less has.
        (let q = logged-name locks.table locks.logged.items locks.least (write_at name) n locks.agrees.commits (omega (arith, least, less)) has in
        let up = is.newest q.0 (met-from name q.0 q.1.0) in let later = q.1.1 in
        absurd (omega (arith, up, later, most, less)));
    found = tt;
  }

pub has-last : (xs : List Name) (x q : Name) → has (xs ++ x ∷ []) q ≡ (has xs q || is_eq (name_cmp x q))
has-last [] x q = by (is_eq (name_cmp x q))
  where
    by : (b : Bool) → (b || false) ≡ b
    by true = refl
    by false = refl
has-last (y ∷ xs) x q = ap (λ b. is_eq (name_cmp y q) || b) (has-last xs x q) ∙ assoc (is_eq (name_cmp y q)) (has xs q) (is_eq (name_cmp x q))
  where
    assoc : (a b c : Bool) → (a || (b || c)) ≡ ((a || b) || c)
    assoc true b c = refl
    assoc false b c = refl

-- the holders after one name more is taken that no other holds
module _ (table new : BTreeMap Name Lock) (held now : BTreeMap ℕ (List Name)) (txn : ℕ) (name : Name)
    (holder : (q : Name) → (lock_at new q).holder ≡ cond (is_eq (name_cmp name q)) (Some txn) (lock_at table q).holder)
    (added : (u : ℕ) → held_by now u ≡ cond (u == txn) (held_by held u ++ name ∷ []) (held_by held u))
    (free : (u : ℕ) → (lock_at table name).holder ≡ Some u → u ≡ txn) (agree : HoldersAgree table held) where
  pub taken-one : HoldersAgree new now
  taken-one = record {
    known = λ u q at. known u q at (u == txn) refl (added u);
    taken = λ u q is. taken u q is (is_eq (name_cmp name q)) refl (holder q);
  }
    where
      old : (u : ℕ) (q : Name) → (lock_at table q).holder ≡ Some u → (b : Bool) → is_eq (name_cmp name q) ≡ b → cond b (Some txn) (lock_at table q).holder ≡ Some u
      old u q is false apart = is
      old u q is true same = ap (λ v. Some v) (sym (free u (ap (λ n. (lock_at table n).holder) (same-name name q same) ∙ is)))

      known : (u : ℕ) (q : Name) → has (held_by now u) q ≡ true → (b : Bool) → (u == txn) ≡ b → held_by now u ≡ cond b (held_by held u ++ name ∷ []) (held_by held u)
          → (lock_at new q).holder ≡ Some u
      known u q at false apart is = holder q ∙ old u q (agree.known u q (ap (λ l. has l q) (sym is) ∙ at)) (is_eq (name_cmp name q)) refl
      known u q at true same is =
          by (or-true (has (held_by held u) q) (is_eq (name_cmp name q)) (sym (has-last (held_by held u) name q) ∙ ap (λ l. has l q) (sym is) ∙ at))
        where
          by : (has (held_by held u) q ≡ true) ⊎ (is_eq (name_cmp name q) ≡ true) → (lock_at new q).holder ≡ Some u
          by (inl was) = holder q ∙ old u q (agree.known u q was) (is_eq (name_cmp name q)) refl
          by (inr here) = holder q ∙ ap (λ b. cond b (Some txn) (lock_at table q).holder) here ∙ ap (λ v. Some v) (sym (is-same u txn same))

      taken : (u : ℕ) (q : Name) → (lock_at new q).holder ≡ Some u → (b : Bool) → is_eq (name_cmp name q) ≡ b → (lock_at new q).holder ≡ cond b (Some txn) (lock_at table q).holder
          → has (held_by now u) q ≡ true
      taken u q is true same now_is =
          let own : u ≡ txn = sym (some-same txn u (sym now_is ∙ is)) in
          let test : (u == txn) ≡ true = grind (arith, own) in
          ap (λ l. has l q) (added u ∙ ap (λ b. cond b (held_by held u ++ name ∷ []) (held_by held u)) test) ∙ has-last (held_by held u) name q ∙ last (has (held_by held u) q) (is_eq (name_cmp name q)) same
        where
          last : (a b : Bool) → b ≡ true → (a || b) ≡ true
          last true b is = refl
          last false b is = is
      taken u q is false apart now_is =
          let was = agree.taken u q (sym now_is ∙ is) in
          ap (λ l. has l q) (added u) ∙ still (u == txn) was
        where
          first : (a b : Bool) → a ≡ true → (a || b) ≡ true
          first true b is = refl
          first false b is = absurd (false-true is)

          still : (b : Bool) → has (held_by held u) q ≡ true → has (cond b (held_by held u ++ name ∷ []) (held_by held u)) q ≡ true
          still true was = has-last (held_by held u) name q ∙ first (has (held_by held u) q) (is_eq (name_cmp name q)) was
          still false was = was

-- the lengths in use after one name more is taken
pub lengths-taken : (table new : BTreeMap Name Lock) (old lengths : List Bool) (txn : ℕ) (name : Name)
    → ((q : Name) → (lock_at new q).holder ≡ cond (is_eq (name_cmp name q)) (Some txn) (lock_at table q).holder)
    → ((q : Name) → (lock_at new q).newest ≡ (lock_at table q).newest)
    → (name.is_key ≡ false → IsUsed lengths (length name.bytes)) → ((n : ℕ) → IsUsed old n → IsUsed lengths n)
    → KnowsLengths table old → KnowsLengths new lengths
lengths-taken table new old lengths txn name holder newest used more knows q prefix = by (is_eq (name_cmp name q)) refl (holder q) (knows q prefix)
  where
    by : (b : Bool) → is_eq (name_cmp name q) ≡ b → (lock_at new q).holder ≡ cond b (Some txn) (lock_at table q).holder
        → (lock_at table q ≡ no_lock) ⊎ IsUsed old (length q.bytes) → (lock_at new q ≡ no_lock) ⊎ IsUsed lengths (length q.bytes)
    by true same now was =
        let at = same-name name q same in
        inr (subst (λ (n : Name). IsUsed lengths (length n.bytes)) at (used (ap (λ (n : Name). n.is_key) at ∙ prefix)))
    by false apart now (inr was) = inr (more (length q.bytes) was)
    by false apart now (inl none) =
        inl (let with_holder : Option ℕ → Lock = λ h. record { holder = h; newest = (lock_at new q).newest } in
        let with_newest : ℕ → Lock = λ n. record { holder = None; newest = n } in
        ap with_holder (now ∙ ap (λ (l : Lock). l.holder) none) ∙ ap with_newest (newest q ∙ ap (λ (l : Lock). l.newest) none))

pub covers-self : (b : List ℕ) → covers b b ≡ true
covers-self b = (covers-is b b).1 (omega arith, take-length b)
  where
    take-length : (xs : List ℕ) → take (length xs) xs ≡ xs
    take-length [] = refl
    take-length (x ∷ xs) = ap (λ l. x ∷ l) (take-length xs)

met-self : (name : Name) → IsMet name name
met-self name = by name.is_key refl
  where
    by : (k : Bool) → name.is_key ≡ k → IsMet name name
    by true is = inl (subst (λ k. cond k (name ≡ name) (begins_with name name ≡ true)) (sym is) refl)
    by false is = inr (is, and-true (name.store == name.store) (covers name.bytes name.bytes) (grind arith) (covers-self name.bytes))

-- a name that no other write overlaps is held by no other transaction
pub free-from : (locks : KeyLocks) (txn : ℕ) (name : Name) → IsUnheld locks txn (write_at name) → (u : ℕ) → (lock_at locks.table name).holder ≡ Some u → u ≡ txn
free-from locks txn name unheld u held = by (u == txn) refl
  where
    by : (b : Bool) → (u == txn) ≡ b → u ≡ txn
    by true same = is-same u txn same
    by false apart =
        let some = some-from (write_at name) (held_by locks.held u) name (locks.agrees.holders.taken u name held) (overlaps-from name name (met-self name)) in
        let none = unheld u (λ same. false-true (sym apart ∙ grind (arith, same))) in
        absurd (false-true (sym none ∙ some))

pub agrees-taken : {T E : Type 0} (result : Result T E) (locks : KeyLocks) (new : BTreeMap Name Lock) (now : BTreeMap ℕ (List Name)) (lengths : List Bool) (txn : ℕ) (name : Name)
    → ((q : Name) → (lock_at new q).newest ≡ (lock_at locks.table q).newest)
    → OnOk result ((q : Name) → (lock_at new q).holder ≡ cond (is_eq (name_cmp name q)) (Some txn) (lock_at locks.table q).holder)
    → OnOk result ((u : ℕ) → held_by now u ≡ cond (u == txn) (held_by locks.held u ++ name ∷ []) (held_by locks.held u))
    → OnErr result ((q : Name) → (lock_at new q).holder ≡ (lock_at locks.table q).holder)
    → OnErr result ((u : ℕ) → held_by now u ≡ held_by locks.held u)
    → IsUnheld locks txn (write_at name)
    → (name.is_key ≡ false → IsUsed lengths (length name.bytes)) → ((n : ℕ) → IsUsed locks.lengths n → IsUsed lengths n)
    → Agrees new now locks.logged.items lengths locks.least
agrees-taken (Ok done) locks new now lengths txn name newest holder held same same_held unheld used more = record {
  holders = taken-one locks.table new locks.held now txn name holder held (free-from locks txn name unheld) locks.agrees.holders;
  commits = commits-kept locks.table new locks.logged.items locks.least (λ q. let is = newest q in omega (arith, is)) locks.agrees.commits;
  lengths_known = locks-agree new lengths (lengths-taken locks.table new locks.lengths lengths txn name holder newest used more
      (knows-lengths locks.table locks.lengths locks.agrees.lengths_known));
}
agrees-taken (Err fault) locks new now lengths txn name newest holder held same same_held unheld used more = record {
  holders = record {
    known = λ u q at. same q ∙ locks.agrees.holders.known u q (ap (λ l. has l q) (sym (same_held u)) ∙ at);
    taken = λ u q is. ap (λ l. has l q) (same_held u) ∙ locks.agrees.holders.taken u q (sym (same q) ∙ is);
  };
  commits = commits-kept locks.table new locks.logged.items locks.least (λ q. let is = newest q in omega (arith, is)) locks.agrees.commits;
  lengths_known = locks-agree new lengths (λ q prefix. grow (lengths-kept locks.table new locks.lengths (λ q none. same q ∙ none) (λ q. let is = newest q in omega (arith, is))
      (knows-lengths locks.table locks.lengths locks.agrees.lengths_known) q prefix));
}
  where
    grow : {A : Type 0} {n : ℕ} → A ⊎ IsUsed locks.lengths n → A ⊎ IsUsed lengths n
    grow (inl is) = inl is
    grow {n = n} (inr is) = inr (more n is)
