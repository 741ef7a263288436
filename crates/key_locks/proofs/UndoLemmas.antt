-- Changes that are taken back, and commits that are forgotten.
use Rattle.std.proofs.Common.{◌≡◌, ◌<◌, ◌==◌, ◌||◌, ℕ, Bool, true, false, cond, nat_lt, Some, None, List, [], ◌∷◌, ◌++◌, length, map, max, take, zero, suc, refl, ap, sym, ◌∙◌, ⊎_elim, arith}
use Rattle.std.specs.Ordering.{is_eq}
use Rattle.std.specs.BTreeMap.{BTreeMap}
use Rattle.hse_rows.specs.declared.write.Write.{Write}
use Rattle.key_locks.specs.declared.lock.Lock.{Lock}
use Rattle.key_locks.specs.declared.logged.Logged.{Logged}
use Rattle.key_locks.specs.declared.name.Name.{Name}
use Rattle.key_locks.specs.Agrees.{HoldersAgree, CommitsAgree}
use Rattle.key_locks.specs.Held.{has, held_by}
use Rattle.key_locks.specs.Logged.{logged_write, without_old}
use Rattle.key_locks.specs.Names.{name_cmp}
use Rattle.key_locks.specs.Table.{lock_at}
use Rattle.key_locks.proofs.NameLemmas.{same-name, name-self}
use Rattle.key_locks.proofs.AnswerLemmas.{has-last, or-true}
use Rattle.key_locks.proofs.MoveLemmas.{false-true, some-same, none-some, is-same}

or-left : (a b : Bool) → a ≡ true → (a || b) ≡ true
or-left true b is = refl
or-left false b is = absurd cc

or-right : (a b : Bool) → b ≡ true → (a || b) ≡ true
or-right true b is = refl
or-right false b is = is

module _ (table new : BTreeMap Name Lock) (held now : BTreeMap ℕ (List Name)) (txn : ℕ) (name : Name)
    (old : held_by held txn ≡ held_by now txn ++ name ∷ []) (others : (u : ℕ) → (u == txn) ≡ false → held_by now u ≡ held_by held u)
    (kept : Bool) (is : has (held_by now txn) name ≡ kept)
    (holder : (q : Name) → (lock_at new q).holder ≡ cond kept (lock_at table q).holder (cond (is_eq (name_cmp name q)) None (lock_at table q).holder))
    (agree : HoldersAgree table held) where
  had : (q : Name) → has (held_by held txn) q ≡ (has (held_by now txn) q || is_eq (name_cmp name q))
  had q = ap (λ l. has l q) old ∙ has-last (held_by now txn) name q

  own : (lock_at table name).holder ≡ Some txn
  own = agree.known txn name (had name ∙ or-right (has (held_by now txn) name) (is_eq (name_cmp name name)) (name-self name))

  stays : (q : Name) (u : ℕ) → (lock_at table q).holder ≡ Some u → (kept ≡ false → is_eq (name_cmp name q) ≡ true → ⊥) → (lock_at new q).holder ≡ Some u
  stays q u held apart = by kept (is_eq (name_cmp name q)) apart (holder q)
    where
      by : (k e : Bool) → (k ≡ false → e ≡ true → ⊥) → (lock_at new q).holder ≡ cond k (lock_at table q).holder (cond e None (lock_at table q).holder) → (lock_at new q).holder ≡ Some u
      by true e apart now_is = now_is ∙ held
      by false true apart now_is = absurd (apart refl refl)
      by false false apart now_is = now_is ∙ held

  was : (q : Name) (u : ℕ) → (lock_at new q).holder ≡ Some u → ((lock_at table q).holder ≡ Some u) × (is_eq (name_cmp name q) ≡ true → kept ≡ true)
  was q u at = by kept (is_eq (name_cmp name q)) (sym (holder q) ∙ at)
    where
      by : (k e : Bool) → cond k (lock_at table q).holder (cond e None (lock_at table q).holder) ≡ Some u → ((lock_at table q).holder ≡ Some u) × (e ≡ true → k ≡ true)
      by true e at = (at, λ same. refl)
      by false true at = absurd (none-some u at)
      by false false at = (at, λ same. absurd (false-true same))

  pub undone : HoldersAgree new now
  undone = record {
    known = λ u q at. known u q at (u == txn) refl;
    taken = λ u q at. taken u q at (u == txn) refl;
  }
    where
      known : (u : ℕ) (q : Name) → has (held_by now u) q ≡ true → (b : Bool) → (u == txn) ≡ b → (lock_at new q).holder ≡ Some u
      known u q at false apart =
          let before = agree.known u q (ap (λ l. has l q) (sym (others u apart)) ∙ at) in
          stays q u before (λ lost same.
          let here = ap (λ n. (lock_at table n).holder) (same-name name q same) ∙ before in
          let equal = some-same u txn (sym here ∙ own) in
          absurd (false-true (sym apart ∙ grind (arith, equal))))
      known u q at true same =
          let mine = ap (λ v. has (held_by now v) q) (sym (is-same u txn same)) ∙ at in
          let before = agree.known txn q (had q ∙ or-left (has (held_by now txn) q) (is_eq (name_cmp name q)) mine) in
          stays q u (before ∙ ap (λ v. Some v) (sym (is-same u txn same))) (λ lost here.
          absurd (false-true (sym (is ∙ lost) ∙ ap (has (held_by now txn)) (same-name name q here) ∙ mine)))

      taken : (u : ℕ) (q : Name) → (lock_at new q).holder ≡ Some u → (b : Bool) → (u == txn) ≡ b → has (held_by now u) q ≡ true
      taken u q at false apart = ap (λ l. has l q) (others u apart) ∙ agree.taken u q (was q u at).0
      taken u q at true same =
          let before = ap (λ v. has (held_by held v) q) (sym (is-same u txn same)) ∙ agree.taken u q (was q u at).0 in
          ap (λ v. has (held_by now v) q) (is-same u txn same)
          ∙ ⊎_elim (λ one. one) (λ here. sym (ap (has (held_by now txn)) (same-name name q here)) ∙ is ∙ (was q u at).1 here)
          (or-true (has (held_by now txn) q) (is_eq (name_cmp name q)) (sym (had q) ∙ before))

pub without-map : (least : ℕ) (entries : List Logged) → map logged_write (without_old (λ (entry : Logged). entry.number) least entries)
    ≡ without_old (λ (commit : ℕ × Write). commit.0) least (map logged_write entries)
without-map least [] = refl
without-map least (e ∷ es) = by (nat_lt least e.number) (without-map least es)
  where
    by : (b : Bool) → map logged_write (without_old (λ (entry : Logged). entry.number) least es) ≡ without_old (λ (commit : ℕ × Write). commit.0) least (map logged_write es)
        → map logged_write (cond b (e ∷ es) (without_old (λ (entry : Logged). entry.number) least es))
        ≡ cond b (logged_write e ∷ map logged_write es) (without_old (λ (commit : ℕ × Write). commit.0) least (map logged_write es))
    by true rest = refl
    by false rest = rest

module _ (table new : BTreeMap Name Lock) (old least : ℕ)
    (newest : (q : Name) → least < (lock_at table q).newest → (lock_at new q).newest ≡ (lock_at table q).newest) where
  pruned-all : (entries : List Logged) → CommitsAgree table entries old → CommitsAgree new entries (max old least)
  pruned-all [] all = tt
  pruned-all (e ∷ es) all = (
    (λ less.
        let up = all.0 (omega (arith, less)) in
        let same = newest e.name (omega (arith, less, up)) in
        omega (arith, up, same)),
    pruned-all es all.1,
  )

  pub commits-pruned : (entries : List Logged) → CommitsAgree table entries old → CommitsAgree new (without_old (λ (entry : Logged). entry.number) least entries) (max old least)
  commits-pruned [] all = tt
  commits-pruned (e ∷ es) all = by (nat_lt least e.number) (commits-pruned es all.1)
    where
      by : (b : Bool) → CommitsAgree new (without_old (λ (entry : Logged). entry.number) least es) (max old least)
          → CommitsAgree new (cond b (e ∷ es) (without_old (λ (entry : Logged). entry.number) least es)) (max old least)
      by true rest = pruned-all (e ∷ es) all
      by false rest = rest

pub map-take : {X Y : Type 0} (f : X → Y) (n : ℕ) (xs : List X) → map f (take n xs) ≡ take n (map f xs)
map-take f zero xs = refl
map-take f (suc n) [] = refl
map-take f (suc n) (x ∷ xs) = ap (λ l. f x ∷ l) (map-take f n xs)

pub length-map : {X Y : Type 0} (f : X → Y) (xs : List X) → length (map f xs) ≡ length xs
length-map f [] = refl
length-map f (x ∷ xs) = ap suc (length-map f xs)
