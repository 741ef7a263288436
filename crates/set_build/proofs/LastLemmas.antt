-- The last of the blocks and its builder.
use Rattle.std.proofs.Common.{◌≡◌, ℕ, zero, suc, Bool, true, false, List, [], ◌∷◌, ◌++◌, length, get_or, set, refl, sym, ap, subst, arith}
use Rattle.set_build.specs.Builders.{Pairs, goes_in_last, with_last}

module _ {X B : Type 0} (P : X → B → Type 0) where
  -- the last block, its builder, and the others
  pub record Last (xs : List X) (bs : List B) (at : ℕ) (b : B) : Type 0 where
    pub closed : List X
    pub last : X
    pub is : xs ≡ closed ++ last ∷ []
    pub counted : length closed ≡ at
    pub holds : P last b
    pub changed : (x : X) (c : B) → P x c → Pairs P (closed ++ x ∷ []) (set bs at c)

  pub pairs-length : (xs : List X) (bs : List B) → Pairs P xs bs → length xs ≡ length bs
  pairs-length [] [] all = refl
  pairs-length [] (b ∷ bs) all = absurd all
  pairs-length (x ∷ xs) [] all = absurd all
  pairs-length (x ∷ xs) (b ∷ bs) all = ap suc (pairs-length xs bs all.1)

  alone : (x : X) (xs : List X) (c : B) (bs : List B) (b : B) → Pairs P (x ∷ xs) (c ∷ bs) → length xs ≡ 0 → b ≡ c
      → Last (x ∷ xs) (c ∷ bs) 0 b
  alone x [] c [] b all none same = record {
    closed = [];
    last = x;
    is = refl;
    counted = refl;
    holds = subst (P x) (sym same) all.0;
    changed = λ new d p. (p, tt);
  }
  alone x [] c (d ∷ bs) b all none same = absurd all.1
  alone x (y ∷ xs) c bs b all none same = absurd (omega (arith, none))

  pub last_of : (xs : List X) (bs : List B) (at : ℕ) (b : B) → Pairs P xs bs → suc at ≡ length bs → b ≡ get_or bs at b
      → Last xs bs at b
  last_of [] [] at b all counted same = absurd (omega (arith, counted))
  last_of [] (c ∷ bs) at b all counted same = absurd all
  last_of (x ∷ xs) [] at b all counted same = absurd all
  last_of (x ∷ xs) (c ∷ bs) zero b all counted same =
      let none : length xs ≡ 0 = omega (arith, pairs-length xs bs all.1, counted) in
      alone x xs c bs b all none same
  last_of (x ∷ []) (c ∷ bs) (suc at) b all counted same = absurd (omega (arith, pairs-length [] bs all.1, counted))
  last_of (x ∷ y ∷ xs) (c ∷ bs) (suc at) b all counted same =
      let rest = last_of (y ∷ xs) bs at b all.1 (omega (arith, counted)) same in
      record {
        closed = x ∷ rest.closed;
        last = rest.last;
        is = ap (λ (l : List X). x ∷ l) rest.is;
        counted = ap suc rest.counted;
        holds = rest.holds;
        changed = λ new d p. (all.0, rest.changed new d p);
      }

  pub pairs-more : (xs : List X) (bs : List B) (x : X) (b : B) → Pairs P xs bs → P x b → Pairs P (xs ++ x ∷ []) (bs ++ b ∷ [])
  pairs-more [] [] x b all p = (p, tt)
  pairs-more [] (c ∷ bs) x b all p = absurd all
  pairs-more (y ∷ xs) [] x b all p = absurd all
  pairs-more (y ∷ xs) (c ∷ bs) x b all p = (all.0, pairs-more xs bs x b all.1 p)

module _ {X : Type 0} (goes : X → Bool) where
  pub goes-last : (xs : List X) (x : X) → goes_in_last goes (xs ++ x ∷ []) ≡ goes x
  goes-last [] x = refl
  goes-last (y ∷ []) x = refl
  goes-last (y ∷ z ∷ xs) x = goes-last (z ∷ xs) x

  pub last-grown : (grown : X → X) (new : X) (xs : List X) (x : X) → goes x ≡ true
      → with_last goes grown new (xs ++ x ∷ []) ≡ xs ++ grown x ∷ []
  last-grown grown new [] x e = rw e refl
  last-grown grown new (y ∷ []) x e = rw e refl
  last-grown grown new (y ∷ z ∷ xs) x e = ap (λ (l : List X). y ∷ l) (last-grown grown new (z ∷ xs) x e)

  pub last-new : (grown : X → X) (new : X) (xs : List X) → goes_in_last goes xs ≡ false
      → with_last goes grown new xs ≡ xs ++ new ∷ []
  last-new grown new [] e = refl
  last-new grown new (y ∷ []) e = rw e refl
  last-new grown new (y ∷ z ∷ xs) e = ap (λ (l : List X). y ∷ l) (last-new grown new (z ∷ xs) e)
