-- The blocks that are finished, and those that are still to be.
use Rattle.std.proofs.Common.{◌≡◌, ℕ, List, [], ◌∷◌, ◌++◌, map, Vec, sym, ap, subst, ◌∙◌, append_assoc}
use Rattle.std.specs.declared.alloc.Global.{Global}
use Rattle.std.proofs.lemmas.List.{map-append, append-nil}
use Rattle.set_build.specs.Builders.{Pairs}
use Rattle.set_build.specs.Packs.{bytes_of}

module _ {X B : Type 0} (P : X → B → Type 0) (text : X → List ℕ) where
  -- these blocks are left, and with them all are there
  pub record Left (held : List X) (bs : List B) (done : List (Vec ℕ Global)) : Type 0 where
    pub rest : List X
    pub holds : Pairs P rest bs
    pub all : bytes_of done ++ map text rest ≡ map text held

  -- the next one
  pub record Next (held : List X) (b : B) (bs : List B) (done : List (Vec ℕ Global)) : Type 0 where
    pub block : X
    pub holds : P block b
    pub finished : (bytes : Vec ℕ Global) → bytes.items ≡ text block → Left held bs (done ++ bytes ∷ [])

  next_by : (held : List X) (b : B) (bs : List B) (done : List (Vec ℕ Global)) (rest : List X) → Pairs P rest (b ∷ bs)
      → bytes_of done ++ map text rest ≡ map text held → Next held b bs done
  next_by held b bs done [] holds all = absurd holds
  next_by held b bs done (x ∷ xs) holds all = record {
    block = x;
    holds = holds.0;
    finished = λ bytes same. record {
      rest = xs;
      holds = holds.1;
      all =
          ap (λ (l : List (List ℕ)). l ++ map text xs) (map-append (λ (v : Vec ℕ Global). v.items) done (bytes ∷ []))
          ∙ append_assoc (bytes_of done) (bytes.items ∷ []) (map text xs)
          ∙ ap (λ (l : List ℕ). bytes_of done ++ l ∷ map text xs) same
          ∙ all;
    };
  }

  done_by : (held : List X) (done : List (Vec ℕ Global)) (rest : List X) → Pairs P rest [] → bytes_of done ++ map text rest ≡ map text held
      → bytes_of done ≡ map text held
  done_by held done [] holds all = sym (append-nil (bytes_of done)) ∙ all
  done_by held done (x ∷ xs) holds all = absurd holds

  pub next_of : (held : List X) (b : B) (bs : List B) (done : List (Vec ℕ Global)) → Left held (b ∷ bs) done → Next held b bs done
  next_of held b bs done left = next_by held b bs done left.rest left.holds left.all

  pub all_done : (held : List X) (bs : List B) (done : List (Vec ℕ Global)) → Left held bs done → bs ≡ [] → bytes_of done ≡ map text held
  all_done held bs done left ended = done_by held done left.rest (subst (Pairs P left.rest) ended left.holds) left.all
