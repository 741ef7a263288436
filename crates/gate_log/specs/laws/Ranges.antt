-- Laws of bytes that are the same but for a range, and of their parts.
use Rattle.std.proofs.Common.{◌≡◌, ◌⊎◌, inl, inr, ⊎_elim, ℕ, ◌+◌, ◌-◌, ◌<◌, ◌≤◌, List, [], ◌∷◌, ◌++◌, length, get_or, take, drop, refl, sym, ◌∙◌, ap, arith, length-drop}
use Rattle.std.proofs.Math.Seq.{take-append-add}
use Rattle.std.proofs.lemmas.List.{same_lists, length-take, get_or-take, get_or-drop, take-take, drop-take, drop-drop, drop-append-le}
use Rattle.media_disk.specs.Content.{part, put_at, Torn}

-- two changes within one range
pub torn_twice : (at n : ℕ) (a b c : List ℕ) → Torn at n a b → Torn at n b c → Torn at n a c
torn_twice at n a b c first second = record {
  as_long = second.as_long ∙ first.as_long;
  before = second.before ∙ first.before;
  after = second.after ∙ first.after;
}

-- a byte outside the range
pub torn_at : (at n : ℕ) (a b : List ℕ) (i d : ℕ) → Torn at n a b → (i < at) ⊎ (at + n ≤ i) → get_or b i d ≡ get_or a i d
torn_at at n a b i d torn (inl low) =
    sym (get_or-take at b i d low) ∙ ap (λ (l : List ℕ). get_or l i d) torn.before ∙ get_or-take at a i d low
torn_at at n a b i d torn (inr high) =
    let j = i - (at + n) in
    let is : i ≡ at + n + j = omega arith in
    ap (λ (k : ℕ). get_or b k d) is ∙ sym (get_or-drop (at + n) b j d) ∙ ap (λ (l : List ℕ). get_or l j d) torn.after
    ∙ get_or-drop (at + n) a j d ∙ ap (λ (k : ℕ). get_or a k d) (sym is)

-- bytes that are the same outside the range
pub torn_from : (at n : ℕ) (a b : List ℕ) → length b ≡ length a
    → ((i d : ℕ) → i < length a → (i < at) ⊎ (at + n ≤ i) → get_or b i d ≡ get_or a i d) → Torn at n a b
torn_from at n a b long each = record {
  as_long = long;
  before = same_lists _ _ (omega (arith, length-take at a, length-take at b)) (λ k d h.
      let low : k < at = omega (arith, length-take at b) in
      let within : k < length a = omega (arith, length-take at b) in
      get_or-take at b k d low ∙ each k d within (inl low) ∙ sym (get_or-take at a k d low));
  after = same_lists _ _ (omega (arith, length-drop (at + n) a, length-drop (at + n) b)) (λ k d h.
      let within : at + n + k < length a = omega (arith, length-drop (at + n) b) in
      get_or-drop (at + n) b k d ∙ each (at + n + k) d within (inr (omega arith)) ∙ sym (get_or-drop (at + n) a k d));
}

-- a range within a wider one
pub torn_wider : (at n p m : ℕ) (a b : List ℕ) → at ≤ p → p + m ≤ at + n → Torn p m a b → Torn at n a b
torn_wider at n p m a b low high torn =
    torn_from at n a b torn.as_long (λ i d within out. torn_at p m a b i d torn (
    ⊎_elim (λ (below : i < at). inl (omega arith)) (λ (above : at + n ≤ i). inr (omega arith)) out))

-- the same within a part
pub torn_part : (at size p m : ℕ) (a b : List ℕ) → at ≤ p → p + m ≤ at + size → Torn p m a b
    → Torn (p - at) m (part a at size) (part b at size)
torn_part at size p m a b low high torn =
    torn_from (p - at) m (part a at size) (part b at size)
    (omega (arith, torn.as_long, length-take size (drop at a), length-take size (drop at b), length-drop at a, length-drop at b))
    (λ i d within out.
    let short : i < size = omega (arith, length-take size (drop at a)) in
    get_or-take size (drop at b) i d short ∙ get_or-drop at b i d
    ∙ torn_at p m a b (at + i) d torn (⊎_elim (λ (below : i < p - at). inl (omega arith)) (λ (above : p - at + m ≤ i). inr (omega arith)) out)
    ∙ sym (get_or-drop at a i d) ∙ sym (get_or-take size (drop at a) i d short))

-- a part that the range does not touch
pub torn_apart : (at size p m : ℕ) (a b : List ℕ) → (p + m ≤ at) ⊎ (at + size ≤ p) → Torn p m a b → part b at size ≡ part a at size
torn_apart at size p m a b apart torn =
    same_lists _ _
    (omega (arith, torn.as_long, length-take size (drop at a), length-take size (drop at b), length-drop at a, length-drop at b))
    (λ i d within.
    let short : i < size = omega (arith, length-take size (drop at b)) in
    get_or-take size (drop at b) i d short ∙ get_or-drop at b i d
    ∙ torn_at p m a b (at + i) d torn (⊎_elim (λ (below : p + m ≤ at). inr (omega arith)) (λ (above : at + size ≤ p). inl (omega arith)) apart)
    ∙ sym (get_or-drop at a i d) ∙ sym (get_or-take size (drop at a) i d short))

take_past : (xs ys : List ℕ) (m n : ℕ) → m ≡ length xs + n → take m (xs ++ ys) ≡ xs ++ take n ys
take_past xs ys m n is = ap (λ (k : ℕ). take k (xs ++ ys)) is ∙ take-append-add xs ys n

-- a write within a part
pub part-put : (s new : List ℕ) (at size p : ℕ) → at ≤ p → p + length new ≤ at + size → at + size ≤ length s
    → part (put_at s p new) at size ≡ put_at (part s at size) (p - at) new
part-put s new at size p low high fits =
    let l = length new in
    let k = size - (p - at) in
    let j = size - (p - at + l) in
    let front : drop at (take p s) ≡ take (p - at) (drop at s) =
    ap (λ (i : ℕ). drop at (take i s)) (let is : p ≡ at + (p - at) = omega arith in is) ∙ drop-take at (p - at) s in
    let long : length (take (p - at) (drop at s)) ≡ p - at = omega (arith, length-take (p - at) (drop at s), length-drop at s) in
    let reach : at ≤ length (take p s) = omega (arith, length-take p s) in
    let back : take j (drop (p + l) s) ≡ drop (p - at + l) (take size (drop at s)) =
    sym (ap (λ (i : ℕ). drop (p - at + l) (take i (drop at s))) (let is : size ≡ p - at + l + j = omega arith in is)
    ∙ drop-take (p - at + l) j (drop at s)
    ∙ ap (λ (l : List ℕ). take j l) (drop-drop (p - at + l) at s ∙ ap (λ (i : ℕ). drop i s) (let is : at + (p - at + l) ≡ p + l = omega arith in is))) in
    ap (λ (x : List ℕ). take size x) (drop-append-le at (take p s) (new ++ drop (p + l) s) reach ∙ ap (λ (x : List ℕ). x ++ (new ++ drop (p + l) s)) front)
    ∙ take_past (take (p - at) (drop at s)) (new ++ drop (p + l) s) size k (omega arith)
    ∙ ap (λ (x : List ℕ). take (p - at) (drop at s) ++ x) (take_past new (drop (p + l) s) k j (omega arith) ∙ ap (λ (x : List ℕ). new ++ x) back)
    ∙ ap (λ (x : List ℕ). x ++ (new ++ drop (p - at + l) (take size (drop at s)))) (sym (take-take (p - at) size (drop at s) (omega arith)))
