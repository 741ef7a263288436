-- What a crash leaves round a write, by what it could leave before.
use Rattle.std.proofs.Common.{◌≡◌, ◌⊎◌, inl, inr, ℕ, ◌+◌, ◌<◌, ◌≤◌, List, [], ◌∷◌, length, get_or, map, refl, sym, ◌∙◌, subst, arith, ltb, cond, Result, Ok, Err, OnOk, OnErr}
use Rattle.std.proofs.lemmas.Bool.{cases_lt, lt-ltb, le-ltb}
use Rattle.std.proofs.lemmas.List.{get_or_default}
use Rattle.std.proofs.lemmas.List.FromFn.{length-map-range_with_len, get_or-map-range_with_len}
use Rattle.std.specs.List.{range_with_len}
use Rattle.media_disk.specs.Content.{Torn}
use Rattle.media_disk.specs.Images.{IsImage}
use Rattle.gate_log.specs.Crashes.{IsTornFrom}
use Rattle.gate_log.specs.laws.Ranges.{torn_twice, torn_at, torn_from}
use Rattle.media_disk.specs.laws.Images.{torn_same, image_now}

-- bytes of a in the range, and of b elsewhere
abbrev mixed : ℕ → ℕ → List ℕ → List ℕ → ℕ → ℕ
mixed at n a b i = cond (ltb i at) (get_or b i 0) (cond (ltb i (at + n)) (get_or a i 0) (get_or b i 0))

mixed_in : (at n : ℕ) (a b : List ℕ) (i : ℕ) → at ≤ i → i < at + n → mixed at n a b i ≡ get_or a i 0
mixed_in at n a b i low high = rw (le-ltb i at low, lt-ltb i (at + n) high) refl

mixed_out : (at n : ℕ) (a b : List ℕ) (i : ℕ) → (i < at) ⊎ (at + n ≤ i) → mixed at n a b i ≡ get_or b i 0
mixed_out at n a b i (inl below) = rw (lt-ltb i at below) refl
mixed_out at n a b i (inr above) =
    let past : at ≤ i = omega arith in
    rw (le-ltb i at past, le-ltb i (at + n) above) refl

mixed_like : (at n p m : ℕ) (a b c : List ℕ) (i : ℕ) → Torn at n a b → Torn p m b c → i < length a → (i < p) ⊎ (p + m ≤ i)
    → mixed at n a c i ≡ get_or a i 0
mixed_like at n p m a b c i first second within out =
    elim (cases_lt i at) [
      | inl below ↦ mixed_out at n a c i (inl below) ∙ torn_at p m b c i 0 second out ∙ torn_at at n a b i 0 first (inl below)
      | inr past ↦ elim (cases_lt i (at + n)) [
        | inl short ↦ mixed_in at n a c i past short
        | inr above ↦ mixed_out at n a c i (inr above) ∙ torn_at p m b c i 0 second out ∙ torn_at at n a b i 0 first (inr above)
      ]
    ]

-- a write over torn bytes could have come before they were torn
torn_before : (at n p m : ℕ) (a b c : List ℕ) → Torn at n a b → Torn p m b c → (d : List ℕ) × Torn p m a d × Torn at n d c
torn_before at n p m a b c first second =
    let d = map (mixed at n a c) (range_with_len 0 (length a)) in
    let at_each : (i e : ℕ) → i < length a → get_or d i e ≡ mixed at n a c i =
    λ i e within. get_or-map-range_with_len (mixed at n a c) 0 (length a) i i e within (omega arith) in
    let long : length d ≡ length a = length-map-range_with_len (mixed at n a c) 0 (length a) in
    let same_long : length c ≡ length a = second.as_long ∙ first.as_long in (
      d,
      torn_from p m a d long (λ i e within out. at_each i e within ∙ mixed_like at n p m a b c i first second within out ∙ get_or_default a i 0 e within),
      torn_from at n d c (same_long ∙ sym long) (λ i e within out.
          let inside : i < length a = omega (arith, long) in
          let inside_c : i < length c = omega (arith, same_long, long) in
          get_or_default c i e 0 inside_c ∙ sym (mixed_out at n a c i out) ∙ sym (at_each i e inside)),
    )

pub torn_image : (ranges : List (ℕ × ℕ)) (at n : ℕ) (a b image : List ℕ) → Torn at n a b → IsImage b ranges image → IsTornFrom at n (IsImage a ranges) image
torn_image [] at n a b image torn is = record { old = a; was = refl; torn = subst (λ (l : List ℕ). Torn at n a l) (sym is) torn }
torn_image (range ∷ ranges) at n a b image torn (c, second, is) =
    let moved = torn_before at n range.0 range.1 a b c torn second in
    let rest = torn_image ranges at n moved.0 c image moved.2 is in
    record { old = rest.old; was = (moved.0, moved.1, rest.was); torn = rest.torn }

pub torn_after_write : (at n : ℕ) (a b image : List ℕ) (old new : List (ℕ × ℕ)) → Torn at n a b → new ≡ (at, n) ∷ old
    → IsImage b new image → IsTornFrom at n (IsImage a old) image
torn_after_write at n a b image old new torn pending is =
    let (c, second, rest) = subst (λ (rs : List (ℕ × ℕ)). IsImage b rs image) pending is in
    torn_image old at n a c image (torn_twice at n a b c torn second) rest

pub torn_after_error : (at n : ℕ) (a b : List ℕ) (old new : List (ℕ × ℕ)) → Torn at n a b
    → (new ≡ (at, n) ∷ old) ⊎ ((new ≡ old) × (b ≡ a)) → (image : List ℕ) → IsImage b new image → IsTornFrom at n (IsImage a old) image
torn_after_error at n a b old new torn (inl pending) image is = torn_after_write at n a b image old new torn pending is
torn_after_error at n a b old new torn (inr (pending, same)) image is = record {
  old = image;
  was = subst (λ (s : List ℕ). IsImage s old image) same (subst (λ (rs : List (ℕ × ℕ)). IsImage b rs image) pending is);
  torn = torn_same at n image;
}

pub torn_after_sync : {T E : Type 0} (result : Result T E) (at n : ℕ) (a b synced : List ℕ) (old between new : List (ℕ × ℕ)) → Torn at n a b
    → synced ≡ b → between ≡ (at, n) ∷ old → OnOk result (new ≡ []) → OnErr result (new ≡ between)
    → (image : List ℕ) → IsImage synced new image → IsTornFrom at n (IsImage a old) image
torn_after_sync (Ok v) at n a b synced old between new torn same pending durable failed image is = record {
  old = a;
  was = image_now a old;
  torn = subst (λ (l : List ℕ). Torn at n a l) (sym (subst (λ (rs : List (ℕ × ℕ)). IsImage synced rs image) durable is ∙ same)) torn;
}
torn_after_sync (Err e) at n a b synced old between new torn same pending durable failed image is =
    torn_after_write at n a b image old between torn pending
    (subst (λ (l : List ℕ). IsImage l between image) same (subst (λ (rs : List (ℕ × ℕ)). IsImage synced rs image) failed is))
