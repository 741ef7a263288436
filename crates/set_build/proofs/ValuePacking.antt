-- Values are packed as full as they go, and stand where their places say.
use Rattle.std.proofs.Common.{◌≡◌, ℕ, suc, ◌+◌, ◌-◌, ◌≤◌, Bool, true, false, cond, List, [], ◌∷◌, ◌++◌, length, refl, sym, ap, ◌∙◌, append_assoc, arith, length-append}
use Rattle.std.specs.List.{sum_by}
use Rattle.std.proofs.lemmas.List.{append-nil}
use Rattle.std.proofs.lemmas.List.Sums.{sum_by-cons}
use Rattle.std.proofs.lemmas.Bool.{le-leb, lt-leb, leb-true, leb-false}
use Rattle.hse_rows.specs.rows.Packing.{header_bytes}
use Rattle.hse_fields.specs.declared.block.ValuePlace.{ValuePlace}
use Rattle.hse_fields.specs.LogText.{sized}
use Rattle.hse_fields.specs.BlockText.{header_size, values_text}
use Rattle.set_build.specs.SetText.{value_bytes, value_blocks_of, value_place, places_in, places_of}
use Rattle.set_build.specs.Builders.{has_room, with_value, with_last, place_behind}
use Rattle.set_build.proofs.FilledLemmas.{goes, grown, filled-more}

pub text-long : (block : List (List ℕ)) → length (values_text block) ≡ sum_by value_bytes block
text-long [] = refl
text-long (v ∷ vs) = omega (arith, text-long vs, length-append (sized 4 v) (values_text vs), sum_by-cons value_bytes v vs)

pub one-long : (v : List ℕ) → value_bytes v ≡ suc (suc (suc (suc (length v))))
one-long v = refl

room-by : (slot : ℕ) (v : List ℕ) (block : List (List ℕ)) (b : Bool) → header_size ≤ slot → has_room slot (length v) block ≡ b
    → goes value_bytes (slot - header_bytes) v block ≡ b
room-by slot v block true large is =
    le-leb _ _ (omega (arith, large, leb-true (header_size + length (values_text block) + (4 + length v)) slot is, text-long block, one-long v))
room-by slot v block false large is =
    lt-leb _ _ (omega (arith, large, leb-false (header_size + length (values_text block) + (4 + length v)) slot is, text-long block, one-long v))

with-same : {X : Type 0} (p q : X → Bool) (f : X → X) (new : X) → ((x : X) → p x ≡ q x) → (xs : List X) → with_last p f new xs ≡ with_last q f new xs
with-same p q f new same [] = refl
with-same p q f new same (x ∷ []) = ap (λ (b : Bool). cond b (f x ∷ []) (x ∷ new ∷ [])) (same x)
with-same {X} p q f new same (x ∷ y ∷ xs) = ap (λ (l : List X). x ∷ l) (with-same p q f new same (y ∷ xs))

pub value-packed : (slot : ℕ) (vs : List (List ℕ)) (v : List ℕ) → header_size ≤ slot
    → value_blocks_of slot (vs ++ v ∷ []) ≡ with_value slot (value_blocks_of slot vs) v
value-packed slot vs v large =
    filled-more value_bytes (slot - header_bytes) vs v
    ∙ with-same (goes value_bytes (slot - header_bytes) v) (has_room slot (length v)) (grown value_bytes (slot - header_bytes) v) (v ∷ [])
    (λ block. room-by slot v block (has_room slot (length v) block) large refl) (value_blocks_of slot vs)

-- ---- places

places_in-more : (number offset : ℕ) (vs : List (List ℕ)) (v : List ℕ)
    → places_in number offset (vs ++ v ∷ []) ≡ places_in number offset vs ++ value_place number (offset + length (values_text vs)) (length v) ∷ []
places_in-more number offset [] v = ap (λ (n : ℕ). value_place number n (length v) ∷ []) (omega arith)
places_in-more number offset (w ∷ vs) v =
    ap (λ (l : List ValuePlace). value_place number offset (length w) ∷ l) (
    places_in-more number (offset + value_bytes w) vs v
    ∙ ap (λ (n : ℕ). places_in number (offset + value_bytes w) vs ++ value_place number n (length v) ∷ []) (omega (arith, length-append (sized 4 w) (values_text vs)))
    )

in-last : (slot number : ℕ) (block : List (List ℕ)) (v : List ℕ) (b : Bool)
    → places_of number (cond b ((block ++ v ∷ []) ∷ []) (block ∷ (v ∷ []) ∷ []))
    ≡ (places_in number header_bytes block ++ [])
    ++ cond b (value_place number (header_size + length (values_text block)) (length v)) (value_place (suc number) header_size (length v)) ∷ []
in-last slot number block v true =
    append-nil (places_in number header_bytes (block ++ v ∷ []))
    ∙ places_in-more number header_bytes block v
    ∙ ap (λ (l : List ValuePlace). l ++ value_place number (header_size + length (values_text block)) (length v) ∷ []) (sym (append-nil (places_in number header_bytes block)))
in-last slot number block v false =
    ap (λ (l : List ValuePlace). l ++ value_place (suc number) header_size (length v) ∷ []) (sym (append-nil (places_in number header_bytes block)))

pub places-more : (slot number : ℕ) (blocks : List (List (List ℕ))) (v : List ℕ)
    → places_of number (with_value slot blocks v) ≡ places_of number blocks ++ place_behind slot number blocks (length v) ∷ []
places-more slot number [] v = refl
places-more slot number (b ∷ []) v = in-last slot number b v (has_room slot (length v) b)
places-more slot number (b ∷ c ∷ blocks) v =
    ap (λ (l : List ValuePlace). places_in number header_bytes b ++ l) (places-more slot (suc number) (c ∷ blocks) v)
    ∙ sym (append_assoc (places_in number header_bytes b) (places_of (suc number) (c ∷ blocks)) (place_behind slot (suc number) (c ∷ blocks) (length v) ∷ []))
