-- A value in the last block, and in a new one.
use Rattle.std.proofs.Common.{◌≡◌, ℕ, suc, ◌+◌, ◌-◌, ◌<◌, ◌≤◌, Bool, true, false, List, [], ◌∷◌, ◌++◌, length, Result, Ok, Err, IfErr, refl, sym, ap, ◌∙◌, arith}
use Rattle.std.specs.Result.{IsOk}
use Rattle.std.proofs.lemmas.Bool.{le-leb, lt-leb, leb-true}
use Rattle.hse_fields.specs.declared.block.BlockFull.{BlockFull}
use Rattle.hse_fields.specs.BlockText.{header_size, values_text}
use Rattle.vblock.specs.declared.building.ValueBlockBuilder.{ValueBlockBuilder}
use Rattle.set_build.specs.SetText.{value_place}
use Rattle.set_build.specs.Builders.{Pairs, HoldsValues, has_room, goes_in_last, place_behind}
use Rattle.set_build.proofs.LastLemmas.{Last, goes-last}

pub none-goes : {X B : Type 0} (P : X → B → Type 0) (goes : X → Bool) (held : List X) (bs : List B) → Pairs P held bs → length bs ≡ 0
    → goes_in_last goes held ≡ false
none-goes P goes [] bs holds empty = refl
none-goes P goes (h ∷ hs) [] holds empty = absurd holds
none-goes P goes (h ∷ hs) (b ∷ bs) holds empty = absurd (omega (arith, empty))

pub some-there : {X B : Type 0} (P : X → B → Type 0) (goes : X → Bool) (held : List X) (bs : List B) → Pairs P held bs
    → goes_in_last goes held ≡ true → 1 ≤ length bs
some-there P goes [] bs holds there = absurd cc
some-there P goes (h ∷ hs) [] holds there = absurd holds
some-there P goes (h ∷ hs) (b ∷ bs) holds there = omega arith

pub place-last : (slot number len : ℕ) (closed : List (List (List ℕ))) (last : List (List ℕ)) → has_room slot len last ≡ true
    → place_behind slot number (closed ++ last ∷ []) len ≡ value_place (number + length closed) (header_size + length (values_text last)) len
place-last slot number len [] last goes = rw goes (ap (λ (n : ℕ). value_place n (header_size + length (values_text last)) len) (omega arith))
place-last slot number len (b ∷ []) last goes = rw goes (ap (λ (n : ℕ). value_place n (header_size + length (values_text last)) len) (omega arith))
place-last slot number len (b ∷ c ∷ closed) last goes =
    place-last slot (suc number) len (c ∷ closed) last goes
    ∙ ap (λ (n : ℕ). value_place n (header_size + length (values_text last)) len) (omega arith)

-- in a new block
pub place-new : (slot number len : ℕ) (held : List (List (List ℕ))) → goes_in_last (has_room slot len) held ≡ false
    → place_behind slot number held len ≡ value_place (number + length held) header_size len
place-new slot number len [] stays = ap (λ (n : ℕ). value_place n header_size len) (omega arith)
place-new slot number len (b ∷ []) stays = rw stays (ap (λ (n : ℕ). value_place n header_size len) (omega arith))
place-new slot number len (b ∷ c ∷ held) stays =
    place-new slot (suc number) len (c ∷ held) stays ∙ ap (λ (n : ℕ). value_place n header_size len) (omega arith)

-- a value that has room is taken
pub taken : (slot : ℕ) (block : List (List ℕ)) (len : ℕ) (result : Result ℕ BlockFull) → has_room slot len block ≡ true
    → IfErr result (λ full. (full.need ≡ 4 + len) × (full.room ≡ slot - (header_size + length (values_text block))) × (full.room < full.need))
    → IsOk result
taken slot block len (Ok offset) room full = refl
taken slot block len (Err refused) room full =
    absurd (omega (arith, leb-true _ _ room, full.0, full.1, full.2))

pub no_room_by : (slot len : ℕ) (held : List (List (List ℕ))) (bs : List ValueBlockBuilder) (at : ℕ) (b : ValueBlockBuilder)
    → (last : Last (HoldsValues slot) held bs at b) (room : ℕ) → room ≡ slot - (header_size + length (values_text last.last)) → room < 4 + len
    → goes_in_last (has_room slot len) held ≡ false
no_room_by slot len held bs at b last room is less =
    ap (goes_in_last (has_room slot len)) last.is
    ∙ goes-last (has_room slot len) last.closed last.last
    ∙ lt-leb (header_size + length (values_text last.last) + (4 + len)) slot (omega (arith, is, less, last.holds.0.within))

pub placed_at : (slot len : ℕ) (held : List (List (List ℕ))) (bs : List ValueBlockBuilder) (at : ℕ) (b : ValueBlockBuilder)
    → (last : Last (HoldsValues slot) held bs at b) (room : ℕ) → room ≡ slot - (header_size + length (values_text last.last)) → 4 + len ≤ room
    → (goes_in_last (has_room slot len) held ≡ true) × (value_place at (slot - room) len ≡ place_behind slot 0 held len)
placed_at slot len held bs at b last room is enough =
    let goes : has_room slot len last.last ≡ true = le-leb _ _ (omega (arith, is, enough, last.holds.0.within)) in
    let offset : slot - room ≡ header_size + length (values_text last.last) = omega (arith, is, enough, last.holds.0.within) in (
      ap (goes_in_last (has_room slot len)) last.is ∙ goes-last (has_room slot len) last.closed last.last ∙ goes,
      sym (
          ap (λ (l : List (List (List ℕ))). place_behind slot 0 l len) last.is
          ∙ place-last slot 0 len last.closed last.last goes
          ∙ ap (λ (n : ℕ). value_place n (header_size + length (values_text last.last)) len) (omega (arith, last.counted))
          ∙ ap (λ (n : ℕ). value_place at n len) (sym offset)
          ),
    )
