-- Testing the values that keys name one after the other.
use Rattle.std.proofs.Common.{◌≡◌, ◌∙◌, true, false, ℕ, ◌+◌, List, [], ◌∷◌, length, Option, Some, None, Result, Ok, Err, refl, sym, ap}
use Rattle.std.specs.Prelude.{slice_get, is_some}
use Rattle.hse_fields.specs.declared.block.ValuePlace.{ValuePlace}
use Rattle.hse_fields.specs.BlockGiven.{lent}
use Rattle.hse_fields.specs.BlockText.{header_size, value_at, KeyEntry}
use Rattle.kblock.specs.Walking.{placed_pages}
use denote.Ref.{Bor}
use Rattle.kvset.specs.declared.block.SetFault.{SetFault}
use Rattle.kvset.specs.declared.block.SetFault.TheVariants.{Damaged, NoMemory}
use Rattle.kvset.specs.declared.keys.KeyPart.{KeyPart}
use Rattle.kvset.specs.Keys.{blocks_of, part_slots}
use Rattle.kvset.specs.Reading.{met_by, met_in, Refuses}
use Rattle.kvset.specs.Rows.{is_met}

pub lent_some : (o : Option (Bor (List ℕ))) → is_some o ≡ is_some (lent o)
lent_some (Some x) = refl
lent_some None = refl

-- ---- keys of a block

met_first : (slot : ℕ) (values : List (List (List ℕ))) (at : ℕ) (entry : KeyEntry) (rest : List (ℕ × KeyEntry)) → is_met values entry.value ≡ true
    → met_in slot values ((at, entry) ∷ rest) ≡ met_in slot values rest
met_first slot values at entry rest met = rw met refl

unmet_first : (slot : ℕ) (values : List (List (List ℕ))) (at : ℕ) (entry : KeyEntry) (rest : List (ℕ × KeyEntry)) → is_met values entry.value ≡ false
    → met_in slot values ((at, entry) ∷ rest) ≡ Err (slot, at + 11 + length entry.key)
unmet_first slot values at entry rest unmet = rw unmet refl

pub met_on : (slot : ℕ) (values : List (List (List ℕ))) (at : ℕ) (entry : KeyEntry) (walk rest : List (ℕ × KeyEntry)) (total : Result (Unit {0}) (ℕ × ℕ)) → walk ≡ (at, entry) ∷ rest
    → is_met values entry.value ≡ true → met_in slot values walk ≡ total → met_in slot values rest ≡ total
met_on slot values at entry walk rest total is met so_far =
    sym (met_first slot values at entry rest met) ∙ ap (met_in slot values) (sym is) ∙ so_far

pub met_not : (slot : ℕ) (values : List (List (List ℕ))) (at : ℕ) (entry : KeyEntry) (walk rest : List (ℕ × KeyEntry)) (total : Result (Unit {0}) (ℕ × ℕ)) → walk ≡ (at, entry) ∷ rest
    → is_met values entry.value ≡ false → met_in slot values walk ≡ total → total ≡ Err (slot, at + 11 + length entry.key)
met_not slot values at entry walk rest total is unmet so_far =
    sym so_far ∙ ap (met_in slot values) is ∙ unmet_first slot values at entry rest unmet

pub met_all : (slot : ℕ) (values : List (List (List ℕ))) (walk : List (ℕ × KeyEntry)) (total : Result (Unit {0}) (ℕ × ℕ)) → walk ≡ [] → met_in slot values walk ≡ total → total ≡ Ok tt
met_all slot values walk total none so_far = sym so_far ∙ ap (met_in slot values) none

-- ---- blocks

part_read : (values : List (List (List ℕ))) (part : KeyPart) (rest : List KeyPart) → met_in part.slot values (placed_pages header_size part.block) ≡ Ok tt
    → met_by (part_slots (part ∷ rest)) values (blocks_of (part ∷ rest)) ≡ met_by (part_slots rest) values (blocks_of rest)
unfolding met_by
part_read values part rest met = rw met refl

pub parts_on : (values : List (List (List ℕ))) (part : KeyPart) (parts rest : List KeyPart) (total : Result (Unit {0}) (ℕ × ℕ)) → parts ≡ part ∷ rest
    → met_in part.slot values (placed_pages header_size part.block) ≡ Ok tt → met_by (part_slots parts) values (blocks_of parts) ≡ total
    → met_by (part_slots rest) values (blocks_of rest) ≡ total
parts_on values part parts rest total is met so_far =
    sym (part_read values part rest met) ∙ ap (λ (l : List KeyPart). met_by (part_slots l) values (blocks_of l)) (sym is) ∙ so_far

pub parts_stop : (values : List (List (List ℕ))) (part : KeyPart) (parts rest : List KeyPart) (fault : SetFault) (total : Result (Unit {0}) (ℕ × ℕ)) → parts ≡ part ∷ rest
    → Refuses (met_in part.slot values (placed_pages header_size part.block)) fault → met_by (part_slots parts) values (blocks_of parts) ≡ total → Refuses total fault
unfolding met_by
parts_stop values part parts rest NoMemory total is e so_far = tt
parts_stop values part parts rest (Damaged slot place) total is e so_far =
    let one : met_by (part_slots (part ∷ rest)) values (blocks_of (part ∷ rest)) ≡ Err (slot, place) = rw e refl in
    sym so_far ∙ ap (λ (l : List KeyPart). met_by (part_slots l) values (blocks_of l)) is ∙ one

pub parts_end : (values : List (List (List ℕ))) (parts : List KeyPart) (total : Result (Unit {0}) (ℕ × ℕ)) → parts ≡ [] → met_by (part_slots parts) values (blocks_of parts) ≡ total
    → total ≡ Ok tt
unfolding met_by
parts_end values parts total none so_far = sym so_far ∙ ap (λ (l : List KeyPart). met_by (part_slots l) values (blocks_of l)) none

pub found_value : (values : List (List (List ℕ))) (place : ValuePlace) (block : List (List ℕ)) → slice_get values place.block ≡ Some block
    → is_met values (Some place) ≡ is_some (value_at block place.offset place.len)
found_value values place block is = rw is refl
