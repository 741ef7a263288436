-- What reading a set came to.
use Rattle.std.proofs.Common.{◌≡◌, ◌∙◌, true, false, Bool, ℕ, suc, ◌+◌, List, [], ◌∷◌, ◌++◌, length, map, None, Result, Ok, Err, refl, sym, ap, arith, length-append}
use Rattle.std.specs.List.{flat_map}
use Rattle.hse_fields.specs.BlockText.{header_size, KeyEntry, PrefixEntry, key_text}
use Rattle.hse_rows.specs.writes.Lengths.{longest_value_in}
use Rattle.hse_fields.specs.BlockReading.{value_block_of}
use Rattle.kblock.specs.Opened.{entries_of}
use Rattle.kblock.specs.Walking.{placed_keys, placed_pages}
use Rattle.prefix_delete.specs.declared.entry.Entry.{Entry}
use Rattle.prefix_delete.specs.Blocks.{in_block, of_block}
use Rattle.kvset.specs.declared.block.Block.{Block}
use Rattle.kvset.specs.declared.block.SetFault.{SetFault}
use Rattle.kvset.specs.declared.block.SetFault.TheVariants.{Damaged, NoMemory}
use Rattle.kvset.specs.declared.keys.KeyPart.{KeyPart}
use Rattle.kvset.specs.Keys.{all_keys, blocks_of, keys_in, part_slots}
use Rattle.kvset.specs.Reading.{◌>>=◌, in_slot, Contents, met_by, met_in, pages_of, prefixes_of, set_over, slots_of, values_of, Refuses}
use Rattle.std.specs.Arc.{arc_value}
use Rattle.kvset.specs.declared.values.Values.{Values}
use Rattle.kvset.specs.declared.values.Values.TheVariants.{Unread, Open}
use Rattle.kvset.specs.Parts.{slots_given, values_given, AreSlotted}
use Rattle.kvset.specs.Rows.{is_met, AreMet}
use Rattle.kvset.proofs.ListLemmas.{map_long}

of_in_block : (xs : List Entry) → map of_block (map in_block xs) ≡ xs
of_in_block [] = refl
of_in_block (x ∷ xs) = ap (λ (l : List Entry). x ∷ l) (of_in_block xs)

keys_by_parts : (parts : List KeyPart) → flat_map entries_of (blocks_of parts) ≡ all_keys parts
keys_by_parts [] = refl
keys_by_parts (p ∷ ps) = ap (λ (l : List KeyEntry). keys_in p ++ l) (keys_by_parts ps)

-- ---- where reading is refused

module _ (ps ks : List Block) (slots : List ℕ) (read : Result (List (List (List ℕ))) (ℕ × ℕ)) where
  pub prefixes_refuse : (fault : SetFault) → Refuses (prefixes_of None ps) fault → Refuses (set_over ps ks slots read) fault
  unfolding set_over
  prefixes_refuse NoMemory e = tt
  prefixes_refuse (Damaged slot place) e = rw e refl

  module _ (prefixes : List PrefixEntry) (p : prefixes_of None ps ≡ Ok prefixes) where
    pub keys_refuse : (fault : SetFault) → Refuses (pages_of None ks) fault → Refuses (set_over ps ks slots read) fault
    unfolding set_over
    keys_refuse NoMemory e = tt
    keys_refuse (Damaged slot place) e = rw (p, e) refl

    module _ (pages : List (List (List KeyEntry))) (k : pages_of None ks ≡ Ok pages) where
      pub values_refuse : (fault : SetFault) → Refuses read fault → Refuses (set_over ps ks slots read) fault
      unfolding set_over
      values_refuse NoMemory e = tt
      values_refuse (Damaged slot place) e = rw (p, k, e) refl

      module _ (values : List (List (List ℕ))) (v : read ≡ Ok values) where
        pub meeting_refuses : (fault : SetFault) → Refuses (met_by (slots_of ks) values pages) fault → Refuses (set_over ps ks slots read) fault
        unfolding set_over
        meeting_refuses NoMemory e = tt
        meeting_refuses (Damaged slot place) e = rw (p, k, v, e) refl

        set_made : met_by (slots_of ks) values pages ≡ Ok tt → set_over ps ks slots read ≡ Ok (record {
          slots = slots_of ps ++ (slots_of ks ++ slots);
          shape = (length ps, length ks, length values);
          prefixes = map of_block prefixes;
          keys = flat_map entries_of pages;
          values = values;
        })
        unfolding set_over
        set_made e = rw (p, k, v, e) refl

pub set_is : (ps ks : List Block) (slots : List ℕ) (read : Result (List (List (List ℕ))) (ℕ × ℕ)) (prefixes : List Entry) (parts : List KeyPart) (values : List (List (List ℕ)))
    → prefixes_of None ps ≡ Ok (map in_block prefixes) → pages_of None ks ≡ Ok (blocks_of parts) → read ≡ Ok values → met_by (slots_of ks) values (blocks_of parts) ≡ Ok tt
    → set_over ps ks slots read ≡ Ok (record {
      slots = slots_of ps ++ (slots_of ks ++ slots);
      shape = (length ps, length ks, length values);
      prefixes = prefixes;
      keys = all_keys parts;
      values = values;
    })
set_is ps ks slots read prefixes parts values p k v m =
    set_made ps ks slots read (map in_block prefixes) p (blocks_of parts) k values v m
    ∙ ap (λ (x : List Entry × List KeyEntry). Ok (record {
      slots = slots_of ps ++ (slots_of ks ++ slots);
      shape = (length ps, length ks, length values);
      prefixes = x.0;
      keys = x.1;
      values = values;
    }))
    (ap (λ (l : List Entry). (l, flat_map entries_of (blocks_of parts))) (of_in_block prefixes) ∙ ap (λ (l : List KeyEntry). (prefixes, l)) (keys_by_parts parts))

-- ---- the values that are there

abbrev is_ok_of : Result (Unit {0}) (ℕ × ℕ) → Bool
is_ok_of (Ok x) = true
is_ok_of (Err spot) = false

refused_is : (spot : ℕ × ℕ) (r : Result (Unit {0}) (ℕ × ℕ)) → r ≡ Err spot → r ≡ Ok tt → ⊥
refused_is spot r e m = let both : false ≡ true = sym (ap is_ok_of e) ∙ ap is_ok_of m in cc

first_met : (slot : ℕ) (values : List (List (List ℕ))) (at : ℕ) (e : KeyEntry) (rest : List (ℕ × KeyEntry)) → met_in slot values ((at, e) ∷ rest) ≡ Ok tt
    → (is_met values e.value ≡ true) × (met_in slot values rest ≡ Ok tt)
first_met slot values at e rest met = by (is_met values e.value) refl met
  where
    by : (test : Bool) → is_met values e.value ≡ test → met_in slot values ((at, e) ∷ rest) ≡ Ok tt → (is_met values e.value ≡ true) × (met_in slot values rest ≡ Ok tt)
    by true is m = (is, sym (let one : met_in slot values ((at, e) ∷ rest) ≡ met_in slot values rest = rw is refl in one) ∙ m)
    by false is m =
        let one : met_in slot values ((at, e) ∷ rest) ≡ Err (slot, at + 11 + length e.key) = rw is refl in
        absurd (refused_is (slot, at + 11 + length e.key) (met_in slot values ((at, e) ∷ rest)) one m)

page_met : (slot : ℕ) (values : List (List (List ℕ))) (at : ℕ) (es : List KeyEntry) (rest : List (ℕ × KeyEntry)) → met_in slot values (placed_keys at es ++ rest) ≡ Ok tt
    → AreMet values es × (met_in slot values rest ≡ Ok tt)
page_met slot values at [] rest met = (tt, met)
page_met slot values at (e ∷ es) rest met =
    let first = first_met slot values at e (placed_keys (at + length (key_text e)) es ++ rest) met in
    let more = page_met slot values (at + length (key_text e)) es rest first.1 in
    ((first.0, more.0), more.1)

both_met : (values : List (List (List ℕ))) (xs ys : List KeyEntry) → AreMet values xs → AreMet values ys → AreMet values (xs ++ ys)
both_met values [] ys a b = b
both_met values (x ∷ xs) ys a b = (a.0, both_met values xs ys a.1 b)

pages_met : (slot : ℕ) (values : List (List (List ℕ))) (start : ℕ) (pages : List (List KeyEntry)) → met_in slot values (placed_pages start pages) ≡ Ok tt → AreMet values (entries_of pages)
pages_met slot values start [] met = tt
pages_met slot values start (p ∷ ps) met =
    let first = page_met slot values (start + 2) p (placed_pages (start + 4096) ps) met in
    both_met values p (entries_of ps) first.0 (pages_met slot values (start + 4096) ps first.1)

block_met : (slot : ℕ) (slots : List ℕ) (values : List (List (List ℕ))) (pages : List (List KeyEntry)) (blocks : List (List (List KeyEntry)))
    → met_by (slot ∷ slots) values (pages ∷ blocks) ≡ Ok tt → (met_in slot values (placed_pages header_size pages) ≡ Ok tt) × (met_by slots values blocks ≡ Ok tt)
unfolding met_by
block_met slot slots values pages blocks met = by (met_in slot values (placed_pages header_size pages)) refl met
  where
    by : (r : Result (Unit {0}) (ℕ × ℕ)) → met_in slot values (placed_pages header_size pages) ≡ r → (r >>= λ m. met_by slots values blocks) ≡ Ok tt
        → (met_in slot values (placed_pages header_size pages) ≡ Ok tt) × (met_by slots values blocks ≡ Ok tt)
    by (Ok x) is m = (is, m)
    by (Err spot) is m = absurd cc

pub parts_met : (values : List (List (List ℕ))) (parts : List KeyPart) → met_by (part_slots parts) values (blocks_of parts) ≡ Ok tt → AreMet values (all_keys parts)
parts_met values [] met = tt
parts_met values (p ∷ ps) met =
    let first = block_met p.slot (part_slots ps) values p.block (blocks_of ps) met in
    both_met values (keys_in p) (all_keys ps) (pages_met p.slot values header_size p.block first.0) (parts_met values ps first.1)

-- ---- how many there are

bind_ok : {A B : Type 0} (r : Result A (ℕ × ℕ)) (f : A → Result B (ℕ × ℕ)) (y : B) → (r >>= f) ≡ Ok y → (x : A) × (f x ≡ Ok y)
bind_ok (Ok x) f y e = (x, e)
bind_ok (Err spot) f y e = absurd cc

abbrev made : List (List (List ℕ)) → Result (List (List (List ℕ))) (ℕ × ℕ)
made x = Ok x

ok_values : (x y : List (List (List ℕ))) → made x ≡ made y → x ≡ y
ok_values x y e = cc

abbrev opened : Contents → Result Contents (ℕ × ℕ)
opened x = Ok x

pub values_counted : (slot : ℕ) (vs : List Block) (values : List (List (List ℕ))) → values_of slot vs ≡ Ok values → length values ≡ length vs
unfolding values_of
values_counted slot [] values e = ap length (sym (ok_values [] values e))
values_counted slot (b ∷ bs) values e =
    let a = bind_ok (in_slot b.slot (value_block_of (longest_value_in slot) b.bytes.items)) (λ v. values_of slot bs >>= λ others. Ok (v ∷ others)) values e in
    let more = others_of bs a.0 values a.1 in
    ap length (sym more.1) ∙ ap suc (values_counted slot bs more.0 more.2)
  where
    others_of : (bs : List Block) (v : List (List ℕ)) (values : List (List (List ℕ))) → (values_of slot bs >>= λ others. Ok (v ∷ others)) ≡ Ok values
        → (others : List (List (List ℕ))) × (v ∷ others ≡ values) × (values_of slot bs ≡ Ok others)
    others_of bs v values e = by (values_of slot bs) refl e
      where
        by : (r : Result (List (List (List ℕ))) (ℕ × ℕ)) → values_of slot bs ≡ r → (r >>= λ others. Ok (v ∷ others)) ≡ Ok values
            → (others : List (List (List ℕ))) × (v ∷ others ≡ values) × (values_of slot bs ≡ Ok others)
        by (Ok others) is e = (others, ok_values (v ∷ others) values e, is)
        by (Err spot) is e = absurd cc

pub slots_counted : {X : Type 0} (value : X → List (List ℕ)) (given : Values) (blocks : List X) → AreSlotted given → values_given given ≡ Ok (map value blocks)
    → length (slots_given given) ≡ length blocks
slots_counted value (Unread slot read) blocks slotted e =
    map_long (λ (b : Block). b.slot) read.items ∙ sym (values_counted slot read.items (map value blocks) e) ∙ map_long value blocks
slots_counted value (Open slots opened) blocks slotted e =
    slotted ∙ sym (map_long arc_value opened.items) ∙ ap length (ok_values (map arc_value opened.items) (map value blocks) e) ∙ map_long value blocks

pub parts_counted : (parts : List KeyPart) (blocks : List Block) → part_slots parts ≡ slots_of blocks → length parts ≡ length blocks
parts_counted parts blocks e =
    sym (map_long (λ (p : KeyPart). p.slot) parts) ∙ ap length e ∙ map_long (λ (b : Block). b.slot) blocks

pub slots_long : (ps ks : List Block) (more slots : List ℕ) (p k v : ℕ) → slots_of ps ++ (slots_of ks ++ more) ≡ slots → length ps ≡ p → k ≡ length ks → length more ≡ v
    → length slots ≡ (p + k) + v
slots_long ps ks more slots p k v are a b c =
    let front = map_long (λ (block : Block). block.slot) ps in
    let middle = map_long (λ (block : Block). block.slot) ks in
    omega (arith, ap length are, length-append (slots_of ps) (slots_of ks ++ more), length-append (slots_of ks) more, front, middle, a, b, c)

pub contents_are : (slots slots' : List ℕ) (p p' k k' v v' : ℕ) (prefixes : List Entry) (keys : List KeyEntry) (values : List (List (List ℕ)))
    → slots ≡ slots' → p ≡ p' → k ≡ k' → v ≡ v'
    → opened (record { slots = slots; shape = (p, k, v); prefixes = prefixes; keys = keys; values = values })
    ≡ opened (record { slots = slots'; shape = (p', k', v'); prefixes = prefixes; keys = keys; values = values })
contents_are slots slots' p p' k k' v v' prefixes keys values a b c d =
    ap (λ (l : List ℕ). opened (record { slots = l; shape = (p, k, v); prefixes = prefixes; keys = keys; values = values })) a
    ∙ ap (λ (n : ℕ). opened (record { slots = slots'; shape = (n, k, v); prefixes = prefixes; keys = keys; values = values })) b
    ∙ ap (λ (n : ℕ). opened (record { slots = slots'; shape = (p', n, v); prefixes = prefixes; keys = keys; values = values })) c
    ∙ ap (λ (n : ℕ). opened (record { slots = slots'; shape = (p', k', n); prefixes = prefixes; keys = keys; values = values })) d
