-- How long the text of changes is, and what writes are that were read.
use Rattle.std.specs.Prelude.{◌≡◌, ℕ, ◌+◌, Bool, List, [], ◌∷◌, length, None, Ok}
use Rattle.std.specs.List.Sorted.{IsStrictlySortedBy}
use Rattle.std.specs.List.{flat_map}
use Rattle.std.proofs.Common.{refl, ap, ◌∙◌, arith, length-append}
use Rattle.std.proofs.lemmas.List.Sums.{sum_by-cons}
use Rattle.hse_fields.specs.LogText.{change_text}
use Rattle.hse_fields.specs.LogReading.{more_changes_of}
use Rattle.hse_fields.specs.laws.AllChanges.{more_changes_take}
use Rattle.hse_fields.specs.laws.Fields.{IsBytes}
use Rattle.hse_rows.specs.writes.NormalForm.{write_cmp}
use Rattle.wal.proofs.OrderLemmas.{rising}
use Rattle.hse_rows.specs.writes.Charge.{change_bytes, writes_bytes, charge_of}
use Rattle.hse_rows.specs.declared.change.Change.{Change}
use Rattle.hse_rows.specs.declared.change.Change.TheVariants.{Put, Del, PDel}
use Rattle.hse_rows.specs.declared.write.Write.{Write}
use Rattle.wal.specs.Logged.{logged, logged_change, logged_all, charge}

length-change : (store : ℕ) (c : Change) → length (change_text (logged_change store c)) ≡ change_bytes c
length-change store (Put key value) = grind (arith, length-append {A = ℕ})
length-change store (Del key) = grind (arith, length-append {A = ℕ})
length-change store (PDel prefix) = grind (arith, length-append {A = ℕ})

pub length-logged : (w : Write) → length (change_text (logged w)) ≡ change_bytes w.change
length-logged w = length-change w.store.0 w.change

pub length-all : (ws : List Write) → length (flat_map change_text (logged_all ws)) ≡ writes_bytes ws
length-all [] = refl
length-all (w ∷ ws) =
    let one = length-logged w in
    let more = length-all ws in
    let sum = sum_by-cons (λ (v : Write). change_bytes v.change) w ws in
    omega (arith, length-append (change_text (logged w)) (flat_map change_text (logged_all ws)), one, more, sum)

-- What an entry takes of the room is what its writes are charged.
pub charge_is : (number : ℕ) (ws : List Write) → charge (record { number = number; changes = logged_all ws }) ≡ charge_of ws
charge_is number ws = let all = length-all ws in omega (arith, all)

-- ---- writes that were read

-- they are in the order of a normal form
pub writes_rise : (prefix_fits : ℕ → ℕ → Bool) (most count : ℕ) (bytes : List ℕ) (ws : List Write) (rest : List ℕ) → IsBytes bytes
    → more_changes_of prefix_fits most None count bytes ≡ Ok (logged_all ws, rest) → IsStrictlySortedBy write_cmp ws
writes_rise prefix_fits most count bytes ws rest small read =
    rising ws (more_changes_take prefix_fits most None count bytes (logged_all ws, rest) small read).in_order

-- and so long as what was read
pub writes_long : (prefix_fits : ℕ → ℕ → Bool) (most count : ℕ) (bytes : List ℕ) (ws : List Write) (rest : List ℕ) → IsBytes bytes
    → more_changes_of prefix_fits most None count bytes ≡ Ok (logged_all ws, rest) → writes_bytes ws + length rest ≡ length bytes
writes_long prefix_fits most count bytes ws rest small read =
    let taken = (more_changes_take prefix_fits most None count bytes (logged_all ws, rest) small read).taken in
    let long = ap length taken.parts ∙ length-append (flat_map change_text (logged_all ws)) rest in
    omega (arith, long, length-all ws)
