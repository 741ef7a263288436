use Rattle.std.proofs.Common.{◌≡◌, subst, List, ℕ, length, Err, arith, ap}
use Rattle.hse_fields.specs.BlockText.{header_size}
use Rattle.hse_fields.specs.BlockGiven.{lent}
use Rattle.hse_fields.specs.BlockReading.{pages_of}
use Rattle.hse_fields.specs.laws.BlockHeaders.{body_length}
use Rattle.kblock.specs.Reading.{passes}
use Rattle.kblock.proofs.OpeningLemmas.{header_refused, pages_refused}
use Rattle.std.specs.Prelude.{IfOk, Option, Result, Ok}
use Rattle.hse_fields.specs.declared.block.BlockHeader.{BlockHeader}
use Rattle.hse_fields.specs.declared.block.Damaged.{Damaged}
use Rattle.hse_fields.specs.BlockReading.{key_block_of}
use Rattle.hse_fields.specs.laws.Fields.{IsBytes}
use Rattle.kblock.specs.Form.{AreKeyPages}
use Rattle.kblock.specs.Opened.{pages_in}
use Rattle.kblock.proofs.TakesLemmas.{block_takes}
use Rattle.kblock.proofs.opening.test_block.Goals as goal

pub returns-in-Err-clause-refused : goal.returns-in-Err-clause-refused
returns-in-Err-clause-refused c = header_refused (lent c.args.last) c.args.bytes.now c.in-Err.damage.0 c.in-Err.ensures.told

pub test_pages-requires : goal.test_pages-requires
test_pages-requires c =
    let head = c.in-Ok.head in
    let long = body_length head.used c.args.bytes.now (omega (arith, c.in-Ok.ensures.pages)) c.in-Ok.ensures.within in
    omega (arith, ap length c.block_body-body.ensures, long, c.in-Ok.ensures.pages)

pub returns-in-Err-test_pages-clause-refused : goal.returns-in-Err-test_pages-clause-refused
returns-in-Err-test_pages-clause-refused c =
    let head = c.in-Ok.head in
    let place = c.in-Err-test_pages.damage.0 in
    pages_refused (lent c.args.last) c.args.bytes.now head c.in-Ok.ensures.told place
    (subst (λ (b : List ℕ). passes (pages_of header_size (lent c.args.last) head.pages b) ≡ Err place) c.block_body-body.ensures c.in-Err-test_pages.ensures)

-- what was read is of the block's form
known : (last : Option (List ℕ)) (bytes : List ℕ) (r : Result BlockHeader Damaged) → IsBytes bytes → IfOk r (λ head. key_block_of last bytes ≡ Ok (pages_in head.pages bytes))
    → IfOk r (λ head. AreKeyPages last (pages_in head.pages bytes))
known last bytes (Ok head) fits e = (block_takes last bytes (pages_in head.pages bytes) fits e).1
known last bytes (Err damage) fits e = tt

pub returns-in-Ok-test_pages-clause-known : goal.returns-in-Ok-test_pages-clause-known
returns-in-Ok-test_pages-clause-known c =
    known (lent c.args.last) c.args.bytes.now c.test_end.result (λ i. omega (arith, c.type_inv.bytes i)) c.test_end.ensures.read
