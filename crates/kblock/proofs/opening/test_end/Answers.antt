use Rattle.std.proofs.Common.{◌≡◌, ◌∙◌, ◌*◌, arith, drop, subst, ap, List, ℕ, Ok, Err}
use Rattle.hse_fields.specs.BlockText.{header_size, page_size}
use Rattle.hse_fields.specs.BlockGiven.{lent}
use Rattle.hse_fields.specs.BlockReading.{counts_of, pages_of}
use Rattle.kblock.specs.Opened.{body_with, numbers_with, pages_in}
use Rattle.kblock.specs.Reading.{passes}
use Rattle.kblock.proofs.OpeningLemmas.{block_opened, header_is, read_alone, block_read, numbers_refused}
use Rattle.kblock.proofs.TakesLemmas.{pages_are}
use Rattle.kblock.proofs.opening.test_end.Goals as goal

pub returns-in-Ok-clause-formed : goal.returns-in-Ok-clause-formed
returns-in-Ok-clause-formed c =
    let head = c.args.head in
    let bytes = c.args.bytes.now in
    let read = subst (λ (b : List ℕ). passes (pages_of header_size (lent c.args.last) head.pages b) ≡ Ok tt) c.requires.body c.requires.read in
    let behind : c.split_at.result.1.now ≡ numbers_with head.pages bytes = c.split_at.ensures.back ∙ ap (drop (page_size * head.pages)) c.requires.body in
    let counted = subst (λ (b : List ℕ). counts_of 0 head.pages b c.split_at.result.1.now ≡ Ok tt) c.requires.body c.in-Ok.ensures.gives in
    let alone = read_alone (lent c.args.last) bytes head c.requires.header read in
    let used = (header_is bytes head c.requires.header).used in
    let are = pages_are head.pages bytes (pages_in head.pages bytes) (λ i. omega (arith, c.type_inv.bytes i)) (omega (arith, used, c.requires.within)) alone in
    block_opened (lent c.args.last) bytes head c.requires.header read c.requires.within are
    (subst (λ (b : List ℕ). counts_of 0 head.pages (body_with head.pages bytes) b ≡ Ok tt) behind counted)

pub returns-in-Ok-clause-read : goal.returns-in-Ok-clause-read
returns-in-Ok-clause-read c =
    let head = c.args.head in
    let bytes = c.args.bytes.now in
    let read = subst (λ (b : List ℕ). passes (pages_of header_size (lent c.args.last) head.pages b) ≡ Ok tt) c.requires.body c.requires.read in
    let behind : c.split_at.result.1.now ≡ numbers_with head.pages bytes = c.split_at.ensures.back ∙ ap (drop (page_size * head.pages)) c.requires.body in
    let counted = subst (λ (b : List ℕ). counts_of 0 head.pages b c.split_at.result.1.now ≡ Ok tt) c.requires.body c.in-Ok.ensures.gives in
    block_read (lent c.args.last) bytes head c.requires.header read
    (subst (λ (b : List ℕ). counts_of 0 head.pages (body_with head.pages bytes) b ≡ Ok tt) behind counted)

pub returns-in-Err-clause-refused : goal.returns-in-Err-clause-refused
returns-in-Err-clause-refused c =
    let head = c.args.head in
    let bytes = c.args.bytes.now in
    let left = c.in-Err.refusal.left in
    let read = subst (λ (b : List ℕ). passes (pages_of header_size (lent c.args.last) head.pages b) ≡ Ok tt) c.requires.body c.requires.read in
    let behind : c.split_at.result.1.now ≡ numbers_with head.pages bytes = c.split_at.ensures.back ∙ ap (drop (page_size * head.pages)) c.requires.body in
    let counted = subst (λ (b : List ℕ). counts_of 0 head.pages b c.split_at.result.1.now ≡ Err left) c.requires.body c.in-Err.ensures.gives in
    rw c.placed.ensures
    (numbers_refused (lent c.args.last) bytes head c.requires.header read left
    (subst (λ (b : List ℕ). counts_of 0 head.pages (body_with head.pages bytes) b ≡ Err left) behind counted))
