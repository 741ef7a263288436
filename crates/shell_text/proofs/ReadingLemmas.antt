-- A fault that a reader hands on.
use Rattle.std.proofs.Common.{◌≡◌, Result, Err, subst, sym, ◌∙◌, ap}
use Rattle.shell_text.specs.declared.line.TextFault.{TextFault}
use Rattle.shell_text.specs.declared.line.TextFault.TheVariants.{BadLine, NoMemory}
use Rattle.shell_text.specs.Reading.{IsReading}

-- a part that has no value leaves the whole without one
pub handed_on : {A B : Type 0} (Has : A → Type 0) (Is : B → Type 0) (r : Result B TextFault) (fault : TextFault)
    → (e : TextFault) × (r ≡ Err e) × (e ≡ fault) → IsReading Has (Err fault)
    → ((whole : B) → Is whole → (part : A) × Has part) → IsReading Is r
handed_on {A} {B} Has Is r fault same reading part =
    subst (IsReading Is) (sym (same.1 ∙ ap (λ (e : TextFault). Err e) same.2)) (by_fault fault reading)
  where
    by_fault : (fault : TextFault) → IsReading Has (Err fault) → IsReading Is (Err fault)
    by_fault BadLine none = λ whole is. (let found = part whole is in none found.0 found.1)
    by_fault NoMemory none = tt
