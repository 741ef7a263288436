-- A number's text is ASCII, is read as the number, and is the number's only text.
use Rattle.std.proofs.Common.{◌≡◌, ℕ, List, ◌^◌, ◌<◌, decimal, Result, Ok, Err, subst, sym, ◌∙◌, ap}
use Rattle.std.proofs.lemmas.Bool.{false≢true}
use Rattle.std.proofs.lemmas.Fmt.{parse-decimal, IsAscii-decimal}
use Rattle.std.proofs.lemmas.Slice.Eq.{bytes_eq-Decides}
use Rattle.std.proofs.lemmas.Str.{IsUtf8-from_ascii}
use Rattle.std.specs.Str.{IsUtf8}
use Rattle.std.specs.Str.Parse.{ParsesUnsigned}
use Rattle.shell_text.proofs.words.number.Goals as goal

-- the number read is the one whose text it is
read_again : {E : Type 0} (value number : ℕ) (text word : List ℕ) (r : Result ℕ E) → r ≡ Ok number → text ≡ word → word ≡ decimal value
    → value < 2 ^ 64 → ParsesUnsigned 64 10 text r → number ≡ value
read_again value number text word r was same is small parses =
    let read : r ≡ Ok value = parse-decimal 64 value text r small small (same ∙ is) parses in
    let again : Ok number ≡ Ok value = sym was ∙ read in cc again

no_fault : {E : Type 0} (value : ℕ) (fault : E) (text word : List ℕ) → text ≡ word → word ≡ decimal value → value < 2 ^ 64
    → ParsesUnsigned {E = E} 64 10 text (Err fault) → ⊥
no_fault {E} value fault text word same is small parses =
    let read : Err fault ≡ Ok value = parse-decimal 64 value text (Err fault) small small (same ∙ is) parses in cc

pub returns-in_default : goal.returns-in_default
returns-in_default c = λ value is.
    c.in_default.ensures.cases.0 (subst IsUtf8 (sym is.0) (IsUtf8-from_ascii (decimal value) (IsAscii-decimal value is.1)))

pub returns-in_default-parse : goal.returns-in_default-parse
returns-in_default-parse c = λ value is.
    no_fault value c.in_default-parse.field-0 c.in-Ok.text.now c.args.word.now c.in-Ok.ensures.cases.0 is.0 is.1 c.in_default-parse.ensures.value.0

pub returns-else-eq : goal.returns-else-eq
returns-else-eq c = λ value is.
    let number = read_again value c.in-Ok-parse.number c.in-Ok.text.now c.args.word.now c.parse.result c.in-Ok-parse.is c.in-Ok.ensures.cases.0 is.0 is.1 c.parse.ensures.value.0 in
    let text : c.as_bytes.result.now ≡ c.args.word.now =
    c.as_bytes.ensures.value ∙ c.format.ensures.text ∙ ap decimal number ∙ sym is.0 in
    false≢true (sym c.if-eq.false ∙ c.eq.ensures ∙ (bytes_eq-Decides c.as_bytes.result.now c.args.word.now).1 text)
