-- A line and the parts between its spaces.
use Rattle.std.proofs.Common.{◌≡◌, ◌≢◌, ℕ, ◌<◌, ◌≤◌, List, [], ◌∷◌, inl, inr, Result, Ok, Err, length, take, get_or, subst, sym, ◌∙◌, ap, arith}
use Rattle.std.proofs.lemmas.List.{length-take, take_all}
use Rattle.std.proofs.lemmas.List.Splits.{join_with_byte-slice_split}
use denote.Ref.{Bor}
use Rattle.shell_text.specs.declared.line.Line.{Line}
use Rattle.shell_text.specs.declared.line.TextFault.{TextFault}
use Rattle.shell_text.specs.declared.line.TextFault.TheVariants.{BadLine, NoMemory}
use Rattle.shell_text.specs.declared.verb.Verb.{Verb}
use Rattle.shell_text.specs.Grammar.{Says, IsSilent, Means}
use Rattle.shell_text.specs.Reading.{IsReading}
use Rattle.shell_text.specs.Texts.{texts}
use Rattle.shell_text.specs.Verbs.{verb_word}
use Rattle.shell_text.proofs.SaysLemmas.{says_begins, few_said, spoken_parts}
use Rattle.shell_text.proofs.SpacedLemmas.{parts_of}

-- no words say nothing
pub no_words : (words : List (Bor (List ℕ))) → length words < 1 → (line : Line) → ¬ (Says line (texts words))
no_words [] none line says =
    let begins = says_begins line [] says in let odd : [] ≡ verb_word begins.made_so.verb ∷ begins.rest = begins.spelled in cc odd
no_words (word ∷ words) none line says = absurd (omega (arith, none))

-- where the first word is no verb, the words say nothing
pub no_verb : (words : List (Bor (List ℕ))) (d : Bor (List ℕ)) → 1 ≤ length words
    → ((verb : Verb) → (get_or words 0 d).now ≢ verb_word verb) → (line : Line) → ¬ (Says line (texts words))
no_verb [] d some none line says = absurd (omega (arith, some))
no_verb (word ∷ words) d some none line says =
    let begins = says_begins line (texts (word ∷ words)) says in
    let first : word.now ≡ verb_word begins.made_so.verb = cc begins.spelled in
    none begins.made_so.verb first

-- the first seven parts say what all parts say
says_all : (line : Line) (parts : List (List ℕ)) → Says line (take 7 parts) → Says line parts
says_all line parts says =
    let few = few_said line (take 7 parts) says in
    let short : length parts ≤ 7 = omega (arith, length-take 7 parts) in
    subst (Says line) (take_all 7 parts short) says

says_first : (line : Line) (parts : List (List ℕ)) → Says line parts → Says line (take 7 parts)
says_first line parts says =
    let few = few_said line parts says in
    let short : length parts ≤ 7 = omega arith in
    subst (Says line) (sym (take_all 7 parts short)) says

-- a reading of the parts of a line that is not silent is a reading of the line
pub line_read : (line : List ℕ) (words : List (List ℕ)) (r : Result Line TextFault) → ¬ (IsSilent line) → words ≡ take 7 (parts_of line)
    → IsReading (λ asked. Says asked words) r → IsReading (λ asked. Means line asked) r
line_read line words (Ok asked) loud cut says =
    inr record {
      words = parts_of line;
      spelled = sym (join_with_byte-slice_split 32 line);
      said = says_all asked (parts_of line) (subst (Says asked) cut says);
    }
line_read line words (Err NoMemory) loud cut none = tt
line_read line words (Err BadLine) loud cut none = by_case
  where
    by_case : (asked : Line) → ¬ (Means line asked)
    by_case asked (inl silent) = loud silent.0
    by_case asked (inr spoken) =
        none asked (subst (Says asked) (sym cut) (says_first asked (parts_of line) (spoken_parts line asked spoken)))
