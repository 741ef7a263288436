-- A fault in one of the words behind a verb.
use Rattle.std.proofs.Common.{◌≡◌, ◌≢◌, IsTrue, true, false, ℕ, ◌<◌, List, [], ◌∷◌, Result, Ok, Err, length, map, get_or, take, drop, take_all, length-drop, ◌-◌, arith, suc, subst, sym, ◌∙◌, ap, refl}
use denote.Ref.{Bor}
use Rattle.shell_text.specs.declared.line.Actor.{Actor}
use Rattle.shell_text.specs.declared.line.Line.{Line}
use Rattle.shell_text.specs.declared.line.TextFault.{TextFault}
use Rattle.shell_text.specs.declared.line.TextFault.TheVariants.{BadLine, NoMemory}
use Rattle.shell_text.specs.declared.verb.Verb.{Verb}
use Rattle.shell_text.specs.declared.verb.Verb.TheVariants as verb
use Rattle.shell_text.specs.Grammar.{AreWords, Says}
use Rattle.shell_text.specs.Reading.{IsReading}
use Rattle.shell_text.specs.Texts.{texts}
use Rattle.shell_text.specs.Verbs.{verb_word, takes_a_name}
use Rattle.shell_text.specs.Words.{Word, no_word, IsWord}
use Rattle.shell_text.proofs.ReadingLemmas.{handed_on}
use Rattle.shell_text.proofs.SaysLemmas.{Only, only}
use Rattle.shell_text.proofs.ShapeLemmas.{one_name, of_key, of_seek}
use Rattle.shell_text.proofs.VerbLemmas.{Fields, made}
use Rattle.shell_text.proofs.WordLemmas.{word_at, as_many}

-- where a word stands for nothing, the words do not stand for all that they should
pub word_fails : {A B : Type 0} (part : A → Word) (meant : B → List Word) (words : List (Bor (List ℕ))) (place : ℕ) (d : Bor (List ℕ))
    (fault : TextFault) (r : Result B TextFault) → (e : TextFault) × (r ≡ Err e) × (e ≡ fault)
    → IsReading (λ of. IsWord (part of) (get_or words place d).now) (Err fault) → place < length words
    → ((whole : B) → (of : A) × (get_or (meant whole) place no_word ≡ part of))
    → IsReading (λ whole. AreWords (meant whole) (texts words)) r
word_fails {A} {B} part meant words place d fault r same none below at =
    handed_on _ _ r fault same none found
  where
    found : (whole : B) → AreWords (meant whole) (texts words) → (of : A) × IsWord (part of) (get_or words place d).now
    found whole says =
        let is = at whole in
        (is.0, subst (λ (w : Word). IsWord w (get_or words place d).now) is.1 (word_at (meant whole) words place d says below))

same_number : (words : List (Bor (List ℕ))) → length (texts words) ≡ length words
same_number [] = refl
same_number (word ∷ words) = ap suc (same_number words)

-- more or fewer words than they should be
pub other_length : {B : Type 0} (meant : B → List Word) (words : List (Bor (List ℕ))) (many : ℕ) → ((whole : B) → length (meant whole) ≡ many)
    → length words ≢ many → (whole : B) → ¬ (AreWords (meant whole) (texts words))
other_length meant words many so other whole says =
    other (sym (same_number words) ∙ as_many (meant whole) (texts words) says ∙ so whole)

-- behind who asks stand a name and a key
key_behind : (whole : Actor × List ℕ × List ℕ) (words : List (Bor (List ℕ))) → AreWords (of_key whole) (texts words)
    → AreWords (of_seek (whole.1, whole.2)) (texts (drop 1 words))
key_behind whole [] says = absurd says
key_behind whole (word ∷ words) says = says.1

-- where these two words are not there, neither are the three
pub key_fails : (words : List (Bor (List ℕ))) (fault : TextFault) (r : Result (Actor × List ℕ × List ℕ) TextFault)
    → (e : TextFault) × (r ≡ Err e) × (e ≡ fault) → IsReading (λ of. AreWords (of_seek of) (texts (take (length words - 1) (drop 1 words)))) (Err fault)
    → IsReading (λ whole. AreWords (of_key whole) (texts words)) r
key_fails words fault r same none =
    handed_on _ _ r fault same none (λ whole says. (
      (whole.1, whole.2),
      subst (λ (behind : List (Bor (List ℕ))). AreWords (of_seek (whole.1, whole.2)) (texts behind)) (sym all_behind) (key_behind whole words says),
    ))
  where
    all_behind : take (length words - 1) (drop 1 words) ≡ drop 1 words
    all_behind = take_all _ _ (omega (arith, length-drop 1 words))

-- where the words behind a verb are not what they should, there is no line
pub line_fails : {B : Type 0} (said : Verb) (meant : B → List Word) (rest : List (List ℕ)) (fault : TextFault) (r : Result Line TextFault)
    → (e : TextFault) × (r ≡ Err e) × (e ≡ fault) → IsReading (λ whole. AreWords (meant whole) rest) (Err fault)
    → ((of : Fields said) → Says (made said of) (verb_word said ∷ rest) → (whole : B) × AreWords (meant whole) rest)
    → IsReading (λ line. Says line (verb_word said ∷ rest)) r
line_fails {B} said meant rest fault r same none behind =
    handed_on _ _ r fault same none found
  where
    found : (line : Line) → Says line (verb_word said ∷ rest) → (whole : B) × AreWords (meant whole) rest
    found line says = let this = only said rest line says in behind this.fields this.told

-- nor is there where the one name behind a verb is not there
pub named_fails : (said : Verb) → IsTrue (takes_a_name said) → (rest : List (List ℕ)) (fault : TextFault) (r : Result Line TextFault)
    → (e : TextFault) × (r ≡ Err e) × (e ≡ fault) → IsReading (λ whole. AreWords (one_name whole) rest) (Err fault)
    → IsReading (λ line. Says line (verb_word said ∷ rest)) r
named_fails verb.DropStore takes rest fault r same none = line_fails verb.DropStore one_name rest fault r same none (λ of says. (of, says.1))
named_fails verb.Begin takes rest fault r same none = line_fails verb.Begin one_name rest fault r same none (λ of says. (of, says.1))
named_fails verb.Commit takes rest fault r same none = line_fails verb.Commit one_name rest fault r same none (λ of says. (of, says.1))
named_fails verb.Abort takes rest fault r same none = line_fails verb.Abort one_name rest fault r same none (λ of says. (of, says.1))
named_fails verb.Read takes rest fault r same none = line_fails verb.Read one_name rest fault r same none (λ of says. (of, says.1))
named_fails verb.Update takes rest fault r same none = line_fails verb.Update one_name rest fault r same none (λ of says. (of, says.1))
named_fails verb.CloseCursor takes rest fault r same none = line_fails verb.CloseCursor one_name rest fault r same none (λ of says. (of, says.1))
named_fails other takes rest fault r same none = (let odd : false ≡ true = takes in cc odd)

-- nothing stands for no words
pub none_behind : (rest : List (List ℕ)) → AreWords [] rest → rest ≡ []
none_behind [] says = refl
none_behind (word ∷ rest) says = absurd says

alone_so : (said : Verb) (line : Line) (rest : List (List ℕ)) (r : Result Line TextFault)
    → ((of : Fields said) → Says (made said of) (verb_word said ∷ rest) → AreWords [] rest) → Says line (verb_word said ∷ [])
    → IsReading (λ read. (read ≡ line) × (rest ≡ [])) r → IsReading (λ read. Says read (verb_word said ∷ rest)) r
alone_so said line rest (Ok read) none says is =
    subst (λ (words : List (List ℕ)). Says read (verb_word said ∷ words)) (sym is.1)
    (subst (λ (l : Line). Says l (verb_word said ∷ [])) (sym is.0) says)
alone_so said line rest (Err NoMemory) none says is = tt
alone_so said line rest (Err BadLine) none says is =
    λ read told. (let this = only said rest read told in is line (refl, none_behind rest (none this.fields this.told)))

-- a verb alone
pub alone_read : (verb said : Verb) (line : Line) (rest : List (List ℕ)) (r : Result Line TextFault) → verb ≡ said
    → ((of : Fields said) → Says (made said of) (verb_word said ∷ rest) → AreWords [] rest) → Says line (verb_word said ∷ [])
    → IsReading (λ read. (read ≡ line) × (rest ≡ [])) r → IsReading (λ read. Says read (verb_word verb ∷ rest)) r
alone_read verb said line rest r same none says is =
    subst (λ (v : Verb). IsReading (λ read. Says read (verb_word v ∷ rest)) r) (sym same) (alone_so said line rest r none says is)
