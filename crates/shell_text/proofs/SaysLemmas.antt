-- What words say, and that they say one thing.
use Rattle.std.proofs.Common.{◌≡◌, ◌≢◌, ℕ, ◌≤◌, ◌<◌, List, [], ◌∷◌, inl, inr, length, map, ap, sym, ◌∙◌, subst, arith, slice_index}
use denote.Ref.{Bor}
use Rattle.shell_text.specs.declared.line.Line.{Line}
use Rattle.shell_text.specs.declared.verb.Verb.{Verb}
use Rattle.shell_text.specs.Grammar.{spelling, AreWords, Says, IsSilent, IsSpoken, Means}
use Rattle.shell_text.specs.Verbs.{verb_word}
use Rattle.shell_text.specs.Words.{Word, this, spaced}
use Rattle.shell_text.proofs.VerbLemmas.{Fields, made, behind, first_is_verb, IsMade, is_made, same_word, letter}
use Rattle.shell_text.proofs.SpellingLemmas.{few_words, spelled_whole, same_kinds, one_made}
use Rattle.shell_text.proofs.WordLemmas.{kind, begun_with, as_many, words_whole, one_row}
use Rattle.shell_text.proofs.SpacedLemmas.{AreWhole, parts_of, parts_of-spaced}

-- the words are a verb and what stands behind it
pub record Begins (line : Line) (words : List (List ℕ)) : Type 0 where
  pub made_so : IsMade line
  pub rest : List (List ℕ)
  pub spelled : words ≡ verb_word made_so.verb ∷ rest
  pub told : Says (made made_so.verb made_so.fields) words

pub says_begins : (line : Line) (words : List (List ℕ)) → Says line words → Begins line words
says_begins line words says =
    let so = is_made line words says in
    let told = subst (λ (l : Line). Says l words) so.same says in
    let begun = begun_with (verb_word so.verb) (behind (spelling (made so.verb so.fields))) words
    (subst (λ (m : List Word). AreWords m words) (first_is_verb so.verb so.fields) told) in
    record { made_so = so; rest = begun.0; spelled = begun.1.0; told = told }

-- what words behind a verb are fields of
pub record Only (said : Verb) (rest : List (List ℕ)) : Type 0 where
  pub fields : Fields said
  pub told : Says (made said fields) (verb_word said ∷ rest)

only_for : (said other : Verb) (of : Fields other) (rest : List (List ℕ)) → other ≡ said → Says (made other of) (verb_word said ∷ rest) → Only said rest
only_for said other of rest same told =
    let moved = subst (λ (v : Verb). (of : Fields v) × Says (made v of) (verb_word said ∷ rest)) same (of, told) in
    record { fields = moved.0; told = moved.1 }

-- words that begin with a verb say lines of that verb
pub only : (said : Verb) (rest : List (List ℕ)) (line : Line) → Says line (verb_word said ∷ rest) → Only said rest
only said rest line says =
    let begins = says_begins line (verb_word said ∷ rest) says in
    let words : verb_word begins.made_so.verb ≡ verb_word said = cc begins.spelled in
    only_for said begins.made_so.verb begins.made_so.fields rest (same_word _ _ words) begins.told

one_of_verb : (said other : Verb) (of : Fields said) (else : Fields other) (words : List (List ℕ)) → other ≡ said → Says (made said of) words
    → Says (made other else) words → made said of ≡ made other else
one_of_verb said other of else words same p q =
    subst (λ (v : Verb). (g : Fields v) → Says (made v g) words → made said of ≡ made v g) (sym same) by_fields else q
  where
    by_fields : (g : Fields said) → Says (made said g) words → made said of ≡ made said g
    by_fields g told = one_made said of g (one_row _ _ words (same_kinds said of g words p told) p told)

-- words say one thing
pub one_said : (one other : Line) (words : List (List ℕ)) → Says one words → Says other words → one ≡ other
one_said one other words p q =
    let a = says_begins one words p in
    let b = says_begins other words q in
    let both : verb_word b.made_so.verb ∷ b.rest ≡ verb_word a.made_so.verb ∷ a.rest = sym b.spelled ∙ a.spelled in
    let first : verb_word b.made_so.verb ≡ verb_word a.made_so.verb = cc both in
    a.made_so.same
    ∙ one_of_verb a.made_so.verb b.made_so.verb a.made_so.fields b.made_so.fields words (same_word _ _ first) a.told b.told
    ∙ sym b.made_so.same

-- no line of the grammar has more than six words
pub few_said : (line : Line) (words : List (List ℕ)) → Says line words → length words < 7
few_said line words says =
    let begins = says_begins line words says in
    let as_spelled = as_many _ words begins.told in
    let few = few_words begins.made_so.verb begins.made_so.fields in omega (arith, as_spelled, few)

-- what a line's words say, the parts between its spaces say
pub spoken_parts : (line : List ℕ) (asked : Line) → IsSpoken line asked → Says asked (parts_of line)
spoken_parts line asked spoken =
    let begins = says_begins asked spoken.words spoken.said in
    let some : spoken.words ≢ [] = λ none. (let odd : [] ≡ verb_word begins.made_so.verb ∷ begins.rest = sym none ∙ begins.spelled in cc odd) in
    let whole = words_whole _ spoken.words (spelled_whole begins.made_so.verb begins.made_so.fields) begins.told in
    let parts : parts_of line ≡ spoken.words = ap parts_of spoken.spelled ∙ parts_of-spaced spoken.words some whole in
    subst (Says asked) (sym parts) spoken.said

-- a line of words begins as its first word
spaced-first : (word : List ℕ) (words : List (List ℕ)) → 97 ≤ slice_index word 0 → 97 ≤ slice_index (spaced (word ∷ words)) 0
spaced-first word [] h = h
spaced-first [] (next ∷ words) h = omega (arith, h)
spaced-first (byte ∷ word) (next ∷ words) h = h

-- a line with a verb is not silent
pub no_silent : (line : List ℕ) (asked : Line) → IsSilent line → IsSpoken line asked → ⊥
no_silent line asked silent spoken =
    let begins = says_begins asked spoken.words spoken.said in
    let spelled : line ≡ spaced (verb_word begins.made_so.verb ∷ begins.rest) = spoken.spelled ∙ ap spaced begins.spelled in
    let first : 97 ≤ slice_index line 0 =
    subst (λ (l : List ℕ). 97 ≤ slice_index l 0) (sym spelled) (spaced-first (verb_word begins.made_so.verb) begins.rest (letter begins.made_so.verb)) in
    quiet line silent first
  where
    quiet : (line : List ℕ) → IsSilent line → 97 ≤ slice_index line 0 → ⊥
    quiet line (inl empty) first = let none : 97 ≤ 0 = subst (λ (l : List ℕ). 97 ≤ slice_index l 0) empty first in omega arith
    quiet line (inr marked) first = let hash : 97 ≤ 35 = subst (λ (l : List ℕ). 97 ≤ slice_index l 0) marked.1 first in omega arith

pub one_meaning : (line : List ℕ) (one other : Line) → Means line one → Means line other → one ≡ other
one_meaning line one other (inl p) (inl q) = p.1 ∙ sym q.1
one_meaning line one other (inl p) (inr q) = absurd (no_silent line other p.0 q)
one_meaning line one other (inr p) (inl q) = absurd (no_silent line one q.0 p)
one_meaning line one other (inr p) (inr q) = one_said one other (parts_of line) (spoken_parts line one p) (spoken_parts line other q)
