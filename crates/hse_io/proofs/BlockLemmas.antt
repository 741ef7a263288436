-- A line that is read block by block: its beginning, and what the next block adds.
use Rattle.std.proofs.Common.{◌≡◌, ◌≢◌, ℕ, zero, suc, ◌+◌, ◌<◌, ◌≤◌, Bool, true, false, cond, eqb, List, [], ◌∷◌, ◌++◌, length, take, drop, Option, Some, None, IfSome, Result, Ok, Err, MatchResult, refl, sym, ap, ◌∙◌, arith, length-append, append_assoc}
use Rattle.std.proofs.lemmas.Bool.{cond-false}
use Rattle.std.proofs.lemmas.List.{take_all}
use Rattle.std.proofs.KnownBytes.{starts_with_rest}
use Rattle.std.specs.Io.{StartsWith}
use Rattle.std.specs.Io.KnownBytes.{Keeps, prepend_known}
use Rattle.std.specs.Io.BufRead.{DropsConsumable}
use Rattle.hse_io.specs.Lines.{first_line, after_line}
use Rattle.hse_io.specs.Longest.{longest_line}
use Rattle.hse_io.specs.ReadsOn.{IsOneLine, ReadsOn}
use Rattle.hse_io.specs.declared.std_source.Reached.{Reached}
use Rattle.hse_io.specs.declared.std_source.Reached.TheVariants.{LineFeed, Within, InputEnd}
use Rattle.hse_io.specs.declared.source.LineFault.{LineFault}
use Rattle.hse_io.specs.declared.source.LineFault.TheVariants.{Failed, TooLong}
use Rattle.hse_io.proofs.LineLemmas.{take-first_line, length-first_line_le, after_line-drop}

-- a beginning that is one line begins with no line feed, and goes on as one line
begun_parts : (feed : Bool) (b : ℕ) (line rest : List ℕ) → cond feed [] (b ∷ line) ≡ b ∷ rest → (feed ≡ false) × (line ≡ rest)
begun_parts true b line rest e = cc
begun_parts false b line rest e = (refl, cc)

-- the first line goes on behind a beginning that is one line
pub first_line-append : (begun rest : List ℕ) → IsOneLine begun → first_line (begun ++ rest) ≡ begun ++ first_line rest
first_line-append [] rest one = refl
first_line-append (b ∷ begun) rest one =
    let parts = begun_parts (eqb b 10) b (first_line begun) begun one in
    cond-false (eqb b 10) [] (b ∷ first_line (begun ++ rest)) parts.0 ∙ ap (λ l. b ∷ l) (first_line-append begun rest parts.1)

pub after_line-append : (begun rest : List ℕ) → IsOneLine begun → after_line (begun ++ rest) ≡ after_line rest
after_line-append [] rest one = refl
after_line-append (b ∷ begun) rest one =
    let parts = begun_parts (eqb b 10) b (first_line begun) begun one in
    cond-false (eqb b 10) (begun ++ rest) (after_line (begun ++ rest)) parts.0 ∙ after_line-append begun rest parts.1

-- a first line that ends within the beginning is the first line of the whole
pub first_line-found : (begun rest : List ℕ) → length (first_line begun) < length begun → first_line (begun ++ rest) ≡ first_line begun
first_line-found [] rest within = absurd (omega arith)
first_line-found (b ∷ begun) rest within = found_step (eqb b 10) b begun rest within (first_line-found begun rest)
  where
    found_step : (feed : Bool) (b : ℕ) (begun rest : List ℕ) → length (cond feed [] (b ∷ first_line begun)) < suc (length begun)
        → (length (first_line begun) < length begun → first_line (begun ++ rest) ≡ first_line begun)
        → cond feed [] (b ∷ first_line (begun ++ rest)) ≡ cond feed [] (b ∷ first_line begun)
    found_step true b begun rest within later = refl
    found_step false b begun rest within later = ap (λ l. b ∷ l) (later (omega arith))

-- bytes that are no longer than their first line are one line
pub IsOneLine-full : (bytes : List ℕ) → length bytes ≤ length (first_line bytes) → IsOneLine bytes
IsOneLine-full bytes full = sym (take-first_line bytes) ∙ take_all (length (first_line bytes)) bytes full

-- more bytes make the first line no shorter
pub length-first_line-append : (begun rest : List ℕ) → length (first_line begun) ≤ length (first_line (begun ++ rest))
length-first_line-append [] rest = omega arith
length-first_line-append (b ∷ begun) rest = longer_step (eqb b 10) b (first_line begun) (first_line (begun ++ rest)) (length-first_line-append begun rest)
  where
    longer_step : (feed : Bool) (b : ℕ) (line longer : List ℕ) → length line ≤ length longer → length (cond feed [] (b ∷ line)) ≤ length (cond feed [] (b ∷ longer))
    longer_step true b line longer le = omega arith
    longer_step false b line longer le = omega arith

-- two beginnings that are one line are one line together
pub IsOneLine-append : (begun more : List ℕ) → IsOneLine begun → IsOneLine more → IsOneLine (begun ++ more)
IsOneLine-append begun more one next = first_line-append begun more one ∙ ap (λ l. begun ++ l) next

take-nil : (n : ℕ) → take n (let none : List ℕ = [] in none) ≡ []
take-nil zero = refl
take-nil (suc n) = refl

-- what is held of a reader's bytes before it is taken: known bytes stay, begin with the block, and may lose it
pub record Holds (before filled : Option (List ℕ)) (limit : ℕ) (block : List ℕ) : Type 0 where
  pub starts : IfSome before (λ left. StartsWith left block)
  pub kept : Keeps before filled
  pub within : IfSome before (λ _. length block ≤ limit)

-- the block has the line's feed
pub feed_reached : (begun block line : List ℕ) (before filled after : Option (List ℕ)) (limit count : ℕ)
    → IsOneLine begun → Holds before filled limit block → DropsConsumable filled after (Some limit) (count + 1)
    → count ≡ length (first_line block) → count < length block → line ≡ begun ++ first_line block
    → IfSome before (λ left. (left ≢ []) × (line ≡ first_line (begun ++ left)) × (after ≡ Some (after_line (begun ++ left))))
feed_reached begun block line None filled after limit count one holds drops is within grown = tt
feed_reached begun block line (Some left) None after limit count one holds drops is within grown = absurd holds.kept
feed_reached begun block line (Some left) (Some kept) after limit count one holds drops is within grown =
    let split = starts_with_rest left block holds.starts in
    let rest = drop (length block) left in
    let found : first_line left ≡ first_line block = ap first_line split ∙ first_line-found block rest (omega arith) in
    let fits : length block ≤ limit = holds.within in
    let dropped = drops (omega arith) in (
      λ none. let e = ap (take (length block)) none in let empty : block ≡ [] = sym holds.starts ∙ e ∙ take-nil (length block) in
          absurd (omega (arith, ap length empty)),
      grown ∙ ap (λ l. begun ++ l) (sym found) ∙ sym (first_line-append begun left one),
      dropped ∙ ap (λ l. Some (drop (count + 1) l)) holds.kept ∙ ap (λ n. Some (drop (n + 1) left)) (is ∙ ap length (sym found))
          ∙ ap (λ l. Some l) (sym (after_line-drop left) ∙ sym (after_line-append begun left one)),
    )

-- the block has no line feed, and the line goes on
pub block_passed : (begun block line : List ℕ) (before filled after : Option (List ℕ)) (limit count : ℕ)
    → IsOneLine begun → Holds before filled limit block → DropsConsumable filled after (Some limit) count
    → count ≡ length (first_line block) → length block ≤ count → line ≡ begun ++ first_line block
    → Keeps (prepend_known begun before) (prepend_known line after)
block_passed begun block line None filled after limit count one holds drops is full grown = tt
block_passed begun block line (Some left) None after limit count one holds drops is full grown = absurd holds.kept
block_passed begun block line (Some left) (Some kept) after limit count one holds drops is full grown =
    let short : length (first_line block) ≤ length block = length-first_line_le block in
    let fits : length block ≤ limit = holds.within in
    let same : count ≡ length block = omega arith in
    let dropped : after ≡ Some (drop (length block) left) =
    drops (omega arith) ∙ ap (λ l. Some (drop count l)) holds.kept ∙ ap (λ n. Some (drop n left)) same in
    let line_is : line ≡ begun ++ block = grown ∙ ap (λ l. begun ++ l) (IsOneLine-full block (omega arith)) in
    rw (dropped, line_is) (append_assoc begun block (drop (length block) left) ∙ ap (λ l. begun ++ l) (sym (starts_with_rest left block holds.starts)))

-- such a block leaves one line
pub one_line_grown : (begun block line : List ℕ) (count : ℕ) → IsOneLine begun → count ≡ length (first_line block)
    → length block ≤ count → line ≡ begun ++ first_line block → IsOneLine line
one_line_grown begun block line count one is full grown =
    let whole : IsOneLine block = IsOneLine-full block (omega arith) in
    rw (grown ∙ ap (λ l. begun ++ l) whole) (IsOneLine-append begun block one whole)

-- a read that gave nothing and kept the bytes leaves them behind what was taken
pub passed_nothing : (begun : List ℕ) (before after : Option (List ℕ)) → Keeps before after
    → Keeps (prepend_known begun before) (prepend_known begun after)
passed_nothing begun None after kept = tt
passed_nothing begun (Some left) None kept = absurd kept
passed_nothing begun (Some left) (Some same) kept = ap (λ l. begun ++ l) kept

-- after a read that failed the line goes on, or all is open
pub reads_on_after_error : (goes_on stops : Type 0) (result : Result Reached LineFault) (begun : List ℕ) (before filled after : Option (List ℕ)) → IsOneLine begun
    → Keeps before filled → after ≡ filled → MatchResult result (λ reached. (reached ≡ Within) × goes_on) (λ fault. (fault ≡ Failed) × stops)
    → ReadsOn begun before result begun after
reads_on_after_error goes_on stops (Ok LineFeed) begun before filled after one kept is what = (let e = what.0 in cc)
reads_on_after_error goes_on stops (Ok InputEnd) begun before filled after one kept is what = (let e = what.0 in cc)
reads_on_after_error goes_on stops (Ok Within) begun before filled after one kept is what = (one, rw is (passed_nothing begun before filled kept))
reads_on_after_error goes_on stops (Err TooLong) begun before filled after one kept is what = (let e = what.0 in cc)
reads_on_after_error goes_on stops (Err Failed) begun before filled after one kept is what = tt

-- the line does not fit, whatever follows the block
pub too_long_reached : (begun block : List ℕ) (before filled : Option (List ℕ)) (limit : ℕ)
    → IsOneLine begun → Holds before filled limit block → longest_line < length begun + length (first_line block)
    → IfSome before (λ left. longest_line < length (first_line (begun ++ left)))
too_long_reached begun block None filled limit one holds over = tt
too_long_reached begun block (Some left) filled limit one holds over =
    let split = starts_with_rest left block holds.starts in
    let longer : length (first_line block) ≤ length (first_line left) =
    rw split (length-first_line-append block (drop (length block) left)) in
    rw (first_line-append begun left one) (omega (arith, length-append begun (first_line left)))
