-- What a source has taken once its line is there.
use Rattle.std.proofs.Common.{◌≡◌, ◌≢◌, ℕ, ◌+◌, ◌≤◌, List, [], ◌++◌, length, drop, min, Option, Some, None, Ok, IfSome, sym, ap, ◌∙◌, append-nil}
use Rattle.std.proofs.lemmas.List.{drop-drop, drop_min}
use Rattle.std.specs.Io.KnownBytes.{Keeps, prepend_known}
use Rattle.hse_io.specs.Longest.{longest_line}
use Rattle.hse_io.specs.Lines.{first_line, after_line}
use Rattle.hse_io.specs.ReadsOn.{IsOneLine, ReadsOn}
use Rattle.hse_io.specs.Takes.{Takes}
use Rattle.hse_io.specs.declared.std_source.Reached.TheVariants.{InputEnd}
use Rattle.hse_io.specs.declared.source.Got.TheVariants.{Text}
use Rattle.hse_io.proofs.LineLemmas.{after_line-drop}
use Rattle.hse_io.proofs.BlockLemmas.{after_line-append}

-- the first line of what stands from a place on, and what is left after it
pub takes_first : (bytes slice line : List ℕ) (at count step : ℕ) → slice ≡ drop at bytes → length slice ≢ 0
    → count ≡ length (first_line slice) → line ≡ first_line slice → length line ≤ longest_line → step ≡ min (count + 1) (length slice)
    → Takes (drop at bytes) (Ok Text) line (Some (drop (at + step) bytes))
takes_first bytes slice line at count step slice_is some is line_is fits step_is =
    let left = drop at bytes in
    let count_is : count ≡ length (first_line left) = is ∙ ap (λ l. length (first_line l)) slice_is in
    let step_on : step ≡ min (count + 1) (length left) = step_is ∙ ap (λ l. min (count + 1) (length l)) slice_is in (
      λ none. some (ap length (slice_is ∙ none)),
      line_is ∙ ap first_line slice_is,
      fits,
      ap (λ l. Some l) (
          sym (drop-drop step at bytes) ∙ ap (λ n. drop n left) step_on ∙ drop_min (count + 1) left
          ∙ ap (λ n. drop (n + 1) left) count_is ∙ sym (after_line-drop left)
          ),
    )

-- a last line without a line feed
pub takes_last : (begun line : List ℕ) (before told rest : Option (List ℕ)) → IsOneLine begun → length begun ≤ longest_line
    → Keeps before (prepend_known begun told) → ReadsOn begun told (Ok InputEnd) line rest → length line ≢ 0
    → IfSome before (λ input. Takes input (Ok Text) line rest)
takes_last begun line None told rest one fits kept reads some = tt
takes_last begun line (Some input) None rest one fits kept reads some = absurd kept
takes_last begun line (Some input) (Some left) rest one fits kept reads some =
    let input_is : input ≡ begun = sym kept ∙ ap (λ l. begun ++ l) reads.1.0 ∙ append-nil begun in
    let none_after : after_line begun ≡ [] = ap after_line (sym (append-nil begun)) ∙ after_line-append begun [] one in (
      λ none. some (ap length (reads.0 ∙ sym input_is ∙ none)),
      reads.0 ∙ sym one ∙ ap first_line (sym input_is),
      rw reads.0 fits,
      reads.1.1 ∙ ap (λ l. Some l) (sym none_after ∙ ap after_line (sym input_is)),
    )
