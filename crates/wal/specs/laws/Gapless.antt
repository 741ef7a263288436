-- No free number is skipped by entries that follow one another; and entries that skip none may follow one another.
use Rattle.std.proofs.Common.{◌≡◌, ◌≢◌, ◌⊎◌, ℕ, ◌+◌, ◌<◌, ◌≤◌, ◌==◌, true, List, [], ◌∷◌, refl, sym, subst, arith, inl, inr}
use Rattle.std.specs.Prelude.{nat_le}
use Rattle.std.specs.List.{All, AllByRecursion, Contains}
use Rattle.std.specs.List.Sorted.{IsStrictlySortedBy, IsStrictlyIncreasing}
use Rattle.std.specs.Ordering.{nat_cmp}
use Rattle.std.specs.declared.cmp.Ordering.TheVariants.{Less}
use Rattle.std.proofs.lemmas.Bool.{cases_lt, eq-eqb, le-leb, and_from}
use Rattle.std.proofs.lemmas.List.Elements.{All-contains, recursion_from_All}
use Rattle.std.proofs.lemmas.List.Sums.{sum_by-cons}
use Rattle.std.proofs.lemmas.Map.Keys.{sorted_from_strictly_increasing}
use Rattle.hse_fields.specs.LogText.{Entry}
use Rattle.hse_fields.specs.LogReading.{Follow}
use Rattle.wal.specs.Charges.{charges}
use Rattle.wal.specs.Logged.{charge}
use Rattle.wal.specs.Numbering.{Numbers, free_from, taken_from, last_number, is_next, numbering}
use Rattle.wal.specs.Taken.{numbers_of, NoneFree, MayFollow}
use Rattle.wal.specs.declared.live.StorePrefix.{StorePrefix}
use Rattle.wal.specs.laws.Numbering.{known_after, comes}
use Rattle.wal.specs.laws.Free.{free_least, free_lacks, taken_rises, less, Lacks, IsIn, in_from, in_to, not_in, free_fills, still_taken, still_lacks, behind_it}

-- ---- entries that skip none

-- numbers that rise strictly, by what stands behind each
abbrev Above : ℕ → List ℕ → Type 0
Above n ns = AllByRecursion (λ y. nat_cmp n y ≡ Less) ns

above_in : (n m : ℕ) (ns : List ℕ) → Above n ns → IsIn m ns → n < m
above_in n m [] above h = absurd h
above_in n m (k ∷ ns) above (inl e) = let lt = less n k above.0 in omega (arith, lt, e)
above_in n m (k ∷ ns) above (inr h) = above_in n m ns above.1 h

first_or_above : (m n : ℕ) (ns : List ℕ) → Above n ns → m < n → IsIn m (n ∷ ns) → ⊥
first_or_above m n ns above lt (inl e) = absurd (omega (arith, lt, e))
first_or_above m n ns above lt (inr h) = let more = above_in n m ns above h in absurd (omega (arith, lt, more))

-- a number behind the first one is where it was
passed_on : (m n : ℕ) (old new ns : List ℕ) → n < m → (IsIn m old → IsIn m new) → IsIn m old ⊎ IsIn m (n ∷ ns) → IsIn m new ⊎ IsIn m ns
passed_on m n old new ns lt keeps (inl h) = inl (keeps h)
passed_on m n old new ns lt keeps (inr h) = inr (behind_it m n ns lt h)

turned : (n : ℕ) (taken ns : List ℕ) → Contains taken n ⊎ Contains ns n → IsIn n taken ⊎ IsIn n ns
turned n taken ns (inl h) = inl (in_from n taken h)
turned n taken ns (inr h) = inr (in_from n ns h)

all_lacking : (ts ns : List ℕ) → AllByRecursion (λ (n : ℕ). All (λ (t : ℕ). t ≢ n) ts) ns → AllByRecursion (λ (n : ℕ). Lacks n ts) ns
all_lacking ts [] all = tt
all_lacking ts (n ∷ ns) all = (recursion_from_All (λ (t : ℕ). t ≢ n) ts all.0, all_lacking ts ns all.1)

pub record Gapless (state : Numbers) (ns : List ℕ) : Type 0 where
  pub rising : IsStrictlySortedBy nat_cmp ns
  pub untaken : AllByRecursion (λ (n : ℕ). Lacks n state.taken) ns
  pub least : AllByRecursion (λ (n : ℕ). state.next ≤ n) ns
  pub full : (n number : ℕ) → state.next ≤ n → n < number → IsIn number ns → IsIn n state.taken ⊎ IsIn n ns
  pub small : AllByRecursion (λ (n : ℕ). n ≤ last_number) ns

-- no free number stands before the first of them
none_before : (state : Numbers) (n : ℕ) (ns : List ℕ) → IsStrictlySortedBy nat_cmp state.taken → Gapless state (n ∷ ns)
    → free_from state.next state.taken < n → ⊥
unfolding IsStrictlySortedBy
none_before state n ns rising g lt =
    let free = free_from state.next state.taken in
    elim (g.full free n (free_least state.next state.taken) lt (inl refl)) [
      | inl taken ↦ not_in free state.taken (free_lacks state.next state.taken rising) taken
      | inr here ↦ first_or_above free n ns g.rising.0 lt here
    ]

-- so the first of them is the first that is not taken
first_is_free : (state : Numbers) (n : ℕ) (ns : List ℕ) → IsStrictlySortedBy nat_cmp state.taken → Gapless state (n ∷ ns) → n ≡ free_from state.next state.taken
first_is_free state n ns rising g =
    elim (cases_lt (free_from state.next state.taken) n) [
      | inl lt ↦ absurd (none_before state n ns rising g lt)
      | inr le ↦ elim (cases_lt n (free_from state.next state.taken)) [
        | inl under ↦ absurd (not_in n state.taken g.untaken.0 (free_fills state.next state.taken n g.least.0 under))
        | inr over ↦ omega (arith, le, over)
      ]
    ]

all_lack_still : (next : ℕ) (ts ns : List ℕ) → AllByRecursion (λ (n : ℕ). Lacks n ts) ns → AllByRecursion (λ (n : ℕ). Lacks n (taken_from next ts)) ns
all_lack_still next ts [] lack = tt
all_lack_still next ts (n ∷ ns) lack = (still_lacks next ts n lack.0, all_lack_still next ts ns lack.1)

all_behind : (n : ℕ) (ns : List ℕ) → Above n ns → AllByRecursion (λ (m : ℕ). n + 1 ≤ m) ns
all_behind n [] above = tt
all_behind n (m ∷ ns) above = let lt = less n m above.0 in (omega (arith, lt), all_behind n ns above.1)

-- the others skip none behind the first
others_gapless : (state next : Numbers) (n : ℕ) (ns : List ℕ) → IsStrictlySortedBy nat_cmp state.taken → Gapless state (n ∷ ns)
    → next.next ≡ n + 1 → next.taken ≡ taken_from state.next state.taken → Gapless next ns
unfolding IsStrictlySortedBy
others_gapless state next n ns rising g from taken =
    let free = first_is_free state n ns rising g in
    record {
      rising = g.rising.1;
      untaken = subst (λ (ts : List ℕ). AllByRecursion (λ (m : ℕ). Lacks m ts) ns) (sym taken) (all_lack_still state.next state.taken ns g.untaken.1);
      least = subst (λ (k : ℕ). AllByRecursion (λ (m : ℕ). k ≤ m) ns) (sym from) (all_behind n ns g.rising.0);
      full = λ m number low high here.
          let least : state.next ≤ n = g.least.0 in
          let above : free_from state.next state.taken < m = omega (arith, free, from, low) in
          let old = g.full m number (omega (arith, least, from, low)) high (inr here) in
          passed_on m n state.taken next.taken ns (omega (arith, from, low))
          (λ h. subst (IsIn m) (sym taken) (still_taken state.next state.taken m above h)) old;
      small = g.small.1;
    }

-- Entries that skip no number may follow one another, if the room is enough for them.
pub gapless_follow : (live : List StorePrefix) (state : Numbers) (es : List Entry) → IsStrictlySortedBy nat_cmp state.taken
    → Gapless state (numbers_of es) → charges es ≤ state.room → (last : Numbers) × Follow (numbering live) state es last
gapless_follow live state [] rising g fits = (state, refl)
gapless_follow live state (e ∷ es) rising g fits =
    let sum : charges (e ∷ es) ≡ charge e + charges es = sum_by-cons charge e es in
    let free = first_is_free state e.number (numbers_of es) rising g in
    let first : is_next state e.number ≡ true =
    and_from (e.number == free_from state.next state.taken) (nat_le e.number last_number) (eq-eqb e.number (free_from state.next state.taken) free)
    (le-leb e.number last_number g.small.0) in
    let next = known_after state e in
    let rest = gapless_follow live next es (taken_rises state.next state.taken rising)
    (others_gapless state next e.number (numbers_of es) rising g refl refl) (omega (arith, sum, fits)) in
    (rest.0, (first, next, comes state e (omega (arith, sum, fits)), rest.1))

-- ---- by the numbers' records

-- Entries whose numbers skip none may follow one another.
pub may_follow_follows : (live : List StorePrefix) (state : Numbers) (es : List Entry) → IsStrictlyIncreasing state.taken → MayFollow state es
    → (last : Numbers) × Follow (numbering live) state es last
may_follow_follows live state es rising m =
    let ns = numbers_of es in
    gapless_follow live state es (sorted_from_strictly_increasing state.taken rising)
    (record {
      rising = sorted_from_strictly_increasing ns m.rising;
      untaken = all_lacking state.taken ns (recursion_from_All (λ (n : ℕ). All (λ (t : ℕ). t ≢ n) state.taken) ns m.untaken);
      least = recursion_from_All (λ (n : ℕ). state.next ≤ n) ns m.least;
      full = λ n number low high here. turned n state.taken ns (All-contains (NoneFree state.next state.taken ns) ns number m.full (in_to number ns here) n low high);
      small = recursion_from_All (λ (n : ℕ). n ≤ last_number) ns m.small;
    })
    m.fits
