-- What the numbers of entries are that follow one another, where some numbers are taken.
use Rattle.std.proofs.Common.{◌≡◌, ◌≢◌, ◌⊎◌, ℕ, ◌+◌, ◌<◌, ◌≤◌, List, [], ◌∷◌, sym, ap, subst, arith, inl, inr}
use Rattle.std.specs.List.{All, AllByRecursion, Contains}
use Rattle.std.specs.List.Sorted.{IsStrictlySortedBy, IsStrictlyIncreasing}
use Rattle.std.specs.Ordering.{nat_cmp}
use Rattle.std.specs.declared.cmp.Ordering.TheVariants.{Less}
use Rattle.std.proofs.lemmas.Bool.{cases_lt, cases_eq}
use Rattle.std.proofs.lemmas.List.Elements.{All-from_recursion, All-weaker, All-contains_itself}
use Rattle.std.proofs.lemmas.Map.Keys.{sorted_from_strictly_increasing, IsStrictlyIncreasing-from_sorted}
use Rattle.hse_fields.specs.LogText.{Entry}
use Rattle.hse_fields.specs.LogReading.{Follow}
use Rattle.wal.specs.Numbering.{Numbers, free_from, taken_from, numbering}
use Rattle.wal.specs.laws.Numbering.{came, number_is, all_charges}
use Rattle.wal.specs.Taken.{numbers_of, NoneFree, FollowsNumbers}
use Rattle.wal.specs.declared.live.StorePrefix.{StorePrefix}
use Rattle.wal.specs.laws.Free.{free_least, free_lacks, later_lacks, taken_rises, is_less, through, Lacks, IsIn, in_from, in_to, free_fills, part_of_taken}

-- ---- entries

passed_back : (n first next : ℕ) (ts ns : List ℕ) → IsIn n (taken_from next ts) ⊎ IsIn n ns → IsIn n ts ⊎ IsIn n (first ∷ ns)
passed_back n first next ts ns (inl h) = inl (part_of_taken next ts n h)
passed_back n first next ts ns (inr h) = inr (inr h)

behind_first : (n number first : ℕ) (ns : List ℕ) → first ≤ n → n < number → IsIn number (first ∷ ns) → IsIn number ns
behind_first n number first ns le lt (inl e) = absurd (omega (arith, le, lt, e))
behind_first n number first ns le lt (inr h) = h

back_to : (n : ℕ) (taken ns : List ℕ) → IsIn n taken ⊎ IsIn n ns → Contains taken n ⊎ Contains ns n
back_to n taken ns (inl h) = inl (in_to n taken h)
back_to n taken ns (inr h) = inr (in_to n ns h)

pub follow_grows : (live : List StorePrefix) (state last : Numbers) (es : List Entry) → Follow (numbering live) state es last
    → state.next ≤ last.next
follow_grows live state last [] follow = let same : state.next ≡ last.next = ap (λ (n : Numbers). n.next) follow in omega (arith, same)
follow_grows live state last (e ∷ es) follow =
    let number = number_is state e.number follow.0 in
    let next : e.number + 1 ≡ follow.1.next = ap (λ (n : Numbers). n.next) (came state follow.1 e follow.2).is in
    omega (arith, number, next, free_least state.next state.taken, follow_grows live follow.1 last es follow.3)

-- from this number on
abbrev pub AreFrom : ℕ → List ℕ → Type 0
AreFrom least ns = AllByRecursion (λ (n : ℕ). least ≤ n) ns

pub lower : (low high : ℕ) (ns : List ℕ) → low ≤ high → AreFrom high ns → AreFrom low ns
lower low high [] le from = tt
lower low high (n ∷ ns) le from = (omega (arith, le, from.0), lower low high ns le from.1)

all_less : (n high : ℕ) (ns : List ℕ) → n < high → AreFrom high ns → AllByRecursion (λ y. nat_cmp n y ≡ Less) ns
all_less n high [] lt from = tt
all_less n high (m ∷ ns) lt from = (is_less n m (through n high m lt from.0), all_less n high ns lt from.1)

all_lack : (next high : ℕ) (ts ns : List ℕ) → free_from next ts < high → AreFrom high ns → AllByRecursion (λ (n : ℕ). Lacks n (taken_from next ts)) ns
    → AllByRecursion (λ (n : ℕ). Lacks n ts) ns
all_lack next high ts [] lt from lack = tt
all_lack next high ts (n ∷ ns) lt from lack =
    (later_lacks next ts n (through (free_from next ts) high n lt from.0) lack.0, all_lack next high ts ns lt from.1 lack.1)

pub record Rises (state : Numbers) (ns : List ℕ) (last : Numbers) : Type 0 where
  pub rising : IsStrictlySortedBy nat_cmp ns
  pub untaken : AllByRecursion (λ (n : ℕ). Lacks n state.taken) ns
  pub least : AreFrom state.next ns
  pub below : AllByRecursion (λ (n : ℕ). n < last.next) ns

pub follow_rises : (live : List StorePrefix) (state last : Numbers) (es : List Entry) → IsStrictlySortedBy nat_cmp state.taken
    → Follow (numbering live) state es last → Rises state (numbers_of es) last
unfolding IsStrictlySortedBy
follow_rises live state last [] rising follow = record { rising = tt; untaken = tt; least = tt; below = tt }
follow_rises live state last (e ∷ es) rising follow =
    let is = (came state follow.1 e follow.2).is in
    let number : e.number ≡ free_from state.next state.taken = number_is state e.number follow.0 in
    let next : e.number + 1 ≡ follow.1.next = ap (λ (n : Numbers). n.next) is in
    let taken : taken_from state.next state.taken ≡ follow.1.taken = ap (λ (n : Numbers). n.taken) is in
    let least : state.next ≤ e.number = subst (λ (n : ℕ). state.next ≤ n) (sym number) (free_least state.next state.taken) in
    let grows : follow.1.next ≤ last.next = follow_grows live follow.1 last es follow.3 in
    let rest = follow_rises live follow.1 last es (subst (IsStrictlySortedBy nat_cmp) taken (taken_rises state.next state.taken rising)) follow.3 in
    let behind : e.number < follow.1.next = omega (arith, next) in
    let from : AreFrom follow.1.next (numbers_of es) = rest.least in
    let lack : AllByRecursion (λ (n : ℕ). Lacks n (taken_from state.next state.taken)) (numbers_of es) =
    subst (λ (ts : List ℕ). AllByRecursion (λ (n : ℕ). Lacks n ts) (numbers_of es)) (sym taken) rest.untaken in
    record {
      rising = (all_less e.number follow.1.next (numbers_of es) behind from, rest.rising);
      untaken = (
        subst (λ (n : ℕ). Lacks n state.taken) (sym number) (free_lacks state.next state.taken rising),
        all_lack state.next follow.1.next state.taken (numbers_of es) (subst (λ (n : ℕ). n < follow.1.next) number behind) from lack,
      );
      least = (least, lower state.next follow.1.next (numbers_of es) (omega (arith, least, behind)) from);
      below = (through e.number follow.1.next last.next behind grows, rest.below);
    }

-- No free number is skipped.
pub follow_full : (live : List StorePrefix) (state last : Numbers) (es : List Entry) → Follow (numbering live) state es last
    → (n number : ℕ) → state.next ≤ n → n < number → IsIn number (numbers_of es) → IsIn n state.taken ⊎ IsIn n (numbers_of es)
follow_full live state last [] follow n number low high here = absurd here
follow_full live state last (e ∷ es) follow n number low high here =
    let is = (came state follow.1 e follow.2).is in
    let first : e.number ≡ free_from state.next state.taken = number_is state e.number follow.0 in
    let next : e.number + 1 ≡ follow.1.next = ap (λ (s : Numbers). s.next) is in
    let taken : taken_from state.next state.taken ≡ follow.1.taken = ap (λ (s : Numbers). s.taken) is in
    elim (cases_lt n e.number) [
      | inl lt ↦ inl (free_fills state.next state.taken n low (subst (λ (m : ℕ). n < m) first lt))
      | inr le ↦ elim (cases_eq n e.number) [
        | inl same ↦ inr (inl (sym same))
        | inr apart ↦
            passed_back n e.number state.next state.taken (numbers_of es)
            (subst (λ (ts : List ℕ). IsIn n ts ⊎ IsIn n (numbers_of es)) (sym taken)
            (follow_full live follow.1 last es follow.3 n number (omega (arith, le, apart, next)) high
            (behind_first n number e.number (numbers_of es) le high here)))
      ]
    ]

-- Nor is one behind the last of them, up to the next number.
follow_full_behind : (live : List StorePrefix) (state last : Numbers) (es : List Entry) → Follow (numbering live) state es last
    → (n : ℕ) → state.next ≤ n → n < last.next → IsIn n state.taken ⊎ IsIn n (numbers_of es)
follow_full_behind live state last [] follow n low high =
    let same : state.next ≡ last.next = ap (λ (s : Numbers). s.next) follow in absurd (omega (arith, low, high, same))
follow_full_behind live state last (e ∷ es) follow n low high =
    let is = (came state follow.1 e follow.2).is in
    let first : e.number ≡ free_from state.next state.taken = number_is state e.number follow.0 in
    let next : e.number + 1 ≡ follow.1.next = ap (λ (s : Numbers). s.next) is in
    let taken : taken_from state.next state.taken ≡ follow.1.taken = ap (λ (s : Numbers). s.taken) is in
    elim (cases_lt n e.number) [
      | inl lt ↦ inl (free_fills state.next state.taken n low (subst (λ (m : ℕ). n < m) first lt))
      | inr le ↦ elim (cases_eq n e.number) [
        | inl same ↦ inr (inl (sym same))
        | inr apart ↦
            passed_back n e.number state.next state.taken (numbers_of es)
            (subst (λ (ts : List ℕ). IsIn n ts ⊎ IsIn n (numbers_of es)) (sym taken)
            (follow_full_behind live follow.1 last es follow.3 n (omega (arith, le, apart, next)) high))
      ]
    ]

full_of : (live : List StorePrefix) (state last : Numbers) (es : List Entry) → Follow (numbering live) state es last
    → All (NoneFree state.next state.taken (numbers_of es)) (numbers_of es)
full_of live state last es follow =
    let ns = numbers_of es in
    All-weaker (Contains ns) (NoneFree state.next state.taken ns)
    (λ (number : ℕ) (here : Contains ns number) (n : ℕ) (low : state.next ≤ n) (high : n < number).
    back_to n state.taken ns (follow_full live state last es follow n number low high (in_from number ns here)))
    ns (All-contains_itself ns)

all_lacking : (ts ns : List ℕ) → AllByRecursion (λ (n : ℕ). Lacks n ts) ns → AllByRecursion (λ (n : ℕ). All (λ (t : ℕ). t ≢ n) ts) ns
all_lacking ts [] lack = tt
all_lacking ts (n ∷ ns) lack = (All-from_recursion (λ (t : ℕ). t ≢ n) ts lack.0, all_lacking ts ns lack.1)

pub follows_numbers : (live : List StorePrefix) (state last : Numbers) (es : List Entry) → IsStrictlyIncreasing state.taken
    → Follow (numbering live) state es last → FollowsNumbers state es last
follows_numbers live state last es rising follow =
    let r = follow_rises live state last es (sorted_from_strictly_increasing state.taken rising) follow in
    let ns = numbers_of es in
    record {
      charged = all_charges live state last es follow;
      rising = IsStrictlyIncreasing-from_sorted ns r.rising;
      untaken = All-from_recursion (λ (n : ℕ). All (λ (t : ℕ). t ≢ n) state.taken) ns (all_lacking state.taken ns r.untaken);
      least = All-from_recursion (λ (n : ℕ). state.next ≤ n) ns r.least;
      below = All-from_recursion (λ (n : ℕ). n < last.next) ns r.below;
      grows = follow_grows live state last es follow;
      full = full_of live state last es follow;
      full_behind = λ n low high. back_to n state.taken ns (follow_full_behind live state last es follow n low high);
    }
