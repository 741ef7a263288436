-- A normal form leaves at each key what the writes leave.
use Rattle.std.proofs.Common.{◌≡◌, ℕ, Bool, true, false, cond, ◌&&◌, ◌||◌, ◌==◌, List, [], ◌∷◌, Option, refl, sym, ◌∙◌, ap, subst}
use Rattle.std.specs.List.{list_any, fold}
use Rattle.std.specs.Ordering.{is_lt}
use Rattle.std.specs.Cmp.{first_so, second_so}
use Rattle.std.proofs.lemmas.Bool.{eqb-true, eq-eqb, and_from}
use Rattle.std.proofs.Math.Bool.{true≢false}
use Rattle.hse_rows.specs.declared.change.Change.{Change}
use Rattle.hse_rows.specs.declared.change.Change.TheVariants.{Put, Del, PDel}
use Rattle.hse_rows.specs.declared.write.Write.{Write}
use Rattle.hse_rows.specs.writes.Change.{covers}
use Rattle.hse_rows.specs.writes.Sorted.{placed, sorted}
use Rattle.hse_rows.specs.writes.NormalForm.{hides, hides_change, rank, write_cmp, lasting, normal_form}
use Rattle.hse_rows.specs.writes.Reach.{reaches, leaves, touches, left_by}
use Rattle.hse_rows.specs.laws.LastEffect.{effect, last_effect_settled, effects_swap}
use Rattle.hse_rows.proofs.ChangeLemmas.{same_by_test}
use Rattle.hse_rows.proofs.NormalFormLemmas.{or_left, or_right, or_none, or_some, list_any-placed, Keep, lasting_keep, is_prefix_delete, AreRanked, none_behind, ranked-placed}

-- ---- what a write hides

-- what hides a change reaches what it reaches
hides_reaches : (later earlier : Change) (key : List ℕ) → hides_change later earlier ≡ true → reaches earlier key ≡ true → reaches later key ≡ true
hides_reaches later (Put other bytes) key hidden reached =
    subst (λ (k : List ℕ). reaches later k ≡ true) (same_by_test other key reached) hidden
hides_reaches later (Del other) key hidden reached =
    subst (λ (k : List ℕ). reaches later k ≡ true) (same_by_test other key reached) hidden
hides_reaches (PDel other) (PDel prefix) key hidden reached =
    subst (λ (p : List ℕ). covers p key ≡ true) (sym (same_by_test other prefix hidden)) reached
hides_reaches (Put own bytes) (PDel prefix) key hidden reached = absurd (true≢false (sym hidden))
hides_reaches (Del own) (PDel prefix) key hidden reached = absurd (true≢false (sym hidden))

module _ (id : ℕ) (key : List ℕ) where
  -- of the store of this id, and reaching the key
  touch_parts : (write : Write) → touches id key write ≡ true → (write.store.0 ≡ id) × (reaches write.change key ≡ true)
  touch_parts write touched = (
    eqb-true write.store.0 id (first_so (write.store.0 == id) (reaches write.change key) touched),
    second_so (write.store.0 == id) (reaches write.change key) touched,
  )

  -- what hides a write touches what it touches
  hides_touches : (later earlier : Write) → hides later earlier ≡ true → touches id key earlier ≡ true → touches id key later ≡ true
  hides_touches later earlier hidden touched =
      let of_one : later.store.0 ≡ earlier.store.0 =
      eqb-true later.store.0 earlier.store.0 (first_so (later.store.0 == earlier.store.0) (hides_change later.change earlier.change) hidden) in
      let parts = touch_parts earlier touched in
      and_from (later.store.0 == id) (reaches later.change key)
      (eq-eqb later.store.0 id (of_one ∙ parts.0))
      (hides_reaches later.change earlier.change key
      (second_so (later.store.0 == earlier.store.0) (hides_change later.change earlier.change) hidden) parts.1)

  -- where a later write hides one that touches, a later one touches
  touched_later : (write : Write) (later : List Write) → list_any (λ l. hides l write) later ≡ true → touches id key write ≡ true
      → list_any (touches id key) later ≡ true
  touched_later write [] hidden touched = absurd (true≢false (sym hidden))
  touched_later write (y ∷ later) hidden touched =
      elim (hides y write)
      as (λ b. hides y write ≡ b → (b || list_any (λ l. hides l write) later) ≡ true → (touches id key y || list_any (touches id key) later) ≡ true) [
        | true ↦ λ is e. ap (λ (b : Bool). b || list_any (touches id key) later) (hides_touches y write is touched)
        | false ↦ λ is e. or_some (touches id key y) (list_any (touches id key) later) (touched_later write later e touched)
      ] refl hidden

  -- Of two changes of a key that the later does not hide, both are prefix deletes, unless a put or a del comes later than
  -- a prefix delete.
  same_left : (earlier later : Change) → hides_change later earlier ≡ false → ((rank later == 0) ≡ false → (rank earlier == 0) ≡ false)
      → reaches earlier key ≡ true → reaches later key ≡ true → leaves later ≡ leaves earlier
  same_left (Put own bytes) later kept ranked one other =
      absurd (true≢false (sym (subst (λ (k : List ℕ). reaches later k ≡ true) (sym (same_by_test own key one)) other) ∙ kept))
  same_left (Del own) later kept ranked one other =
      absurd (true≢false (sym (subst (λ (k : List ℕ). reaches later k ≡ true) (sym (same_by_test own key one)) other) ∙ kept))
  same_left (PDel prefix) (PDel more) kept ranked one other = refl
  same_left (PDel prefix) (Put own bytes) kept ranked one other = absurd (true≢false (ranked refl))
  same_left (PDel prefix) (Del own) kept ranked one other = absurd (true≢false (ranked refl))

  left_same : (earlier later : Write) → hides later earlier ≡ false → (is_prefix_delete later ≡ false → is_prefix_delete earlier ≡ false)
      → touches id key later ≡ true → touches id key earlier ≡ true → leaves later.change ≡ leaves earlier.change
  left_same earlier later kept ranked later_touches earlier_touches =
      let one = touch_parts earlier earlier_touches in
      let other = touch_parts later later_touches in
      let of_one : (later.store.0 == earlier.store.0) ≡ true = eq-eqb later.store.0 earlier.store.0 (other.0 ∙ sym one.0) in
      same_left earlier.change later.change
      (subst (λ (b : Bool). (b && hides_change later.change earlier.change) ≡ false) of_one kept)
      ranked one.1 other.1

  abbrev left : Option (List ℕ) → List Write → Option (List ℕ)
  left = left_by id key

  abbrev left_after : Option (List ℕ) → Write → Option (List ℕ)
  left_after = effect (touches id key) (λ write. leaves write.change)

  -- a later write may stand before writes that it does not hide, unless it would stand before a prefix delete
  left_by_slides : (held : Option (List ℕ)) (x : Write) (earlier : List Write) → list_any (hides x) earlier ≡ false
      → (is_prefix_delete x ≡ false → list_any is_prefix_delete earlier ≡ false)
      → left (left_after held x) earlier ≡ left_after (left held earlier) x
  left_by_slides held x [] kept ranked = refl
  left_by_slides held x (y ∷ earlier) kept ranked =
      ap (λ (h : Option (List ℕ)). left h earlier)
      (effects_swap (touches id key) (λ write. leaves write.change) held x y
      (left_same y x (or_left (hides x y) (list_any (hides x) earlier) kept)
      (λ x_key. or_left (is_prefix_delete y) (list_any is_prefix_delete earlier) (ranked x_key))))
      ∙ left_by_slides (left_after held y) x earlier (or_right (hides x y) (list_any (hides x) earlier) kept)
      (λ x_key. or_right (is_prefix_delete y) (list_any is_prefix_delete earlier) (ranked x_key))

  -- a write put into its place does what it does at the end
  left_by-placed : (held : Option (List ℕ)) (ys : List Write) (x : Write) → AreRanked ys → list_any (hides x) ys ≡ false
      → left held (placed write_cmp ys x) ≡ left_after (left held ys) x
  left_by-placed held [] x ranked kept = refl
  left_by-placed held (y ∷ ys) x ranked kept =
      elim (is_lt (write_cmp x y))
      as (λ b. is_lt (write_cmp x y) ≡ b → left held (cond b (x ∷ y ∷ ys) (y ∷ placed write_cmp ys x)) ≡ left_after (left held (y ∷ ys)) x) [
        | true ↦ λ before. left_by_slides held x (y ∷ ys) kept (none_behind y ys x ranked before)
        | false ↦ λ behind. left_by-placed (left_after held y) ys x ranked.1 (or_right (hides x y) (list_any (hides x) ys) kept)
      ] refl

  -- none of the later writes hides one of these
  abbrev Apart : List Write → List Write → Type 0
  Apart earlier [] = Unit {0}
  Apart earlier (x ∷ later) = (list_any (hides x) earlier ≡ false) × Apart earlier later

  apart_placed : (ys : List Write) (x : Write) (later : List Write) → Apart ys later → list_any (λ l. hides l x) later ≡ false
      → Apart (placed write_cmp ys x) later
  apart_placed ys x [] apart kept = tt
  apart_placed ys x (z ∷ later) apart kept = (
    list_any-placed write_cmp (hides z) ys x
        ∙ or_none (hides z x) (list_any (hides z) ys) (or_left (hides z x) (list_any (λ l. hides l x) later) kept) apart.0,
    apart_placed ys x later apart.1 (or_right (hides z x) (list_any (λ l. hides l x) later) kept),
  )

  left_by-fold : (held : Option (List ℕ)) (ys later : List Write) → AreRanked ys → Apart ys later → Keep later
      → left held (fold (placed write_cmp) ys later) ≡ left (left held ys) later
  left_by-fold held ys [] ranked apart keep = refl
  left_by-fold held ys (x ∷ later) ranked apart keep =
      left_by-fold held (placed write_cmp ys x) later (ranked-placed ys x ranked) (apart_placed ys x later apart.1 keep.0) keep.1
      ∙ ap (λ (h : Option (List ℕ)). left h later) (left_by-placed held ys x ranked apart.0)

  apart_none : (later : List Write) → Apart [] later
  apart_none [] = tt
  apart_none (x ∷ later) = (refl, apart_none later)

  left_by-sorted : (held : Option (List ℕ)) (writes : List Write) → Keep writes → left held (sorted write_cmp writes) ≡ left held writes
  left_by-sorted held writes keep = left_by-fold held [] writes tt (apart_none writes) keep

  -- the lasting writes leave what all leave
  left_by-lasting : (held : Option (List ℕ)) (writes : List Write) → left held (lasting writes) ≡ left held writes
  left_by-lasting held [] = refl
  left_by-lasting held (write ∷ later) =
      elim (list_any (λ l. hides l write) later)
      as (λ b. list_any (λ l. hides l write) later ≡ b → left held (cond b (lasting later) (write ∷ lasting later)) ≡ left held (write ∷ later)) [
        | true ↦ λ hidden. left_by-lasting held later ∙ hidden_write (touches id key write) refl hidden
        | false ↦ λ kept. left_by-lasting (left_after held write) later
      ] refl
    where
      hidden_write : (b : Bool) → touches id key write ≡ b → list_any (λ l. hides l write) later ≡ true
          → left held later ≡ left (cond b (leaves write.change) held) later
      hidden_write true touched hidden =
          last_effect_settled (touches id key) (λ w. leaves w.change) held (leaves write.change) later (touched_later write later hidden touched)
      hidden_write false touched hidden = refl

  -- A normal form leaves at each key what the writes leave.
  pub left_by-normal_form : (held : Option (List ℕ)) (writes : List Write) → left held (normal_form writes) ≡ left held writes
  unfolding normal_form
  left_by-normal_form held writes = left_by-sorted held (lasting writes) (lasting_keep writes) ∙ left_by-lasting held writes
