-- Stories go on: what is kept of a life stays kept.
use Rattle.std.specs.Prelude.{slice_get, Some}
use Rattle.std.proofs.Common.{◌≡◌, ◌⊎◌, ℕ, zero, suc, ◌≤◌, List, [], ◌∷◌, ◌++◌, length, refl, sym, ap, ◌∙◌, subst, inl, inr, ⊎_elim, arith, append_assoc, length-append}
use Rattle.std.proofs.lemmas.List.{append-nil}
use Rattle.hse_rows.specs.states.State.{State}
use Rattle.hse_rows.specs.states.History.{Event}
use Rattle.hse_rows.specs.laws.Folding.{fold-stays}
use Rattle.hse_rows.specs.transactions.Timeline.{Timeline}
use Rattle.hse_rows.specs.machine.Core.{Core, number_of}
use Rattle.kvdb.specs.Found.{StoresFrom}
use Rattle.kvdb.specs.Growth.{Grows}
use Rattle.lives.specs.Goes.{Goes, GrowsAt, grown}
use Rattle.lives.specs.Keeping.{Keeps, StoresLife}
use Rattle.lives.specs.Stories.{Life, Point, Story, life_of, lives_of, with_machine}

-- ---- one life

stores_grown : (life : Life) (more : List Event) (low : ℕ) (image : List ℕ) → StoresLife life low image → StoresLife (grown life more) low image
stores_grown life more low image s = record {
  number = s.number;
  reaches = s.reaches;
  from = s.from;
  within = omega (arith, s.within, length-append life.history more);
  loaded = s.loaded;
  is = s.is;
  same = s.same ∙ sym (fold-stays life.base life.history more s.number s.within);
}

stores_less : (life : Life) (lower low : ℕ) (image : List ℕ) → lower ≤ low → StoresLife life low image → StoresLife life lower image
stores_less life lower low image le s = record {
  number = s.number;
  reaches = omega (arith, s.reaches);
  from = s.from;
  within = s.within;
  loaded = s.loaded;
  is = s.is;
  same = s.same;
}

-- what a device stores of a machine is a state of its life
pub stores_from : (m : Core) (last low : ℕ) (image : List ℕ) → m.timeline.base.number ≤ m.safe → last ≤ number_of m → low ≤ m.safe
    → StoresFrom m last image → StoresLife (life_of m) low image
stores_from m last low image from within le s = record {
  number = s.number;
  reaches = omega (arith, s.reaches);
  from = omega (arith, s.reaches);
  within = omega (arith, s.within);
  loaded = s.stored.loaded;
  is = s.stored.is;
  same = ap (λ stored. stored.base) s.stored.same;
}

-- ---- all lives

get_last : (past : List Life) (life : Life) → slice_get (past ++ life ∷ []) (length past) ≡ Some life
get_last [] life = refl
get_last (first ∷ past) life = get_last past life

pub keeps_now : (s : Story) (low : ℕ) (image : List ℕ) → StoresLife (life_of s.machine) low image → Keeps s (length s.past) low image
keeps_now s low image stores = record {
  place = length s.past;
  of = life_of s.machine;
  is = get_last s.past (life_of s.machine);
  later = omega arith;
  stores = stores;
}

-- of a machine that has the timeline of the story's
pub keeps_from : (s : Story) (m : Core) (last low : ℕ) (image : List ℕ) → m.timeline ≡ s.machine.timeline
    → m.timeline.base.number ≤ m.safe → last ≤ number_of m → low ≤ m.safe → StoresFrom m last image → Keeps s (length s.past) low image
keeps_from s m last low image same from within le has =
    keeps_now s low image
    (subst (λ (t : Timeline). StoresLife (record { base = t.base; history = t.history }) low image) same
    (stores_from m last low image from within le has))

pub keeps_goes : (old new : Story) (life number : ℕ) (image : List ℕ) → Goes old new → Keeps old life number image → Keeps new life number image
keeps_goes old new life number image goes k =
    let at = goes.each k.place k.of k.is in
    record {
      place = k.place;
      of = grown k.of at.more;
      is = at.is;
      later = k.later;
      stores = stores_grown k.of at.more number image k.stores;
    }

pub keeps_less : (s : Story) (earlier lower life number : ℕ) (image : List ℕ) → earlier ≤ life → lower ≤ number
    → Keeps s life number image → Keeps s earlier lower image
keeps_less s earlier lower life number image before below k = record {
  place = k.place;
  of = k.of;
  is = k.is;
  later = omega (arith, k.later);
  stores = stores_less k.of lower number image below k.stores;
}

-- ---- how a story goes on

get_grown : (past later : List Life) (life other of : Life) (place : ℕ) → slice_get (past ++ life ∷ []) place ≡ Some of
    → (slice_get (past ++ other ∷ later) place ≡ Some of) ⊎ ((of ≡ life) × (slice_get (past ++ other ∷ later) place ≡ Some other))
get_grown [] later life other of zero is = inr (cc, refl)
get_grown [] later life other of (suc place) is = absurd cc
get_grown (first ∷ past) later life other of zero is = inl is
get_grown (first ∷ past) later life other of (suc place) is = get_grown past later life other of place is

grown_none : (life : Life) → grown life [] ≡ life
grown_none life = ap (λ (h : List Event). record { base = life.base; history = h }) (append-nil life.history)

grows_from : (past later : List Life) (life : Life) (more : List Event) (new : Story) → lives_of new ≡ past ++ grown life more ∷ later
    → (place : ℕ) (of : Life) → slice_get (past ++ life ∷ []) place ≡ Some of → GrowsAt new place of
grows_from past later life more new are place of is =
    ⊎_elim
    (λ (same : slice_get (past ++ grown life more ∷ later) place ≡ Some of). record {
      more = [];
      is = ap (λ (ls : List Life). slice_get ls place) are ∙ same ∙ ap (λ (x : Life). Some x) (sym (grown_none of));
    })
    (λ (two : (of ≡ life) × (slice_get (past ++ grown life more ∷ later) place ≡ Some (grown life more))). record {
      more = more;
      is = ap (λ (ls : List Life). slice_get ls place) are ∙ two.1 ∙ ap (λ (x : Life). Some (grown x more)) (sym two.0);
    })
    (get_grown past later life (grown life more) of place is)

-- the life of now has more events
pub goes_on : (s : Story) (m : Core) (points : List Point) (more : List Event) → m.timeline.base ≡ s.machine.timeline.base
    → m.timeline.history ≡ s.machine.timeline.history ++ more → s.machine.safe ≤ m.safe
    → Goes s (record { past = s.past; machine = m; marked = points })
goes_on s m points more base history safer = record {
  each = grows_from s.past [] (life_of s.machine) more (record { past = s.past; machine = m; marked = points })
      (ap (λ (b : State). s.past ++ record { base = b; history = m.timeline.history } ∷ []) base
      ∙ ap (λ (h : List Event). s.past ++ record { base = s.machine.timeline.base; history = h } ∷ []) history);
  lived = omega arith;
  safer = safer;
}

-- or as many
pub goes_still : (s : Story) (m : Core) (points : List Point) → m.timeline ≡ s.machine.timeline → s.machine.safe ≤ m.safe
    → Goes s (record { past = s.past; machine = m; marked = points })
goes_still s m points same safer =
    goes_on s m points [] (ap (λ (t : Timeline). t.base) same)
    (ap (λ (t : Timeline). t.history) same ∙ sym (append-nil s.machine.timeline.history)) safer

pub goes_grown : (s : Story) (m : Core) → Grows s.machine m → Goes s (with_machine s m)
goes_grown s m grows = goes_on s m s.marked grows.more grows.base grows.history (omega (arith, grows.safe))

-- a next life begins
pub goes_reborn : (s : Story) (m : Core) (points : List Point) → s.machine.safe ≤ m.safe
    → Goes s (record { past = lives_of s; machine = m; marked = points })
goes_reborn s m points safer = record {
  each = grows_from s.past (life_of m ∷ []) (life_of s.machine) [] (record { past = lives_of s; machine = m; marked = points })
      (append_assoc s.past (life_of s.machine ∷ []) (life_of m ∷ [])
      ∙ ap (λ (l : Life). s.past ++ l ∷ life_of m ∷ []) (sym (grown_none (life_of s.machine))));
  lived = omega (arith, length-append s.past (life_of s.machine ∷ []));
  safer = safer;
}
