use Rattle.std.proofs.Common.{◌≡◌, List, ℕ, length, map, refl, sym, ap, ◌∙◌, subst}
use Rattle.std.proofs.lemmas.List.{with_items_is}
use Rattle.std.specs.Prelude.{IfSome}
use Rattle.hse_rows.specs.declared.row.Row.{Row}
use Rattle.std.specs.List.{AllByRecursion}
use Rattle.hse_rows.specs.rows.RowSets.{AreRows}
use Rattle.row_laws.specs.Sources.{all_rows}
use Rattle.row_laws.specs.Merging.{AreOncePerNumber}
use Rattle.row_laws.specs.Next.{OwnFalls}
use Rattle.merge.proofs.ListLemmas.{once-all, first-listed, reverse-more}
use Rattle.merge.specs.Places.{direction_of}
use Rattle.merge.specs.Steps.{AreAt, GoesOn, IsRowAt}
use Rattle.merge.specs.Merge.{MergeState, IsNext, position_after}
use Rattle.merge.proofs.PastLemmas.{goes-at, given-there, given-first, given-goes, goes-old}
use Rattle.merge.proofs.merged.Merged.advance.Goals as goal

pub step-found-requires-clause-falls : goal.step-found-requires-clause-falls
step-found-requires-clause-falls g c =
    subst (λ sources. (key : List ℕ) → OwnFalls key (map g.R.RowSet.rows sources)) (sym c.deref.ensures.value) c.self.invariant.1.falls

pub returns-clause-there : goal.returns-clause-there
returns-clause-there g c =
    let direction = direction_of c.self.inside.reverse in
    let sources = map g.R.RowSet.rows c.deref.result.now in
    let stands : AreAt direction sources c.deref_mut.result.now =
    subst (AreAt direction sources) (sym c.deref_mut.ensures.value)
    (subst (λ s. AreAt direction (map g.R.RowSet.rows s) c.self.inside.places.items) (sym c.deref.ensures.value) c.self.invariant.1.stands) in
    subst (λ s. IfSome c.step-found.result (λ place. (x : Row) × IsRowAt (map g.R.RowSet.rows s) place.0 place.1 x)) c.deref.ensures.value
    (given-there direction stands.now sources c.step-found.result c.step-found.new.places
    (c.step-found.ensures.given stands.now (goes-at direction sources c.deref_mut.result.now stands)))

pub returns-clause-row : goal.returns-clause-row
returns-clause-row g c =
    let given = rw (c.deref.ensures.value, c.deref_mut.ensures.value) at c.step-found.ensures.given in
    let sources = map g.R.RowSet.rows c.self.inside.sources.items in
    let rows = all_rows sources in
    let known = subst (λ s. AllByRecursion AreRows (map g.R.RowSet.rows s)) c.deref-2.ensures.value c.are_known.ensures in
    let once : AreOncePerNumber rows = once-all sources known c.self.invariant.1.falls in
    λ found stands.
    subst (λ (m : MergeState). IsNext m found) c.self.view_is (record {
      next = λ position goes.
          first-listed reverse-more (direction_of c.self.inside.reverse) position rows found
          (c.merged_rows_are_entries.ensures.entries rows once).0
          (λ key. c.merged_rows_are_entries.ensures.lasting rows key once)
          (given-first (direction_of c.self.inside.reverse) position sources c.step-found.result c.step-found.new.places found (given position goes) stands);
      first = λ position goes.
          given-first (direction_of c.self.inside.reverse) position (map g.R.RowSet.rows c.self.inside.sources.items)
          c.step-found.result c.step-found.new.places found (given position goes) stands;
    })

pub returns-clause-goes : goal.returns-clause-goes
returns-clause-goes g c =
    let given = rw (c.deref.ensures.value, c.deref_mut.ensures.value) at c.step-found.ensures.given in
    let direction = direction_of c.self.inside.reverse in
    let sources = map g.R.RowSet.rows c.self.inside.sources.items in
    let long : length c.step-found.new.places ≡ c.self.inside.places.len =
    c.step-found.auto.places ∙ ap length c.deref_mut.ensures.value ∙ sym c.self.inside.places.ok.0 in
    λ found stands.
    goes-old _ _ c.self.view_is (record {
      sources = refl;
      direction = refl;
      goes = λ position goes.
          subst (GoesOn direction (position_after position found) sources) (sym (with_items_is c.self.inside.places c.step-found.new.places long))
          (given-goes direction position sources c.step-found.result c.step-found.new.places found (given position goes) stands);
      place = c.step-found.result;
      there = stands;
      last = c.later-self-inside.ensures;
    })
