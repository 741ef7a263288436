use Rattle.std.proofs.Common.{◌≡◌, ℕ, ◌<◌, List, map, length, cond, Some, None, sym, ap, subst, ◌∙◌, arith}
use Rattle.hse_rows.specs.writes.Change.{target}
use Rattle.hse_rows.specs.rows.RowSets.{row_of}
use Rattle.hse_rows.specs.script.Cursor.{past_key}
use Rattle.row_laws.specs.Next.{covered_in, row_lasting}
use Rattle.merge.specs.Places.{direction_of, all_passed, all_left}
use Rattle.merge.specs.Steps.{GoesOn, AreAt, IsRowAt}
use Rattle.merge.proofs.TurnLemmas.{head-within, row-at, all-fewer, passed-length}
use Rattle.merge.proofs.PastLemmas.{goes-at, at-goes, turn-none, turn-found, turn-past, turn-goes, turn-own}
use Rattle.merge.proofs.steps.step.Goals as goal

pub bounds-places-source : goal.bounds-places-source
bounds-places-source g c =
    head-within (direction_of c.args.reverse) (map g.R.RowSet.rows c.args.sources.now) c.loop-source.places c.in-Some.source (row_of c.in-Some.row) c.in-Some.ensures.at

pub offset_bounds-places-source : goal.offset_bounds-places-source
offset_bounds-places-source g c =
    let within = head-within (direction_of c.args.reverse) (map g.R.RowSet.rows c.args.sources.now) c.loop-source.places c.in-Some.source (row_of c.in-Some.row) c.in-Some.ensures.at in
    omega (arith, within)

pub returns-then-is_lasting : goal.returns-then-is_lasting
returns-then-is_lasting g c =
    let direction = direction_of c.args.reverse in
    let sources = map g.R.RowSet.rows c.args.sources.now in
    let places = c.loop-source.places in
    let row = row_of c.in-Some.row in
    let passed : c.pass.new.places ≡ all_passed direction (target row.change) sources places =
    c.pass.ensures ∙ ap (λ (k : List ℕ). all_passed direction k sources places) c.key_of-key.ensures in
    let lasts : row_lasting (Some row) (covered_in (target row.change) sources) ≡ Some row =
    ap (λ (k : List ℕ). row_lasting (Some row) (covered_in k sources)) (sym c.key_of-key.ensures)
    ∙ ap (row_lasting (Some row)) (sym c.cover.ensures) ∙ c.is_lasting.ensures ∙ ap (λ b. cond b (Some row) None) c.if-is_lasting.true in
    let now = goes-at direction sources places c.loop-source.invariant.stands in
    let goes : GoesOn direction (past_key (target row.change)) sources c.pass.new.places =
    subst (GoesOn direction (past_key (target row.change)) sources) (sym passed)
    (turn-past direction sources c.are_known.ensures c.requires.falls c.loop-source.invariant.stands.now places now row c.in-Some.ensures.row) in
    record {
      stands = at-goes direction (past_key (target row.change)) sources c.pass.new.places goes;
      given = λ position start. record {
        row = row;
        there = subst (λ (n : ℕ). IsRowAt sources c.in-Some.source n row) (sym c.index_of-at.ensures)
            (row-at direction sources places c.in-Some.source row c.in-Some.ensures.at);
        first =
            turn-found direction sources c.are_known.ensures c.requires.falls position places (c.loop-source.invariant.goes position start) row
            c.in-Some.ensures.row lasts;
        goes = goes;
      };
      fewer =
          let less : all_left direction sources c.pass.new.places < all_left direction sources places =
          subst (λ (p : List ℕ). all_left direction sources p < all_left direction sources places) (sym passed)
          (all-fewer direction (target row.change) sources places c.in-Some.source row c.in-Some.ensures.at
          (turn-own direction sources c.are_known.ensures c.requires.falls c.loop-source.invariant.stands.now places now row c.in-Some.ensures.row)) in
          omega (arith, less, c.loop-source.invariant.fewer);
    }

pub loop-source-smaller : goal.loop-source-smaller
loop-source-smaller g c =
    let direction = direction_of c.args.reverse in
    let sources = map g.R.RowSet.rows c.args.sources.now in
    let places = c.loop-source.places in
    let row = row_of c.in-Some.row in
    let now = goes-at direction sources places c.loop-source.invariant.stands in
    subst (λ (p : List ℕ). all_left direction sources p < all_left direction sources places)
    (sym (c.pass.ensures ∙ ap (λ (k : List ℕ). all_passed direction k sources places) c.key_of-key.ensures))
    (all-fewer direction (target row.change) sources places c.in-Some.source row c.in-Some.ensures.at
    (turn-own direction sources c.are_known.ensures c.requires.falls c.loop-source.invariant.stands.now places now row c.in-Some.ensures.row))

pub loop-source-preserved : goal.loop-source-preserved
loop-source-preserved g c =
    let direction = direction_of c.args.reverse in
    let sources = map g.R.RowSet.rows c.args.sources.now in
    let places = c.loop-source.places in
    let row = row_of c.in-Some.row in
    let passed : c.pass.new.places ≡ all_passed direction (target row.change) sources places =
    c.pass.ensures ∙ ap (λ (k : List ℕ). all_passed direction k sources places) c.key_of-key.ensures in
    let hidden : row_lasting (Some row) (covered_in (target row.change) sources) ≡ None =
    ap (λ (k : List ℕ). row_lasting (Some row) (covered_in k sources)) (sym c.key_of-key.ensures)
    ∙ ap (row_lasting (Some row)) (sym c.cover.ensures) ∙ c.is_lasting.ensures ∙ ap (λ b. cond b (Some row) None) c.if-is_lasting.false in
    let now = goes-at direction sources places c.loop-source.invariant.stands in
    record {
      same = c.loop-source.invariant.same ∙ sym (ap length passed ∙ passed-length direction (target row.change) sources places);
      stands =
          subst (AreAt direction sources) (sym passed)
          (at-goes direction (past_key (target row.change)) sources (all_passed direction (target row.change) sources places)
          (turn-past direction sources c.are_known.ensures c.requires.falls c.loop-source.invariant.stands.now places now row c.in-Some.ensures.row));
      goes = λ position start.
          subst (GoesOn direction position sources) (sym passed)
          (turn-goes direction sources c.are_known.ensures c.requires.falls position places (c.loop-source.invariant.goes position start) row
          c.in-Some.ensures.row hidden);
      fewer =
          let less : all_left direction sources c.pass.new.places < all_left direction sources places =
          subst (λ (p : List ℕ). all_left direction sources p < all_left direction sources places) (sym passed)
          (all-fewer direction (target row.change) sources places c.in-Some.source row c.in-Some.ensures.at
          (turn-own direction sources c.are_known.ensures c.requires.falls c.loop-source.invariant.stands.now places now row c.in-Some.ensures.row)) in
          omega (arith, less, c.loop-source.invariant.fewer);
    }

pub returns : goal.returns
returns g c =
    let direction = direction_of c.args.reverse in
    let sources = map g.R.RowSet.rows c.args.sources.now in
    let places = c.loop-source.places in
    record {
      stands = c.loop-source.invariant.stands;
      given = λ position start. (
        turn-none direction sources c.are_known.ensures c.requires.falls position places (c.loop-source.invariant.goes position start) c.in_default.ensures.row,
        c.loop-source.invariant.goes position start,
      );
      fewer = tt;
    }
