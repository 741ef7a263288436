use Rattle.std.proofs.Common.{◌≡◌, ◌∙◌, ℕ, ◌+◌, ◌-◌, ◌<◌, List, [], Ok, Option, refl, sym, ap, subst, arith}
use Rattle.std.specs.List.{AllByRecursion}
use Rattle.gate_log.specs.Places.{region_of}
use Rattle.gate_log.specs.Reading.{Ends, EndsInside, IsFront, LiesInside, payloads_of}
use Rattle.gate_log.specs.declared.front.End.{End}
use Rattle.gate_log.specs.declared.front.End.TheVariants.{Closed}
use Rattle.gate_log.specs.declared.front.Front.{Front}
use Rattle.hse_rows.specs.declared.taken_run.TakenRun.{TakenRun}
use Rattle.hse_rows.specs.machine.TakenRuns.{numbers_of, runs_as}
use Rattle.ingest_tree.specs.declared.store_row.StoreRow.{StoreRow}
use Rattle.manifest.specs.Views.{stores_as}
use Rattle.manifest.specs.declared.base.BaseStore.{BaseStore}
use Rattle.wal.specs.Charges.{charges}
use Rattle.wal.specs.Numbering.{Numbers}
use Rattle.wal.specs.Replaying.{segment_of, starting}
use Rattle.wal.specs.declared.live.StorePrefix.{StorePrefix}
use Rattle.wal.specs.laws.Batches.{batches_follow, closed_read}
use Rattle.wal.specs.laws.Numbering.{all_charges, next_small}
use Rattle.recovery.specs.Image.{log_region, longest_value, prefixes_of}
use Rattle.recovery.specs.Layer.{IsLayerOf}
use Rattle.recovery.proofs.LayerLemmas.{all_below}
use Rattle.recovery.proofs.NamedLemmas.{none_named}
use Rattle.recovery.proofs.logs.log_of.Goals as goal

pub returns-in-Ok-segment_into-clause-log : goal.returns-in-Ok-segment_into-clause-log
returns-in-Ok-segment_into-clause-log c = λ image front.
    let says = c.in-Ok-segment_into.ensures.says in
    let base = c.args.base.now in
    let size = c.args.layout.log in
    let region = region_of (log_region c.args.layout) image in
    let payloads = payloads_of c.in-Some.front.batches.items in
    let tail = c.in-Ok-segment_into.end.tail in
    let live : c.deref-2.result.now ≡ prefixes_of (stores_as c.args.base.now.stores.items) =
    c.deref-2.ensures.value ∙ c.in-Ok.ensures ∙ ap (λ (ss : List BaseStore). prefixes_of (stores_as ss)) c.deref.ensures.value in
    let ends : Ends (region_of (log_region c.args.layout) image) c.in-Some.front.sequence (payloads_of c.in-Some.front.batches.items) c.in-Some.front.end =
    subst (λ (f : Option Front). IsFront (region_of (log_region c.args.layout) image) f) c.in-Some.is front in (
      record { entries = says.entries; next = says.last.next; place = c.in-Ok-segment_into.end.tail.place },
      record {
        payloads = payloads;
        tail = tail;
        ends = subst (λ (s : ℕ). Ends region s payloads (Closed tail)) c.if-front-ne-FIRST.false
            (subst (λ (end : End). Ends region c.in-Some.front.sequence payloads end) says.closed ends);
        last = says.last;
        read =
            subst (λ (l : List StorePrefix). segment_of l (longest_value c.args.layout) (starting (base.horizon + 1) (numbers_of (runs_as base.taken.items)) size) payloads (Closed tail) ≡ Ok (says.entries, says.last)) live
            (subst (λ (most : ℕ). segment_of c.deref-2.result.now most (starting (base.horizon + 1) (numbers_of (runs_as base.taken.items)) size) payloads (Closed tail) ≡ Ok (says.entries, says.last)) c.longest-most.ensures
            (subst (λ (ts : List TakenRun). segment_of c.deref-2.result.now c.longest-most.result (starting (base.horizon + 1) (numbers_of (runs_as ts)) size) payloads (Closed tail) ≡ Ok (says.entries, says.last)) c.deref-taken.ensures.value
            (subst (λ (end : End). segment_of c.deref-2.result.now c.longest-most.result (starting (base.horizon + 1) (numbers_of (runs_as c.deref-taken.result.now)) size) payloads end ≡ Ok (says.entries, says.last)) says.closed says.is)));
        next = refl;
        place = refl;
      },
      record {
        next = says.next;
        place = refl;
        charges = says.charges;
        rows = (says.taken [] (record { rows = c.empty.ensures; orderly = tt }, none_named)).0;
        named = (says.taken [] (record { rows = c.empty.ensures; orderly = tt }, none_named)).1;
      },
    )

pub returns-in-Ok-segment_into-clause-sound : goal.returns-in-Ok-segment_into-clause-sound
returns-in-Ok-segment_into-clause-sound c =
    let says = c.in-Ok-segment_into.ensures.says in
    let start : Numbers = starting (c.args.base.now.horizon + 1) (numbers_of (runs_as c.deref-taken.result.now)) c.args.layout.log in
    let payloads = payloads_of c.in-Some.front.batches.items in
    let follow = batches_follow c.deref-2.result.now c.longest-most.result start 9 payloads (says.entries, says.last)
    (closed_read c.deref-2.result.now c.longest-most.result start payloads c.in-Some.front.end (says.entries, says.last) says.is) in
    let layer : IsLayerOf says.entries c.segment_into.new.commits.rows = (says.taken [] (record { rows = c.empty.ensures; orderly = tt }, none_named)).0 in
    let below = all_below c.deref-2.result.now start says.last says.entries follow [] tt in
    let lies = subst (λ (f : Option Front). EndsInside c.args.layout.log f) c.in-Some.is c.requires.inside in
    let inside = subst (LiesInside c.args.layout.log (payloads_of c.in-Some.front.batches.items)) says.closed lies in
    let all : charges says.entries + says.last.room ≡ c.args.layout.log - 64 = all_charges c.deref-2.result.now start says.last says.entries follow in
    let small = next_small c.deref-2.result.now start says.last says.entries (omega (arith, c.args.base.now.small)) follow in
    record {
      newer = subst (λ (n : ℕ). AllByRecursion (λ (row : StoreRow). row.row.number < n) c.segment_into.new.commits.rows) (sym says.next)
          (subst (λ (rows : List StoreRow). AllByRecursion (λ (row : StoreRow). row.row.number < says.last.next) rows) (sym layer.rows) below);
      small = omega (arith, small, says.next);
      fits = omega (arith, all, says.charges);
      sequence = says.sequence ∙ c.if-front-ne-FIRST.false;
      placed = says.placed;
      inside = inside.1;
    }
