use Rattle.std.proofs.Common.{◌≡◌, ◌∙◌, ℕ, ◌-◌, ◌<◌, List, [], ap, sym, subst, refl, inr, arith}
use Rattle.device_layout.specs.declared.layout.Layout.{Layout}
use Rattle.hse_rows.specs.machine.TakenRuns.{numbers_of, runs_as}
use Rattle.hse_rows.specs.states.State.{State}
use Rattle.ingest_tree.specs.declared.store_row.StoreRow.{StoreRow}
use Rattle.kvset.specs.Parts.{contents_rows}
use Rattle.kvset.specs.Reading.{Contents}
use Rattle.manifest.specs.Half.{Holds}
use Rattle.manifest.specs.Views.{metadata_as, stores_as}
use Rattle.sorted_lists.specs.laws.Lists.{each-weaker}
use Rattle.view.specs.Means as meaning
use Rattle.view.specs.Views.{ViewState}
use Rattle.gate_log.specs.declared.front.End.TheVariants.{Closed}
use Rattle.gate_log.specs.declared.region.Tail.{Tail}
use Rattle.hse_fields.specs.LogText.{Entry}
use Rattle.wal.specs.Numbering.{Numbers}
use Rattle.wal.specs.laws.Batches.{batches_follow, closed_read}
use Rattle.wal.specs.laws.Free.{free_least}
use Rattle.recovery.specs.Image.{before_log, longest_value, number_of, prefixes_of}
use Rattle.recovery.specs.Layer.{layer_after}
use Rattle.recovery.specs.Opened.{opened_view}
use Rattle.recovery.specs.Stored.{store_in}
use Rattle.recovery.proofs.GapLemmas.{free_by, no_numbers, some_numbers, taken_by}
use Rattle.recovery.specs.laws.Names.{named_below}
use Rattle.recovery.proofs.ViewLemmas.{state_means}
use Rattle.recovery.proofs.opening.recovered_of.Goals as goal
use Rattle.std.proofs.Common.{map}

pub returns-then-not-is_empty-clause-recovered : goal.returns-then-not-is_empty-clause-recovered
returns-then-not-is_empty-clause-recovered c = λ image layout load log.
    let m = c.args.loaded.manifest in
    let held = subst (λ (l : Layout). Holds l m.half m.sequence m.tail.place image (metadata_as c.args.loaded.base)) load.0 load.1 in
    let taken = taken_by (numbers_of (runs_as c.first_free-next.result.1.now)) c.args.log.end.next log.0.next c.deref.result.now c.args.loaded.base.taken.items
    c.first_free-next.ensures.taken c.deref.ensures.value log.2.next in
    record {
      layout = c.args.layout;
      layout_is = layout;
      refused = inr (
        refl,
        record {
          sequence = m.sequence;
          place = m.tail.place;
          metadata = metadata_as c.args.loaded.base;
          manifest = held;
          log = log.0;
          has_log = log.1;
          gap = λ none. some_numbers c.first_free-next.result.1.now c.if-not-is_empty.ensures (taken ∙ none);
        },
      );
    }

pub returns-then-log-number-clause-recovered : goal.returns-then-log-number-clause-recovered
returns-then-log-number-clause-recovered c = λ image layout load log.
    let m = c.args.loaded.manifest in
    let held = subst (λ (l : Layout). Holds l m.half m.sequence m.tail.place image (metadata_as c.args.loaded.base)) load.0 load.1 in
    let taken = taken_by (numbers_of (runs_as c.first_free-next.result.1.now)) c.args.log.end.next log.0.next c.deref.result.now c.args.loaded.base.taken.items
    c.first_free-next.ensures.taken c.deref.ensures.value log.2.next in
    let free = free_by c.first_free-next.result.0 c.args.log.end.next log.0.next c.deref.result.now c.args.loaded.base.taken.items
    c.first_free-next.ensures.number c.deref.ensures.value log.2.next in
    let number : c.saturating_sub-number.result ≡ number_of (metadata_as c.args.loaded.base) log.0 =
    c.saturating_sub-number.ensures ∙ ap (λ (n : ℕ). n - 1) free in
    let above : c.saturating_sub-number.result < c.args.log.named = omega (arith, c.if-log-number) in (
      refl,
      record {
        layout = c.args.layout;
        layout_is = layout;
        metadata = metadata_as c.args.loaded.base;
        manifest = record { half = m.half; sequence = m.sequence; place = m.tail.place; holds = held };
        refused = inr (
          refl,
          record {
            log = log.0;
            has_log = log.1;
            full = sym taken ∙ no_numbers c.first_free-next.result.1.now c.if-not-is_empty.ensures;
            unknown = λ known.
                let least = log.2.named.least (number_of (metadata_as c.args.loaded.base) log.0) known in
                omega (arith, above, number, least);
          },
        );
      },
    )

pub view_over-requires-clause-low : goal.view_over-requires-clause-low
view_over-requires-clause-low c =
    let least = free_least c.args.log.end.next (numbers_of (runs_as c.deref.result.now)) in
    each-weaker (λ (row : StoreRow) (lt : row.row.number < c.args.log.end.next). omega (arith, lt, least, c.first_free-next.ensures.number, c.saturating_sub-number.ensures))
    c.args.log.rows c.requires.sound.newer

pub returns-clause-recovered : goal.returns-clause-recovered
returns-clause-recovered c = λ image layout load log.
    let m = c.args.loaded.manifest in
    let metadata = metadata_as c.args.loaded.base in
    let held = subst (λ (l : Layout). Holds l m.half m.sequence m.tail.place image (metadata_as c.args.loaded.base)) load.0 load.1 in
    let taken = taken_by (numbers_of (runs_as c.first_free-next.result.1.now)) c.args.log.end.next log.0.next c.deref.result.now c.args.loaded.base.taken.items
    c.first_free-next.ensures.taken c.deref.ensures.value log.2.next in
    let free = free_by c.first_free-next.result.0 c.args.log.end.next log.0.next c.deref.result.now c.args.loaded.base.taken.items
    c.first_free-next.ensures.number c.deref.ensures.value log.2.next in
    let number : c.saturating_sub-number.result ≡ number_of (metadata_as c.args.loaded.base) log.0 =
    c.saturating_sub-number.ensures ∙ ap (λ (n : ℕ). n - 1) free in
    let live = prefixes_of metadata.stores in
    let start = before_log c.args.layout metadata in
    let x : List Entry × Numbers = (log.0.entries, log.1.last) in
    let follow = batches_follow live (longest_value c.args.layout) start 9 log.1.payloads x
    (closed_read live (longest_value c.args.layout) start log.1.payloads (Closed log.1.tail) x log.1.read) in
    let view : c.in-Ok.view ≡ opened_view Contents c.saturating_sub-number.result (stores_as c.args.loaded.base.stores.items) (layer_after [] log.0.entries) =
    c.in-Ok.ensures ∙ ap (λ (rows : List StoreRow). opened_view Contents c.saturating_sub-number.result (stores_as c.args.loaded.base.stores.items) rows) log.2.rows.rows in
    let states : ℕ → State = λ (n : ℕ). record { number = n; stores = map (store_in log.0.entries) (stores_as c.args.loaded.base.stores.items) } in (
      record {
        layout = c.args.layout;
        half = m.half;
        sequence = m.sequence;
        place = m.tail.place;
        metadata = metadata_as c.args.loaded.base;
        log = log.0;
      },
      record {
        layout = layout;
        manifest = held;
        log = log.1;
        full = sym taken ∙ no_numbers c.first_free-next.result.1.now c.if-not-is_empty.ensures;
        named = named_below c.args.log.named (number_of (metadata_as c.args.loaded.base) log.0) log.0.entries (omega (arith, c.if-log-number, number)) log.2.named.above;
      },
      record {
        layout = refl;
        manifest = record { layout = load.0; half = refl; sequence = refl; place = refl };
        metadata = refl;
        log = record {
          region = c.of-place.ensures.region_is ∙ c.segment.ensures;
          sequence = c.of-place.ensures.sequence ∙ c.requires.sound.sequence;
          place = ap (λ (t : Tail). t.place) c.of-place.ensures.tail ∙ log.2.place;
          charges = c.of-place.ensures.charges ∙ log.2.charges;
        };
        number = number;
        view = view;
        state =
            ap (λ (v : ViewState Contents). meaning.state_of contents_rows v) view
            ∙ state_means contents_rows c.layers_take_writes.ensures live start log.1.last log.0.entries follow log.2.rows.orderly
            c.saturating_sub-number.result (stores_as c.args.loaded.base.stores.items)
            ∙ ap states number;
      },
    )
