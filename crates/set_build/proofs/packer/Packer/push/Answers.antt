use Rattle.std.proofs.Common.{length, OnOk, sym, ap, subst, arith}
use Rattle.hse_rows.specs.declared.change.ChangeRef.{ChangeRef}
use Rattle.hse_rows.specs.declared.row.Row.{Row}
use Rattle.hse_rows.specs.writes.Change.{change_of, FitsLimits}
use Rattle.hse_rows.specs.rows.RowSets.{row_of}
use Rattle.set_build.specs.SetText.{with_row, values_by_block}
use Rattle.set_build.specs.Builders.{entry_behind}
use Rattle.hse_fields.specs.BlockText.{KeyEntry}
use Rattle.set_build.specs.Packs.{MayFollow, Packs}
use Rattle.set_build.proofs.RowPacking.{the_row}
use Rattle.set_build.proofs.PackerLemmas.{packer_with, ok-weaker, ok-weaker3, fits-limits, held-keys, held-values, packs-prefix, packs-del, packs-kept, packs-put}
use Rattle.set_build.proofs.packer.Packer.push.Goals as goal

pub push_key-requires-in-Put-clause-some : goal.push_key-requires-in-Put-clause-some
push_key-requires-in-Put-clause-some c =
    let fits = subst FitsLimits (ap change_of c.in-Put.is) (fits-limits c.requires.0 (row_of c.args.row) c.args.place c.requires.2) in
    let key = ap (λ (e : KeyEntry). length e.key) c.entry-in-Put.ensures in
    omega (arith, fits.0, key)

pub push_key-requires-in-Put-clause-short : goal.push_key-requires-in-Put-clause-short
push_key-requires-in-Put-clause-short c =
    let fits = subst FitsLimits (ap change_of c.in-Put.is) (fits-limits c.requires.0 (row_of c.args.row) c.args.place c.requires.2) in
    let key = ap (λ (e : KeyEntry). length e.key) c.entry-in-Put.ensures in
    omega (arith, fits.1, key)

pub returns-in-PDel-clause-pushed : goal.returns-in-PDel-clause-pushed
returns-in-PDel-clause-pushed c = λ p held.
    let n = c.args.row.number in
    let is = ap (λ (x : ChangeRef). the_row n (change_of x)) c.in-PDel.is in
    subst (λ (row : Row). MayFollow p row c.args.place → OnOk c.push_prefix.result (Packs (with_row p row c.args.place) (packer_with c.args.self.now c.push_prefix.new.list c.args.self.now.keys c.args.self.now.values))) (sym is)
    (λ may. ok-weaker c.push_prefix.result (packs-prefix p c.args.self.now held n c.args.place c.in-PDel.prefix.now may c.push_prefix.new.list) c.push_prefix.ensures.added)

pub returns-in-Del-clause-pushed : goal.returns-in-Del-clause-pushed
returns-in-Del-clause-pushed c = λ p held.
    let n = c.args.row.number in
    let is = ap (λ (x : ChangeRef). the_row n (change_of x)) c.in-Del.is in
    subst (λ (row : Row). MayFollow p row c.args.place → OnOk c.push_key.result (Packs (with_row p row c.args.place) (packer_with c.args.self.now c.args.self.now.prefixes c.push_key.new.blocks c.args.self.now.values))) (sym is)
    (λ may. ok-weaker c.push_key.result (packs-del p c.args.self.now held n c.args.place c.in-Del.key.now may c.push_key.new.blocks _ c.entry.ensures)
    (c.push_key.ensures.added held.blocks (held-keys p c.args.self.now held n c.args.place)))

pub returns-else-self-clause-pushed : goal.returns-else-self-clause-pushed
returns-else-self-clause-pushed c = λ p held.
    let n = c.args.row.number in
    let is = ap (λ (x : ChangeRef). the_row n (change_of x)) c.in-Put.is in
    subst (λ (row : Row). MayFollow p row c.args.place → OnOk c.push_key-in-Put.result (Packs (with_row p row c.args.place) (packer_with c.args.self.now c.args.self.now.prefixes c.push_key-in-Put.new.blocks c.args.self.now.values))) (sym is)
    (λ may. ok-weaker c.push_key-in-Put.result (packs-kept p c.args.self.now held n c.args.place c.in-Put.key.now c.in-Put.value.now may c.if-self.false c.push_key-in-Put.new.blocks _ c.entry-in-Put.ensures)
    (c.push_key-in-Put.ensures.added held.blocks (held-keys p c.args.self.now held n c.args.place)))

pub returns-then-self-clause-pushed : goal.returns-then-self-clause-pushed
returns-then-self-clause-pushed c = λ p held.
    let n = c.args.row.number in
    let self = c.args.self.now in
    let is = ap (λ (x : ChangeRef). the_row n (change_of x)) c.in-Put.is in
    let entry = c.entry-entry.ensures in
    let blocks = values_by_block p in
    subst (λ (row : Row). MayFollow p row c.args.place → OnOk c.push_put.result (Packs (with_row p row c.args.place) (packer_with self self.prefixes c.push_put.new.keys c.push_put.new.blocks))) (sym is)
    (λ may. ok-weaker3 c.push_put.result
    (packs-put p self held n c.args.place c.in-Put.key.now c.in-Put.value.now may c.if-self.true c.push_put.new.keys c.push_put.new.blocks
    (entry_behind self.slot blocks c.entry-entry.result.number c.entry-entry.result.key.now (length c.in-Put.value.now))
    (ap (λ (e : KeyEntry). entry_behind self.slot blocks e.number e.key (length c.in-Put.value.now)) entry))
    (c.push_put.ensures.key blocks held.blocks (held-values p self held n c.args.place) (held-keys p self held n c.args.place))
    (c.push_put.ensures.added blocks (held-values p self held n c.args.place))
    c.push_put.ensures.few)
