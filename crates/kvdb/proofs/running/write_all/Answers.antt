use Rattle.std.proofs.Common.{◌≡◌, Some, sym, subst, ap, ◌∙◌}
use Rattle.media_disk.specs.laws.Leaves.{leaves_more}
use Rattle.back.specs.Leaving.{OldOrEntered}
use Rattle.back.specs.Steps.{with_commits, with_entry}
use Rattle.manifest.specs.Text as a_manifest
use Rattle.kvdb.specs.Found.{StoresFrom, stored_at}
use Rattle.kvdb.specs.Serves.{RestsAt}
use Rattle.kvdb.specs.Turns.{Carries, LeadsTo}
use denote.Enum.Bare.{same_false}
use Rattle.kvdb.specs.contracts.side.TurnKind as turn_kind
use Rattle.kvdb.specs.declared.side.TurnKind.TheVariants as kind
use Rattle.kvdb.proofs.RunLemmas.{carries_create, carries_drop, carries_none, from_entry, kind_same, may_turn, on_ok_more}
use Rattle.kvdb.proofs.running.write_all.Goals as goal

pub returns-in-None-clause-written : goal.returns-in-None-clause-written
returns-in-None-clause-written g c told m number loaded rests carries =
    c.write.ensures.written told m number loaded rests
    (carries_none m c.args.kind number c.args.back.now.manifest c.args.batch.now loaded (rw c.in-None.is at carries))

pub returns-in-Some-clause-written : goal.returns-in-Some-clause-written
returns-in-Some-clause-written g c told m number loaded rests carries =
    let create = carries_create m c.args.kind number c.args.back.now.manifest c.args.batch.now (Some c.in-Some.plan) loaded
    (kind_same c.args.kind c.eq.result c.eq.ensures c.if-eq.true)
    (rw c.in-Some.is at carries) in
    let e = create.1 in
    on_ok_more c.create_store.result _ _
    (λ at. record { loaded = with_entry (with_commits loaded e.entries) (a_manifest.create create.0); rests = at; same = e.entered })
    (c.create_store.ensures.created told loaded e.entries create.0 rests
    (may_turn m number (a_manifest.create create.0) c.args.back.now.manifest c.args.batch.now c.in-Some.plan loaded c.as_ref.result c.as_ref.ensures.value e))

pub returns-in-Some-clause-crash : goal.returns-in-Some-clause-crash
returns-in-Some-clause-crash g c told m number loaded rests same low carries =
    let create = carries_create m c.args.kind number c.args.back.now.manifest c.args.batch.now (Some c.in-Some.plan) loaded
    (kind_same c.args.kind c.eq.result c.eq.ensures c.if-eq.true)
    (rw c.in-Some.is at carries) in
    let e = create.1 in
    leaves_more g.D.Device c.args.back.now.disk c.create_store.new.self.disk (OldOrEntered loaded e.entries (a_manifest.create create.0)) (StoresFrom m number)
    (c.create_store.ensures.crash told loaded e.entries create.0 rests
    (may_turn m number (a_manifest.create create.0) c.args.back.now.manifest c.args.batch.now c.in-Some.plan loaded c.as_ref.result c.as_ref.ensures.value e))
    (λ image has. from_entry m number loaded e.entries (a_manifest.create create.0) image e.above same e.committed e.entered has)

pub returns-in-Some-2-clause-written : goal.returns-in-Some-2-clause-written
returns-in-Some-2-clause-written g c told m number loaded rests carries =
    let drop = carries_drop m c.args.kind number c.args.back.now.manifest c.args.batch.now c.in-Some-2.plan loaded
    (same_false turn_kind.the_type c.args.kind kind.Create (sym c.eq.ensures ∙ c.if-eq.false))
    (rw c.in-Some-2.is at carries) in
    let e = drop.1 in
    on_ok_more c.drop_store.result _ _
    (λ at. record { loaded = with_entry (with_commits loaded e.entries) (a_manifest.drop number drop.0); rests = at; same = e.entered })
    (c.drop_store.ensures.dropped told loaded e.entries number drop.0 rests
    (may_turn m number (a_manifest.drop number drop.0) c.args.back.now.manifest c.args.batch.now c.in-Some-2.plan loaded c.as_ref-in-Some-2.result
    c.as_ref-in-Some-2.ensures.value e))

pub returns-in-Some-2-clause-crash : goal.returns-in-Some-2-clause-crash
returns-in-Some-2-clause-crash g c told m number loaded rests same low carries =
    let drop = carries_drop m c.args.kind number c.args.back.now.manifest c.args.batch.now c.in-Some-2.plan loaded
    (same_false turn_kind.the_type c.args.kind kind.Create (sym c.eq.ensures ∙ c.if-eq.false))
    (rw c.in-Some-2.is at carries) in
    let e = drop.1 in
    leaves_more g.D.Device c.args.back.now.disk c.drop_store.new.self.disk (OldOrEntered loaded e.entries (a_manifest.drop number drop.0)) (StoresFrom m number)
    (c.drop_store.ensures.crash told loaded e.entries number drop.0 rests
    (may_turn m number (a_manifest.drop number drop.0) c.args.back.now.manifest c.args.batch.now c.in-Some-2.plan loaded c.as_ref-in-Some-2.result
    c.as_ref-in-Some-2.ensures.value e))
    (λ image has. from_entry m number loaded e.entries (a_manifest.drop number drop.0) image e.above same e.committed e.entered has)
