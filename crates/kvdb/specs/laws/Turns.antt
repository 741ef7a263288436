-- Turns while they are out: what stands for them when the life grows, and when they were written.
use Rattle.std.proofs.Common.{◌≡◌, ℕ, ◌-◌, ◌<◌, ◌≤◌, List, ◌++◌, Option, sym, ◌∙◌, ap, subst, arith, length-append}
use Rattle.media_disk.specs.declared.device.Device.{Ghosts}
use Rattle.hse_rows.specs.states.State.{State}
use Rattle.hse_rows.specs.states.History.{Event, last_number}
use Rattle.hse_rows.specs.machine.Turn.{TakenTurn, Plan, settles, enters, removes, installs, taken, written}
use Rattle.hse_rows.specs.machine.ManifestRoom.{ManifestState}
use Rattle.hse_rows.specs.rows.Layout.{Layout}
use Rattle.hse_rows.specs.rows.Job.{installed}
use Rattle.manifest.specs.Text as a_manifest
use Rattle.manifest.specs.declared.manifest.Manifest.{Manifest}
use Rattle.back.specs.declared.back.Back.{Back}
use Rattle.back.specs.declared.plan.EntryPlan.{EntryPlan}
use Rattle.hse_rows.specs.machine.Core.{Core, number_of, layout_but}
use Rattle.recovery.specs.Image.{Loaded}
use Rattle.kvdb.specs.Found.{Entered, StoresFrom, stored_at}
use Rattle.kvdb.specs.Growth.{Grows}
use Rattle.kvdb.specs.Serves.{IsPlaced, IsUnsure, IsOut, SideIs}
use Rattle.kvdb.specs.Turns.{entered_after, Carries, EntersAs, IsOf, IsPut, LeadsTo, TurnOf, RanOf}
use Rattle.kvdb.specs.declared.turn.Turn.{Turn}
use Rattle.kvdb.specs.declared.turn.Ran.{Ran}
use Rattle.kvdb.specs.declared.side.Side.{Side}
use Rattle.kvdb.specs.declared.side.Side.TheVariants as side
use Rattle.kvdb.specs.declared.side.TurnKind.{TurnKind}
use Rattle.kvdb.specs.declared.side.TurnKind.TheVariants as kind
use Rattle.kvdb.specs.laws.Growth.{stored-grown, entered-grown}

-- ---- a life that has grown

number-grown : (old new : Core) → Grows old new → number_of old ≤ number_of new
number-grown old new grows =
    let is : number_of new ≡ last_number old.timeline.base (old.timeline.history ++ grows.more) =
    ap (λ (b : State). last_number b new.timeline.history) grows.base
    ∙ ap (λ (h : List Event). last_number old.timeline.base h) grows.history in
    omega (arith, is, length-append old.timeline.history grows.more)

module _ (old new : Core) (grows : Grows old new) (from : old.timeline.base.number ≤ old.safe) (until : old.safe ≤ number_of old) where
  stored : (number : ℕ) → old.safe ≤ number → number ≤ number_of old → stored_at old number ≡ stored_at new number
  stored number low high = sym (stored-grown old new number grows from low high)

  stored_safe : stored_at old old.safe ≡ stored_at new new.safe
  stored_safe = stored old.safe (omega arith) until ∙ ap (stored_at new) (sym grows.safe)

  pub from_grown : (last later : ℕ) (image : List ℕ) → last ≤ number_of old → last ≤ later → StoresFrom old last image → StoresFrom new later image
  from_grown last later image within le has = record {
    number = has.number;
    reaches = omega (arith, has.reaches, grows.safe);
    within = omega (arith, has.within);
    stored = record {
      loaded = has.stored.loaded;
      is = has.stored.is;
      same = has.stored.same ∙ stored has.number has.reaches (omega (arith, has.within));
    };
  }

  unsure_grown : {D : Type 0} (g : Ghosts D) (disk : D) → IsUnsure g disk old → IsUnsure g disk new
  unsure_grown g disk unsure told image left =
      from_grown (number_of old) (number_of new) image (omega arith) (number-grown old new grows) (unsure told image left)

  placed_grown : {D : Type 0} (g : Ghosts D) (back : Back D g) (manifest later : ManifestState) → later ≡ manifest
      → IsPlaced back old.sizes manifest → IsPlaced back new.sizes later
  placed_grown g back manifest later same is = record {
    sizes_are = is.sizes_are ∙ sym grows.sizes;
    sequence = is.sequence ∙ ap (λ (x : ManifestState). x.sequence) (sym same);
    used = is.used ∙ ap (λ (x : ManifestState). x.used) (sym same);
  }

  after_grown : (plan : Plan) → entered_after old plan ≡ entered_after new plan
  after_grown settles =
      ap (λ (x : ManifestState). record { manifest = x; layout = old.layout }) (sym grows.manifest)
      ∙ ap (λ (l : Layout). record { manifest = new.manifest; layout = l }) (sym grows.layout)
  after_grown (enters manifest) = ap (λ (l : Layout). record { manifest = manifest; layout = l }) (sym grows.layout)
  after_grown (removes id manifest) = ap (λ (l : Layout). record { manifest = manifest; layout = layout_but l id }) (sym grows.layout)
  after_grown (installs id work sets manifest) = ap (λ (l : Layout). record { manifest = manifest; layout = installed l work sets }) (sym grows.layout)

  of_grown : (what : TurnKind) (number : ℕ) (out : TakenTurn) → IsOf old what number out → IsOf new what number out
  of_grown what number out o = record {
    is = o.is;
    plan = o.plan;
    entered = entered-grown old new number grows from o.low o.high ∙ o.entered ∙ after_grown out.plan;
    low = omega (arith, o.low, grows.safe);
    high = omega (arith, o.high, number-grown old new grows);
  }

  -- the device side that is in, or the turn that is out
  pub side_grown : {D : Type 0} (g : Ghosts D) (s : Side D g) → SideIs g s old → SideIs g s new
  side_grown g (side.In back) is = record {
    turn = grows.turn ∙ is.turn;
    placed = λ whole. placed_grown g back old.manifest new.manifest grows.manifest (is.placed (sym grows.is_broken ∙ whole));
    settled = λ whole told.
        let r = is.settled (sym grows.is_broken ∙ whole) told in
        record { loaded = r.loaded; rests = r.rests; same = r.same ∙ stored_safe };
    broken = λ broken. unsure_grown g back.disk (is.broken (sym grows.is_broken ∙ broken));
  }
  side_grown g (side.Out what number) is = subst (IsOut what number) (sym grows.turn) is

  leads_grown : (number : ℕ) (batch : Option (List ℕ)) (loaded : Loaded) → old.safe ≤ number → number ≤ number_of old
      → LeadsTo old number batch loaded → LeadsTo new number batch loaded
  leads_grown number batch loaded low high leads = record {
    entries = leads.entries;
    batch_is = leads.batch_is;
    may = leads.may;
    leads = leads.leads ∙ stored number low high;
  }

  enters_grown : (number : ℕ) (entry : a_manifest.Entry) (manifest : Manifest) (batch : Option (List ℕ)) (plan : Option EntryPlan) (loaded : Loaded)
      → number ≤ number_of old → EntersAs old number entry manifest batch plan loaded → EntersAs new number entry manifest batch plan loaded
  enters_grown number entry manifest batch plan loaded high e = record {
    entries = e.entries;
    batch_is = e.batch_is;
    may = e.may;
    enters = e.enters;
    planned = e.planned;
    above = omega (arith, e.above, grows.safe);
    committed = e.committed ∙ stored (number - 1) (omega (arith, e.above)) (omega (arith, high));
    entered = e.entered ∙ stored number (omega (arith, e.above)) high;
  }

  carries_grown : (what : TurnKind) (number : ℕ) (manifest : Manifest) (batch : Option (List ℕ)) (plan : Option EntryPlan) (loaded : Loaded)
      → old.safe ≤ number → number ≤ number_of old → Carries old what number manifest batch plan loaded → Carries new what number manifest batch plan loaded
  carries_grown kind.Sync number manifest batch plan loaded low high c = (c.0, leads_grown number batch loaded low high c.1)
  carries_grown kind.Freeze number manifest batch plan loaded low high c = c
  carries_grown kind.Install number manifest batch plan loaded low high c = c
  carries_grown kind.Create number manifest batch plan loaded low high c =
      (c.0, enters_grown number (a_manifest.create c.0) manifest batch plan loaded high c.1)
  carries_grown kind.Drop number manifest batch plan loaded low high c =
      (c.0, enters_grown number (a_manifest.drop number c.0) manifest batch plan loaded high c.1)

  put_grown : (what : Plan) (plan : Option EntryPlan) → IsPut old.manifest what plan → IsPut new.manifest what plan
  put_grown what plan is = subst (λ (x : ManifestState). IsPut x what plan) (sym grows.manifest) is

  -- a turn that was taken
  pub turn_grown : {D : Type 0} (g : Ghosts D) (turn : Turn D g) → TurnOf g turn old → TurnOf g turn new
  turn_grown g turn t = record {
    out = t.out;
    phase = grows.turn ∙ t.phase;
    of = of_grown turn.kind turn.number t.out t.of;
    whole = grows.is_broken ∙ t.whole;
    placed = placed_grown g turn.back old.manifest new.manifest grows.manifest t.placed;
    put = put_grown t.out.plan turn.plan t.put;
    calls = t.calls;
    ready = λ told.
        let r = t.ready told in
        record {
          loaded = r.loaded;
          rests = r.rests;
          same = r.same ∙ stored_safe;
          carries = carries_grown turn.kind turn.number turn.back.manifest turn.batch turn.plan r.loaded t.of.low t.of.high r.carries;
        };
  }

  -- and one that has run
  pub ran_grown : {D : Type 0} (g : Ghosts D) (done : Ran D g) → RanOf g done old → RanOf g done new
  ran_grown g done r = record {
    out = r.out;
    phase = grows.turn ∙ r.phase;
    of = of_grown done.kind done.number r.out r.of;
    broken = grows.is_broken ∙ r.broken;
    placed = λ fine. placed_grown g done.back (entered_after old r.out.plan).manifest (entered_after new r.out.plan).manifest
        (ap (λ (e : Entered). e.manifest) (sym (after_grown r.out.plan))) (r.placed fine);
    settled = λ fine told.
        let at = r.settled fine told in
        record { loaded = at.loaded; rests = at.rests; same = at.same ∙ stored done.number r.of.low r.of.high };
    failed = λ failed. unsure_grown g done.back.disk (r.failed failed);
  }
