-- What the device calls of a turn leave.
use Rattle.std.specs.Prelude.{OnOk, OnErr, Result, Ok, Err}
use Rattle.std.proofs.Common.{◌≡◌, ◌≢◌, ◌⊎◌, ℕ, ◌+◌, ◌-◌, ◌<◌, ◌≤◌, Bool, true, false, List, [], ◌∷◌, length, Option, None, Some, refl, sym, ◌∙◌, ap, subst, ⊎_elim, arith}
use Rattle.media_disk.specs.declared.device.Device.{Ghosts}
use Rattle.media_disk.specs.Images.{MayLeave, CountsNow, OnlyNow}
use Rattle.media_disk.specs.Leaves.{LeavesOnly}
use Rattle.media_disk.specs.laws.Images.{one_image}
use Rattle.media_disk.specs.laws.Leaves.{leaves_now}
use Rattle.hse_fields.specs.LogText.{Entry}
use Rattle.hse_rows.specs.machine.Turn.{TakenTurn, Plan, settles, enters, removes, installs, Turn as machine_turn, written, Calls}
use Rattle.hse_rows.specs.machine.ManifestRoom.{ManifestState}
use Rattle.hse_rows.specs.machine.Core.{Core, number_of}
use Rattle.device_layout.specs.Layouts.{params_of, sizes_of}
use Rattle.recovery.specs.Image.{Loaded, IsLoaded}
use Rattle.recovery.specs.Machine.{stored_of}
use Rattle.back.specs.Home.{AtRest}
use Rattle.back.specs.Leaving.{OldOrCommitted, OldOrEntered}
use Rattle.back.specs.Plans as plans
use Rattle.back.specs.Plans.{IsPlacedBy}
use denote.Ref.{Bor}
use denote.Enum.Bare.{sameb}
use Rattle.kvdb.specs.contracts.side.TurnKind as turn_kind
use Rattle.std.specs.Option.{option_map}
use Rattle.gate_log.specs.declared.batch.Batch.{Batch}
use Rattle.back.specs.declared.plan.EntryPlan.{EntryPlan}
use Rattle.back.specs.declared.plan.EntryPlan.TheVariants.{Log, Roll}
use Rattle.gate_log.specs.Places.{need_of}
use Rattle.hse_rows.specs.machine.Sizes.{Sizes}
use Rattle.manifest.specs.declared.manifest.Manifest.{Manifest}
use Rattle.back.specs.Steps.{with_commits, with_entry, MayCommit, MayCommitAny}
use Rattle.manifest.specs.Metadata.{LiveStore}
use Rattle.manifest.specs.Text as a_manifest
use Rattle.back.specs.declared.back.Back.{Back}
use Rattle.kvdb.specs.Found.{StoresFrom, stored_at}
use Rattle.kvdb.specs.Serves.{RestsAt, IsPlaced}
use Rattle.kvdb.specs.Turns.{entered_after, Carries, EntersAs, IsBatchOf, IsIdle, IsOf, IsPlanOf, IsPut, IsPutAt, IsPutBy, LeadsTo, TurnOf, RanOf}
use Rattle.kvdb.specs.declared.side.TurnKind.{TurnKind}
use Rattle.kvdb.specs.declared.side.TurnKind.TheVariants as kind
use Rattle.kvdb.specs.declared.turn.Turn.{Turn}

pub on_ok_more : {T E : Type 0} (r : Result T E) (P Q : Type 0) → (P → Q) → OnOk r P → OnOk r Q
on_ok_more (Ok x) P Q more has = more has
on_ok_more (Err e) P Q more has = has

pub some_may : (loaded : Loaded) (entries : List Entry) → entries ≢ [] → MayCommitAny loaded entries → MayCommit loaded entries
some_may loaded [] some may = absurd (some refl)
some_may loaded (entry ∷ entries) some may = may

-- an image that is loaded as this stores the life at its number
pub from_loaded : (m : Core) (number last : ℕ) (image : List ℕ) (loaded : Loaded) → m.safe ≤ number → number ≤ last
    → stored_of loaded ≡ stored_at m number → IsLoaded image loaded → StoresFrom m last image
from_loaded m number last image loaded low high same is = record {
  number = number;
  reaches = low;
  within = high;
  stored = record { loaded = loaded; is = is; same = same };
}

-- what a device at rest leaves
pub from_rest : {D : Type 0} (g : Ghosts D) (back : Back D g) (m : Core) (last : ℕ) (loaded : Loaded) (image : List ℕ) → m.safe ≤ last
    → AtRest g back.disk back.layout back.log back.manifest loaded → stored_of loaded ≡ stored_at m m.safe
    → MayLeave g back.disk image → StoresFrom m last image
from_rest g back m last loaded image high rests same left =
    from_loaded m m.safe last image loaded (omega arith) high same
    (subst (λ (bytes : List ℕ). IsLoaded bytes loaded)
    (sym (one_image (g.seen back.disk) (g.pending back.disk) image rests.still left)) rests.says)

-- what a batch of commits leaves
pub from_batch : (m : Core) (number : ℕ) (loaded : Loaded) (entries : List Entry) (image : List ℕ) → m.safe ≤ number
    → stored_of loaded ≡ stored_at m m.safe → stored_of (with_commits loaded entries) ≡ stored_at m number
    → OldOrCommitted loaded entries image → StoresFrom m number image
from_batch m number loaded entries image low same leads was =
    ⊎_elim
    (λ old. from_loaded m m.safe number image loaded (omega arith) low same old)
    (λ new. from_loaded m number number image (with_commits loaded entries) low (omega arith) leads new)
    was

-- no batch leads nowhere
pub leads_none : (m : Core) (number : ℕ) (loaded : Loaded) → LeadsTo m number None loaded → stored_of loaded ≡ stored_at m number
leads_none m number loaded leads =
    subst (λ (entries : List Entry). stored_of (with_commits loaded entries) ≡ stored_at m number) leads.batch_is leads.leads

-- what commits and an entry behind them leave
pub from_entry : (m : Core) (number : ℕ) (loaded : Loaded) (commits : List Entry) (entry : a_manifest.Entry) (image : List ℕ) → m.safe < number
    → stored_of loaded ≡ stored_at m m.safe → stored_of (with_commits loaded commits) ≡ stored_at m (number - 1)
    → stored_of (with_entry (with_commits loaded commits) entry) ≡ stored_at m number
    → OldOrEntered loaded commits entry image → StoresFrom m number image
from_entry m number loaded commits entry image less same committed entered was =
    ⊎_elim
    (λ before. ⊎_elim
    (λ old. from_loaded m m.safe number image loaded (omega arith) (omega arith) same old)
    (λ new. from_loaded m (number - 1) number image (with_commits loaded commits) (omega arith) (omega arith) committed new)
    before)
    (λ new. from_loaded m number number image (with_entry (with_commits loaded commits) entry) (omega arith) (omega arith) entered new)
    was

-- ---- what a turn carries

pub on_ok_all : {T E : Type 0} (r : Result T E) (P : Type 0) → P → OnOk r P
on_ok_all (Ok x) P has = has
on_ok_all (Err e) P has = tt

pub on_err_more : {T E : Type 0} (r : Result T E) (P Q : Type 0) → (P → Q) → OnErr r P → OnErr r Q
on_err_more (Ok x) P Q more has = has
on_err_more (Err e) P Q more has = more has

-- with no plan commits alone
pub carries_none : (m : Core) (what : TurnKind) (number : ℕ) (manifest : Manifest) (batch : Option (List ℕ)) (loaded : Loaded)
    → Carries m what number manifest batch None loaded → LeadsTo m number batch loaded
carries_none m kind.Sync number manifest batch loaded c = c.1
carries_none m kind.Freeze number manifest batch loaded c = absurd c
carries_none m kind.Install number manifest batch loaded c = absurd c
carries_none m kind.Create number manifest batch loaded c = absurd c.1.planned
carries_none m kind.Drop number manifest batch loaded c = absurd c.1.planned

pub carries_create : (m : Core) (what : TurnKind) (number : ℕ) (manifest : Manifest) (batch : Option (List ℕ)) (plan : Option EntryPlan) (loaded : Loaded)
    → what ≡ kind.Create → Carries m what number manifest batch plan loaded
    → (store : LiveStore) × EntersAs m number (a_manifest.create store) manifest batch plan loaded
carries_create m what number manifest batch plan loaded is c =
    subst (λ (k : TurnKind). Carries m k number manifest batch plan loaded) is c

pub kind_same : (what : TurnKind) (flag : Bool) → flag ≡ sameb turn_kind.the_type what kind.Create → flag ≡ true → what ≡ kind.Create
kind_same kind.Sync flag is yes_is = absurd (let e : true ≡ sameb turn_kind.the_type kind.Sync kind.Create = sym yes_is ∙ is in cc)
kind_same kind.Freeze flag is yes_is = absurd (let e : true ≡ sameb turn_kind.the_type kind.Freeze kind.Create = sym yes_is ∙ is in cc)
kind_same kind.Install flag is yes_is = absurd (let e : true ≡ sameb turn_kind.the_type kind.Install kind.Create = sym yes_is ∙ is in cc)
kind_same kind.Create flag is yes_is = refl
kind_same kind.Drop flag is yes_is = absurd (let e : true ≡ sameb turn_kind.the_type kind.Drop kind.Create = sym yes_is ∙ is in cc)

-- a plan that is no creation's is a drop's
pub carries_drop : (m : Core) (what : TurnKind) (number : ℕ) (manifest : Manifest) (batch : Option (List ℕ)) (plan : EntryPlan) (loaded : Loaded)
    → (what ≡ kind.Create → ⊥) → Carries m what number manifest batch (Some plan) loaded
    → (id : ℕ) × EntersAs m number (a_manifest.drop number id) manifest batch (Some plan) loaded
carries_drop m kind.Sync number manifest batch plan loaded other c = absurd (let e : Some plan ≡ None = c.0 in cc)
carries_drop m kind.Freeze number manifest batch plan loaded other c = absurd c
carries_drop m kind.Install number manifest batch plan loaded other c = absurd c
carries_drop m kind.Create number manifest batch plan loaded other c = absurd (other refl)
carries_drop m kind.Drop number manifest batch plan loaded other c = c

-- what a turn's batch is, lent to the device side
lent_batch : (given : Option (Bor Batch)) (entries : List Entry) → IsBatchOf (option_map (λ (b : Bor Batch). b.now) given) entries
    → plans.IsBatchOf given entries
lent_batch None entries is = is
lent_batch (Some batch) entries is = (is.1, some_entries entries is.0)
  where
    some_entries : (entries : List Entry) → entries ≢ [] → 1 ≤ length entries
    some_entries [] some = absurd (some refl)
    some_entries (entry ∷ entries) some = omega arith

-- it may come
pub may_turn : (m : Core) (number : ℕ) (entry : a_manifest.Entry) (manifest : Manifest) (batch : Option (List ℕ)) (plan : EntryPlan) (loaded : Loaded)
    (given : Option (Bor Batch)) → option_map (λ (b : Bor Batch). b.now) given ≡ batch
    → (e : EntersAs m number entry manifest batch (Some plan) loaded) → plans.MayTurn loaded e.entries entry manifest given plan
may_turn m number entry manifest batch plan loaded given same e = record {
  batch_is = lent_batch given e.entries (subst (λ (b : Option (List ℕ)). IsBatchOf b e.entries) (sym same) e.batch_is);
  commits_may = e.may;
  entry_may = e.enters;
  planned = e.planned;
}

-- ---- a turn that has run

-- the machine after the device calls of its turn
abbrev after_calls : Core → machine_turn → Bool → Core
after_calls m turn broken = record m { turn = turn; is_broken = broken }

of_written : (m : Core) (turn : machine_turn) (broken : Bool) (what : TurnKind) (number : ℕ) (out : TakenTurn) → IsOf m what number out
    → IsOf (after_calls m turn broken) what number out
of_written m turn broken what number out o = record {
  is = o.is;
  plan = o.plan;
  entered = o.entered ∙ same out.plan;
  low = o.low;
  high = o.high;
}
  where
    same : (plan : Plan) → entered_after m plan ≡ entered_after (record m { turn = turn; is_broken = broken }) plan
    same settles = refl
    same (enters manifest) = refl
    same (removes id manifest) = refl
    same (installs id work new manifest) = refl

from_written : (m : Core) (turn : machine_turn) (broken : Bool) (last : ℕ) (image : List ℕ) → StoresFrom m last image
    → StoresFrom (after_calls m turn broken) last image
from_written m turn broken last image has = record {
  number = has.number;
  reaches = has.reaches;
  within = has.within;
  stored = record { loaded = has.stored.loaded; is = has.stored.is; same = has.stored.same };
}

from_more : (m : Core) (last later : ℕ) (image : List ℕ) → last ≤ later → StoresFrom m last image → StoresFrom m later image
from_more m last later image le has = record {
  number = has.number;
  reaches = has.reaches;
  within = omega (arith, has.within);
  stored = has.stored;
}

-- the manifest where a planned entry puts it
placed_by : (sizes : Sizes) (before : ManifestState) (old new : Manifest) (plan : EntryPlan) (manifest : ManifestState)
    → sizes_of (params_of old.layout) ≡ sizes → old.sequence ≡ before.sequence → old.tail.place + 1 ≡ before.used
    → IsPutBy before plan manifest → IsPlacedBy old plan new
    → (sizes_of (params_of new.layout) ≡ sizes) × (new.sequence ≡ manifest.sequence) × (new.tail.place + 1 ≡ manifest.used)
placed_by sizes before old new (Log batch) manifest sized sequence used put placed = (
  ap (λ l. sizes_of (params_of l)) placed.0 ∙ sized,
  placed.1 ∙ sequence ∙ sym put.0,
  let place : new.tail.place ≡ old.tail.place + need_of batch = placed.2 in
      let is : manifest.used ≡ before.used + need_of batch = put.1 in
      omega (arith, place, is, used),
)
placed_by sizes before old new (Roll batch) manifest sized sequence used put placed = (
  ap (λ l. sizes_of (params_of l)) placed.0 ∙ sized,
  placed.1 ∙ ap (λ (n : ℕ). n + 1) sequence ∙ sym put.0,
  placed.2 ∙ sym put.1,
)

module _ {D : Type 0} (g : Ghosts D) (turn : Turn D g) (m : Core) (t : TurnOf g turn m) (back : Back D g)
    (at : IsPutAt turn.back.manifest turn.plan back.manifest) where
  placed_still : turn.plan ≡ None → IsPlaced back m.sizes m.manifest
  placed_still none =
      let same : back.manifest ≡ turn.back.manifest = subst (λ (p : Option EntryPlan). IsPutAt turn.back.manifest p back.manifest) none at in
      record {
        sizes_are = ap (λ x. sizes_of (params_of x.layout)) same ∙ t.placed.sizes_are;
        sequence = ap (λ x. x.sequence) same ∙ t.placed.sequence;
        used = ap (λ x. x.tail.place + 1) same ∙ t.placed.used;
      }

  placed_entered : (plan : Option EntryPlan) (what : Plan) (manifest : ManifestState) → (IsPut m.manifest (enters manifest) plan)
      → IsPutAt turn.back.manifest plan back.manifest → IsPlaced back m.sizes manifest
  placed_entered None what manifest put placed = absurd put
  placed_entered (Some plan) what manifest put placed =
      let all = placed_by m.sizes m.manifest turn.back.manifest back.manifest plan manifest t.placed.sizes_are t.placed.sequence t.placed.used put placed in
      record { sizes_are = all.0; sequence = all.1; used = all.2 }

  placed_after : (plan : Option EntryPlan) (what : Plan) → plan ≡ turn.plan → IsPut m.manifest what plan → IsPutAt turn.back.manifest plan back.manifest
      → IsPlaced back m.sizes (entered_after m what).manifest
  placed_after plan settles is put placed = placed_still (sym is ∙ put)
  placed_after None (enters manifest) is put placed = absurd put
  placed_after (Some plan) (enters manifest) is put placed = placed_entered (Some plan) (enters manifest) manifest put placed
  placed_after None (removes id manifest) is put placed = absurd put
  placed_after (Some plan) (removes id manifest) is put placed = placed_entered (Some plan) (removes id manifest) manifest put placed
  placed_after plan (installs id work sets manifest) is put placed = absurd put

  pub ran_well : (g.tells → RestsAt g back (stored_at m turn.number))
      → RanOf g (record { back = back; kind = turn.kind; number = turn.number; has_failed = false }) (record m { turn = written m.turn false })
  ran_well rests =
      subst (λ (b : Bool). RanOf g (record { back = back; kind = turn.kind; number = turn.number; has_failed = false })
      (after_calls m (written m.turn false) b)) (sym t.whole) (record {
        out = t.out;
        phase = ap (λ (x : machine_turn). written x false) t.phase;
        of = of_written m (written m.turn false) false turn.kind turn.number t.out t.of;
        broken = refl;
        placed = λ fine.
            let p = placed_after turn.plan t.out.plan refl t.put at in
            record { sizes_are = p.sizes_are; sequence = p.sequence; used = p.used };
        settled = λ fine told. let r = rests told in record { loaded = r.loaded; rests = r.rests; same = r.same };
        failed = λ failed. absurd cc;
      })

-- a turn that has something to write calls the device
pub calls_where : {D : Type 0} (g : Ghosts D) (turn : Turn D g) (m : Core) → TurnOf g turn m → (IsIdle turn.batch turn.plan → ⊥) → Calls m.turn
calls_where g turn m t some =
    subst Calls (sym t.phase)
    (⊎_elim (λ idle. absurd (some idle)) (λ (calls : t.out.calls ≡ true). calls) t.calls)

module _ {D : Type 0} (g : Ghosts D) (turn : Turn D g) (m : Core) (t : TurnOf g turn m) (back : Back D g) where
  pub ran_badly : CountsNow g → OnlyNow g → g.clock turn.back.disk ≤ g.clock back.disk
      → (g.tells → LeavesOnly g turn.back.disk back.disk (StoresFrom m turn.number))
      → RanOf g (record { back = back; kind = turn.kind; number = turn.number; has_failed = true })
      (record m { turn = written m.turn true; is_broken = true })
  ran_badly counts only forward leaves = record {
    out = t.out;
    phase = ap (λ (x : machine_turn). written x true) t.phase;
    of = of_written m (written m.turn true) true turn.kind turn.number t.out t.of;
    broken = refl;
    placed = λ fine. absurd cc;
    settled = λ fine. absurd cc;
    failed = λ failed told image left.
        let r = t.ready told in
        from_written m (written m.turn true) true (number_of m) image
        (from_more m turn.number (number_of m) image t.of.high
        (⊎_elim (λ was. from_rest g turn.back m turn.number r.loaded image t.of.low r.rests r.same was) (λ has. has)
        (leaves_now g counts only told turn.back.disk back.disk (StoresFrom m turn.number) forward (leaves told) image left)));
  }
