-- Where the device is.
use Rattle.std.specs.Prelude.{Option, Some, None}
use Rattle.std.proofs.Common.{◌≡◌, ℕ, List, refl, sym, ap, ◌∙◌, subst}
use Rattle.media_disk.specs.Calls.{CallsMade}
use Rattle.media_disk.specs.Leaves.{LeavesOnly}
use Rattle.media_disk.specs.declared.device.Device.{Ghosts}
use Rattle.back.specs.declared.back.Back.{Back}
use Rattle.kvdb.specs.declared.side.Side.{Side}
use Rattle.kvdb.specs.declared.side.Side.TheVariants as side
use Rattle.kvdb.specs.declared.side.TurnKind.{TurnKind}
use Rattle.kvdb.specs.declared.turn.Turn.{Turn}
use Rattle.kvdb.specs.declared.turn.Ran.{Ran}
use Rattle.kvdb.specs.Sides.{out_of}
use Rattle.turn_phases.specs.declared.held.Held.{Held}
use Rattle.turn_phases.specs.declared.held.Held.TheVariants as held
use Rattle.turn_phases.specs.Devices.{device_at}
use Rattle.turn_phases.specs.HeldTurns.{turn_of}

-- the device of these two, where there is one
abbrev place_of : {D : Type 0} {g : Ghosts D} → Side D g → Held D g → Option D
place_of (side.In back) h = Some back.disk
place_of (side.Out what number) held.Nothing = None
place_of (side.Out what number) (held.Taken turn) = Some turn.back.disk
place_of (side.Out what number) (held.Run ran) = Some ran.back.disk

is_place : {D : Type 0} {g : Ghosts D} (s : Side D g) (h : Held D g) (paired : out_of s ≡ turn_of h) → Some (device_at s h paired) ≡ place_of s h
is_place (side.In back) h paired = refl
is_place (side.Out what number) held.Nothing paired = absurd cc
is_place (side.Out what number) (held.Taken turn) paired = refl
is_place (side.Out what number) (held.Run ran) paired = refl

abbrev or_else : {D : Type 0} → D → Option D → D
or_else d None = d
or_else d (Some disk) = disk

-- ---- by cases on where it is

placed : {D : Type 0} {g : Ghosts D} (s : Side D g) (h : Held D g) (paired : out_of s ≡ turn_of h) (disk : D) → place_of s h ≡ Some disk → device_at s h paired ≡ disk
placed s h paired disk is = ap (or_else disk) (is_place s h paired ∙ is)

pub device_in_engine : {D : Type 0} {g : Ghosts D} (s : Side D g) (h : Held D g) (paired : out_of s ≡ turn_of h) (back : Back D g)
    → s ≡ side.In back → device_at s h paired ≡ back.disk
device_in_engine {D = D} {g = g} s h paired back is = placed s h paired back.disk (ap (λ (x : Side D g). place_of x h) is)

pub device_taken : {D : Type 0} {g : Ghosts D} (s : Side D g) (h : Held D g) (paired : out_of s ≡ turn_of h) (turn : Turn D g) (what : TurnKind) (number : ℕ)
    → s ≡ side.Out what number → h ≡ held.Taken turn → device_at s h paired ≡ turn.back.disk
device_taken {D = D} {g = g} s h paired turn what number out is =
    placed s h paired turn.back.disk
    (ap (λ (x : Side D g). place_of x h) out ∙ ap (λ (x : Held D g). place_of (side.Out what number) x) is)

pub device_run : {D : Type 0} {g : Ghosts D} (s : Side D g) (h : Held D g) (paired : out_of s ≡ turn_of h) (ran : Ran D g) (what : TurnKind) (number : ℕ)
    → s ≡ side.Out what number → h ≡ held.Run ran → device_at s h paired ≡ ran.back.disk
device_run {D = D} {g = g} s h paired ran what number out is =
    placed s h paired ran.back.disk
    (ap (λ (x : Side D g). place_of x h) out ∙ ap (λ (x : Held D g). place_of (side.Out what number) x) is)

pub device_same : {D : Type 0} {g : Ghosts D} (s now : Side D g) (h then : Held D g) (paired : out_of s ≡ turn_of h) (still : out_of now ≡ turn_of then)
    → now ≡ s → then ≡ h → device_at now then still ≡ device_at s h paired
device_same {D = D} {g = g} s now h then paired still sides helds =
    placed now then still (device_at s h paired)
    (ap (λ (x : Side D g). place_of x then) sides ∙ ap (λ (x : Held D g). place_of s x) helds ∙ sym (is_place s h paired))

-- ---- the engine and the turn speak of one turn

abbrev turn_or : TurnKind × ℕ → Option (TurnKind × ℕ) → TurnKind × ℕ
turn_or turn None = turn
turn_or turn (Some other) = other

abbrev out_side : {D : Type 0} {g : Ghosts D} → TurnKind → ℕ → Side D g
out_side what number = side.Out what number

out_same : {D : Type 0} {g : Ghosts D} (one other : TurnKind) (number at : ℕ) → one ≡ other → number ≡ at → out_side {D = D} {g = g} one number ≡ out_side other at
out_same {D = D} {g = g} one other number at kinds numbers =
    ap (λ (k : TurnKind). out_side {D = D} {g = g} k number) kinds ∙ ap (λ (n : ℕ). out_side {D = D} {g = g} other n) numbers

pub out_with : {D : Type 0} {g : Ghosts D} (s : Side D g) (what : TurnKind) (number : ℕ) → out_of s ≡ Some (what, number) → s ≡ side.Out what number
out_with (side.In back) what number is = absurd cc
out_with {D = D} {g = g} (side.Out own at) what number is =
    let pair : (own, at) ≡ (what, number) = ap (turn_or (what, number)) is in
    out_same own what at number (ap (λ (p : TurnKind × ℕ). p.0) pair) (ap (λ (p : TurnKind × ℕ). p.1) pair)

pub out_taken : {D : Type 0} {g : Ghosts D} (s : Side D g) (h : Held D g) (turn : Turn D g) → out_of s ≡ turn_of h → h ≡ held.Taken turn
    → s ≡ side.Out turn.kind turn.number
out_taken {D = D} {g = g} s h turn paired is = out_with s turn.kind turn.number (paired ∙ ap (λ (x : Held D g). turn_of x) is)

pub out_run : {D : Type 0} {g : Ghosts D} (s : Side D g) (h : Held D g) (ran : Ran D g) → out_of s ≡ turn_of h → h ≡ held.Run ran
    → s ≡ side.Out ran.kind ran.number
out_run {D = D} {g = g} s h ran paired is = out_with s ran.kind ran.number (paired ∙ ap (λ (x : Held D g). turn_of x) is)

pub out_of_ran : {D : Type 0} {g : Ghosts D} (s : Side D g) (h : Held D g) (turn : Turn D g) (ran : Ran D g) → out_of s ≡ turn_of h → h ≡ held.Taken turn
    → ran.kind ≡ turn.kind → ran.number ≡ turn.number → s ≡ side.Out ran.kind ran.number
out_of_ran s h turn ran paired is kind number =
    out_taken s h turn paired is ∙ out_same turn.kind ran.kind turn.number ran.number (sym kind) (sym number)

-- the device side is in, so that no turn is held
pub none_held : {D : Type 0} {g : Ghosts D} (s : Side D g) (h : Held D g) (back : Back D g) → out_of s ≡ turn_of h → s ≡ side.In back → h ≡ held.Nothing
none_held s held.Nothing back paired is = refl
none_held {D = D} {g = g} s (held.Taken turn) back paired is =
    absurd (let e : None ≡ Some (turn.kind, turn.number) = sym (ap (λ (x : Side D g). out_of x) is) ∙ paired in cc)
none_held {D = D} {g = g} s (held.Run ran) back paired is =
    absurd (let e : None ≡ Some (ran.kind, ran.number) = sym (ap (λ (x : Side D g). out_of x) is) ∙ paired in cc)

-- and the other way round
pub side_in : {D : Type 0} {g : Ghosts D} (s : Side D g) (h : Held D g) → out_of s ≡ turn_of h → h ≡ held.Nothing → out_of s ≡ None
side_in {D = D} {g = g} s h paired nothing = paired ∙ ap (λ (x : Held D g). turn_of x) nothing

-- ---- what is said of devices that are these

pub leaves_at : {D : Type 0} (g : Ghosts D) (old new was is : D) (P : List ℕ → Type 0) → was ≡ old → is ≡ new → LeavesOnly g old new P → LeavesOnly g was is P
leaves_at {D = D} g old new was is P a b leaves =
    subst (λ (x : D). LeavesOnly g x is P) (sym a) (subst (λ (x : D). LeavesOnly g old x P) (sym b) leaves)

pub calls_at : {D : Type 0} (g : Ghosts D) (old new was is : D) → was ≡ old → is ≡ new → CallsMade g old new → CallsMade g was is
calls_at {D = D} g old new was is a b calls =
    subst (λ (x : D). CallsMade g x is) (sym a) (subst (λ (x : D). CallsMade g old x) (sym b) calls)
