-- How many blocks the sets of a layout have after an install and after a drop.
use Rattle.std.specs.Prelude.{◌==◌, take, drop, map, sum_by}
use Rattle.std.specs.List.{filter, find}
use Rattle.std.specs.declared.cmp.Ordering.{Ordering}
use Rattle.std.specs.Ordering.{is_lt}
use Rattle.std.proofs.Common.{◌≡◌, ℕ, zero, suc, ◌+◌, ◌-◌, ◌≤◌, Bool, true, false, not, cond, List, [], ◌∷◌, ◌++◌, length, Some, refl, sym, ◌∙◌, ap, arith}
use Rattle.std.proofs.Math.Seq.{drop-nil}
use Rattle.std.proofs.lemmas.List.Sums.{sum_by-append, sum_by-cons, sum_by-take-drop}
use Rattle.hse_rows.specs.writes.Sorted.{placed}
use Rattle.hse_rows.specs.rows.Layout.{RowsInBlocks, Node, Layout, NewSet, node_cmp, is_at, sets_at, sets_in, with_sets, in_front, in_fronts, run_in, in_place_of_run}
use Rattle.hse_rows.specs.rows.Job.{RunKind, keys, values, spill, Run, Work, ingesting, on_run, writes_values, blocks_of, blocks_to_write, needed_blocks, taken_over_blocks, freed_blocks, sets_of_run, with_run, run_installed, installed}
use Rattle.hse_rows.specs.machine.Core.{blocks_in, layout_but}
use Rattle.hse_rows.specs.laws.CoreLaws.{WorkFits}

abbrev set_blocks : List RowsInBlocks → ℕ
set_blocks sets = sum_by blocks_of sets

abbrev node_blocks : Node → ℕ
node_blocks node = sum_by blocks_of node.sets

abbrev new_blocks : List NewSet → ℕ
new_blocks sets = sum_by (λ (new : NewSet). blocks_of new.set) sets

one_more : (node : Node) (layout : Layout) → blocks_in (node ∷ layout) ≡ node_blocks node + blocks_in layout
one_more node layout = sum_by-cons (λ (n : Node). sum_by blocks_of n.sets) node layout

-- ---- nodes

fewer_blocks : (p : Node → Bool) (layout : Layout) → blocks_in (filter p layout) ≤ blocks_in layout
fewer_blocks p [] = omega arith
fewer_blocks p (node ∷ layout) =
    let rest : blocks_in (filter p layout) ≤ blocks_in layout = fewer_blocks p layout in
    let whole = one_more node layout in
    let kept = one_more node (filter p layout) in
    elim (p node) as (λ b. blocks_in (cond b (node ∷ filter p layout) (filter p layout)) ≤ blocks_in (node ∷ layout)) [
      | true ↦ omega (arith, rest, whole, kept)
      | false ↦ omega (arith, rest, whole)
    ]

abbrev others : ℕ → List ℕ → Layout → Layout
others store path layout = filter (λ node. not (is_at store path node)) layout

without_place : (store : ℕ) (path : List ℕ) (layout : Layout)
    → blocks_in (others store path layout) + set_blocks (sets_at layout store path) ≤ blocks_in layout
without_place store path [] = omega arith
without_place store path (node ∷ layout) =
    let rest : blocks_in (others store path layout) + set_blocks (sets_at layout store path) ≤ blocks_in layout = without_place store path layout in
    let fewer : blocks_in (others store path layout) ≤ blocks_in layout = fewer_blocks (λ n. not (is_at store path n)) layout in
    let whole = one_more node layout in
    let kept = one_more node (others store path layout) in
    elim (is_at store path node)
    as (λ b. blocks_in (cond (not b) (node ∷ others store path layout) (others store path layout))
    + set_blocks (sets_in (cond b (Some node) (find (is_at store path) layout))) ≤ blocks_in (node ∷ layout)) [
      | true ↦ omega (arith, fewer, whole)
      | false ↦ omega (arith, rest, whole, kept)
    ]

placed_blocks : (cmp : Node → Node → Ordering) (layout : Layout) (node : Node) → blocks_in (placed cmp layout node) ≡ blocks_in layout + node_blocks node
placed_blocks cmp [] node =
    let one = one_more node [] in
    omega (arith, one)
placed_blocks cmp (first ∷ layout) node =
    let rest : blocks_in (placed cmp layout node) ≡ blocks_in layout + node_blocks node = placed_blocks cmp layout node in
    let whole = one_more first layout in
    let front = one_more node (first ∷ layout) in
    let kept = one_more first (placed cmp layout node) in
    elim (is_lt (cmp node first))
    as (λ b. blocks_in (cond b (node ∷ first ∷ layout) (first ∷ placed cmp layout node)) ≡ blocks_in (first ∷ layout) + node_blocks node) [
      | true ↦ omega (arith, front)
      | false ↦ omega (arith, rest, whole, kept)
    ]

with_sets_blocks : (layout : Layout) (store : ℕ) (path : List ℕ) (sets : List RowsInBlocks)
    → blocks_in (with_sets layout store path sets) + set_blocks (sets_at layout store path) ≤ blocks_in layout + set_blocks sets
with_sets_blocks layout store path [] =
    let rest : blocks_in (others store path layout) + set_blocks (sets_at layout store path) ≤ blocks_in layout = without_place store path layout in
    omega (arith, rest)
with_sets_blocks layout store path (first ∷ sets) =
    let rest : blocks_in (others store path layout) + set_blocks (sets_at layout store path) ≤ blocks_in layout = without_place store path layout in
    let node : Node = record { store = store; path = path; sets = first ∷ sets } in
    let more = placed_blocks node_cmp (others store path layout) node in
    omega (arith, rest, more)

in_front_blocks : (layout : Layout) (store : ℕ) (path : List ℕ) (new : List RowsInBlocks)
    → blocks_in (in_front layout store path new) ≤ blocks_in layout + set_blocks new
in_front_blocks layout store path new =
    let with_new = with_sets_blocks layout store path (new ++ sets_at layout store path) in
    let both = sum_by-append blocks_of new (sets_at layout store path) in
    omega (arith, with_new, both)

in_fronts_blocks : (layout : Layout) (sets : List NewSet) → blocks_in (in_fronts layout sets) ≤ blocks_in layout + new_blocks sets
in_fronts_blocks layout [] = omega arith
in_fronts_blocks layout (new ∷ sets) =
    let first = in_front_blocks layout new.store new.path (new.set ∷ []) in
    let rest = in_fronts_blocks (in_front layout new.store new.path (new.set ∷ [])) sets in
    let one = sum_by-cons blocks_of new.set [] in
    let whole = sum_by-cons (λ (n : NewSet). blocks_of n.set) new sets in
    omega (arith, first, rest, one, whole)

-- ---- runs

drop_drop : (m n : ℕ) (sets : List RowsInBlocks) → drop m (drop n sets) ≡ drop (m + n) sets
drop_drop m zero sets =
    let same : m ≡ m + 0 = omega arith in
    ap (λ (k : ℕ). drop k sets) same
drop_drop m (suc n) [] = drop-nil m ∙ sym (drop-nil (m + suc n))
drop_drop m (suc n) (set ∷ sets) =
    let next : suc (m + n) ≡ m + suc n = omega arith in
    drop_drop m n sets ∙ ap (λ (k : ℕ). drop k (set ∷ sets)) next

around_run : (sets new : List RowsInBlocks) (front len behind : ℕ) → len + front ≡ behind
    → set_blocks (take front sets ++ new ++ drop behind sets) + set_blocks (take len (drop front sets)) ≡ set_blocks sets + set_blocks new
around_run sets new front len behind place =
    let same : set_blocks (drop len (drop front sets)) ≡ set_blocks (drop behind sets) =
    ap set_blocks (drop_drop len front sets ∙ ap (λ (n : ℕ). drop n sets) place) in
    let first : set_blocks (take front sets ++ new ++ drop behind sets) ≡ set_blocks (take front sets ++ new) + set_blocks (drop behind sets) =
    sum_by-append blocks_of (take front sets ++ new) (drop behind sets) in
    let second : set_blocks (take front sets ++ new) ≡ set_blocks (take front sets) + set_blocks new = sum_by-append blocks_of (take front sets) new in
    let whole : set_blocks (take front sets) + set_blocks (drop front sets) ≡ set_blocks sets = sum_by-take-drop blocks_of sets front in
    let rest : set_blocks (take len (drop front sets)) + set_blocks (drop len (drop front sets)) ≡ set_blocks (drop front sets) =
    sum_by-take-drop blocks_of (drop front sets) len in
    omega (arith, same, first, second, whole, rest)

in_place_blocks : (sets : List RowsInBlocks) (older len : ℕ) (new : List RowsInBlocks) → older + len ≤ length sets
    → set_blocks (in_place_of_run sets older len new) + set_blocks (run_in sets older len) ≡ set_blocks sets + set_blocks new
in_place_blocks sets older len new fits =
    let place : len + (length sets - (older + len)) ≡ length sets - older = omega (arith, fits) in
    around_run sets new (length sets - (older + len)) len (length sets - older) place

with_run_blocks : (layout : Layout) (run : Run) (sets : List RowsInBlocks) → run.older + run.len ≤ length (sets_at layout run.store run.path)
    → blocks_in (with_run layout run sets) + set_blocks (sets_of_run layout run) ≤ blocks_in layout + set_blocks sets
with_run_blocks layout run sets fits =
    let place = in_place_blocks (sets_at layout run.store run.path) run.older run.len sets fits in
    let node = with_sets_blocks layout run.store run.path (in_place_of_run (sets_at layout run.store run.path) run.older run.len sets) in
    omega (arith, place, node)

-- ---- new sets

sets_blocks : (sets : List NewSet) → set_blocks (map (λ new. new.set) sets) ≡ new_blocks sets
sets_blocks [] = refl
sets_blocks (new ∷ sets) =
    let rest : set_blocks (map (λ new. new.set) sets) ≡ new_blocks sets = sets_blocks sets in
    let ones = sum_by-cons blocks_of new.set (map (λ new. new.set) sets) in
    let whole = sum_by-cons (λ (n : NewSet). blocks_of n.set) new sets in
    omega (arith, rest, ones, whole)

writes_some : (work : Work) (set : RowsInBlocks) → blocks_to_write work set ≤ blocks_of set
writes_some ingesting set = omega arith
writes_some (on_run run) set =
    elim (writes_values run.kind) as (λ b. cond b (blocks_of set) (set.prefix_blocks + set.key_blocks) ≤ blocks_of set) [
      | true ↦ omega arith
      | false ↦ omega arith
    ]

written_and_taken : (work : Work) (sets : List NewSet) → needed_blocks work sets + taken_over_blocks work sets ≡ new_blocks sets
written_and_taken work [] = refl
written_and_taken work (new ∷ sets) =
    let rest : needed_blocks work sets + taken_over_blocks work sets ≡ new_blocks sets = written_and_taken work sets in
    let some : blocks_to_write work new.set ≤ blocks_of new.set = writes_some work new.set in
    let writes = sum_by-cons (λ (n : NewSet). blocks_to_write work n.set) new sets in
    let takes = sum_by-cons (λ (n : NewSet). blocks_of n.set - blocks_to_write work n.set) new sets in
    let whole = sum_by-cons (λ (n : NewSet). blocks_of n.set) new sets in
    omega (arith, rest, some, writes, takes, whole)

-- ---- installs and drops

run_blocks : (layout : Layout) (run : Run) (kind : RunKind) (sets : List NewSet) → run.older + run.len ≤ length (sets_at layout run.store run.path)
    → blocks_in (run_installed layout run kind sets) + set_blocks (sets_of_run layout run) ≤ blocks_in layout + new_blocks sets
run_blocks layout run keys sets fits =
    let counted = with_run_blocks layout run (map (λ new. new.set) sets) fits in
    let same = sets_blocks sets in
    omega (arith, counted, same)
run_blocks layout run values sets fits =
    let counted = with_run_blocks layout run (map (λ new. new.set) sets) fits in
    let same = sets_blocks sets in
    omega (arith, counted, same)
run_blocks layout run spill sets fits =
    let counted = with_run_blocks layout run [] fits in
    let spilled = in_fronts_blocks (with_run layout run []) sets in
    omega (arith, counted, spilled)

pub install_counts : (layout : Layout) (work : Work) (sets : List NewSet) (used : ℕ) → WorkFits layout work sets
    → blocks_in layout + needed_blocks work sets ≤ used → blocks_in (installed layout work sets) + freed_blocks layout work sets ≤ used
install_counts layout ingesting sets used fits room =
    let counted = in_fronts_blocks layout sets in
    omega (arith, counted, room)
install_counts layout (on_run run) sets used fits room =
    let counted = run_blocks layout run run.kind sets fits.0 in
    let both = written_and_taken (on_run run) sets in
    let least : taken_over_blocks (on_run run) sets ≤ sum_by blocks_of (sets_of_run layout run) = fits.1 in
    omega (arith, counted, both, least, room)

pub drop_counts : (layout : Layout) (id used : ℕ) → blocks_in layout ≤ used
    → blocks_in (layout_but layout id) + (blocks_in layout - blocks_in (layout_but layout id)) ≤ used
drop_counts layout id used room =
    let fewer : blocks_in (layout_but layout id) ≤ blocks_in layout = fewer_blocks (λ node. not (node.store == id)) layout in
    omega (arith, fewer, room)
