-- Lines and machines of the tables of small cases.
use Rattle.std.proofs.Common.{ℕ, Bool, true, false, List, []}
use Rattle.hse_rows.specs.declared.store.Mode.{Mode}
use Rattle.hse_rows.specs.declared.change.Change.TheVariants.{Put, Del}
use Rattle.hse_rows.specs.states.State.{Store, State}
use Rattle.hse_rows.specs.machine.Log.{LogState, Numbered}
use Rattle.hse_rows.specs.machine.ManifestRoom.{ManifestState}
use Rattle.hse_rows.specs.machine.Sizes.{Sizes}
use Rattle.hse_rows.specs.rows.Layout.{Layout}
use Rattle.hse_rows.specs.rows.Job.{keys, values, spill, Run, ingesting, on_run, built_sets, installed}
use Rattle.hse_rows.specs.machine.Turn as wish
use Rattle.hse_rows.specs.machine.Core.{life, Stored}
use Rattle.hse_rows.specs.machine.Core as core
use Rattle.hse_rows.specs.script.ScriptLines.{Who, nobody, Line, write_by, turn}
use Rattle.hse_rows.specs.script.Script.{Script, begins_with}

abbrev pub outside : Who
outside = nobody

abbrev pub create_store : List ℕ → Mode → ℕ → Line
create_store name mode prefix = turn (wish.create name mode prefix)

abbrev pub drop_store : List ℕ → Line
drop_store name = turn (wish.drop name)

abbrev pub sync : Line
sync = turn wish.sync

abbrev pub put : Who → List ℕ → List ℕ → List ℕ → Line
put who store key bytes = write_by who store (Put key bytes)

abbrev pub del : Who → List ℕ → List ℕ → Line
del who store key = write_by who store (Del key)

abbrev pub formatted : Sizes → Script
formatted sizes = begins_with (life (core.formatted sizes))

-- what a device without sets stores
abbrev pub without_sets : Sizes → State → LogState → ManifestState → Stored
without_sets sizes base log manifest =
    record { sizes = sizes; base = base; log = log; manifest = manifest; layout = [] }

abbrev pub loaded : Sizes → State → LogState → ManifestState → Script
loaded sizes base log manifest = begins_with (life (without_sets sizes base log manifest))

abbrev pub failed : Script → Script
failed s = record s { core = record s.core { is_broken = true } }

abbrev pub with_manifest : Script → ManifestState → Script
with_manifest s manifest = record s { core = record s.core { manifest = manifest } }

abbrev pub with_sizes : Script → Sizes → Script
with_sizes s sizes = record s { core = record s.core { sizes = sizes } }

abbrev pub number_of : Script → ℕ
number_of s = core.number_of s.core

-- ---- what jobs make of a layout when they are built and installed at once

abbrev pub ingested : ℕ → Layout → List Store → List Numbered → Layout
ingested slot_size layout stores commits =
    installed layout ingesting (built_sets slot_size layout stores commits ingesting)

abbrev after_run : ℕ → Layout → Run → Layout
after_run slot_size layout run =
    installed layout (on_run run) (built_sets slot_size layout [] [] (on_run run))

abbrev pub compacted : ℕ → Layout → ℕ → List ℕ → ℕ → ℕ → Bool → Layout
compacted slot_size layout store path older len last =
    after_run slot_size layout
    (record { kind = values; store = store; prefix_length = 0; path = path; older = older; len = len; last = last })

abbrev pub keys_compacted : ℕ → Layout → ℕ → List ℕ → ℕ → ℕ → Bool → Layout
keys_compacted slot_size layout store path older len last =
    after_run slot_size layout
    (record { kind = keys; store = store; prefix_length = 0; path = path; older = older; len = len; last = last })

abbrev pub spilled : ℕ → Layout → ℕ → List ℕ → ℕ → ℕ → Layout
spilled slot_size layout store path prefix_length len =
    after_run slot_size layout
    (record { kind = spill; store = store; prefix_length = prefix_length; path = path; older = 0; len = len; last = false })
