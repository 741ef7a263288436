-- What the readers of this crate give is what reading gives on lists, unless it is out of memory.
use Rattle.std.specs.Prelude.{◌≡◌, ℕ, Result, Ok, Err}
use Rattle.hse_fields.specs.LogText as log
use Rattle.hse_fields.specs.declared.refusal.Refusal.{Refusal}
use Rattle.hse_fields.specs.declared.refusal.Refusal.TheVariants.{Left, NoMemory}
use Rattle.wal.specs.declared.segment.SegmentFault.{SegmentFault}
use Rattle.wal.specs.declared.segment.SegmentFault.TheVariants.{Damaged}
use Rattle.wal.specs.declared.segment.SegmentFault.TheVariants as segment
use Rattle.wal.specs.declared.kind.Kind.{Kind}
use Rattle.wal.specs.declared.kind.Kind.TheVariants.{Put, Del, PDel}

abbrev pub Fails : {Y : Type 0} → Refusal → Result Y ℕ → Type 0
Fails (Left left) read = read ≡ Err left
Fails NoMemory read = Unit {0}

abbrev pub Gives : {X Y : Type 0} → (X → Y) → Result X Refusal → Result Y ℕ → Type 0
Gives view (Ok x) read = read ≡ Ok (view x)
Gives view (Err refusal) read = Fails refusal read

abbrev pub kind_as : Kind → log.Kind
kind_as Put = log.put
kind_as Del = log.del
kind_as PDel = log.pdel

-- The same of what a reader of a whole segment gives: a refusal is the place of the refused field.
abbrev pub Refuses : {Y : Type 0} → SegmentFault → Result Y ℕ → Type 0
Refuses (Damaged place) read = read ≡ Err place
Refuses segment.NoMemory read = Unit {0}

abbrev pub Tells : {X Y : Type 0} → (X → Y) → Result X SegmentFault → Result Y ℕ → Type 0
Tells view (Ok x) read = read ≡ Ok (view x)
Tells view (Err fault) read = Refuses fault read
