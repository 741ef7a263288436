-- What a write set keeps: its writes in order, and how many bytes they take.
use Rattle.std.specs.Prelude.{◌≡◌, ◌<◌, ◌^◌, List}
use Rattle.std.specs.List.Sorted.{IsStrictlySortedBy}
use Rattle.hse_rows.specs.declared.write.Write.{Write}
use Rattle.hse_rows.specs.declared.write_set.WriteSet.TheInside.{Inside}
use Rattle.hse_rows.specs.writes.NormalForm.{write_cmp}
use Rattle.hse_rows.specs.writes.Charge.{writes_bytes, charge_of}

abbrev pub writes_of : Inside → List Write
writes_of set = set.writes.items

pub record IsSet (set : Inside) : Type 0 where
  pub rising : IsStrictlySortedBy write_cmp set.writes.items
  pub counted : set.bytes ≡ writes_bytes set.writes.items
  pub fits : charge_of set.writes.items < 2 ^ 64
