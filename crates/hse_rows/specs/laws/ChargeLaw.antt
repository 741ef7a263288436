-- How a charge grows.
use Rattle.std.specs.Prelude.{◌+◌, ◌≤◌, List, [], ◌∷◌, ◌++◌}
use Rattle.hse_rows.specs.declared.write.Write.{Write}
use Rattle.hse_rows.specs.writes.Charge.{change_bytes, charge_of}
use Rattle.hse_rows.specs.writes.NormalForm.{normal_form}

-- one more write raises the charge by its own bytes at most
abbrev pub ChargesGrowByTheChangeAtMost : Type 0
ChargesGrowByTheChangeAtMost =
    (writes : List Write) (more : Write)
    → charge_of (normal_form (writes ++ more ∷ [])) ≤ charge_of writes + change_bytes more.change
