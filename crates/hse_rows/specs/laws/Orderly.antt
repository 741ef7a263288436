-- What a normal form is: the lasting writes, each as often, in order.
use Rattle.std.specs.Prelude.{◌≡◌, Bool, List}
use Rattle.std.specs.List.{count_by}
use Rattle.std.specs.List.Sorted.{IsStrictlySortedBy}
use Rattle.hse_rows.specs.declared.write.Write.{Write}
use Rattle.hse_rows.specs.writes.NormalForm.{lasting, normal_form, write_cmp}

pub record IsNormalForm (writes form : List Write) : Type 0 where
  pub rising : IsStrictlySortedBy write_cmp form
  pub lasting_ones : (p : Write → Bool) → count_by p form ≡ count_by p (lasting writes)

abbrev pub NormalFormsAreInOrder : Type 0
NormalFormsAreInOrder = (writes : List Write) → IsNormalForm writes (normal_form writes)
