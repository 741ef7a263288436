use Rattle.std.proofs.Common.{◌≡◌, ap, sym, subst, ◌∙◌, ◌++◌, ◌∷◌, [], arith}
use Rattle.std.specs.List.Sorted.{IsStrictlySortedBy}
use Rattle.hse_rows.specs.writes.Change.{write_of}
use Rattle.hse_rows.specs.writes.NormalForm.{write_cmp, added, normal_form}
use Rattle.hse_rows.specs.writes.Charge.{writes_bytes}
use Rattle.hse_rows.proofs.WriteLemmas.{rising-added}
use Rattle.hse_rows.proofs.ChargeLemmas.{next-is-added, next-of-all}
use Rattle.hse_rows.proofs.write_set.WriteSet.add.Goals as goal

is_added : (c : goal.After-self-1) → c.put.new.writes.items ≡ added c.self.inside.writes.items (write_of c.args.store c.args.change)
is_added c =
    c.put.ensures ∙ ap (λ l. added l (write_of c.args.store c.args.change)) c.in_ok-reserve.ensures.items

is_next : (c : goal.After-self-1) → c.put.new.writes.items ≡ normal_form (c.args.self.now ++ write_of c.args.store c.args.change ∷ [])
is_next c =
    is_added c
    ∙ sym (next-is-added _ _ c.self.invariant.rising)
    ∙ ap (λ l. normal_form (l ++ write_of c.args.store c.args.change ∷ [])) c.self.view_is

is_counted : (c : goal.After-self-1) → c.bytes_with-bytes.result ≡ writes_bytes c.put.new.writes.items
is_counted c = c.bytes_with-bytes.ensures ∙ ap writes_bytes (sym (is_next c))

pub invariant_of-self-2 : goal.invariant_of-self-2
invariant_of-self-2 c = record {
  rising = subst (IsStrictlySortedBy write_cmp) (sym (is_added c)) (rising-added _ _ c.self.invariant.rising);
  counted = is_counted c;
  fits = omega (arith, is_counted c, c.has_charge.ensures.0 c.if-not-has_charge.false);
}

pub returns-clause-written : goal.returns-clause-written
returns-clause-written c = is_next c

pub returns-clause-continues : goal.returns-clause-continues
returns-clause-continues c = record {
  all = λ writes is. is_added c ∙ next-of-all _ writes _ (c.self.view_is ∙ is);
}
