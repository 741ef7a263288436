use Rattle.std.proofs.Common.{◌≡◌, ◌∙◌, ◌++◌, List, ℕ, length, ap, append_assoc}
use Rattle.std.specs.List.{flat_map}
use Rattle.std.proofs.lemmas.Result.{on_ok_weaker}
use Rattle.byteorder.specs.Endian.{big_bytes}
use Rattle.manifest.specs.Text.{runs_text, store_text}
use Rattle.manifest.specs.Views.{stores_as}
use Rattle.hse_rows.specs.machine.TakenRuns.{runs_as}
use Rattle.manifest.proofs.encode.put_base.Goals as goal

three : (into a b d x y z : List ℕ) → x ≡ into ++ a → y ≡ x ++ b → z ≡ y ++ d → z ≡ into ++ (a ++ (b ++ d))
three into a b d x y z first second third =
    third ∙ ap (λ (l : List ℕ). l ++ d) (second ∙ ap (λ (l : List ℕ). l ++ b) first)
    ∙ append_assoc (into ++ a) b d ∙ append_assoc into a (b ++ d)

pub returns : goal.returns
returns c =
    let base = c.args.base.now in
    let taken : List ℕ = big_bytes 4 (length (runs_as base.taken.items)) ++ runs_text base.horizon (runs_as base.taken.items) in
    let stores : List ℕ = big_bytes 4 (length (stores_as base.stores.items)) ++ flat_map store_text (stores_as base.stores.items) in
    on_ok_weaker c.put_live.result
    (λ is. three c.args.into.now.items _ taken stores c.put_head.new.into.items c.put_taken.new.into.items c.put_live.new.into.items
    c.in_ok-put_head.ensures (rw c.deref.ensures.value at c.in_ok-put_taken.ensures) is)
    (rw c.deref-2.ensures.value at c.put_live.ensures)
