use Rattle.std.proofs.Common.{◌∙◌, ◌++◌, ℕ, List, length, ap, sym, append_assoc}
use Rattle.std.specs.List.{flat_map}
use Rattle.std.proofs.lemmas.Result.{on_ok_weaker}
use Rattle.std.proofs.lemmas.List.{length-map}
use Rattle.byteorder.specs.Endian.{big_bytes}
use Rattle.manifest.specs.Text.{store_text}
use Rattle.manifest.specs.Views.{store_as, stores_as}
use Rattle.manifest.proofs.encode.put_live.Goals as goal

pub returns : goal.returns
returns c = on_ok_weaker c.put_stores.result
    (λ is. is
    ∙ ap (λ (l : List ℕ). l ++ flat_map store_text (stores_as c.args.stores.now)) c.in_ok-put_low.ensures
    ∙ append_assoc c.args.into.now.items (big_bytes 4 (length c.args.stores.now)) (flat_map store_text (stores_as c.args.stores.now))
    ∙ ap (λ (n : ℕ). c.args.into.now.items ++ (big_bytes 4 n ++ flat_map store_text (stores_as c.args.stores.now)))
    (sym (length-map c.args.stores.now store_as)))
    c.put_stores.ensures
