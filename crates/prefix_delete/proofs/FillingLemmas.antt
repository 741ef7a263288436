-- The text of one entry more.
use Rattle.std.proofs.Common.{◌≡◌, ℕ, List, [], ◌∷◌, ◌++◌, map, sym, ap, ◌∙◌, append_assoc}
use Rattle.std.proofs.lemmas.List.{append-nil}
use Rattle.hse_fields.specs.BlockText.{prefix_text, prefixes_text}
use Rattle.prefix_delete.specs.declared.entry.Entry.{Entry}
use Rattle.prefix_delete.specs.Blocks.{in_block}

pub text_more : (xs : List Entry) (e : Entry) → prefixes_text (map in_block (xs ++ e ∷ [])) ≡ prefixes_text (map in_block xs) ++ prefix_text (in_block e)
text_more [] e = append-nil (prefix_text (in_block e))
text_more (x ∷ xs) e =
    ap (λ (l : List ℕ). prefix_text (in_block x) ++ l) (text_more xs e)
    ∙ sym (append_assoc (prefix_text (in_block x)) (prefixes_text (map in_block xs)) (prefix_text (in_block e)))
