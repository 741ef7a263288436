-- The pieces, one after another, are the figures.
use Rattle.std.proofs.Common.{◌≡◌, ℕ, List, [], ◌∷◌, ◌++◌, codes, decimal, ap, ◌∙◌, append_assoc}
use Rattle.std.proofs.lemmas.Result.{on_ok_weaker}
use Rattle.shell_text.specs.Replies.{ended, info_text}
use Rattle.shell_text.proofs.print.append_info.Goals as goal

in_pairs : (a n b f c h d e g q feed : List ℕ)
    → a ++ (n ++ (b ++ (f ++ (c ++ (h ++ (d ++ (e ++ (g ++ (q ++ feed)))))))))
    ≡ ((a ++ n) ++ ((b ++ f) ++ ((c ++ h) ++ ((d ++ e) ++ (g ++ q))))) ++ feed
in_pairs a n b f c h d e g q feed = simp append_assoc

one_after_another : (N F C E Q : List ℕ) (number frozen charge free manifest : ℕ)
    → N ≡ decimal number → F ≡ decimal frozen → C ≡ decimal charge → E ≡ decimal free → Q ≡ decimal manifest
    → codes "info number " ++ (N ++ (codes " frozen " ++ (F ++ (codes " charge " ++ (C ++ (codes " free " ++ (E ++ (codes " manifest " ++ (Q ++ 10 ∷ [])))))))))
    ≡ ended (info_text number frozen charge free manifest)
one_after_another N F C E Q number frozen charge free manifest n f c e q =
    rw (n, f, c, e, q)
    (in_pairs (codes "info number ") (decimal number) (codes " frozen ") (decimal frozen) (codes " charge ") (decimal charge) (codes " free ") (decimal free) (codes " manifest ") (decimal manifest) (10 ∷ []))

pub returns-clause-written : goal.returns-clause-written
returns-clause-written c =
    let pieces = one_after_another _ _ _ _ _ c.args.number c.args.frozen c.args.charge c.args.free c.args.manifest
    (c.as_bytes-number.ensures.value ∙ c.format.ensures.text) (c.as_bytes-frozen.ensures.value ∙ c.format-2.ensures.text)
    (c.as_bytes-charge.ensures.value ∙ c.format-3.ensures.text) (c.as_bytes-free.ensures.value ∙ c.format-4.ensures.text)
    (c.as_bytes-manifest.ensures.value ∙ c.format-5.ensures.text) in
    on_ok_weaker c.append.result (λ same. same ∙ ap (λ (text : List ℕ). c.args.into.now.items ++ text) pieces) c.append.ensures.written
