-- The contents after changes that come in two parts.
use Rattle.std.proofs.Common.{◌≡◌, List, [], ◌∷◌, ◌++◌, refl}
use Rattle.hse_shell.specs.Change.{Change, Contents, applied, after}

pub after-append : (contents : Contents) (changes more : List Change) → after contents (changes ++ more) ≡ after (after contents changes) more
after-append contents [] more = refl
after-append contents (change ∷ changes) more = after-append (applied contents change) changes more

-- one more change
pub after-push : (contents : Contents) (changes : List Change) (change : Change) → after contents (changes ++ change ∷ []) ≡ applied (after contents changes) change
after-push contents changes change = after-append contents changes (change ∷ [])
