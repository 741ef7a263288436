use Rattle.std.proofs.Common.{◌≡◌, ◌∙◌, ◌∷◌, [], List, refl, ap, Ok}
use Rattle.hse_fields.specs.LogReading.{any, payload_of, Follow, PrefixesFit}
use Rattle.hse_fields.specs.LogText.{Entry}
use Rattle.hse_fields.specs.laws.AllChanges.{any_prefixes_fit}
use Rattle.hse_fields.specs.laws.Payloads.{payload_takes, payload_again}
use Rattle.hse_fields.specs.laws.Within.{payload_within}
use Rattle.hse_fields.proofs.laws.log_text_is_read.Goals as goal

-- any entries may come one after another
any_follow : (entries : List Entry) → Follow any tt entries tt
any_follow [] = refl
any_follow (e ∷ es) = (refl, tt, refl, any_follow es)

-- and their prefix deletes may have any lengths
any_fit : (entries : List Entry) → PrefixesFit any.prefix_fits entries
any_fit [] = tt
any_fit (e ∷ es) = (any_prefixes_fit e.changes, any_fit es)

pub returns-clause-read : goal.returns-clause-read
returns-clause-read c = λ most bytes entries small e.
    let t = payload_takes any most tt bytes (entries, tt) small e in (t.0, t.1)

pub returns-clause-spelled : goal.returns-clause-spelled
returns-clause-spelled c = λ most entries small formed. payload_again any most tt tt entries small formed (any_follow entries) (any_fit entries)

pub returns-clause-refused : goal.returns-clause-refused
returns-clause-refused c = λ most left bytes entries small e formed spelled.
    let read : payload_of any most tt bytes ≡ Ok (entries, tt) = ap (payload_of any most tt) spelled ∙ payload_again any most tt tt entries small formed (any_follow entries) (any_fit entries) in
    absurd cc

pub returns-clause-within : goal.returns-clause-within
returns-clause-within c = λ most left bytes e. payload_within any most tt bytes left e
