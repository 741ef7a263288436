-- When a line is refused, and when it is not.
use Rattle.std.proofs.Common.{◌≡◌, ◌≤◌, List, ℕ, length, None, Some, Bool, true, false, if◌then◌else◌, refl, subst}
use Rattle.std.specs.Prelude.{nat_lt}
use Rattle.std.proofs.lemmas.Bool.{le-ltb}
use Rattle.hse_shell.specs.Change.{Change, put, del}
use Rattle.hse_shell.specs.Grammar.{puts, dels, gets}
use Rattle.hse_shell.specs.LogText.{charge_of}
use Rattle.hse_shell.specs.Replies.{Answer, no_reply, ok, value, none, bad_line, no_memory, key_length, log_full}
use Rattle.hse_shell.specs.Machine.{Machine, refusal, longest_key, room_left, key_refusal, log_refusal}
use Rattle.hse_shell.specs.Stands.{Stands, Answers}
use Rattle.hse_shell.specs.declared.engine.Engine.{Engine}

pub no_refusal_of_get : (m : Machine) (key : List ℕ) → length key ≤ longest_key → refusal m (gets key) ≡ None
no_refusal_of_get m key short = rw (le-ltb longest_key (length key) short)

-- the answers that refuse a change
abbrev Refuses : Answer → Type 0
Refuses (key_length n) = Unit {0}
Refuses (log_full need room) = Unit {0}
Refuses answer = ⊥

refuses_by : (long full : Bool) (bytes need room : ℕ) (answer : Answer)
    → (if long then Some (key_length bytes) else (if full then Some (log_full need room) else None)) ≡ Some answer → Refuses answer
refuses_by true full bytes need room answer is = let same : key_length bytes ≡ answer = cc in subst Refuses same tt
refuses_by false true bytes need room answer is = let same : log_full need room ≡ answer = cc in subst Refuses same tt
refuses_by false false bytes need room answer is = cc

refuses : (m : Machine) (key : List ℕ) (change : Change) (answer : Answer) → key_refusal key (log_refusal m change) ≡ Some answer → Refuses answer
refuses m key change answer is =
    refuses_by (nat_lt longest_key (length key)) (nat_lt (room_left m) (charge_of change)) (length key) (charge_of change) (room_left m) answer is

module _ (m : Machine) (engine : Engine) (s : Stands engine m) (key : List ℕ) where
  -- a put that is refused changes nothing
  pub put_refused : (bytes : List ℕ) (answer : Answer) → key_refusal key (log_refusal m (put key bytes)) ≡ Some answer → Answers m (puts key bytes) answer engine
  put_refused bytes (key_length n) is = record { step = (is, refl); stands = s }
  put_refused bytes (log_full need room) is = record { step = (is, refl); stands = s }
  put_refused bytes no_reply is = absurd (refuses m key (put key bytes) no_reply is)
  put_refused bytes (ok number) is = absurd (refuses m key (put key bytes) (ok number) is)
  put_refused bytes (value v) is = absurd (refuses m key (put key bytes) (value v) is)
  put_refused bytes none is = absurd (refuses m key (put key bytes) none is)
  put_refused bytes bad_line is = absurd (refuses m key (put key bytes) bad_line is)
  put_refused bytes no_memory is = absurd (refuses m key (put key bytes) no_memory is)

  -- nor does a deletion
  pub del_refused : (answer : Answer) → key_refusal key (log_refusal m (del key)) ≡ Some answer → Answers m (dels key) answer engine
  del_refused (key_length n) is = record { step = (is, refl); stands = s }
  del_refused (log_full need room) is = record { step = (is, refl); stands = s }
  del_refused no_reply is = absurd (refuses m key (del key) no_reply is)
  del_refused (ok number) is = absurd (refuses m key (del key) (ok number) is)
  del_refused (value v) is = absurd (refuses m key (del key) (value v) is)
  del_refused none is = absurd (refuses m key (del key) none is)
  del_refused bad_line is = absurd (refuses m key (del key) bad_line is)
  del_refused no_memory is = absurd (refuses m key (del key) no_memory is)
