-- Reading changes one after the other, as a loop does.
use Rattle.std.proofs.Common.{◌≡◌, ℕ, suc, ◌-◌, ◌+◌, ◌≤◌, ◌<◌, Bool, List, [], ◌∷◌, ◌++◌, length, Option, Some, None, Result, Ok, Err, refl, sym, ap, ◌∙◌, append_assoc, arith, Bor}
use Rattle.std.specs.Prelude.{slice_get, option_map}
use Rattle.std.proofs.lemmas.List.{append-nil, length_push}
use Rattle.hse_fields.specs.LogText.{Change}
use Rattle.hse_fields.specs.LogReading.{◌>>=◌, change_of, more_changes_of}
use Rattle.hse_rows.specs.declared.write.Write.{Write}
use Rattle.hse_fields.specs.declared.refusal.Refusal.{Refusal}
use Rattle.hse_fields.specs.declared.refusal.Refusal.TheVariants.{Left, NoMemory}
use Rattle.wal.specs.Given.{Fails}
use Rattle.wal.specs.Logged.{logged, last_of}

-- the last change that was read
abbrev pub end_of : List Write → Option Change
end_of writes = option_map logged (slice_get writes (length writes - 1))

end_by_copy : (last : Option (Bor Write)) (copied : Option Write) → option_map (λ w. w.now) last ≡ copied → last_of last ≡ option_map logged copied
end_by_copy None copied e = ap (option_map logged) e
end_by_copy (Some w) copied e = ap (option_map logged) e

-- what `last` gives
pub end_is : (last : Option (Bor Write)) (items writes : List Write) → option_map (λ w. w.now) last ≡ slice_get items (length items - 1)
    → items ≡ writes → last_of last ≡ end_of writes
end_is last items writes e same =
    end_by_copy last (slice_get items (length items - 1)) e ∙ ap end_of same

slice_get-push : (ws : List Write) (w : Write) → slice_get (ws ++ w ∷ []) (length ws) ≡ Some w
slice_get-push [] w = refl
slice_get-push (x ∷ ws) w = slice_get-push ws w

pub end_of-push : (ws : List Write) (w : Write) → end_of (ws ++ w ∷ []) ≡ Some (logged w)
end_of-push ws w =
    let k : length (ws ++ w ∷ []) - 1 ≡ length ws = omega (arith, length_push ws w) in
    ap (λ (i : ℕ). option_map logged (slice_get (ws ++ w ∷ []) i)) k ∙ ap (option_map logged) (slice_get-push ws w)

-- what was read before, and what is still read
abbrev pub with_beginning : List Change → Result (List Change × List ℕ) ℕ → Result (List Change × List ℕ) ℕ
with_beginning beginning read = read >>= λ x. Ok (beginning ++ x.0, x.1)

regroup : (beginning : List Change) (c : Change) (read : Result (List Change × List ℕ) ℕ)
    → with_beginning beginning (read >>= λ x. Ok (c ∷ x.0, x.1)) ≡ with_beginning (beginning ++ c ∷ []) read
regroup beginning c (Ok x) = ap (λ (cs : List Change). Ok (cs, x.1)) (simp append_assoc)
regroup beginning c (Err f) = refl

pub goes_on : (prefix_fits : ℕ → ℕ → Bool) (most : ℕ) (beginning : List Change) (last : Option Change) (count i : ℕ) (bytes : List ℕ) (c : Change) (after : List ℕ) (total : Result (List Change × List ℕ) ℕ)
    → i < count → change_of prefix_fits most last bytes ≡ Ok (c, after)
    → with_beginning beginning (more_changes_of prefix_fits most last (count - i) bytes) ≡ total
    → with_beginning (beginning ++ c ∷ []) (more_changes_of prefix_fits most (Some c) (count - (i + 1)) after) ≡ total
unfolding more_changes_of
goes_on prefix_fits most beginning last count i bytes c after total lt h so_far =
    let k : count - i ≡ suc (count - (i + 1)) = omega arith in
    let one : with_beginning beginning (more_changes_of prefix_fits most last (count - i) bytes) ≡ with_beginning (beginning ++ c ∷ []) (more_changes_of prefix_fits most (Some c) (count - (i + 1)) after) =
    rw (k, h) (regroup beginning c (more_changes_of prefix_fits most (Some c) (count - (i + 1)) after)) in
    sym one ∙ so_far

pub stops : (e : Refusal) (prefix_fits : ℕ → ℕ → Bool) (most : ℕ) (beginning : List Change) (last : Option Change) (count i : ℕ) (bytes : List ℕ) (total : Result (List Change × List ℕ) ℕ)
    → i < count → Fails e (change_of prefix_fits most last bytes)
    → with_beginning beginning (more_changes_of prefix_fits most last (count - i) bytes) ≡ total → Fails e total
unfolding more_changes_of
stops NoMemory prefix_fits most beginning last count i bytes total lt h so_far = tt
stops (Left left) prefix_fits most beginning last count i bytes total lt h so_far =
    let k : count - i ≡ suc (count - (i + 1)) = omega arith in
    let one : with_beginning beginning (more_changes_of prefix_fits most last (count - i) bytes) ≡ Err left = rw (k, h) refl in
    sym so_far ∙ one

pub is_done : (prefix_fits : ℕ → ℕ → Bool) (most : ℕ) (beginning : List Change) (last : Option Change) (count i : ℕ) (bytes : List ℕ) (total : Result (List Change × List ℕ) ℕ)
    → count ≤ i → with_beginning beginning (more_changes_of prefix_fits most last (count - i) bytes) ≡ total → total ≡ Ok (beginning, bytes)
unfolding more_changes_of
is_done prefix_fits most beginning last count i bytes total le so_far =
    let k : count - i ≡ 0 = omega arith in
    let one : with_beginning beginning (more_changes_of prefix_fits most last (count - i) bytes) ≡ Ok (beginning, bytes) =
    rw k (ap (λ (cs : List Change). Ok (cs, bytes)) (append-nil beginning)) in
    sym so_far ∙ one
