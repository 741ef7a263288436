use Rattle.std.proofs.Common.{◌≡◌, ℕ, List, [], ◌∷◌, refl, Bool, arith}
use Rattle.std.proofs.lemmas.Result.{err_from_is_err_and}
use Rattle.shell_text.specs.declared.line.Actor.{Actor}
use Rattle.shell_text.specs.Words.{actor_of, direction, item, name}
use Rattle.shell_text.proofs.PartLemmas.{word_fails}
use Rattle.shell_text.proofs.ShapeLemmas.{of_cursor}
use Rattle.shell_text.proofs.fields.of_cursor.Goals as goal

pub returns-in_err-cursor : goal.returns-in_err-cursor
returns-in_err-cursor c =
    word_fails (λ (x : List ℕ). name x) of_cursor c.args.words.now 0 _ _ c.from_residual.result (err_from_is_err_and c.from_residual.result c.from_residual.ensures.1) c.in_err-cursor.ensures
    (omega (arith, c.in-len5.len_at_least)) (λ of. (of.0, refl))

pub returns-in_err-who : goal.returns-in_err-who
returns-in_err-who c =
    word_fails (λ (x : Actor). actor_of x) of_cursor c.args.words.now 1 _ _ c.from_residual-in_err-who.result (err_from_is_err_and c.from_residual-in_err-who.result c.from_residual-in_err-who.ensures.1) c.in_err-who.ensures
    (omega (arith, c.in-len5.len_at_least)) (λ of. (of.1, refl))

pub returns-in_err-store : goal.returns-in_err-store
returns-in_err-store c =
    word_fails (λ (x : List ℕ). name x) of_cursor c.args.words.now 2 _ _ c.from_residual-in_err-store.result (err_from_is_err_and c.from_residual-in_err-store.result c.from_residual-in_err-store.ensures.1) c.in_err-store.ensures
    (omega (arith, c.in-len5.len_at_least)) (λ of. (of.2, refl))

pub returns-in_err-reverse : goal.returns-in_err-reverse
returns-in_err-reverse c =
    word_fails (λ (x : Bool). direction x) of_cursor c.args.words.now 3 _ _ c.from_residual-in_err-reverse.result (err_from_is_err_and c.from_residual-in_err-reverse.result c.from_residual-in_err-reverse.ensures.1) c.in_err-reverse.ensures
    (omega (arith, c.in-len5.len_at_least)) (λ of. (of.3, refl))

pub returns-in_err-filter : goal.returns-in_err-filter
returns-in_err-filter c =
    word_fails (λ (x : List ℕ). item x) of_cursor c.args.words.now 4 _ _ c.from_residual-in_err-filter.result (err_from_is_err_and c.from_residual-in_err-filter.result c.from_residual-in_err-filter.ensures.1) c.in_err-filter.ensures
    (omega (arith, c.in-len5.len_at_least)) (λ of. (of.4, refl))
