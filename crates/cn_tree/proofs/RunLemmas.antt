-- Sets around a run, and those that take its place.
use Rattle.std.proofs.Common.{◌≡◌, ℕ, ◌+◌, ◌-◌, List, ◌++◌, length, take, drop, ◌∙◌}
use Rattle.cn_tree.specs.Tree.{in_place_of_run}

pub run-made : {R : Type 0} (sets front behind : List R) (older len : ℕ) (new start more set : List R)
    → front ≡ take (length sets - (older + len)) sets → behind ≡ drop (length sets - older) sets
    → start ≡ front → more ≡ start ++ set → new ≡ more ++ behind
    → new ≡ in_place_of_run sets older len set
run-made sets front behind older len new start more set a b c d e =
    e ∙ (λ i. d i ++ behind) ∙ (λ i. c i ++ set ++ behind) ∙ (λ i. a i ++ set ++ b i)
