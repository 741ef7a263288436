-- A refused field of a block lies in what was read.
use Rattle.std.specs.Prelude.{◌≡◌, ℕ, zero, suc, ◌≤◌, nat_le, ◌&&◌, List, ◌∷◌, length, Option, Some, Result, Ok, Err}
use Rattle.std.proofs.Common.{refl}
use Rattle.hse_fields.specs.LogLimits.{longest_prefix}
use Rattle.hse_fields.specs.LogReading.{◌>>=◌, ensure, sized_of}
use Rattle.hse_fields.specs.Fields.{number_of, bytes_of}
use Rattle.hse_fields.specs.BlockText.{PrefixEntry}
use Rattle.hse_fields.specs.BlockReading.{behind_of, values_of, name_rises, name_of, prefix_entry, prefix_of, prefixes_of}
use Rattle.hse_fields.specs.laws.Within.{Within, then, ensured, number_within, bytes_within, sized_within}

abbrev pub others_of : ℕ → ℕ → List ℕ × List ℕ → Result (List (List ℕ) × List ℕ) ℕ
others_of most n first = values_of most n first.1 >>= λ others. Ok (first.0 ∷ others.0, others.1)

values_within_rest : (m : ℕ) (first : List ℕ) (r : Result (List (List ℕ) × List ℕ) ℕ) → Within m r
    → Within m (r >>= λ others. Ok (first ∷ others.0, others.1))
values_within_rest m first (Ok x) w = w
values_within_rest m first (Err left) w = w

pub values_within : (most n m : ℕ) (bytes : List ℕ) → length bytes ≤ m → Within m (values_of most n bytes)
unfolding values_of
values_within most zero m bytes le = le
values_within most (suc n) m bytes le =
    then m (sized_of 4 0 most bytes) (others_of most n) (sized_within 4 0 most m bytes le)
    (λ first h. values_within_rest m first.0 (values_of most n first.1) (values_within most n m first.1 h))

behind_more : (first : List ℕ) (r : Result (List (List ℕ) × List ℕ) ℕ)
    → behind_of (r >>= λ others. Ok (first ∷ others.0, others.1)) ≡ behind_of r
behind_more first (Ok x) = refl
behind_more first (Err left) = refl

-- behind values stands what stands behind the others
pub values_behind : (most n : ℕ) (bytes : List ℕ) (first : List ℕ × List ℕ) → sized_of 4 0 most bytes ≡ Ok first
    → behind_of (values_of most (suc n) bytes) ≡ behind_of (values_of most n first.1)
unfolding values_of
values_behind most n bytes first e = rw e (behind_more first.0 (values_of most n first.1))

pub values_refused : (most n : ℕ) (bytes : List ℕ) (left : ℕ) → sized_of 4 0 most bytes ≡ Err left
    → behind_of (values_of most (suc n) bytes) ≡ Err left
unfolding values_of
values_refused most n bytes left e = rw e refl

pub values_none : (most : ℕ) (bytes : List ℕ) → behind_of (values_of most 0 bytes) ≡ Ok bytes
unfolding values_of
values_none most bytes = refl

-- ---- prefix deletes

pub name_within : (width most : ℕ) (last : Option (List ℕ)) (left n : ℕ) (bytes : List ℕ) → left ≤ n → length bytes ≤ n
    → Within n (name_of width most last left bytes)
unfolding name_of
name_within width most last left n bytes low le =
    then n (number_of width bytes) (λ size. ensure (name_rises last size.0 size.1) left >>= λ in_order. (ensure (nat_le 1 size.0 && nat_le size.0 most) (length bytes) >>= λ within. bytes_of size.0 size.1))
    (number_within width n bytes le)
    (λ size h. ensured n left (name_rises last size.0 size.1) (λ in_order. ensure (nat_le 1 size.0 && nat_le size.0 most) (length bytes) >>= λ within. bytes_of size.0 size.1) low
    (ensured n (length bytes) (nat_le 1 size.0 && nat_le size.0 most) (λ within. bytes_of size.0 size.1) le (bytes_within size.0 n size.1 h)))

named_within : (m number : ℕ) (r : Result (List ℕ × List ℕ) ℕ) → Within m r → Within m (r >>= λ name. Ok (prefix_entry number name.0, name.1))
named_within m number (Ok x) w = w
named_within m number (Err left) w = w

prefix_within : (last : Option (List ℕ)) (m : ℕ) (bytes : List ℕ) → length bytes ≤ m → Within m (prefix_of last bytes)
unfolding prefix_of
prefix_within last m bytes le =
    then m (number_of 8 bytes) (λ number. name_of 1 longest_prefix last (length bytes) number.1 >>= λ name. Ok (prefix_entry number.0 name.0, name.1))
    (number_within 8 m bytes le)
    (λ number h. named_within m number.0 (name_of 1 longest_prefix last (length bytes) number.1) (name_within 1 longest_prefix last (length bytes) m number.1 le h))

prefixes_within_rest : (m : ℕ) (first : PrefixEntry) (r : Result (List PrefixEntry × List ℕ) ℕ) → Within m r
    → Within m (r >>= λ others. Ok (first ∷ others.0, others.1))
prefixes_within_rest m first (Ok x) w = w
prefixes_within_rest m first (Err left) w = w

pub prefixes_within : (last : Option (List ℕ)) (n m : ℕ) (bytes : List ℕ) → length bytes ≤ m → Within m (prefixes_of last n bytes)
unfolding prefixes_of
prefixes_within last zero m bytes le = le
prefixes_within last (suc n) m bytes le =
    then m (prefix_of last bytes) (λ first. prefixes_of (Some first.0.prefix) n first.1 >>= λ others. Ok (first.0 ∷ others.0, others.1)) (prefix_within last m bytes le)
    (λ first h. prefixes_within_rest m first.0 (prefixes_of (Some first.0.prefix) n first.1) (prefixes_within (Some first.0.prefix) n m first.1 h))
