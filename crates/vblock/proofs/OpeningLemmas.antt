-- What the entries of a block came to.
use Rattle.std.proofs.Common.{◌≡◌, ◌==◌, false, true, Bool, ℕ, zero, suc, ◌-◌, ◌≤◌, ◌<◌, ◌^◌, List, [], ◌∷◌, length, Result, Ok, Err, refl, sym, ap, ◌∙◌, arith}
use Rattle.std.specs.Prelude.{nat_le, ◌&&◌}
use Rattle.std.proofs.lemmas.Bool.{leb-true, le-leb}
use Rattle.hse_fields.specs.declared.block.BlockHeader.{BlockHeader}
use Rattle.hse_fields.specs.Fields.{number_of, bytes_of}
use Rattle.hse_fields.specs.LogLimits.{longest_value}
use Rattle.hse_fields.specs.LogReading.{◌>>=◌, ensure, size_of, sized_of}
use Rattle.hse_fields.specs.BlockText.{header_size}
use Rattle.hse_fields.specs.BlockReading.{behind_of, body_of, values_of, values_with}
use Rattle.hse_fields.specs.laws.Fields.{bind_ok, ensure_ok}
use Rattle.vblock.specs.Opened.{IsOpened, read_of, values_in}

-- ---- what is read is read too where longer values may come

wider : (low : Bool) (n most more : ℕ) → most ≤ more → (low && nat_le n most) ≡ true → (low && nat_le n more) ≡ true
wider true n most more le e = le-leb n more (omega (arith, le, leb-true n most e))
wider false n most more le e = absurd cc

size_longer : (n least most more : ℕ) (bytes : List ℕ) (x : ℕ × List ℕ) → most ≤ more → size_of n least most bytes ≡ Ok x → size_of n least more bytes ≡ Ok x
unfolding size_of
size_longer n least most more bytes x le e =
    let a = bind_ok (number_of n bytes) (λ size. ensure (nat_le least size.0 && nat_le size.0 most) (length bytes) >>= λ within. Ok (size.0, size.1)) x e in
    let b = bind_ok (ensure (nat_le least a.0.0 && nat_le a.0.0 most) (length bytes)) (λ within. Ok (a.0.0, a.0.1)) x a.2 in
    let fits = wider (nat_le least a.0.0) a.0.0 most more le (ensure_ok _ _ _ b.1) in
    rw (a.1, fits) b.2

sized_longer : (n least most more : ℕ) (bytes : List ℕ) (x : List ℕ × List ℕ) → most ≤ more → sized_of n least most bytes ≡ Ok x
    → sized_of n least more bytes ≡ Ok x
unfolding sized_of
sized_longer n least most more bytes x le e =
    let a = bind_ok (size_of n least most bytes) (λ size. bytes_of size.0 size.1) x e in
    rw (size_longer n least most more bytes a.0 le a.1) a.2

values_longer : (most more n : ℕ) (bytes : List ℕ) (x : List (List ℕ) × List ℕ) → most ≤ more → values_of most n bytes ≡ Ok x → values_of more n bytes ≡ Ok x
unfolding values_of
values_longer most more zero bytes x le e = e
values_longer most more (suc n) bytes x le e =
    let a = bind_ok (sized_of 4 0 most bytes) (λ first. values_of most n first.1 >>= λ others. Ok (first.0 ∷ others.0, others.1)) x e in
    let b = bind_ok (values_of most n a.0.1) (λ others. Ok (a.0.0 ∷ others.0, others.1)) x a.2 in
    rw (sized_longer 4 0 most more bytes a.0 le a.1, values_longer most more n a.0.1 b.0 le b.1) b.2

-- ---- a block

is_read : (r : Result (List (List ℕ) × List ℕ) ℕ) (rest : List ℕ) → behind_of r ≡ Ok rest → r ≡ Ok (read_of r, rest)
is_read (Ok x) rest e = let same : x.1 ≡ rest = cc in ap (λ (l : List ℕ). Ok (x.0, l)) same
is_read (Err left) rest e = absurd cc

is_refused : (r : Result (List (List ℕ) × List ℕ) ℕ) (left : ℕ) → behind_of r ≡ Err left → r ≡ Err left
is_refused (Ok x) left e = absurd cc
is_refused (Err other) left e = let same : other ≡ left = cc in ap (λ (n : ℕ). Err n) same

module _ (most : ℕ) where
  are_read : (used count : ℕ) (bytes rest : List ℕ) → most < 2 ^ 32 → behind_of (values_of most count (body_of used bytes)) ≡ Ok rest → rest ≡ []
      → values_of most count (body_of used bytes) ≡ Ok (values_in used count bytes, [])
  are_read used count bytes rest small e none =
      let r = values_of most count (body_of used bytes) in
      let is : r ≡ Ok (read_of r, []) = is_read r rest e ∙ ap (λ (l : List ℕ). Ok (read_of r, l)) none in
      let any : values_of longest_value count (body_of used bytes) ≡ Ok (read_of r, []) =
      values_longer most longest_value count (body_of used bytes) (read_of r, []) (omega (arith, small)) is in
      is ∙ ap (λ (v : List (List ℕ)). Ok (v, [])) (sym (ap read_of any))

  pub are_formed : (used count : ℕ) (bytes rest : List ℕ) → most < 2 ^ 32 → header_size ≤ used → used ≤ length bytes
      → behind_of (values_of most count (body_of used bytes)) ≡ Ok rest → rest ≡ [] → IsOpened used count bytes
  are_formed used count bytes rest small low high e none = record {
    header = low;
    within = high;
    read =
        values_longer most longest_value count (body_of used bytes) (values_in used count bytes, []) (omega (arith, small))
        (are_read used count bytes rest small e none);
  }

  pub are_told : (head : BlockHeader) (bytes rest : List ℕ) → most < 2 ^ 32 → behind_of (values_of most head.count (body_of head.used bytes)) ≡ Ok rest
      → rest ≡ [] → values_with most head bytes ≡ Ok (values_in head.used head.count bytes)
  unfolding values_with
  are_told head bytes rest small e none = rw (are_read head.used head.count bytes rest small e none) refl

  pub are_left_over : (head : BlockHeader) (bytes rest : List ℕ)
      → behind_of (values_of most head.count (body_of head.used bytes)) ≡ Ok rest → (length rest == 0) ≡ false → values_with most head bytes ≡ Err 4
  unfolding values_with
  are_left_over head bytes rest e over = rw (is_read (values_of most head.count (body_of head.used bytes)) rest e, over) refl

  pub are_refused : (head : BlockHeader) (bytes : List ℕ) (left : ℕ)
      → behind_of (values_of most head.count (body_of head.used bytes)) ≡ Err left → values_with most head bytes ≡ Err (head.used - left)
  unfolding values_with
  are_refused head bytes left e = rw (is_refused (values_of most head.count (body_of head.used bytes)) left e) refl
