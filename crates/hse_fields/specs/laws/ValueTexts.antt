-- Values that are read are those that were written, and what was written is read again.
use Rattle.std.specs.Prelude.{◌≡◌, ℕ, zero, suc, ◌+◌, ◌^◌, ◌<◌, ◌≤◌, List, [], ◌∷◌, ◌++◌, length, take, Ok, ◌==◌}
use Rattle.std.specs.List.{AllByRecursion}
use Rattle.std.proofs.Common.{refl, sym, ap, subst, ◌∙◌, append_assoc, arith, length-append}
use Rattle.std.proofs.lemmas.Bool.{eqb-true}
use Rattle.std.proofs.lemmas.List.{append-nil, nil_from_length}
use Rattle.hse_fields.specs.declared.block.BlockHeader.{BlockHeader}
use Rattle.hse_fields.specs.LogText.{sized}
use Rattle.hse_fields.specs.LogReading.{◌>>=◌, ensure, sized_of}
use Rattle.hse_fields.specs.BlockText.{header_size, value_kind, block_header, block_text, values_text, value_block_text}
use Rattle.hse_fields.specs.BlockReading.{body_of, placed, plain_header_of, values_of, values_with, value_block_of}
use Rattle.hse_fields.specs.BlockForm.{AreValues}
use Rattle.hse_fields.specs.laws.Fields.{IsBytes, IsBytes-drop, IsBytes-take, bind_ok, ensure_ok, ok_is, Takes, Takes-then, width_4, sized_takes, sized_again}
use Rattle.hse_fields.specs.laws.BlockHeaders.{TakesHeader, plain_takes, block_takes, body_length, body_again, text_header, placed_ok}

abbrev Small : ℕ → List ℕ → Type 0
Small most value = length value ≤ most

record TakesValues (most n : ℕ) (bytes : List ℕ) (x : List (List ℕ) × List ℕ) : Type 0 where
  taken : Takes bytes (values_text x.0) x.1
  counted : length x.0 ≡ n
  each : AllByRecursion (Small most) x.0

values_take : (most n : ℕ) (bytes : List ℕ) (x : List (List ℕ) × List ℕ) → IsBytes bytes → values_of most n bytes ≡ Ok x → TakesValues most n bytes x
unfolding values_of
values_take most zero bytes x fits e =
    subst (TakesValues most 0 bytes) (ok_is ([], bytes) x e) (record { taken = record { parts = refl; rest_fits = fits }; counted = refl; each = tt })
values_take most (suc n) bytes x fits e =
    let a = bind_ok (sized_of 4 0 most bytes) (λ first. values_of most n first.1 >>= λ others. Ok (first.0 ∷ others.0, others.1)) x e in
    let b = bind_ok (values_of most n a.0.1) (λ others. Ok (a.0.0 ∷ others.0, others.1)) x a.2 in
    let first = sized_takes 4 width_4 0 most bytes a.0.0 a.0.1 fits a.1 in
    let others = values_take most n a.0.1 b.0 first.0.rest_fits b.1 in
    let small : length a.0.0 ≤ most = omega (arith, first.2) in
    subst (TakesValues most (suc n) bytes) (ok_is (a.0.0 ∷ b.0.0, b.0.1) x b.2)
    (record {
      taken = Takes-then bytes (sized 4 a.0.0) a.0.1 (values_text b.0.0) b.0.1 first.0 others.taken;
      counted = ap suc others.counted;
      each = (small, others.each);
    })

values_again : (most : ℕ) (values : List (List ℕ)) (rest : List ℕ) → AllByRecursion (Small most) values → length (values_text values) < 2 ^ 32
    → values_of most (length values) (values_text values ++ rest) ≡ Ok (values, rest)
unfolding values_of
values_again most [] rest small said = refl
values_again most (v ∷ vs) rest small said =
    let entry : length (sized 4 v) ≡ suc (suc (suc (suc (length v)))) = refl in
    let long = length-append (sized 4 v) (values_text vs) in
    let regrouped : values_text (v ∷ vs) ++ rest ≡ sized 4 v ++ (values_text vs ++ rest) = append_assoc (sized 4 v) (values_text vs) rest in
    ap (values_of most (suc (length vs))) regrouped
    ∙ rw (
      sized_again 4 0 most v (values_text vs ++ rest) (omega (arith, said, long, entry)) (omega arith) (omega (arith, small.0)),
      values_again most vs rest small.1 (omega (arith, said, long)),
    ) refl

spelled : (most : ℕ) (bytes : List ℕ) (head : BlockHeader) (read : List (List ℕ))
    → TakesHeader value_kind bytes head × (0 < head.count) × (head.pages ≡ 0) → length read ≡ head.count → AllByRecursion (Small most) read
    → body_of head.used bytes ≡ values_text read → (values : List (List ℕ)) → read ≡ values
    → (take (length (value_block_text values)) bytes ≡ value_block_text values) × AreValues most values
spelled most bytes head read taken counted each text values same =
    let long : length (value_block_text read) ≡ header_size + length (values_text read) =
    length-append (block_header value_kind (header_size + length (values_text read)) (length read) 0) (values_text read) in
    let all : take (header_size + length (values_text read)) bytes ≡ value_block_text read =
    block_takes value_kind bytes (values_text read) head taken.0 taken.2 text
    ∙ ap (λ (n : ℕ). block_text value_kind n (values_text read)) (sym counted) in
    let within : header_size + length (values_text read) ≡ head.used =
    ap (λ (l : List ℕ). header_size + length l) (sym text) ∙ body_length head.used bytes taken.0.low taken.0.high in
    subst (λ (v : List (List ℕ)). (take (length (value_block_text v)) bytes ≡ value_block_text v) × AreValues most v) same (
      ap (λ (n : ℕ). take n bytes) long ∙ all,
      record {
        some = omega (arith, counted, taken.1);
        counted = omega (arith, counted, taken.0.count);
        each = each;
        within = omega (arith, within, taken.0.used);
      },
    )

-- What is read of a block is spelled so.
pub value_block_takes : (most : ℕ) (bytes : List ℕ) (values : List (List ℕ)) → IsBytes bytes → value_block_of most bytes ≡ Ok values
    → (take (length (value_block_text values)) bytes ≡ value_block_text values) × AreValues most values
unfolding value_block_of values_with
value_block_takes most bytes values fits e =
    let h = bind_ok (plain_header_of value_kind bytes) (λ head. values_with most head bytes) values e in
    let head = h.0 in
    let body = body_of head.used bytes in
    let a = bind_ok (placed head.used (values_of most head.count body)) (λ read. ensure (length read.1 == 0) 4 >>= λ ended. Ok read.0) values h.2 in
    let b = bind_ok (ensure (length a.0.1 == 0) 4) (λ ended. Ok a.0.0) values a.2 in
    let taken = plain_takes value_kind bytes head fits h.1 in
    let read = values_take most head.count body a.0 (IsBytes-drop header_size (take head.used bytes) (IsBytes-take head.used bytes fits)) (placed_ok head.used (values_of most head.count body) a.0 a.1) in
    let ended : a.0.1 ≡ [] = nil_from_length a.0.1 (eqb-true _ _ (ensure_ok _ _ _ b.1)) in
    let text : body ≡ values_text a.0.0 =
    read.taken.parts ∙ ap (λ (l : List ℕ). values_text a.0.0 ++ l) ended ∙ append-nil (values_text a.0.0) in
    spelled most bytes head a.0.0 taken read.counted read.each text values (ok_is a.0.0 values b.2)

-- What is spelled so is read, whatever stands behind it.
pub value_block_again : (most : ℕ) (values : List (List ℕ)) (rest : List ℕ) → AreValues most values → value_block_of most (value_block_text values ++ rest) ≡ Ok values
unfolding value_block_of values_with
value_block_again most values rest formed =
    let head = text_header value_kind (length values) (values_text values) rest (omega arith) (omega (arith, formed.some)) formed.counted formed.within in
    let body = body_again value_kind (length values) (values_text values) rest in
    let read : values_of most (length values) (values_text values) ≡ Ok (values, []) =
    ap (values_of most (length values)) (sym (append-nil (values_text values)))
    ∙ values_again most values [] formed.each (omega (arith, formed.within)) in
    rw (head, body, read) refl
