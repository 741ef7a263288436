-- Prefix deletes that are read are those that were written, and what was written is read again.
use Rattle.std.specs.Prelude.{◌≡◌, ℕ, zero, suc, ◌+◌, ◌^◌, ◌<◌, ◌≤◌, true, false, List, [], ◌∷◌, ◌++◌, length, take, Option, Some, Ok, nat_lt, nat_le, ◌==◌, ◌&&◌}
use Rattle.std.proofs.Common.{refl, sym, ap, subst, ◌∙◌, append_assoc, arith, length-append}
use Rattle.std.proofs.lemmas.Bool.{eqb-true, le-leb, leb-true, le-ltb, and_parts}
use Rattle.std.proofs.lemmas.List.{append-nil, nil_from_length, take_at}
use Rattle.byteorder.specs.Endian.{big_bytes}
use Rattle.hse_fields.specs.declared.block.BlockHeader.{BlockHeader}
use Rattle.hse_fields.specs.Fields.{number_of, bytes_of}
use Rattle.hse_fields.specs.LogLimits.{longest_prefix}
use Rattle.hse_fields.specs.LogText.{sized}
use Rattle.hse_fields.specs.LogReading.{◌>>=◌, ensure}
use Rattle.hse_fields.specs.BlockText.{header_size, prefix_kind, block_header, block_text, PrefixEntry, prefix_text, prefixes_text, prefix_block_text}
use Rattle.hse_fields.specs.BlockReading.{body_of, placed, plain_header_of, is_above, name_rises, name_of, prefix_entry, prefix_of, prefixes_of, prefixes_with, prefix_block_of}
use Rattle.hse_fields.specs.BlockForm.{AreRising, ArePrefixEntries}
use Rattle.hse_fields.specs.laws.Fields.{IsBytes, IsBytes-drop, IsBytes-take, IsWidth, bind_ok, ensure_ok, ok_is, Takes, Takes-then, width_1, width_8, number_takes, number_again, bytes_takes, bytes_again, behind_size}
use Rattle.hse_fields.specs.laws.BlockHeaders.{TakesHeader, plain_takes, block_takes, body_length, body_again, text_header, placed_ok}

-- ---- names in order

-- what a reading of a name gives
pub record TakesName (width most : ℕ) (last : Option (List ℕ)) (bytes : List ℕ) (x : List ℕ × List ℕ) : Type 0 where
  pub taken : Takes bytes (sized width x.0) x.1
  pub above : is_above last x.0 ≡ true
  pub some : 1 ≤ length x.0
  pub short : length x.0 ≤ most

-- a name that is not cut off stands above the last one
rises : (last : Option (List ℕ)) (size : ℕ) (bytes name : List ℕ) → size ≤ length bytes → take size bytes ≡ name
    → name_rises last size bytes ≡ true → is_above last name ≡ true
rises last size bytes name long same e =
    let whole : nat_lt (length bytes) size ≡ false = le-ltb _ _ long in
    let here : is_above last (take size bytes) ≡ true = rw whole at e in
    subst (λ (n : List ℕ). is_above last n ≡ true) same here

pub name_takes : (width most : ℕ) (w : IsWidth width) (last : Option (List ℕ)) (left : ℕ) (bytes : List ℕ) (x : List ℕ × List ℕ) → IsBytes bytes
    → name_of width most last left bytes ≡ Ok x → TakesName width most last bytes x
unfolding name_of
name_takes width most w last left bytes x fits e =
    let a = bind_ok (number_of width bytes) (λ size. ensure (name_rises last size.0 size.1) left >>= λ in_order. (ensure (nat_le 1 size.0 && nat_le size.0 most) (length bytes) >>= λ within. bytes_of size.0 size.1)) x e in
    let b = bind_ok (ensure (name_rises last a.0.0 a.0.1) left) (λ in_order. ensure (nat_le 1 a.0.0 && nat_le a.0.0 most) (length bytes) >>= λ within. bytes_of a.0.0 a.0.1) x a.2 in
    let c = bind_ok (ensure (nat_le 1 a.0.0 && nat_le a.0.0 most) (length bytes)) (λ within. bytes_of a.0.0 a.0.1) x b.2 in
    let limits = and_parts _ _ (ensure_ok (nat_le 1 a.0.0 && nat_le a.0.0 most) (length bytes) c.0 c.1) in
    let head = number_takes width w bytes a.0.0 a.0.1 fits a.1 in
    let body = bytes_takes a.0.0 a.0.1 x.0 x.1 head.0.rest_fits c.2 in
    let low = leb-true 1 a.0.0 limits.0 in
    let high = leb-true a.0.0 most limits.1 in
    record {
      taken = behind_size width a.0.0 bytes a.0.1 x.0 x.1 head.0 body.0 body.1;
      above = rises last a.0.0 a.0.1 x.0 body.3 body.2 (ensure_ok (name_rises last a.0.0 a.0.1) left b.0 b.1);
      some = omega (arith, low, body.1);
      short = omega (arith, high, body.1);
    }

pub name_again : (width most : ℕ) (last : Option (List ℕ)) (left : ℕ) (name rest : List ℕ) → length name < 256 ^ width
    → is_above last name ≡ true → 1 ≤ length name → length name ≤ most
    → name_of width most last left (sized width name ++ rest) ≡ Ok (name, rest)
unfolding name_of
name_again width most last left name rest small above some short =
    let regrouped : sized width name ++ rest ≡ big_bytes width (length name) ++ (name ++ rest) = append_assoc (big_bytes width (length name)) name rest in
    let whole : nat_lt (length (name ++ rest)) (length name) ≡ false = le-ltb _ _ (omega (arith, length-append name rest)) in
    let low : nat_le 1 (length name) ≡ true = le-leb _ _ some in
    let high : nat_le (length name) most ≡ true = le-leb _ _ short in
    let in_order : name_rises last (length name) (name ++ rest) ≡ true = rw (whole, take_at name rest (length name) refl) above in
    ap (name_of width most last left) regrouped
    ∙ rw (number_again width (length name) (name ++ rest) small, in_order, low, high) (bytes_again name rest)

-- ---- prefix deletes

record TakesPrefix (last : Option (List ℕ)) (bytes : List ℕ) (x : PrefixEntry × List ℕ) : Type 0 where
  taken : Takes bytes (prefix_text x.0) x.1
  above : is_above last x.0.prefix ≡ true
  some : 1 ≤ length x.0.prefix
  short : length x.0.prefix ≤ longest_prefix
  number : x.0.number < 2 ^ 64

prefix_takes : (last : Option (List ℕ)) (bytes : List ℕ) (x : PrefixEntry × List ℕ) → IsBytes bytes → prefix_of last bytes ≡ Ok x → TakesPrefix last bytes x
unfolding prefix_of
prefix_takes last bytes x fits e =
    let a = bind_ok (number_of 8 bytes) (λ number. name_of 1 longest_prefix last (length bytes) number.1 >>= λ name. Ok (prefix_entry number.0 name.0, name.1)) x e in
    let b = bind_ok (name_of 1 longest_prefix last (length bytes) a.0.1) (λ name. Ok (prefix_entry a.0.0 name.0, name.1)) x a.2 in
    let number = number_takes 8 width_8 bytes a.0.0 a.0.1 fits a.1 in
    let name = name_takes 1 longest_prefix width_1 last (length bytes) a.0.1 b.0 number.0.rest_fits b.1 in
    subst (TakesPrefix last bytes) (ok_is (prefix_entry a.0.0 b.0.0, b.0.1) x b.2)
    (record {
      taken = Takes-then bytes (big_bytes 8 a.0.0) a.0.1 (sized 1 b.0.0) b.0.1 number.0 name.taken;
      above = name.above;
      some = name.some;
      short = name.short;
      number = omega (arith, number.1);
    })

prefix_again : (last : Option (List ℕ)) (e : PrefixEntry) (rest : List ℕ) → is_above last e.prefix ≡ true → 1 ≤ length e.prefix
    → length e.prefix ≤ longest_prefix → e.number < 2 ^ 64 → prefix_of last (prefix_text e ++ rest) ≡ Ok (e, rest)
unfolding prefix_of
prefix_again last e rest above some short number =
    let regrouped : prefix_text e ++ rest ≡ big_bytes 8 e.number ++ (sized 1 e.prefix ++ rest) = append_assoc (big_bytes 8 e.number) (sized 1 e.prefix) rest in
    let left = length (big_bytes 8 e.number ++ (sized 1 e.prefix ++ rest)) in
    ap (prefix_of last) regrouped
    ∙ rw (
      number_again 8 e.number (sized 1 e.prefix ++ rest) (omega (arith, number)),
      name_again 1 longest_prefix last left e.prefix rest (omega (arith, short)) above some short,
    ) refl

pub record TakesPrefixes (last : Option (List ℕ)) (n : ℕ) (bytes : List ℕ) (x : List PrefixEntry × List ℕ) : Type 0 where
  pub taken : Takes bytes (prefixes_text x.0) x.1
  pub counted : length x.0 ≡ n
  pub rising : AreRising last x.0

pub prefixes_take : (last : Option (List ℕ)) (n : ℕ) (bytes : List ℕ) (x : List PrefixEntry × List ℕ) → IsBytes bytes → prefixes_of last n bytes ≡ Ok x
    → TakesPrefixes last n bytes x
unfolding prefixes_of
prefixes_take last zero bytes x fits e =
    subst (TakesPrefixes last 0 bytes) (ok_is ([], bytes) x e) (record { taken = record { parts = refl; rest_fits = fits }; counted = refl; rising = tt })
prefixes_take last (suc n) bytes x fits e =
    let a = bind_ok (prefix_of last bytes) (λ first. prefixes_of (Some first.0.prefix) n first.1 >>= λ others. Ok (first.0 ∷ others.0, others.1)) x e in
    let b = bind_ok (prefixes_of (Some a.0.0.prefix) n a.0.1) (λ others. Ok (a.0.0 ∷ others.0, others.1)) x a.2 in
    let first = prefix_takes last bytes a.0 fits a.1 in
    let others = prefixes_take (Some a.0.0.prefix) n a.0.1 b.0 first.taken.rest_fits b.1 in
    subst (TakesPrefixes last (suc n) bytes) (ok_is (a.0.0 ∷ b.0.0, b.0.1) x b.2)
    (record {
      taken = Takes-then bytes (prefix_text a.0.0) a.0.1 (prefixes_text b.0.0) b.0.1 first.taken others.taken;
      counted = ap suc others.counted;
      rising = (first.above, first.some, first.short, first.number, others.rising);
    })

prefixes_again : (last : Option (List ℕ)) (es : List PrefixEntry) (rest : List ℕ) → AreRising last es
    → prefixes_of last (length es) (prefixes_text es ++ rest) ≡ Ok (es, rest)
unfolding prefixes_of
prefixes_again last [] rest rising = refl
prefixes_again last (e ∷ es) rest rising =
    let regrouped : prefixes_text (e ∷ es) ++ rest ≡ prefix_text e ++ (prefixes_text es ++ rest) = append_assoc (prefix_text e) (prefixes_text es) rest in
    ap (prefixes_of last (suc (length es))) regrouped
    ∙ rw (
      prefix_again last e (prefixes_text es ++ rest) rising.0 rising.1 rising.2 rising.3,
      prefixes_again (Some e.prefix) es rest rising.4,
    ) refl

-- ---- blocks

spelled : (last : Option (List ℕ)) (bytes : List ℕ) (head : BlockHeader) (read : List PrefixEntry)
    → TakesHeader prefix_kind bytes head × (0 < head.count) × (head.pages ≡ 0) → length read ≡ head.count → AreRising last read
    → body_of head.used bytes ≡ prefixes_text read → (entries : List PrefixEntry) → read ≡ entries
    → (take (length (prefix_block_text entries)) bytes ≡ prefix_block_text entries) × ArePrefixEntries last entries
spelled last bytes head read taken counted rising text entries same =
    let long : length (prefix_block_text read) ≡ header_size + length (prefixes_text read) =
    length-append (block_header prefix_kind (header_size + length (prefixes_text read)) (length read) 0) (prefixes_text read) in
    let all : take (header_size + length (prefixes_text read)) bytes ≡ prefix_block_text read =
    block_takes prefix_kind bytes (prefixes_text read) head taken.0 taken.2 text
    ∙ ap (λ (n : ℕ). block_text prefix_kind n (prefixes_text read)) (sym counted) in
    let within : header_size + length (prefixes_text read) ≡ head.used =
    ap (λ (l : List ℕ). header_size + length l) (sym text) ∙ body_length head.used bytes taken.0.low taken.0.high in
    subst (λ (v : List PrefixEntry). (take (length (prefix_block_text v)) bytes ≡ prefix_block_text v) × ArePrefixEntries last v) same (
      ap (λ (n : ℕ). take n bytes) long ∙ all,
      record {
        some = omega (arith, counted, taken.1);
        counted = omega (arith, counted, taken.0.count);
        rising = rising;
        within = omega (arith, within, taken.0.used);
      },
    )

-- What is read of a block is spelled so.
pub prefix_block_takes : (last : Option (List ℕ)) (bytes : List ℕ) (entries : List PrefixEntry) → IsBytes bytes → prefix_block_of last bytes ≡ Ok entries
    → (take (length (prefix_block_text entries)) bytes ≡ prefix_block_text entries) × ArePrefixEntries last entries
unfolding prefix_block_of prefixes_with
prefix_block_takes last bytes entries fits e =
    let h = bind_ok (plain_header_of prefix_kind bytes) (λ head. prefixes_with last head bytes) entries e in
    let head = h.0 in
    let body = body_of head.used bytes in
    let a = bind_ok (placed head.used (prefixes_of last head.count body)) (λ read. ensure (length read.1 == 0) 4 >>= λ ended. Ok read.0) entries h.2 in
    let b = bind_ok (ensure (length a.0.1 == 0) 4) (λ ended. Ok a.0.0) entries a.2 in
    let taken = plain_takes prefix_kind bytes head fits h.1 in
    let read = prefixes_take last head.count body a.0 (IsBytes-drop header_size (take head.used bytes) (IsBytes-take head.used bytes fits)) (placed_ok head.used (prefixes_of last head.count body) a.0 a.1) in
    let ended : a.0.1 ≡ [] = nil_from_length a.0.1 (eqb-true _ _ (ensure_ok _ _ _ b.1)) in
    let text : body ≡ prefixes_text a.0.0 =
    read.taken.parts ∙ ap (λ (l : List ℕ). prefixes_text a.0.0 ++ l) ended ∙ append-nil (prefixes_text a.0.0) in
    spelled last bytes head a.0.0 taken read.counted read.rising text entries (ok_is a.0.0 entries b.2)

-- What is spelled so is read, whatever stands behind it.
pub prefix_block_again : (last : Option (List ℕ)) (entries : List PrefixEntry) (rest : List ℕ) → ArePrefixEntries last entries
    → prefix_block_of last (prefix_block_text entries ++ rest) ≡ Ok entries
unfolding prefix_block_of prefixes_with
prefix_block_again last entries rest formed =
    let head = text_header prefix_kind (length entries) (prefixes_text entries) rest (omega arith) (omega (arith, formed.some)) formed.counted formed.within in
    let body = body_again prefix_kind (length entries) (prefixes_text entries) rest in
    let read : prefixes_of last (length entries) (prefixes_text entries) ≡ Ok (entries, []) =
    ap (prefixes_of last (length entries)) (sym (append-nil (prefixes_text entries))) ∙ prefixes_again last entries [] formed.rising in
    rw (head, body, read) refl
