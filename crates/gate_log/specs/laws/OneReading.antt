-- No region has two readings: it holds one sequence with one list of batches, or its head is closed, or it is damaged
-- at one place.
use Rattle.std.specs.Prelude.{◌≡◌, ◌≢◌, ◌⊎◌, ℕ, ◌+◌, ◌^◌, ◌<◌, List, [], ◌∷◌, ◌++◌, length, take, drop, flat_map}
use Rattle.std.proofs.Common.{refl, sym, ◌∙◌, ap, subst, inl, inr, arith, append_assoc, length-append}
use Rattle.std.proofs.lemmas.List.{append_cancel_left, take_at, drop_at}
use Rattle.byteorder.specs.Endian.{big_bytes, big_number}
use Rattle.byteorder.specs.Numbers.{big_number-reads_back, length-bytes_high_first}
use Rattle.gate_log.specs.Gates.{Gated, IsClosed, IsCutOff, DamagedAt, AreFramed, open_gate, open_part, frame}

-- a number of n bytes and what follows, by their bytes
number_first : (n x y : ℕ) (a b : List ℕ) → x < 256 ^ n → y < 256 ^ n → big_bytes n x ++ a ≡ big_bytes n y ++ b → (x ≡ y) × (a ≡ b)
number_first n x y a b x_fits y_fits same =
    let equal : x ≡ y = sym (big_number-reads_back n x a x_fits) ∙ ap (big_number n) same ∙ big_number-reads_back n y b y_fits in
    (equal, append_cancel_left (big_bytes n x) a b (same ∙ ap (λ (z : ℕ). big_bytes n z ++ b) (sym equal)))

same_length : (p r a b : List ℕ) → length p ≡ length r → p ++ a ≡ r ++ b → (p ≡ r) × (a ≡ b)
same_length p r a b long same = (
  sym (take_at p a (length p) refl) ∙ ap (take (length p)) same ∙ take_at r b (length p) (sym long),
  sym (drop_at p a (length p) refl) ∙ ap (drop (length p)) same ∙ drop_at r b (length p) (sym long),
)

-- the bytes of a batch and what follows
behind_gate : (p a : List ℕ) → frame p ++ a ≡ open_gate ∷ (big_bytes 4 (length p) ++ (p ++ a))
behind_gate p a = ap (λ (l : List ℕ). open_gate ∷ l) (append_assoc (big_bytes 4 (length p)) p a)

first_frame : (p r a b : List ℕ) → length p < 2 ^ 32 → length r < 2 ^ 32 → frame p ++ a ≡ frame r ++ b → (p ≡ r) × (a ≡ b)
first_frame p r a b p_fits r_fits same =
    let behind : big_bytes 4 (length p) ++ (p ++ a) ≡ big_bytes 4 (length r) ++ (r ++ b) =
    ap (drop 1) (sym (behind_gate p a) ∙ same ∙ behind_gate r b) in
    let known = number_first 4 (length p) (length r) (p ++ a) (r ++ b) p_fits r_fits behind in
    same_length p r a b known.0 known.1

-- A closed gate, or an open one whose batch is cut off.
abbrev Stops : List ℕ → Type 0
Stops [] = ⊥
Stops (gate ∷ rest) = (gate ≢ open_gate) ⊎ IsCutOff rest

stops_some : (bytes : List ℕ) → Stops bytes → 0 < length bytes
stops_some [] stops = absurd stops
stops_some (gate ∷ rest) stops = omega arith

-- no whole batch stands where the batches stop
no_batch : (bytes p a : List ℕ) → length p < 2 ^ 32 → 0 < length a → bytes ≡ frame p ++ a → Stops bytes → ⊥
no_batch [] p a fits some is stops = stops
no_batch (gate ∷ rest) p a fits some is (inl closed) =
    let same : gate ∷ rest ≡ open_gate ∷ (big_bytes 4 (length p) ++ (p ++ a)) = is ∙ behind_gate p a in
    closed cc
no_batch (gate ∷ rest) p a fits some is (inr cut_off) =
    let behind : rest ≡ big_bytes 4 (length p) ++ (p ++ a) = ap (drop 1) (is ∙ behind_gate p a) in
    let size : big_number 4 rest ≡ length p = ap (big_number 4) behind ∙ big_number-reads_back 4 (length p) (p ++ a) fits in
    let long : length rest ≡ 4 + length (p ++ a) =
    ap length behind ∙ length-append (big_bytes 4 (length p)) (p ++ a) ∙ ap (λ (n : ℕ). n + length (p ++ a)) (length-bytes_high_first 4 (length p)) in
    let short : length rest < 5 + length p = subst (λ (n : ℕ). length rest < 5 + n) size cut_off in
    omega (arith, length-append p a)

same_frames : (ps rs : List (List ℕ)) (a b : List ℕ) → AreFramed ps → AreFramed rs → Stops a → Stops b
    → flat_map frame ps ++ a ≡ flat_map frame rs ++ b → (ps ≡ rs) × (a ≡ b)
same_frames [] [] a b p_framed r_framed a_stops b_stops same = (refl, same)
same_frames [] (r ∷ rs) a b p_framed r_framed a_stops b_stops same =
    absurd (no_batch a r (flat_map frame rs ++ b) r_framed.0
    (omega (arith, length-append (flat_map frame rs) b, stops_some b b_stops))
    (same ∙ append_assoc (frame r) (flat_map frame rs) b) a_stops)
same_frames (p ∷ ps) [] a b p_framed r_framed a_stops b_stops same =
    absurd (no_batch b p (flat_map frame ps ++ a) p_framed.0
    (omega (arith, length-append (flat_map frame ps) a, stops_some a a_stops))
    (sym same ∙ append_assoc (frame p) (flat_map frame ps) a) b_stops)
same_frames (p ∷ ps) (r ∷ rs) a b p_framed r_framed a_stops b_stops same =
    let first = first_frame p r (flat_map frame ps ++ a) (flat_map frame rs ++ b) p_framed.0 r_framed.0
    (sym (append_assoc (frame p) (flat_map frame ps) a) ∙ same ∙ append_assoc (frame r) (flat_map frame rs) b) in
    let more = same_frames ps rs a b p_framed.1 r_framed.1 a_stops b_stops first.1 in
    ((λ i. first.0 i ∷ more.0 i), more.1)

-- two spellings of a region
pub same_spelling : (q r : ℕ) (ps rs : List (List ℕ)) (a b : List ℕ) → q < 2 ^ 64 → r < 2 ^ 64 → AreFramed ps → AreFramed rs
    → Stops a → Stops b → open_part q ps ++ a ≡ open_part r rs ++ b → (q ≡ r) × (ps ≡ rs) × (a ≡ b)
same_spelling q r ps rs a b q_fits r_fits p_framed r_framed a_stops b_stops same =
    let behind : big_bytes 8 q ++ (flat_map frame ps ++ a) ≡ big_bytes 8 r ++ (flat_map frame rs ++ b) =
    sym (append_assoc (big_bytes 8 q) (flat_map frame ps) a) ∙ ap (drop 1) same ∙ append_assoc (big_bytes 8 r) (flat_map frame rs) b in
    let head = number_first 8 q r _ _ q_fits r_fits behind in
    let body = same_frames ps rs a b p_framed r_framed a_stops b_stops head.1 in
    (head.0, body.0, body.1)

-- what a region holds is one
pub one_gated : (region : List ℕ) (sequence other : ℕ) (payloads others : List (List ℕ))
    → Gated region sequence payloads → Gated region other others → (sequence ≡ other) × (payloads ≡ others)
one_gated region sequence other payloads others first second =
    let same = same_spelling sequence other payloads others (first.gate ∷ first.rest) (second.gate ∷ second.rest)
    first.sequence_fits second.sequence_fits first.framed second.framed (inl first.closed) (inl second.closed)
    (sym first.spelled ∙ second.spelled) in
    (same.0, same.1)

-- the place at which a region is damaged is one
pub one_place : (region : List ℕ) (place other : ℕ) → DamagedAt region place → DamagedAt region other → place ≡ other
one_place region place other first second =
    let same = same_spelling first.sequence second.sequence first.payloads second.payloads (open_gate ∷ first.rest) (open_gate ∷ second.rest)
    first.sequence_fits second.sequence_fits first.framed second.framed (inr first.cut_off) (inr second.cut_off)
    (sym first.spelled ∙ second.spelled) in
    first.place_is
    ∙ (λ i. length (open_part (same.0 i) (same.1 i)) + 1)
    ∙ sym second.place_is

-- a region that holds batches has an open head
pub gated_not_closed : (region : List ℕ) (sequence : ℕ) (payloads : List (List ℕ)) → Gated region sequence payloads → IsClosed region → ⊥
gated_not_closed region sequence payloads gated closed =
    let differs : IsClosed (open_part sequence payloads ++ gated.gate ∷ gated.rest) = subst IsClosed gated.spelled closed in
    differs refl

-- a damaged region has an open head
pub damaged_not_closed : (region : List ℕ) (place : ℕ) → DamagedAt region place → IsClosed region → ⊥
damaged_not_closed region place damaged closed =
    let differs : IsClosed (open_part damaged.sequence damaged.payloads ++ open_gate ∷ damaged.rest) = subst IsClosed damaged.spelled closed in
    differs refl

-- a region that holds batches up to a closed gate is not damaged
pub gated_not_damaged : (region : List ℕ) (sequence : ℕ) (payloads : List (List ℕ)) (place : ℕ)
    → Gated region sequence payloads → DamagedAt region place → ⊥
gated_not_damaged region sequence payloads place gated damaged =
    let same = same_spelling sequence damaged.sequence payloads damaged.payloads (gated.gate ∷ gated.rest) (open_gate ∷ damaged.rest)
    gated.sequence_fits damaged.sequence_fits gated.framed damaged.framed (inl gated.closed) (inr damaged.cut_off)
    (sym gated.spelled ∙ damaged.spelled) in
    let heads : gated.gate ∷ gated.rest ≡ open_gate ∷ damaged.rest = same.2 in
    gated.closed cc
