-- Codes correspond one to one to kinds and values.
use Rattle.std.specs.Prelude.{◌≡◌, ℕ, ◌≤◌, List, None, Some, refl}
use Rattle.std.proofs.Common.{ap, subst, arith}
use Rattle.dac_wire.specs.laws.Common.{zero, suc, Bool, true, false, Option, w8, eqb-true, lt-ltb, FieldCodecs, IsCodec, highest_incarnation, codec_made, u8_bytes, range_at, packet_code, IsKindIn, value_code, value_of_code, only_code, only_of_code, IsOnly, packet_kind_at, act_kind_at, is_only_of, PacketKind, Whole, ActKind, Up, Version, One, Two}
use Rattle.std.proofs.lemmas.Bool.{false≢true}
use Rattle.dac_wire.specs.Codes.{packet_of_code, act_code, highest_act, act_of_code}

abbrev IsFrom : ℕ → ℕ → ℕ → Type 0
IsFrom low high n = (low ≤ n) × (n ≤ high)

-- ---- packets

packet_number : (n : ℕ) → IsFrom 1 4 n → n ≡ packet_code (packet_of_code n)
packet_number zero is = absurd (omega (arith, is.0))
packet_number (suc zero) is = refl
packet_number (suc (suc zero)) is = refl
packet_number (suc (suc (suc zero))) is = refl
packet_number (suc (suc (suc (suc n)))) is = omega (arith, is.1)

packet_fits : (kind : PacketKind) → IsFrom 1 4 (packet_code kind)
packet_fits Whole = (omega arith, omega arith)
packet_fits _ = (omega arith, omega arith)

packet_back : (kind : PacketKind) → packet_of_code (packet_code kind) ≡ kind
packet_back Whole = refl
packet_back _ = refl

abbrev pub packet_kind_bytes : PacketKind → List ℕ
packet_kind_bytes kind = u8_bytes (packet_code kind)

abbrev pub IsAny : {X : Type 0} → X → Type 0
IsAny x = Unit {0}

pub packet_kind_codec : (version : Version) (nodes : ℕ) → FieldCodecs version nodes → IsCodec packet_kind_at packet_kind_bytes IsAny
unfolding packet_kind_at
packet_kind_codec version nodes fields =
    codec_made (range_at w8 1 4) u8_bytes (IsFrom 1 4) (fields.u8_in 1 4 (omega arith)) packet_of_code packet_kind_bytes IsAny
    (λ n is. (ap u8_bytes (packet_number n is), tt)) (λ kind _. (packet_code kind, packet_fits kind, packet_back kind))

-- ---- acts

act_number : (n : ℕ) → IsFrom 1 7 n → n ≡ act_code (act_of_code n)
act_number zero is = absurd (omega (arith, is.0))
act_number (suc zero) is = refl
act_number (suc (suc zero)) is = refl
act_number (suc (suc (suc zero))) is = refl
act_number (suc (suc (suc (suc zero)))) is = refl
act_number (suc (suc (suc (suc (suc zero))))) is = refl
act_number (suc (suc (suc (suc (suc (suc zero)))))) is = refl
act_number (suc (suc (suc (suc (suc (suc (suc n))))))) is = omega (arith, is.1)

act_first : (kind : ActKind) → 1 ≤ act_code kind
act_first Up = omega arith
act_first _ = omega arith

few_acts : (version : Version) → highest_act version ≤ 7
few_acts One = omega arith
few_acts Two = omega arith

act_back : (kind : ActKind) → act_of_code (act_code kind) ≡ kind
act_back Up = refl
act_back _ = refl

abbrev pub act_kind_bytes : ActKind → List ℕ
act_kind_bytes kind = u8_bytes (act_code kind)

pub act_kind_codec : (version : Version) (nodes : ℕ) → FieldCodecs version nodes → IsCodec (act_kind_at version) act_kind_bytes (IsKindIn version)
unfolding act_kind_at
act_kind_codec version nodes fields =
    let high = highest_act version in
    let few : high ≤ 7 = few_acts version in
    codec_made (range_at w8 1 high) u8_bytes (IsFrom 1 high) (fields.u8_in 1 high (omega arith)) act_of_code act_kind_bytes (IsKindIn version)
    (λ n is. let same = act_number n (is.0, omega (arith, is.1)) in (ap u8_bytes same, subst (λ m. m ≤ high) same is.1)) (λ kind is. (act_code kind, (act_first kind, is), act_back kind))

-- ---- the value of a permit or a drain

pub value_number : (n : ℕ) → n ≤ 1 → n ≡ value_code (value_of_code n)
value_number zero h = refl
value_number (suc zero) h = refl
value_number (suc (suc n)) h = absurd (omega arith)

pub value_fits : (value : Bool) → (0 ≤ value_code value) × (value_code value ≤ 1)
value_fits true = (omega arith, omega arith)
value_fits false = (omega arith, omega arith)

pub value_back : (value : Bool) → value_of_code (value_code value) ≡ value
value_back true = refl
value_back false = refl

-- ---- the incarnation that a message is for

pub only_number : (n : ℕ) → n ≡ only_code (only_of_code n)
only_number zero = refl
only_number (suc n) = refl

module _ (version : Version) where
  abbrev highest : ℕ
  highest = highest_incarnation version

  pub only_is : (whole : Bool) (n : ℕ) → n ≤ highest → is_only_of whole n ≡ true → IsOnly version whole (only_of_code n)
  only_is true n lt e = ap only_of_code (eqb-true n 0 e)
  only_is false zero lt e = absurd (false≢true e)
  only_is false (suc n) lt e = (suc n, refl, (omega arith, lt))

  pub only_fits : (whole : Bool) (only : Option ℕ) → IsOnly version whole only → (only_code only ≤ highest) × (is_only_of whole (only_code only) ≡ true)
  only_fits true only is = let same : only_code only ≡ 0 = ap only_code is in (omega arith, ap (is_only_of true) same)
  only_fits false only is =
      let same : only_code only ≡ is.0 = ap only_code is.1 in
      let first : 1 ≤ is.0 = is.2.0 in
      let last : is.0 ≤ highest = is.2.1 in
      (omega arith, lt-ltb 0 (only_code only) (omega arith))

  pub only_back : (whole : Bool) (only : Option ℕ) → IsOnly version whole only → only_of_code (only_code only) ≡ only
  only_back whole None is = refl
  only_back whole (Some (suc n)) is = refl
  only_back true (Some zero) is = absurd cc
  only_back false (Some zero) is =
      let same : 0 ≡ is.0 = ap only_code is.1 in
      let first : 1 ≤ is.0 = is.2.0 in
      absurd (omega arith)
