-- The codecs of fields: a value that is read is in range and has these bytes as its spelling, and each one in range is
-- read from its spelling.
use Rattle.std.specs.Prelude.{◌≡◌, ℕ, ◌+◌, ◌^◌, ◌<◌, ◌≤◌, Bool, true, false, ◌||◌, ◌%◌, cond, List, [], ◌∷◌, ◌++◌, length, take, Option, Ok, nat_lt, refl}
use Rattle.std.specs.Int.{Width, w8, w16, w32, w64, byte_len, from_be_bytes, to_be_bytes}
use Rattle.std.proofs.Common.{sym, ap, subst, ◌∙◌, arith}
use Rattle.std.proofs.lemmas.Bool.{or_parts, or_from, ltb-true, ltb-false, lt-ltb, le-ltb}
use Rattle.std.proofs.lemmas.List.{take_at, drop_at, length-append, length-take}
use Rattle.std.proofs.lemmas.Nat.{be_bytes_2, be_bytes_4, be_bytes_8, from_be_bytes-to_be_bytes_2, from_be_bytes-to_be_bytes_4, from_be_bytes-to_be_bytes_8}
use Rattle.dac_base.specs.declared.NodeId.{NodeId}
use Rattle.dac_base.specs.declared.limits.TheConstants.{MAX_COUNTER}
use Rattle.dac_origins.specs.declared.dot.Origin.{Origin}
use Rattle.dac_origins.specs.declared.dot.Dot.{Dot}
use Rattle.dac_origins.specs.Dots.{dot_cmp, origin_cmp}
use Rattle.dac_bytes.specs.declared.fault.ReadFaultKind.TheVariants.{Short, BadNumber, BadOrder, BadName}
use Rattle.dac_bytes.specs.declared.version.Version.{Version}
use Rattle.dac_bytes.specs.declared.version.Version.TheVariants.{One, Two}
use Rattle.dac_bytes.specs.Versions.{incarnation_width, highest_incarnation}
use Rattle.dac_bytes.specs.Numbers.{u8_bytes, u16_bytes, u32_bytes, u64_bytes}
use Rattle.dac_bytes.specs.Ranges.{IsIncarnation, IsOrigin, IsDot}
use Rattle.dac_bytes.specs.Reading.{Rest, ◌>>=◌, after, fault, number_at, range_at, node_at, incarnation_at, incarnation_or_zero_at, counter_at, origin_at, dot_at, is_above, origin_above_at, dot_above_at}
use Rattle.dac_bytes.specs.Spelling.{incarnation_bytes, origin_bytes, dot_bytes}
use Rattle.dac_bytes.specs.Takes.{IsBytes, Takes, TakesAs, Again}
use Rattle.dac_bytes.specs.laws.Takes.{IsBytes-take, Takes-front, bind_ok, guard_ok, wanted_ok, TakesAs-more, TakesAs-guard, TakesAs-wanted, TakesAs-both, Again-guard, Again-wanted, Again-both}

-- ---- numbers

-- numbers below a limit correspond one to one to their bytes
pub record IsWide (w : Width) (limit : ℕ) : Type 0 where
  pub len : (n : ℕ) → length (to_be_bytes w n) ≡ byte_len w
  pub back : (bytes : List ℕ) → length bytes ≡ byte_len w → IsBytes bytes → to_be_bytes w (from_be_bytes w bytes) ≡ bytes
  pub again : (n : ℕ) → n < limit → from_be_bytes w (to_be_bytes w n) ≡ n
  pub below : (bytes : List ℕ) → IsBytes bytes → from_be_bytes w bytes < limit

one_byte : (bytes : List ℕ) → length bytes ≡ 1 → IsBytes bytes → to_be_bytes w8 (from_be_bytes w8 bytes) ≡ bytes
one_byte [] len fits = absurd (omega arith)
one_byte (b ∷ []) len fits = let small = fits 0 in let same : b % 256 ≡ b = omega arith in ap (λ (n : ℕ). n ∷ []) same
one_byte (b ∷ c ∷ bytes) len fits = absurd (omega arith)

pub wide8 : IsWide w8 (2 ^ 8)
wide8 = record {
  len = λ n. refl;
  back = one_byte;
  again = λ n lt. omega arith;
  below = λ bytes fits. omega (arith, fits 0);
}

pub wide16 : IsWide w16 (2 ^ 16)
wide16 = record {
  len = λ n. refl;
  back = λ bytes len fits. be_bytes_2 bytes _ len fits refl;
  again = λ n lt. from_be_bytes-to_be_bytes_2 n lt;
  below = λ bytes fits. omega (arith, fits 0, fits 1);
}

pub wide32 : IsWide w32 (2 ^ 32)
wide32 = record {
  len = λ n. refl;
  back = λ bytes len fits. be_bytes_4 bytes _ len fits refl;
  again = λ n lt. from_be_bytes-to_be_bytes_4 n lt;
  below = λ bytes fits. omega (arith, fits 0, fits 1, fits 2, fits 3);
}

pub wide64 : IsWide w64 (2 ^ 64)
wide64 = record {
  len = λ n. refl;
  back = λ bytes len fits. be_bytes_8 bytes _ len fits refl;
  again = λ n lt. from_be_bytes-to_be_bytes_8 n lt;
  below = λ bytes fits. omega (arith, fits 0, fits 1, fits 2, fits 3, fits 4, fits 5, fits 6, fits 7);
}

module _ (w : Width) (limit : ℕ) (wide : IsWide w limit) where
  pub number_takes : TakesAs (number_at w) (to_be_bytes w) (λ n. n < limit)
  number_takes r x fits e =
      let size = byte_len w in
      let front = take size r.bytes in
      let g = guard_ok (nat_lt (length r.bytes) size) Short r (from_be_bytes w front, after size r) x e in
      let long : size ≤ length r.bytes = ltb-false _ _ g.0 in
      let spelled : to_be_bytes w (from_be_bytes w front) ≡ front = wide.back front (omega (arith, length-take size r.bytes)) (IsBytes-take size r.bytes fits) in
      let found : Takes r (to_be_bytes w (from_be_bytes w front)) (after size r) = subst (λ (t : List ℕ). Takes r t (after size r)) (sym spelled) (Takes-front size r long fits) in
      subst (λ (x : ℕ × Rest). Takes r (to_be_bytes w x.0) x.1 × (x.0 < limit)) g.1 (found, wide.below front (IsBytes-take size r.bytes fits))

  pub number_again : (n : ℕ) → n < limit → Again (number_at w) (to_be_bytes w n) n
  number_again n lt at rest =
      let len = wide.len n in
      let long : nat_lt (length (to_be_bytes w n ++ rest)) (byte_len w) ≡ false = le-ltb _ _ (omega (arith, length-append (to_be_bytes w n) rest)) in
      rw (long, take_at (to_be_bytes w n) rest (byte_len w) len, drop_at (to_be_bytes w n) rest (byte_len w) len, wide.again n lt, len) refl

  -- a number from `low` to `high`
  module _ (low high : ℕ) where
    out : ℕ → Bool
    out n = nat_lt n low || nat_lt high n

    pub range_takes : TakesAs (range_at w low high) (to_be_bytes w) (λ n. (low ≤ n) × (n ≤ high))
    unfolding range_at out
    range_takes =
        let read = λ (r : Rest). number_at w r >>= λ n. cond (out n.0) (fault BadNumber r) (Ok n) in
        TakesAs-more read (to_be_bytes w) (λ n. (n < limit) × (out n ≡ false)) (λ n. (low ≤ n) × (n ≤ high))
        (TakesAs-guard (number_at w) (to_be_bytes w) (λ n. n < limit) out BadNumber number_takes)
        (λ n is. let parts = or_parts (nat_lt n low) (nat_lt high n) is.1 in (ltb-false n low parts.0, ltb-false high n parts.1))

    pub range_again : high < limit → (n : ℕ) → low ≤ n → n ≤ high → Again (range_at w low high) (to_be_bytes w n) n
    unfolding range_at out
    range_again fit n above below =
        Again-guard (number_at w) out BadNumber (to_be_bytes w n) n (number_again n (omega arith)) (or_from _ _ (le-ltb n low above) (le-ltb high n below))

pub u8_takes : TakesAs (number_at w8) u8_bytes (λ n. n < 2 ^ 8)
unfolding u8_bytes
u8_takes = number_takes w8 (2 ^ 8) wide8

pub u8_again : (n : ℕ) → n < 2 ^ 8 → Again (number_at w8) (u8_bytes n) n
unfolding u8_bytes
u8_again = number_again w8 (2 ^ 8) wide8

pub u16_takes : TakesAs (number_at w16) u16_bytes (λ n. n < 2 ^ 16)
unfolding u16_bytes
u16_takes = number_takes w16 (2 ^ 16) wide16

pub u16_again : (n : ℕ) → n < 2 ^ 16 → Again (number_at w16) (u16_bytes n) n
unfolding u16_bytes
u16_again = number_again w16 (2 ^ 16) wide16

pub u32_takes : TakesAs (number_at w32) u32_bytes (λ n. n < 2 ^ 32)
unfolding u32_bytes
u32_takes = number_takes w32 (2 ^ 32) wide32

pub u32_again : (n : ℕ) → n < 2 ^ 32 → Again (number_at w32) (u32_bytes n) n
unfolding u32_bytes
u32_again = number_again w32 (2 ^ 32) wide32

module _ (low high : ℕ) where
  pub u8_in_takes : TakesAs (range_at w8 low high) u8_bytes (λ n. (low ≤ n) × (n ≤ high))
  unfolding u8_bytes
  u8_in_takes = range_takes w8 (2 ^ 8) wide8 low high

  pub u8_in_again : high < 2 ^ 8 → (n : ℕ) → low ≤ n → n ≤ high → Again (range_at w8 low high) (u8_bytes n) n
  unfolding u8_bytes
  u8_in_again = range_again w8 (2 ^ 8) wide8 low high

  pub u32_in_takes : TakesAs (range_at w32 low high) u32_bytes (λ n. (low ≤ n) × (n ≤ high))
  unfolding u32_bytes
  u32_in_takes = range_takes w32 (2 ^ 32) wide32 low high

  pub u32_in_again : high < 2 ^ 32 → (n : ℕ) → low ≤ n → n ≤ high → Again (range_at w32 low high) (u32_bytes n) n
  unfolding u32_bytes
  u32_in_again = range_again w32 (2 ^ 32) wide32 low high

  pub u64_in_takes : TakesAs (range_at w64 low high) u64_bytes (λ n. (low ≤ n) × (n ≤ high))
  unfolding u64_bytes
  u64_in_takes = range_takes w64 (2 ^ 64) wide64 low high

  pub u64_in_again : high < 2 ^ 64 → (n : ℕ) → low ≤ n → n ≤ high → Again (range_at w64 low high) (u64_bytes n) n
  unfolding u64_bytes
  u64_in_again = range_again w64 (2 ^ 64) wide64 low high

-- an exclusive bound of the numbers in an incarnation's bytes
abbrev pub beyond_incarnation : Version → ℕ
beyond_incarnation One = 2 ^ 32
beyond_incarnation Two = 2 ^ 64

-- ---- nodes, origins and dots

abbrev node_bytes : NodeId → List ℕ
node_bytes node = u8_bytes node.0

abbrev named : ℕ → NodeId
named n = record { 0 = n }

-- an incarnation has the version's width
pub wide_incarnation : (version : Version) → IsWide (incarnation_width version) (beyond_incarnation version)
wide_incarnation One = wide32
wide_incarnation Two = wide64

incarnation_fits : (version : Version) → highest_incarnation version < beyond_incarnation version
incarnation_fits One = omega arith
incarnation_fits Two = omega arith

pub incarnation_takes : (version : Version) → TakesAs (incarnation_at version) (incarnation_bytes version) (IsIncarnation version)
unfolding incarnation_bytes
incarnation_takes version = range_takes (incarnation_width version) (beyond_incarnation version) (wide_incarnation version) 1 (highest_incarnation version)

pub incarnation_again : (version : Version) (n : ℕ) → IsIncarnation version n → Again (incarnation_at version) (incarnation_bytes version n) n
unfolding incarnation_bytes
incarnation_again version n is =
    range_again (incarnation_width version) (beyond_incarnation version) (wide_incarnation version) 1 (highest_incarnation version) (incarnation_fits version) n is.0 is.1

pub incarnation_or_zero_takes : (version : Version) → TakesAs (incarnation_or_zero_at version) (incarnation_bytes version) (λ n. n ≤ highest_incarnation version)
unfolding incarnation_bytes
incarnation_or_zero_takes version =
    TakesAs-more (incarnation_or_zero_at version) (incarnation_bytes version) (λ n. (0 ≤ n) × (n ≤ highest_incarnation version)) (λ n. n ≤ highest_incarnation version)
    (range_takes (incarnation_width version) (beyond_incarnation version) (wide_incarnation version) 0 (highest_incarnation version)) (λ n is. is.1)

pub incarnation_or_zero_again : (version : Version) (n : ℕ) → n ≤ highest_incarnation version → Again (incarnation_or_zero_at version) (incarnation_bytes version n) n
unfolding incarnation_bytes
incarnation_or_zero_again version n le =
    range_again (incarnation_width version) (beyond_incarnation version) (wide_incarnation version) 0 (highest_incarnation version) (incarnation_fits version) n (omega arith) le

pub counter_takes : TakesAs counter_at u64_bytes (λ n. (1 ≤ n) × (n ≤ MAX_COUNTER))
counter_takes = u64_in_takes 1 MAX_COUNTER

pub counter_again : (n : ℕ) → 1 ≤ n → n ≤ MAX_COUNTER → Again counter_at (u64_bytes n) n
counter_again = u64_in_again 1 MAX_COUNTER (omega arith)

module _ (version : Version) (nodes : ℕ) where
  pub node_takes : TakesAs (node_at nodes) (λ (node : NodeId). u8_bytes node.0) (λ node. node.0 < nodes)
  unfolding node_at
  node_takes r x fits e =
      let b = bind_ok (number_at w8 r) (λ n. cond (nat_lt n.0 nodes) (Ok (named n.0, n.1)) (fault BadName r)) x e in
      let g = wanted_ok (nat_lt b.0.0 nodes) BadName r (named b.0.0, b.0.1) x b.2 in
      let t = u8_takes r b.0 fits b.1 in
      subst (λ (x : NodeId × Rest). Takes r (node_bytes x.0) x.1 × (x.0.0 < nodes)) g.1 (t.0, ltb-true b.0.0 nodes g.0)

  pub origin_takes : TakesAs (origin_at version nodes) (origin_bytes version) (IsOrigin version nodes)
  unfolding origin_at origin_bytes
  origin_takes =
      TakesAs-both (node_at nodes) node_bytes (λ node. node.0 < nodes) (λ _ r. incarnation_at version r) (λ _. incarnation_bytes version) (λ _. IsIncarnation version)
      (λ node n. record { node = node; inc = n }) (origin_bytes version) (IsOrigin version nodes)
      node_takes (λ _ _. incarnation_takes version) (λ node n p q. (refl, record { node = p; inc = q }))

  pub dot_takes : TakesAs (dot_at version nodes) (dot_bytes version) (IsDot version nodes)
  unfolding dot_at dot_bytes
  dot_takes =
      TakesAs-both (origin_at version nodes) (origin_bytes version) (IsOrigin version nodes) (λ _ r. counter_at r) (λ _. u64_bytes) (λ _ n. (1 ≤ n) × (n ≤ MAX_COUNTER))
      (λ origin n. record { origin = origin; n = n }) (dot_bytes version) (IsDot version nodes)
      origin_takes (λ _ _. counter_takes) (λ origin n p q. (refl, record { origin = p; first = q.0; last = q.1 }))

  pub origin_above_takes : (before : Option Origin) → TakesAs (origin_above_at version nodes before) (origin_bytes version) (λ o. IsOrigin version nodes o × (is_above origin_cmp before o ≡ true))
  unfolding origin_above_at
  origin_above_takes before = TakesAs-wanted (origin_at version nodes) (origin_bytes version) (IsOrigin version nodes) (is_above origin_cmp before) BadOrder origin_takes

  pub dot_above_takes : (before : Option Dot) → TakesAs (dot_above_at version nodes before) (dot_bytes version) (λ d. IsDot version nodes d × (is_above dot_cmp before d ≡ true))
  unfolding dot_above_at
  dot_above_takes before = TakesAs-wanted (dot_at version nodes) (dot_bytes version) (IsDot version nodes) (is_above dot_cmp before) BadOrder dot_takes

  -- node numbers fit one byte
  module _ (one_byte_each : nodes ≤ 2 ^ 8) where
    pub node_again : (node : NodeId) → node.0 < nodes → Again (node_at nodes) (u8_bytes node.0) node
    unfolding node_at
    node_again node lt at rest =
        let r : Rest = record { at = at; bytes = u8_bytes node.0 ++ rest } in
        let end : Rest = record { at = at + length (u8_bytes node.0); bytes = rest } in
        ap (λ f. f >>= λ n. cond (nat_lt n.0 nodes) (Ok (named n.0, n.1)) (fault BadName r)) (u8_again node.0 (omega arith) at rest)
        ∙ ap (λ (b : Bool). cond b (Ok (node, end)) (fault BadName r)) (lt-ltb node.0 nodes lt)

    pub origin_again : (o : Origin) → IsOrigin version nodes o → Again (origin_at version nodes) (origin_bytes version o) o
    unfolding origin_at origin_bytes
    origin_again o is =
        Again-both (node_at nodes) (λ _ r. incarnation_at version r) (λ node n. record { node = node; inc = n }) (node_bytes o.node) (incarnation_bytes version o.inc) o.node o.inc
        (node_again o.node is.node) (incarnation_again version o.inc is.inc)

    pub dot_again : (d : Dot) → IsDot version nodes d → Again (dot_at version nodes) (dot_bytes version d) d
    unfolding dot_at dot_bytes
    dot_again d is =
        Again-both (origin_at version nodes) (λ _ r. counter_at r) (λ origin n. record { origin = origin; n = n }) (origin_bytes version d.origin) (u64_bytes d.n) d.origin d.n
        (origin_again d.origin is.origin) (counter_again d.n is.first is.last)

    pub origin_above_again : (before : Option Origin) (o : Origin) → IsOrigin version nodes o → is_above origin_cmp before o ≡ true → Again (origin_above_at version nodes before) (origin_bytes version o) o
    unfolding origin_above_at
    origin_above_again before o is above = Again-wanted (origin_at version nodes) (is_above origin_cmp before) BadOrder (origin_bytes version o) o (origin_again o is) above

    pub dot_above_again : (before : Option Dot) (d : Dot) → IsDot version nodes d → is_above dot_cmp before d ≡ true → Again (dot_above_at version nodes before) (dot_bytes version d) d
    unfolding dot_above_at
    dot_above_again before d is above = Again-wanted (dot_at version nodes) (is_above dot_cmp before) BadOrder (dot_bytes version d) d (dot_again d is) above
