-- Items that are read in ascending order, each with a greater key than the previous one.
use Rattle.std.specs.Prelude.{◌≡◌, Bool, true, List, [], ◌∷◌, map, Option, Some, None, refl}
use Rattle.std.specs.List.{AllByRecursion}
use Rattle.std.specs.declared.cmp.Ordering.{Ordering}
use Rattle.std.specs.Cmp.{IsTotalOrder}
use Rattle.std.proofs.lemmas.Bool.{and_parts, and_from}
use Rattle.dac_origins.specs.Keys.{is_below_all, is_rising, IsRising}
use Rattle.dac_origins.specs.laws.InOrder.{less, below_more}
use Rattle.dac_bytes.specs.Reading.{is_above}
use Rattle.dac_bytes.specs.Items.{Chain}

-- whether the previous key, if any, is less than all keys
abbrev pub starts_above : {K : Type 0} → (K → K → Ordering) → Option K → List K → Bool
starts_above R None ks = true
starts_above R (Some before) ks = is_below_all R before ks

-- an item that satisfies `Is`, with a key greater than the previous one
abbrev pub IsNextAbove : {X K : Type 0} → (K → K → Ordering) → (X → K) → (X → Type 0) → Option K → X → Type 0
IsNextAbove R key Is before x = Is x × (is_above R before (key x) ≡ true)

-- each item satisfies `Is`, and their keys ascend
pub record AreRising {X K : Type 0} (R : K → K → Ordering) (key : X → K) (Is : X → Type 0) (before : Option K) (xs : List X) : Type 0 where
  pub each : AllByRecursion Is xs
  pub rising : IsRising R (map key xs)
  pub above : starts_above R before (map key xs) ≡ true

module _ {X K : Type 0} {R : K → K → Ordering} (o : IsTotalOrder R) (key : X → K) (Is : X → Type 0) where
  starts_more : (before : Option K) (k : K) (ks : List K) → is_above R before k ≡ true → is_below_all R k ks ≡ true → starts_above R before (k ∷ ks) ≡ true
  starts_more None k ks p h = refl
  starts_more (Some b) k ks p h = and_from _ _ p (below_more o b k ks (less _ p) h)

  starts_first : (before : Option K) (k : K) (ks : List K) → starts_above R before (k ∷ ks) ≡ true → is_above R before k ≡ true
  starts_first None k ks h = refl
  starts_first (Some b) k ks h = (and_parts _ _ h).0

  starts_none : (before : Option K) → starts_above R before [] ≡ true
  starts_none None = refl
  starts_none (Some b) = refl

  -- items that are read one by one ascend
  pub rising_of : (before : Option K) (xs : List X) → Chain (IsNextAbove R key Is) (λ x. Some (key x)) before xs → AreRising R key Is before xs
  rising_of before [] c = record { each = tt; rising = refl; above = starts_none before }
  rising_of before (x ∷ xs) c =
      let rest = rising_of (Some (key x)) xs c.1 in
      record {
        each = (c.0.0, rest.each);
        rising = and_from _ _ rest.above rest.rising;
        above = starts_more before (key x) (map key xs) c.0.1 rest.above;
      }

  -- items that ascend can be read one by one
  pub chain_of : (before : Option K) (xs : List X) → AreRising R key Is before xs → Chain (IsNextAbove R key Is) (λ x. Some (key x)) before xs
  chain_of before [] h = tt
  chain_of before (x ∷ xs) h =
      let parts = and_parts (is_below_all R (key x) (map key xs)) (is_rising R (map key xs)) h.rising in
      ((h.each.0, starts_first before (key x) (map key xs) h.above), chain_of (Some (key x)) xs (record { each = h.each.1; rising = parts.1; above = parts.0 }))
