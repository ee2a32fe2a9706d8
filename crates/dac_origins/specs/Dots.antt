-- The order of dots, their encoding, and sets of dots.
use Rattle.std.specs.Prelude.{◌≡◌, ℕ, ◌-◌, ◌<◌, ◌≤◌, ◌⊎◌, true, refl}
use Rattle.std.specs.declared.cmp.Ordering.{Ordering}
use Rattle.std.specs.Ordering.{nat_cmp, ordering_then}
use Rattle.std.specs.FinSet as set
use Rattle.std.specs.Coded.{Coded, code_by, coded×, coded_ℕ}
use Rattle.dac_base.specs.Ids.{node_cmp}
use Rattle.dac_base.specs.declared.limits.TheConstants.{MAX_COUNTER}
use Rattle.dac_origins.specs.declared.dot.Origin.{Origin}
use Rattle.dac_origins.specs.declared.dot.Dot.{Dot}

-- origins ordered by node, then by incarnation
abbrev pub origin_cmp : Origin → Origin → Ordering
origin_cmp a b = ordering_then (node_cmp a.node b.node) (nat_cmp a.inc b.inc)

-- dots ordered by origin, then by counter
abbrev pub dot_cmp : Dot → Dot → Ordering
dot_cmp a b = ordering_then (origin_cmp a.origin b.origin) (nat_cmp a.n b.n)

-- an origin encoded as two numbers
abbrev pub coded_origin : Coded Origin
coded_origin = code_by (ℕ × ℕ) (coded× coded_ℕ coded_ℕ) (λ o. (o.node.0, o.inc))
    (λ p. record { node = record { 0 = p.0 }; inc = p.1 }) (λ _. refl)

-- a dot encoded as three numbers
abbrev pub coded_dot : Coded Dot
coded_dot =
    code_by (ℕ × (ℕ × ℕ)) (coded× coded_ℕ (coded× coded_ℕ coded_ℕ)) (λ d. (d.origin.node.0, (d.origin.inc, d.n)))
    (λ p. record { origin = record { node = record { 0 = p.0 }; inc = p.1.0 }; n = p.1.1 }) (λ _. refl)

-- a set of dots
abbrev pub Dots : Type 0
Dots = set.FinSet dot_cmp

-- the first set is a subset of the second
abbrev pub IsSubset : Dots → Dots → Type 0
IsSubset c d = (x : Dot) → set.contains c x ≡ true → set.contains d x ≡ true

-- the origin's dot with this counter
abbrev pub dot : Origin → ℕ → Dot
dot origin n = record { origin = origin; n = n }

-- the next dot of the origin: one above its greatest dot in the set, or 1 if it has none, and within the limit
pub record IsNext (dots : Dots) (origin : Origin) (d : Dot) : Type 0 where
  pub same_origin : d.origin ≡ origin
  pub above : (n : ℕ) → set.contains dots (dot origin n) ≡ true → n < d.n
  pub tight : (d.n ≡ 1) ⊎ (set.contains dots (dot origin (d.n - 1)) ≡ true)
  pub at_most : d.n ≤ MAX_COUNTER

-- the origin has used the greatest counter, so it has no next dot
pub record IsUsedUp (dots : Dots) (origin : Origin) : Type 0 where
  pub n : ℕ
  pub there : set.contains dots (dot origin n) ≡ true
  pub high : MAX_COUNTER ≤ n

-- version vectors: the counters of each origin are 1 to some number, without gaps
abbrev pub IsVector : Dots → Type 0
IsVector dots = (origin : Origin) (n : ℕ) → set.contains dots (dot origin n) ≡ true
    → (1 ≤ n) × ((m : ℕ) → 1 ≤ m → m ≤ n → set.contains dots (dot origin m) ≡ true)
