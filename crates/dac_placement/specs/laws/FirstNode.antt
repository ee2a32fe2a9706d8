-- The first choice is unique, so the one in words is the computed one.
use Rattle.std.proofs.Common.{◌≡◌, ◌⊎◌, ℕ, ◌<◌, ◌≤◌, true, Option, Some, None, refl, sym, ap, arith, inl, inr}
use Rattle.std.specs.Prelude.{MatchOption, is_some}
use Rattle.std.proofs.lemmas.Bool.{false≢true}
use Rattle.dac_base.specs.declared.NodeId.{NodeId}
use Rattle.dac_base.specs.declared.AppId.{AppId}
use Rattle.dac_config.specs.Table.{Table, group_of}
use Rattle.dac_state.specs.StateValue.{StateValue}
use Rattle.dac_placement.specs.Placement.{EachEligible, IsEarlier, load_of, IsPreferred, IsFirst, first_choice}
use Rattle.dac_placement.specs.laws.Loads.{preferred_is}
use Rattle.dac_placement.specs.laws.FirstChoice.{first_is}

module _ (t : Table) (app : AppId) where
  -- ---- groups

  -- if both nodes are in the list and neither's group is earlier, their groups are equal
  level_by : (m n : NodeId) (g h : Option ℕ) → group_of t app m ≡ g → group_of t app n ≡ h → is_some g ≡ true → is_some h ≡ true → ¬ IsEarlier t app m n → ¬ IsEarlier t app n m → g ≡ h
  level_by m n None h of_m of_n a b p q = absurd (false≢true a)
  level_by m n (Some g) None of_m of_n a b p q = absurd (false≢true b)
  level_by m n (Some g) (Some h) of_m of_n a b p q = ap (λ k. Some k) (same g h
      (λ less. p (record { early = g; late = h; first = of_m; second = of_n; less = less }))
      (λ less. q (record { early = h; late = g; first = of_n; second = of_m; less = less })))
    where
      same : (g h : ℕ) → (g < h → ⊥) → (h < g → ⊥) → g ≡ h
      same g h a b = omega arith

  pub level : (m n : NodeId) → is_some (group_of t app m) ≡ true → is_some (group_of t app n) ≡ true → ¬ IsEarlier t app m n → ¬ IsEarlier t app n m → group_of t app m ≡ group_of t app n
  level m n a b p q = level_by m n (group_of t app m) (group_of t app n) refl refl a b p q

  module _ (s : StateValue) where
    -- ---- the first choice

    one_node : (m n : NodeId) → m.0 ≤ n.0 → n.0 ≤ m.0 → m ≡ n
    one_node m n p q = let same : m.0 ≡ n.0 = omega arith in λ i. record { 0 = same i }

    -- a smaller load, or an equal one and no later name
    abbrev Before : ℕ → ℕ → NodeId → NodeId → Type 0
    Before a b m n = (a < b) ⊎ ((a ≡ b) × (m.0 ≤ n.0))

    by_loads : (m n : NodeId) (a b : ℕ) → Before a b m n → Before b a n m → m ≡ n
    by_loads m n a b (inl p) (inl q) = absurd (omega arith)
    by_loads m n a b (inl p) (inr q) = absurd (omega (arith, q.0))
    by_loads m n a b (inr p) (inl q) = absurd (omega (arith, p.0))
    by_loads m n a b (inr p) (inr q) = one_node m n p.1 q.1

    one_of : (m n : NodeId) → IsPreferred t s app m n → IsPreferred t s app n m → m ≡ n
    one_of m n p q = by_loads m n (load_of t s app m) (load_of t s app n) ((preferred_is t s app m n).0 p) ((preferred_is t s app n m).0 q)

    -- the first choice in words is unique
    pub one_first : (m n : NodeId) → IsFirst t s app m → IsFirst t s app n → m ≡ n
    one_first m n a b =
        let same = level m n a.eligible.listed b.eligible.listed (b.earliest m a.node a.eligible) (a.earliest n b.node b.eligible) in
        one_of m n (a.preferred n b.node b.eligible (sym same)) (b.preferred m a.node a.eligible same)

    first_by : (n : NodeId) → IsFirst t s app n → (o : Option NodeId) → MatchOption o (EachEligible t s app (λ _. ⊥)) (λ m. IsFirst t s app m) → o ≡ Some n
    first_by n a None none = absurd (none n a.node a.eligible)
    first_by n a (Some m) b = ap (λ k. Some k) (one_first m n b a)

    pub first_to : (n : NodeId) → IsFirst t s app n → first_choice t s app ≡ Some n
    first_to n a = first_by n a (first_choice t s app) (first_is t s app)
