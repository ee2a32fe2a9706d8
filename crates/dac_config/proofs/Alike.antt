-- Equal lists of groups.
use Rattle.std.proofs.Common.{◌≡◌, ℕ, ◌+◌, ◌<◌, true, false, List, length, get_or, map, subst, refl, sym, ap, ◌∙◌, arith}
use Rattle.std.specs.Prelude.{nat_lt}
use Rattle.dac_config.proofs.Common.{Vec, ltb-true, ltb-false, get_or-map}

abbrev pub nodes_of : List (Vec ℕ) → List (List ℕ)
nodes_of groups = map (λ group. group.items) groups

pub group_at : (groups : List (Vec ℕ)) (place : ℕ) (group : Vec ℕ) (d : List ℕ) → group ≡ get_or groups place group → place < length groups → get_or (nodes_of groups) place d ≡ group.items
group_at groups place group d is within = get_or-map (λ (group : Vec ℕ). group.items) groups place group d within ∙ sym (ap (λ (group : Vec ℕ). group.items) is)

-- a property below a number and at it holds below its successor
pub one_below : (P : ℕ → Type 0) (n : ℕ) → ((k : ℕ) → k < n → P k) → P n → (k : ℕ) → k < n + 1 → P k
one_below P n before here k lt = elim (nat_lt k n) as (λ b. nat_lt k n ≡ b → P k) [
  | true ↦ λ e. before k (ltb-true k n e)
  | false ↦ λ e. let same : n ≡ k = omega (arith, lt, ltb-false k n e) in subst P same here
] refl
