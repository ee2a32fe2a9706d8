-- The minimum of ranks, as a loop over places.
use Rattle.std.proofs.Common.{◌≡◌, ℕ, ◌+◌, ◌<◌, ◌≤◌, true, false, cond, List, [], ◌∷◌, ◌++◌, Option, Some, None, refl, sym, ap, subst, ◌∙◌, arith, append-nil, inl, inr, below_more}
use Rattle.std.specs.Prelude.{◌⊎◌, MatchOption}
use Rattle.std.specs.Option.{is_some}
use Rattle.std.specs.List.{reduce, cons_option}
use Rattle.std.specs.declared.cmp.Ordering.{Ordering}
use Rattle.std.specs.declared.cmp.Ordering.TheVariants.{Less, Equal, Greater}
use Rattle.std.specs.Ordering.{nat_cmp, ordering_then, ordering_reverse, is_lt, is_gt, ord_min, MatchOrdering}
use Rattle.std.specs.Cmp.{IsTotalOrder}
use Rattle.std.proofs.lemmas.Bool.{true≢false, false≢true}
use Rattle.std.proofs.lemmas.Cmp.{ranked, upto, tied_itself, nat_cmp_total, on_total, then_total}
use Rattle.std.proofs.lemmas.List.Sums.{fold-append}
use Rattle.dac_base.specs.laws.Ids.{nodes_total}
use Rattle.dac_lattice.specs.Lattices.{join_options}
use Rattle.dac_placement.specs.Ranks.{Rank, rank_cmp}

-- ---- one more rank

none_right : {A : Type 0} (f : A → A → A) (o : Option A) → join_options f o None ≡ o
none_right f None = refl
none_right f (Some x) = refl

pub reduce_more : {A : Type 0} (f : A → A → A) (xs : List A) (o : Option A) → reduce f (xs ++ cons_option o []) ≡ join_options f (reduce f xs) o
reduce_more f xs None = ap (reduce f) (append-nil xs) ∙ sym (none_right f (reduce f xs))
reduce_more f [] (Some y) = refl
reduce_more f (x ∷ xs) (Some y) = ap (λ z. Some z) (fold-append f x xs (y ∷ []))

-- ---- the order of ranks

-- rank_cmp is a total order
ranks_total : IsTotalOrder rank_cmp
ranks_total = then_total (on_total (λ (r : Rank). r.group) nat_cmp_total) (then_total (on_total (λ (r : Rank). r.load) nat_cmp_total) (on_total (λ (r : Rank). r.node) nodes_total))

-- a comes first, or equals b
abbrev pub IsUpTo : Rank → Rank → Type 0
IsUpTo a b = is_gt (rank_cmp a b) ≡ false

from_less : (o : Ordering) → is_lt o ≡ true → is_gt o ≡ false
from_less Less e = refl
from_less Equal e = absurd (false≢true e)
from_less Greater e = absurd (false≢true e)

from_not_less : (o : Ordering) → is_lt o ≡ false → is_gt (ordering_reverse o) ≡ false
from_not_less Less e = absurd (true≢false e)
from_not_less Equal e = refl
from_not_less Greater e = refl

up_to_itself : (a : Rank) → IsUpTo a a
up_to_itself a = ap is_gt (tied_itself ranks_total a)

up_to_other : (a b : Rank) → is_lt (rank_cmp b a) ≡ false → IsUpTo a b
up_to_other a b e = ap is_gt (ranks_total.antisymm a b) ∙ from_not_less (rank_cmp b a) e

up_to_same : (a b : Rank) → ◌≡◌ {A = Option Rank} (Some a) (Some b) → IsUpTo a b
up_to_same a b e = let is : a ≡ b = cc in subst (IsUpTo a) is (up_to_itself a)

by_ordering : (a b : ℕ) (o : Ordering) (p : Ordering) → MatchOrdering p (a < b) (a ≡ b) (b < a) → is_gt (ordering_then p o) ≡ false → (a < b) ⊎ ((a ≡ b) × (is_gt o ≡ false))
by_ordering a b o Less m e = inl m
by_ordering a b o Equal m e = inr (m, e)
by_ordering a b o Greater m e = absurd (true≢false e)

then_parts : (a b : ℕ) (o : Ordering) → is_gt (ordering_then (nat_cmp a b) o) ≡ false → (a < b) ⊎ ((a ≡ b) × (is_gt o ≡ false))
then_parts a b o e = by_ordering a b o (nat_cmp a b) (ranked a b (nat_cmp a b) refl) e

last_part : (a b : ℕ) (p : Ordering) → MatchOrdering p (a < b) (a ≡ b) (b < a) → is_gt p ≡ false → a ≤ b
last_part a b Less m e = omega arith
last_part a b Equal m e = omega arith
last_part a b Greater m e = absurd (true≢false e)

-- the order, field by field
pub up_to_parts : (a b : Rank) → IsUpTo a b → (a.group < b.group) ⊎ ((a.group ≡ b.group) × ((a.load < b.load) ⊎ ((a.load ≡ b.load) × (a.node.0 ≤ b.node.0))))
up_to_parts a b e = elim (then_parts a.group b.group _ e) [
  | inl less ↦ inl less
  | inr same ↦ inr (
    same.0,
    elim (then_parts a.load b.load _ same.1) [
      | inl less ↦ inl less
      | inr both ↦ inr (both.0, last_part a.node.0 b.node.0 _ (ranked a.node.0 b.node.0 (nat_cmp a.node.0 b.node.0) refl) both.1)
    ],
  )
]

-- ---- the least rank of the first n places

module _ (at : ℕ → Option Rank) where
  -- there is none at these places, or this is one of them and no other comes first
  abbrev pub IsLeast : ℕ → Option Rank → Type 0
  IsLeast n o = MatchOption o ((k : ℕ) → k < n → at k ≡ None) (λ r. ((k : ℕ) × (k < n) × (at k ≡ Some r)) × ((k : ℕ) → k < n → (q : Rank) → at k ≡ Some q → IsUpTo r q))

  none_some : {X : Type 0} (r : Rank) → ◌≡◌ {A = Option Rank} None (Some r) → X
  none_some r e = absurd (false≢true (ap is_some e))

  pub least_more : (n : ℕ) (o p : Option Rank) → IsLeast n o → at n ≡ p → IsLeast (n + 1) (join_options (ord_min rank_cmp) o p)
  least_more n None None none is = below_more (λ k. at k ≡ None) n none is
  least_more n None (Some q) none is =
      ((n, omega arith, is), below_more (λ k. (r : Rank) → at k ≡ Some r → IsUpTo q r) n (λ k lt r e. none_some _ (sym (none k lt) ∙ e)) (λ r e. up_to_same q r (sym is ∙ e)))
  least_more n (Some r) None least is =
      ((least.0.0, omega arith, least.0.2), below_more (λ k. (q : Rank) → at k ≡ Some q → IsUpTo r q) n least.1 (λ q e. none_some _ (sym is ∙ e)))
  least_more n (Some r) (Some q) least is =
      elim (is_lt (rank_cmp q r)) as (λ b. is_lt (rank_cmp q r) ≡ b → IsLeast (n + 1) (Some (cond b q r))) [
        | true ↦ λ e. (
          (n, omega arith, is),
          below_more (λ k. (p : Rank) → at k ≡ Some p → IsUpTo q p) n
              (λ k lt p a. upto ranks_total q r p (from_less (rank_cmp q r) e) (least.1 k lt p a)) (λ p a. up_to_same q p (sym is ∙ a)),
        )
        | false ↦ λ e. (
          (least.0.0, omega arith, least.0.2),
          below_more (λ k. (p : Rank) → at k ≡ Some p → IsUpTo r p) n least.1
              (λ p a. subst (IsUpTo r) (one q p (sym is ∙ a)) (up_to_other r q e)),
        )
      ] refl
    where
      one : (x y : Rank) → ◌≡◌ {A = Option Rank} (Some x) (Some y) → x ≡ y
      one x y e = cc

-- ---- the least rank is unique

same_parts : (a b c d e f : ℕ) → (a < b) ⊎ ((a ≡ b) × ((c < d) ⊎ ((c ≡ d) × (e ≤ f)))) → (b < a) ⊎ ((b ≡ a) × ((d < c) ⊎ ((d ≡ c) × (f ≤ e)))) → (a ≡ b) × (c ≡ d) × (e ≡ f)
same_parts a b c d e f p q = (grind arith, grind arith, grind arith)

exact : (a b : Rank) → IsUpTo a b → IsUpTo b a → a ≡ b
exact a b p q =
    let same = same_parts a.group b.group a.load b.load a.node.0 b.node.0 (up_to_parts a b p) (up_to_parts b a q) in
    λ i. record { group = same.0 i; load = same.1 i; node = record { 0 = same.2 i } }

pub same_least : (at : ℕ → Option Rank) (n : ℕ) (o p : Option Rank) → IsLeast at n o → IsLeast at n p → o ≡ p
same_least at n None None a b = refl
same_least at n None (Some q) a b = absurd (false≢true (ap is_some (sym (a b.0.0 b.0.1) ∙ b.0.2)))
same_least at n (Some r) None a b = absurd (false≢true (ap is_some (sym (b a.0.0 a.0.1) ∙ a.0.2)))
same_least at n (Some r) (Some q) a b = ap (λ x. Some x) (exact r q (a.1 b.0.0 b.0.1 q b.0.2) (b.1 a.0.0 a.0.1 r a.0.2))
