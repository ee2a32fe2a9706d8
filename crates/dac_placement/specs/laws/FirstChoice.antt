-- The computed first choice has the least rank, so it is the first choice in words.
use Rattle.std.proofs.Common.{◌≡◌, ◌↔◌, ℕ, ◌<◌, ◌≤◌, Bool, true, false, cond, Option, Some, None, option_map, refl, sym, ap, subst, ◌∙◌, arith, inl, inr}
use Rattle.std.specs.Prelude.{MatchOption, IsSome}
use Rattle.std.specs.Option.{is_some}
use Rattle.std.proofs.lemmas.Bool.{false≢true}
use Rattle.dac_base.specs.declared.NodeId.{NodeId}
use Rattle.dac_base.specs.declared.AppId.{AppId}
use Rattle.dac_config.specs.Table.{Table, node_count, group_of}
use Rattle.dac_state.specs.StateValue.{StateValue}
use Rattle.dac_placement.specs.Ranks.{Rank}
use Rattle.dac_placement.specs.Placement.{IsEligible, is_eligible, EachEligible, IsFirst, load_of, rank_of, first_choice}
use Rattle.dac_placement.specs.laws.Tests.{eligible_is}
use Rattle.dac_placement.specs.laws.Loads.{preferred_is}
use Rattle.dac_placement.specs.Choices.{first_of}
use Rattle.dac_placement.specs.laws.Least.{IsLeast, IsUpTo, up_to_parts}
use Rattle.dac_placement.specs.laws.Choosing.{first_is_least}
pub use Rattle.dac_placement.specs.laws.Choosing.{numbered}

module _ (table : Table) (s : StateValue) (app : AppId) where
  -- the rank of the node of this number
  abbrev pub rank_at : ℕ → Option Rank
  rank_at n = rank_of table s app (numbered n)

  -- the least rank of the first n nodes
  abbrev pub first_below : ℕ → Option Rank
  first_below n = first_of (rank_of table s app) n

  -- the group, load and node of a rank
  of_group : (node : NodeId) (o : Option ℕ) (r : Rank) → option_map (λ group. record { group = group; load = load_of table s app node; node = node }) o ≡ Some r
      → (o ≡ Some r.group) × (r.load ≡ load_of table s app node) × (r.node ≡ node)
  of_group node None r e = absurd (false≢true (ap is_some e))
  of_group node (Some group) r e = let is : record { group = group; load = load_of table s app node; node = node } ≡ r = cc in
      (ap (λ (q : Rank). Some q.group) is, ap (λ (q : Rank). q.load) (sym is), ap (λ (q : Rank). q.node) (sym is))

  rank_parts : (node : NodeId) (r : Rank) → rank_of table s app node ≡ Some r → (group_of table app node ≡ Some r.group) × (r.load ≡ load_of table s app node) × (r.node ≡ node)
  rank_parts node r e =
      elim (is_eligible table s app node) as (λ b. cond b (option_map (λ group. record { group = group; load = load_of table s app node; node = node }) (group_of table app node)) None ≡ Some r
      → (group_of table app node ≡ Some r.group) × (r.load ≡ load_of table s app node) × (r.node ≡ node)) [
        | true ↦ λ e. of_group node (group_of table app node) r e
        | false ↦ λ e. absurd (false≢true (ap is_some e))
      ] e

  -- the group and load of the least rank are those of its node
  pub first_parts : (n : ℕ) (r : Rank) → first_below n ≡ Some r → (group_of table app r.node ≡ Some r.group) × (r.load ≡ load_of table s app r.node)
  first_parts n r e =
      let least = subst (IsLeast rank_at n) e (first_is_least (rank_of table s app) n) in
      let parts = rank_parts (numbered least.0.0) r least.0.2 in
      subst (λ m. (group_of table app m ≡ Some r.group) × (r.load ≡ load_of table s app m)) (sym parts.2) (parts.0, parts.1)

  some_rank : (o : Option Rank) → is_some o ≡ true → (r : Rank) × (o ≡ Some r)
  some_rank None e = absurd (false≢true e)
  some_rank (Some r) e = (r, refl)

  -- a node has a rank exactly when it is eligible
  ranked_is : (node : NodeId) → IsSome (rank_of table s app node) ↔ IsEligible table s app node
  ranked_is node = (
    λ some. (eligible_is table s app node).0 (by_test (is_eligible table s app node) some),
    λ e. ap (λ b. is_some (cond b (in_group (group_of table app node)) None)) ((eligible_is table s app node).1 e) ∙ grouped (group_of table app node) e.listed,
  )
    where
      in_group : Option ℕ → Option Rank
      in_group o = option_map (λ group. record { group = group; load = load_of table s app node; node = node }) o

      by_test : (b : Bool) → is_some (cond b (in_group (group_of table app node)) None) ≡ true → b ≡ true
      by_test true some = refl
      by_test false some = some

      grouped : (o : Option ℕ) → is_some o ≡ true → is_some (in_group o) ≡ true
      grouped None e = e
      grouped (Some g) e = refl

  same_group : {g h : ℕ} → ◌≡◌ {A = Option ℕ} (Some g) (Some h) → g ≡ h
  same_group e = number (λ x. x) e
    where
      number : {a b : ℕ} → (ℕ → ℕ) → ◌≡◌ {A = Option ℕ} (Some a) (Some b) → a ≡ b
      number f e = cc

  first_if : (k : ℕ) (r : Rank) → k < node_count table → rank_at k ≡ Some r
      → ((m : ℕ) → m < node_count table → (q : Rank) → rank_at m ≡ Some q → IsUpTo r q) → IsFirst table s app (numbered k)
  first_if k r lt is least =
      let mine = rank_parts (numbered k) r is in
      record {
        node = lt;
        eligible = (ranked_is (numbered k)).0 (ap is_some is);
        earliest = λ m m_lt may before.
            let other = some_rank (rank_at m.0) ((ranked_is m).1 may) in
            let yours = rank_parts m other.0 other.1 in
            let early : other.0.group ≡ before.early = same_group (sym yours.0 ∙ before.first) in
            let late : r.group ≡ before.late = same_group (sym mine.0 ∙ before.second) in
            elim (up_to_parts r other.0 (least m.0 m_lt other.0 other.1)) [
              | inl less ↦ absurd (later r.group other.0.group before.early before.late less early late before.less)
              | inr same ↦ absurd (level r.group other.0.group before.early before.late same.0 early late before.less)
            ];
        preferred = λ m m_lt may level.
            let other = some_rank (rank_at m.0) ((ranked_is m).1 may) in
            let yours = rank_parts m other.0 other.1 in
            let alike : other.0.group ≡ r.group = same_group (sym yours.0 ∙ level ∙ mine.0) in
            (preferred_is table s app (numbered k) m).1 (elim (up_to_parts r other.0 (least m.0 m_lt other.0 other.1)) [
              | inl less ↦ absurd (apart r.group other.0.group less alike)
              | inr same ↦ elim same.1 [
                | inl fewer ↦ inl (fewer_of r.load other.0.load (load_of table s app (numbered k)) (load_of table s app m) fewer mine.1 yours.1)
                | inr tie ↦ inr (sym mine.1 ∙ tie.0 ∙ yours.1, numbers r.node.0 other.0.node.0 k m.0 tie.1 (ap (λ (n : NodeId). n.0) mine.2) (ap (λ (n : NodeId). n.0) yours.2))
              ]
            ]);
      }
    where
      later : (g h early late : ℕ) → g < h → h ≡ early → g ≡ late → early < late → ⊥
      later g h early late a b c d = omega arith

      level : (g h early late : ℕ) → g ≡ h → h ≡ early → g ≡ late → early < late → ⊥
      level g h early late a b c d = omega arith

      apart : (g h : ℕ) → g < h → h ≡ g → ⊥
      apart g h a b = omega arith

      fewer_of : (a b x y : ℕ) → a < b → a ≡ x → b ≡ y → x < y
      fewer_of a b x y e f g = omega arith

      numbers : (a b x y : ℕ) → a ≤ b → a ≡ x → b ≡ y → x ≤ y
      numbers a b x y e f g = omega arith

  -- the computed first choice is the first choice in words, and if there is none, no node is eligible
  pub first_is : MatchOption (first_choice table s app) (EachEligible table s app (λ _. ⊥)) (λ n. IsFirst table s app n)
  first_is = by_least (first_below (node_count table)) (first_is_least (rank_of table s app) (node_count table))
    where
      by_least : (o : Option Rank) → IsLeast rank_at (node_count table) o → MatchOption (option_map (λ (r : Rank). r.node) o) (EachEligible table s app (λ _. ⊥)) (λ n. IsFirst table s app n)
      by_least None none = λ node lt may. absurd (false≢true (ap is_some (sym (none node.0 lt)) ∙ (ranked_is node).1 may))
      by_least (Some r) least = subst (IsFirst table s app) (sym (rank_parts (numbered least.0.0) r least.0.2).2) (first_if least.0.0 r least.0.1 least.0.2 least.1)
