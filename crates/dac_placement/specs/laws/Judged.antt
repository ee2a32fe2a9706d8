-- The standing and the first choice determine the verdict in words.
use Rattle.std.proofs.Common.{◌≡◌, ◌↔◌, ℕ, ◌<◌, ◌≤◌, true, false, cond, Option, Some, None, refl, sym, ap, ◌∙◌, arith, inl, inr}
use Rattle.std.specs.Prelude.{MatchOption, nat_lt, is_some, option_map}
use Rattle.std.proofs.lemmas.Bool.{true≢false, false≢true, ltb-true, ltb-false, lt-ltb}
use Rattle.dac_base.specs.declared.NodeId.{NodeId}
use Rattle.dac_base.specs.declared.AppId.{AppId}
use Rattle.dac_config.specs.Table.{Table, group_of, node_count}
use Rattle.dac_state.specs.StateValue.{StateValue}
use Rattle.dac_placement.specs.declared.standing.Standing.{Standing}
use Rattle.dac_placement.specs.declared.standing.Standing.TheVariants.{Unclaimed, Lost, Stopped, Barred, Upheld}
use Rattle.dac_placement.specs.declared.verdicts.Verdict.TheVariants.{Takeover, Kept}
use Rattle.dac_placement.specs.Placement.{EachEligible, IsEarlier, is_less, is_earlier, IsFirst, IsStanding, standing_of, group_held, rank_of, first_choice, IsVerdict, verdict_by, verdict_of}
use Rattle.dac_placement.specs.laws.Standing.{standing_is}
use Rattle.dac_placement.specs.Ranks.{Rank}
use Rattle.dac_placement.specs.Choices.{choice_of, first_of, verdict_on}
use Rattle.dac_placement.specs.laws.Choosing.{first_alike, numbered}
use Rattle.dac_placement.specs.laws.FirstChoice.{first_is, first_below, first_parts}

-- a first choice, or no node is eligible
abbrev pub IsChoice : Table → StateValue → AppId → Option NodeId → Type 0
IsChoice table s app first = MatchOption first (EachEligible table s app (λ _. ⊥)) (λ n. IsFirst table s app n)

module _ (table : Table) (app : AppId) (m n : NodeId) where
  by_groups : (o p : Option ℕ) → group_of table app m ≡ o → group_of table app n ≡ p → is_less o p ≡ true → IsEarlier table app m n
  by_groups None p of_m of_n e = absurd (false≢true e)
  by_groups (Some g) None of_m of_n e = absurd (false≢true e)
  by_groups (Some g) (Some h) of_m of_n e = record { early = g; late = h; first = of_m; second = of_n; less = ltb-true g h e }

  -- the test of groups agrees with the definition
  pub earlier_if : is_earlier table app m n ≡ true → IsEarlier table app m n
  earlier_if e = by_groups (group_of table app m) (group_of table app n) refl refl e

  pub if_earlier : IsEarlier table app m n → is_earlier table app m n ≡ true
  if_earlier e = (λ i. is_less (e.first i) (e.second i)) ∙ lt-ltb e.early e.late e.less

  pub earlier_is : (is_earlier table app m n ≡ true) ↔ IsEarlier table app m n
  earlier_is = (λ e. earlier_if e, λ e. if_earlier e)

-- if the first choice is in no earlier group than the holder, no eligible node is
pub none_earlier : (table : Table) (s : StateValue) (app : AppId) (n holder : NodeId) → IsFirst table s app n → is_earlier table app n holder ≡ false → EachEligible table s app (λ m. ¬ IsEarlier table app m holder)
none_earlier table s app n holder first level m lt may before = by_group (group_of table app n) refl first.eligible.listed
  where
    between : (a g b : ℕ) → g ≤ a → a < b → g < b
    between a g b p q = omega arith

    by_group : (o : Option ℕ) → group_of table app n ≡ o → is_some o ≡ true → ⊥
    by_group None is some = false≢true some
    by_group (Some g) is some = elim (nat_lt before.early g) as (λ b. nat_lt before.early g ≡ b → ⊥) [
      | true ↦ λ e. first.earliest m lt may (record { early = before.early; late = g; first = before.first; second = is; less = ltb-true before.early g e })
      | false ↦ λ e. true≢false (sym (if_earlier table app n holder (record { early = g; late = before.late; first = is; second = before.second; less = between before.early g before.late (ltb-false before.early g e) before.less })) ∙ level)
    ] refl

pub verdict_is : (table : Table) (s : StateValue) (app : AppId) (standing : Standing) (first : Option NodeId) → IsStanding table s app standing → IsChoice table s app first → IsVerdict table s app (verdict_by table app standing first)
verdict_is table s app (Stopped holder) first stands choice = stands
verdict_is table s app (Upheld holder) None stands none = (stands, λ m lt may before. none m lt may)
verdict_is table s app (Upheld holder) (Some n) stands is =
    elim (is_earlier table app n holder) as (λ b. is_earlier table app n holder ≡ b → IsVerdict table s app (cond b (Takeover n) (Kept holder))) [
      | true ↦ λ e. (holder, stands, is, earlier_if table app n holder e)
      | false ↦ λ e. (stands, none_earlier table s app n holder is e)
    ] refl
verdict_is table s app Unclaimed (Some n) stands is = (stands, is)
verdict_is table s app Lost (Some n) stands is = (stands, is)
verdict_is table s app Barred (Some n) stands is = (stands, is)
verdict_is table s app Unclaimed None stands none = (none, inl stands)
verdict_is table s app Lost None stands none = (none, inr (inl stands))
verdict_is table s app Barred None stands none = (none, inr (inr stands))

pub verdict_in_words : (table : Table) (s : StateValue) (app : AppId) → IsVerdict table s app (verdict_of table s app)
verdict_in_words table s app = verdict_is table s app (standing_of table s app) (first_choice table s app) (standing_is table s app) (first_is table s app)

module _ (table : Table) (s : StateValue) (app : AppId) where
  -- the verdict by the holder's group and the first choice's
  by_first : (standing : Standing) (first : Option Rank) → ((r : Rank) → first ≡ Some r → group_of table app r.node ≡ Some r.group)
      → verdict_on standing (group_held table app standing) (option_map choice_of first) ≡ verdict_by table app standing (option_map (λ (r : Rank). r.node) first)
  by_first (Stopped holder) first grouped = refl
  by_first (Upheld holder) None grouped = refl
  by_first (Upheld holder) (Some r) grouped = λ i. cond (is_less (sym (grouped r refl) i) (group_of table app holder)) (Takeover r.node) (Kept holder)
  by_first Unclaimed None grouped = refl
  by_first Unclaimed (Some r) grouped = refl
  by_first Lost None grouped = refl
  by_first Lost (Some r) grouped = refl
  by_first Barred None grouped = refl
  by_first Barred (Some r) grouped = refl

  -- whatever computes the ranks of nodes, the verdict by them is the verdict
  pub judged_same : (ranks : NodeId → Option Rank) (standing : Standing) (late : Option ℕ) → standing ≡ standing_of table s app → late ≡ group_held table app standing
      → ((k : ℕ) → k < node_count table → ranks (numbered k) ≡ rank_of table s app (numbered k))
      → verdict_on standing late (option_map choice_of (first_of ranks (node_count table))) ≡ verdict_of table s app
  judged_same ranks standing late of_standing of_late same =
      (λ i. verdict_on standing (of_late i) (option_map choice_of (first_alike ranks (rank_of table s app) (node_count table) same i)))
      ∙ by_first standing (first_below table s app (node_count table)) (λ r e. (first_parts table s app (node_count table) r e).0)
      ∙ ap (λ standing. verdict_by table app standing (first_choice table s app)) of_standing
