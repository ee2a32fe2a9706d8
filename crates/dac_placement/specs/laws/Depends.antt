-- Where two nodes share the leading group, the loads decide which of them is the first choice.
use Rattle.std.proofs.Common.{◌≡◌, ℕ, ◌<◌, ◌≤◌, ◌⊎◌, Bool, true, false, ◌||◌, cond, Option, Some, None, option_map, refl, sym, ap, subst, ◌∙◌, arith}
use Rattle.std.specs.Prelude.{◌==◌, is_some}
use Rattle.std.proofs.lemmas.Bool.{true≢false, false≢true, eqb-true, eq-eqb, not-false}
use Rattle.dac_base.specs.declared.NodeId.{NodeId}
use Rattle.dac_placement.specs.declared.leading.Lead.{Lead}
use Rattle.dac_placement.specs.declared.standing.Standing.{Standing}
use Rattle.dac_placement.specs.declared.standing.Standing.TheVariants.{Unclaimed, Lost, Stopped, Barred, Upheld}
use Rattle.dac_placement.specs.declared.verdicts.Verdict.TheVariants.{Takeover, Kept}
use Rattle.dac_placement.specs.Ranks.{Rank}
use Rattle.dac_placement.specs.Choices.{DependsOnLoads, HasNodes, IsIn, Leads, choice_by, choice_of, first_of, group_by, is_settled, rank_by, verdict_on}
use Rattle.dac_placement.specs.laws.Least.{IsLeast, up_to_parts}
use Rattle.dac_placement.specs.laws.Choosing.{first_is_least, numbered}

abbrev load_if : Bool → ℕ
load_if true = 0
load_if false = 1

-- the load is 0 at this node and 1 at each other
abbrev favouring : NodeId → NodeId → ℕ
favouring node other = load_if (other.0 == node.0)

favoured : (node other : NodeId) → favouring node other ≡ 0 → other ≡ node
favoured node other = by_test (other.0 == node.0) refl
  where
    by_test : (b : Bool) → (other.0 == node.0) ≡ b → load_if b ≡ 0 → other ≡ node
    by_test true is none = λ i. record { 0 = eqb-true other.0 node.0 is i }
    by_test false is none = absurd (omega (arith, none))

favours_itself : (node : NodeId) → favouring node node ≡ 0
favours_itself node = ap load_if (eq-eqb node.0 node.0 refl)

neither : (a b : Bool) → (a || b) ≡ false → (a ≡ false) × (b ≡ false)
neither true b e = absurd (true≢false e)
neither false b e = (refl, e)

module _ (groups : NodeId → Option ℕ) (may : NodeId → Bool) where
  abbrev made : (NodeId → ℕ) → NodeId → ℕ → Rank
  made loads node group = record { group = group; load = loads node; node = node }

  rank_is : (loads : NodeId → ℕ) (node : NodeId) → rank_by groups may loads node ≡ option_map (made loads node) (group_by groups may node)
  rank_is loads node = by_test (may node)
    where
      by_test : (b : Bool) → cond b (option_map (made loads node) (groups node)) None ≡ option_map (made loads node) (cond b (groups node) None)
      by_test true = refl
      by_test false = refl

  parts : (loads : NodeId → ℕ) (node : NodeId) (o : Option ℕ) (r : Rank) → option_map (made loads node) o ≡ Some r → (r.load ≡ loads node) × (r.node ≡ node)
  parts loads node None r e = absurd (false≢true (ap is_some e))
  parts loads node (Some group) r e =
      let is : made loads node group ≡ r = cc in
      (ap (λ (q : Rank). q.load) (sym is), ap (λ (q : Rank). q.node) (sym is))

  module _ (n : ℕ) (lead : Lead) (leads : (loads : NodeId → ℕ) → Leads (Some lead) (first_of (rank_by groups may loads) n)) where
    -- the favoured node of the leading group is the first choice
    chosen : (node : NodeId) → IsIn groups may n lead.group node → choice_by groups may (favouring node) n ≡ Some (record { group = lead.group; node = node })
    chosen node is =
        let loads = favouring node in
        let ranks = rank_by groups may loads in
        let first = leads loads in
        let least = subst (IsLeast (λ k. ranks (numbered k)) n) first.least (first_is_least ranks n) in
        let k = least.0.0 in
        let mine = parts loads (numbered k) (group_by groups may (numbered k)) first.rank (sym (rank_is loads (numbered k)) ∙ least.0.2) in
        let before = least.1 node.0 is.0 (made loads node lead.group) (rank_is loads node ∙ ap (option_map (made loads node)) is.1) in
        let none : first.rank.load ≡ 0 = no_load first.rank.group lead.group first.rank.load (loads node) first.rank.node.0 node.0 (up_to_parts first.rank (made loads node lead.group) before) first.group (favours_itself node) in
        let same : first.rank.node ≡ node = mine.1 ∙ favoured node (numbered k) (sym mine.0 ∙ none) in
        ap (option_map choice_of) first.least ∙ (λ i. Some (record { group = first.group i; node = same i }))
      where
        no_load : (g h a b x y : ℕ) → (g < h) ⊎ ((g ≡ h) × ((a < b) ⊎ ((a ≡ b) × (x ≤ y)))) → g ≡ h → b ≡ 0 → a ≡ 0
        no_load g h a b x y p same zero = grind arith

    -- unless the verdict is settled, it tells two choices in the leading group apart
    apart : (standing : Standing) (late : Option ℕ) (m k : NodeId) → is_settled standing late lead ≡ false
        → verdict_on standing late (Some (record { group = lead.group; node = m })) ≡ verdict_on standing late (Some (record { group = lead.group; node = k })) → m ≡ k
    apart (Stopped holder) late m k unsettled e = absurd (true≢false unsettled)
    apart (Upheld holder) late m k unsettled e = taken_over _ (not-false _ (neither lead.alone _ unsettled).1) e
      where
        taken_over : (b : Bool) → b ≡ true → cond b (Takeover m) (Kept holder) ≡ cond b (Takeover k) (Kept holder) → m ≡ k
        taken_over true is e = cc
        taken_over false is e = absurd (false≢true is)
    apart Unclaimed late m k unsettled e = cc
    apart Lost late m k unsettled e = cc
    apart Barred late m k unsettled e = cc

    shares : (standing : Standing) (late : Option ℕ) → is_settled standing late lead ≡ false → lead.alone ≡ false
    shares (Stopped holder) late unsettled = absurd (true≢false unsettled)
    shares (Upheld holder) late unsettled = (neither lead.alone _ unsettled).0
    shares Unclaimed late unsettled = unsettled
    shares Lost late unsettled = unsettled
    shares Barred late unsettled = unsettled

    -- a verdict that isn't settled depends on the loads
    pub depends : (standing : Standing) (late : Option ℕ) → HasNodes groups may n lead → is_settled standing late lead ≡ false → DependsOnLoads standing late groups may n
    depends standing late has unsettled =
        let other = has.second (shares standing late unsettled) in (
          favouring other.0,
          favouring lead.node,
          λ e. other.2 (apart standing late other.0 lead.node unsettled
              (sym (ap (verdict_on standing late) (chosen other.0 other.1)) ∙ e ∙ ap (verdict_on standing late) (chosen lead.node has.first))),
        )
