-- The least rank is in the lead's group, whatever the loads are.
use Rattle.std.proofs.Common.{◌≡◌, ℕ, ◌+◌, ◌<◌, Bool, true, false, cond, Option, Some, None, option_map, refl, sym, ap, subst, ◌∙◌, arith}
use Rattle.std.specs.Prelude.{◌==◌, IfSome, nat_lt}
use Rattle.std.specs.Option.{is_some}
use Rattle.std.specs.declared.cmp.Ordering.{Ordering}
use Rattle.std.specs.declared.cmp.Ordering.TheVariants.{Less, Equal, Greater}
use Rattle.std.specs.Ordering.{nat_cmp, ordering_then, is_lt, ord_min, MatchOrdering}
use Rattle.std.proofs.lemmas.Bool.{true≢false, false≢true, eqb-true, eq-eqb, false_from_ne_true, le-ltb, lt-ltb}
use Rattle.std.proofs.lemmas.Cmp.{ranked}
use Rattle.dac_base.specs.Ids.{node_cmp}
use Rattle.dac_base.specs.declared.NodeId.{NodeId}
use Rattle.dac_lattice.specs.Lattices.{join_options}
use Rattle.dac_placement.specs.declared.leading.Lead.{Lead}
use Rattle.dac_placement.specs.Ranks.{Rank, rank_cmp}
use Rattle.dac_placement.specs.Choices.{HasNodes, IsLead, Leads, beside, group_by, lead_with}
use Rattle.dac_placement.specs.laws.Choosing.{numbered}

not_same : (a b : ℕ) → b < a → (a == b) ≡ false
not_same a b more = false_from_ne_true (a == b) (λ e. let same = eqb-true a b e in omega (arith, more, same))

-- the lead after a node of this group, by whether the group is earlier than the lead's, and whether it is the same
abbrev by_test : Lead → ℕ → NodeId → Bool → Bool → Lead
by_test lead group node earlier same =
    cond earlier (record { group = group; node = node; alone = true }) (cond same (record { group = group; node = lead.node; alone = false }) lead)

module _ (lead : Lead) (r : Rank) (group load : ℕ) (node : NodeId) where
  abbrev q : Rank
  q = record { group = group; load = load; node = node }

  -- how the ranks compare within a group
  abbrev tie : Ordering
  tie = ordering_then (nat_cmp load r.load) (node_cmp node r.node)

  abbrev lesser : Option Rank
  lesser = Some (cond (is_lt (rank_cmp q r)) q r)

  shared : (b : Bool) → r.group ≡ group → IsLead (by_test lead group node false true) (Some (cond b q r))
  shared true of_r = record { rank = q; least = refl; group = refl; alone = λ a. absurd (false≢true a) }
  shared false of_r = record { rank = r; least = refl; group = of_r; alone = λ a. absurd (false≢true a) }

  -- a node of an earlier group, of the same group, and of a later group
  by_order : (o : Ordering) → nat_cmp group r.group ≡ o → MatchOrdering o (group < r.group) (group ≡ r.group) (r.group < group) → r.group ≡ lead.group → (lead.alone ≡ true → r.node ≡ lead.node)
      → IsLead (beside lead group node) lesser
  by_order Less is m of_r alone =
      subst (λ b. IsLead (by_test lead group node b (group == lead.group)) lesser) (sym (lt-ltb group lead.group (omega (arith, m, of_r))))
      (record { rank = q; least = ap (λ o. Some (cond (is_lt (ordering_then o tie)) q r)) is; group = refl; alone = λ _. refl })
  by_order Equal is m of_r alone =
      subst (λ b. IsLead (by_test lead group node b (group == lead.group)) lesser) (sym (le-ltb group lead.group (omega (arith, m, of_r))))
      (subst (λ b. IsLead (by_test lead group node false b) lesser) (sym (eq-eqb group lead.group (m ∙ of_r))) (shared (is_lt (rank_cmp q r)) (sym m)))
  by_order Greater is m of_r alone =
      subst (λ b. IsLead (by_test lead group node b (group == lead.group)) lesser) (sym (le-ltb group lead.group (omega (arith, m, of_r))))
      (subst (λ b. IsLead (by_test lead group node false b) lesser) (sym (not_same group lead.group (omega (arith, m, of_r))))
      (record { rank = r; least = ap (λ o. Some (cond (is_lt (ordering_then o tie)) q r)) is; group = of_r; alone = alone }))

-- the lead after one more node
pub lead_more : (lead : Option Lead) (first : Option Rank) (may : Bool) (group : Option ℕ) (load : ℕ) (node : NodeId) → Leads lead first
    → Leads (lead_with lead (cond may group None) node) (join_options (ord_min rank_cmp) first (cond may (option_map (λ group. record { group = group; load = load; node = node }) group) None))
lead_more lead None false group load node leads = leads
lead_more lead (Some r) false group load node leads = leads
lead_more lead None true None load node leads = leads
lead_more lead (Some r) true None load node leads = leads
lead_more None None true (Some group) load node leads = record { rank = record { group = group; load = load; node = node }; least = refl; group = refl; alone = λ _. refl }
lead_more None (Some r) true (Some group) load node leads = absurd (false≢true (ap is_some (sym leads)))
lead_more (Some lead) None true (Some group) load node leads = absurd (false≢true (ap is_some leads.least))
lead_more (Some lead) (Some r) true (Some group) load node leads =
    let is : r ≡ leads.rank = one r leads.rank leads.least in
    by_order lead r group load node (nat_cmp group r.group) refl (ranked group r.group (nat_cmp group r.group) refl) (ap (λ (q : Rank). q.group) is ∙ leads.group) (λ a. ap (λ (q : Rank). q.node) is ∙ leads.alone a)
  where
    one : (x y : Rank) → ◌≡◌ {A = Option Rank} (Some x) (Some y) → x ≡ y
    one x y e = cc

-- ---- the nodes of the leading group

module _ (groups : NodeId → Option ℕ) (may : NodeId → Bool) (n : ℕ) where
  later : (lead : Lead) → HasNodes groups may n lead → HasNodes groups may (n + 1) lead
  later lead has = record {
    first = (omega (arith, has.first.0), has.first.1);
    second = λ shared. let other = has.second shared in (other.0, (omega (arith, other.1.0), other.1.1), other.2);
  }

  -- the nodes of the leading group after one more node
  pub nodes_more : (lead : Option Lead) (group : Option ℕ) → group_by groups may (numbered n) ≡ group → IfSome lead (HasNodes groups may n)
      → IfSome (lead_with lead group (numbered n)) (HasNodes groups may (n + 1))
  nodes_more None None is has = tt
  nodes_more (Some lead) None is has = later lead has
  nodes_more None (Some group) is has = record { first = (omega arith, is); second = λ shared. absurd (true≢false shared) }
  nodes_more (Some lead) (Some group) is has = by_order (nat_lt group lead.group) (group == lead.group) (eqb-true group lead.group)
    where
      by_order : (earlier same : Bool) → (same ≡ true → group ≡ lead.group)
          → HasNodes groups may (n + 1) (by_test lead group (numbered n) earlier same)
      by_order true same level = record { first = (omega arith, is); second = λ shared. absurd (true≢false shared) }
      by_order false false level = later lead has
      by_order false true level =
          let same : group ≡ lead.group = level refl in
          record {
            first = (omega (arith, has.first.0), has.first.1 ∙ ap Some (sym same));
            second = λ _. (numbered n, (omega arith, is), λ e. let same : n ≡ lead.node.0 = ap (λ (m : NodeId). m.0) e in absurd (omega (arith, same, has.first.0)));
          }
