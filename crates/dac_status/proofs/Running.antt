-- Where applications run and their first choices, computed from the marks of nodes.
use Rattle.std.proofs.Common.{◌≡◌, ◌∙◌, ℕ, ◌<◌, ◌==◌, Bool, true, false, cond, not, ◌&&◌, List, Option, None, Some, option_map, get_or, refl, sym, ap}
use Rattle.dac_status.proofs.Common.{option_map_or, both_ways, false≢true, eqb-true, eq-eqb, MAX_APPS, AppId, NodeId, Origin, Claim, Life, live_at, Table, app_count, group_of, node_count, StateValue, is_started_at, is_up, key_at, runner_of, Mark, Down, is_ok, live_in, mark_at, mark_of, marks_of}
use Rattle.std.specs.Option.{is_some, option_and_then}
use Rattle.std.specs.FinMap as map
use Rattle.dac_placement.specs.Placement.{holder_of, is_allowed_at, is_eligible, load_of, rank_of, runs_at}
use Rattle.dac_placement.specs.declared.ranking.Rank.{Rank}
use Rattle.dac_placement.specs.Choices.{load_by, rank_by}
use Rattle.dac_placement.specs.laws.Counting.{load_alike}
use Rattle.dac_placement.specs.laws.Tests as tests
use Rattle.dac_status.specs.Kept.{is_there, runners_of, runs_in}
use Rattle.dac_status.proofs.Places.{app_numbered, node_numbered, placed_at}
use Rattle.dac_status.proofs.Staying.{mark_placed, marked}

-- the mark is `Ok` exactly when all three tests pass
by_tests : (permitted drained started : Bool) → ((permitted && not drained) && started) ≡ is_ok (marked permitted drained started)
by_tests true true started = refl
by_tests true false true = refl
by_tests true false false = refl
by_tests false drained started = refl

-- ---- running at a node

there_if : (o : Option NodeId) (node : NodeId) → is_there o node ≡ true → o ≡ Some node
there_if None node e = absurd (false≢true e)
there_if (Some at) node e = let same : at.0 ≡ node.0 = eqb-true at.0 node.0 e in λ i. Some (record { 0 = same i })

module _ (table : Table) (s : StateValue) (app : AppId) where
  by_life : (node : NodeId) (live : Option ℕ) → option_map_or (λ inc. is_allowed_at table s (key_at app node inc) && is_started_at s (key_at app node inc)) live false ≡ is_ok (mark_at table s app node live)
  by_life node None = refl
  by_life node (Some inc) = by_tests _ _ _

  -- a node is eligible if it is in the list and its mark is `Ok`
  may_by_mark : (node : NodeId) → is_eligible table s app node ≡ (is_some (group_of table app node) && is_ok (mark_of table s app node))
  may_by_mark node = ap (λ b. is_some (group_of table app node) && b) (by_life node (live_at s.lives node))

  pub runner_is : (claim : Claim) (group : Option ℕ) (life : Option Life) (mark : Mark) (runs : Bool) → Some claim ≡ map.get s.claims app → group ≡ group_of table app claim.origin.node
      → live_in life ≡ live_at s.lives claim.origin.node → mark ≡ mark_of table s app claim.origin.node
      → runs ≡ (option_map_or (λ inc. inc == claim.origin.inc) (live_in life) false && (is_some group && is_ok mark))
      → cond runs (Some claim.origin.node) None ≡ runner_of table s app
  runner_is claim group life mark runs claimed of_group of_life of_mark is =
      let o : Origin = claim.origin in
      let holder : holder_of s app ≡ Some o = ap (option_map (λ (k : Claim). k.origin)) (sym claimed) in
      let up : option_map_or (λ inc. inc == o.inc) (live_in life) false ≡ is_up s o = ap (λ l. option_map_or (λ inc. inc == o.inc) l false) of_life in
      let may : (is_some group && is_ok mark) ≡ is_eligible table s app o.node = (λ i. is_some (of_group i) && is_ok (of_mark i)) ∙ sym (may_by_mark o.node) in
      let here : runs ≡ runs_at table s app o.node =
      is ∙ (λ i. up i && may i)
      ∙ sym (ap (λ b. (b && is_up s o) && is_eligible table s app o.node) (eq-eqb o.node.0 o.node.0 refl))
      ∙ sym (ap (λ h. option_map_or (λ (p : Origin). (p.node.0 == o.node.0) && is_up s p) h false && is_eligible table s app o.node) holder) in
      ap (λ b. cond b (Some o.node) None) here
      ∙ sym (ap (option_and_then (λ (p : Origin). cond (runs_at table s app p.node) (Some p.node) None)) holder)

  -- ---- ranks

  abbrev made : NodeId → ℕ → Option ℕ → Option Rank
  made node load group = option_map (λ (g : ℕ). record { group = g; load = load; node = node }) group

  by_group : (node : NodeId) (load : ℕ) (ok : Bool) (group : Option ℕ) → cond ok (made node load group) None ≡ cond (is_some group && ok) (made node load group) None
  by_group node load true None = refl
  by_group node load true (Some g) = refl
  by_group node load false None = refl
  by_group node load false (Some g) = refl

  pub rank_is : (node : NodeId) (ok : Bool) (group : Option ℕ) (load : ℕ) → is_ok (mark_of table s app node) ≡ ok → group_of table app node ≡ group → load_of table s app node ≡ load
      → cond ok (made node load group) None ≡ rank_of table s app node
  rank_is node ok group load of_mark of_group of_load =
      by_group node load ok group
      ∙ (λ i. cond (is_some (sym of_group i) && sym of_mark i) (made node (sym of_load i) (sym of_group i)) None)
      ∙ ap (λ b. cond b (made node (load_of table s app node) (group_of table app node)) None) (sym (may_by_mark node))

  -- ---- loads

  -- an application's runner determines whether it runs at a node
  pub runs_by : (node : NodeId) (runners : List (Option NodeId)) (n : ℕ) → runners ≡ runners_of table s → n < app_count table
      → is_there (get_or runners n None) node ≡ runs_at table s (app_numbered n) node
  runs_by node runners n are lt =
      let other : AppId = app_numbered n in
      ap (λ rs. is_there (get_or rs n None) node) are ∙ ap (λ o. is_there o node) (placed_at MAX_APPS None app_numbered (runner_of table s) (app_count table) n lt)
      ∙ both_ways _ _ (λ e. (tests.runs_is table s other node).1 ((tests.runner_is table s other node).0 (there_if (runner_of table s other) node e)))
      (λ e. ap (λ o. is_there o node) ((tests.runner_is table s other node).1 ((tests.runs_is table s other node).0 e)) ∙ eq-eqb node.0 node.0 refl)

  -- the rank of a node by its mark, and by the runners of applications
  abbrev pub rank_seen : List (Option NodeId) → List Mark → NodeId → Option Rank
  rank_seen runners marks = rank_by (group_of table app) (λ node. is_ok (get_or marks node.0 Down)) (load_by (runs_in runners) (app_count table) app)

  pub rank_by_marks : (runners : List (Option NodeId)) (marks : List Mark) → runners ≡ runners_of table s → marks ≡ marks_of table s app → (n : ℕ) → n < node_count table
      → rank_seen runners marks (node_numbered n) ≡ rank_of table s app (node_numbered n)
  rank_by_marks runners marks are also n lt =
      let node : NodeId = node_numbered n in
      rank_is node (is_ok (get_or marks n Down)) (group_of table app node) (load_by (runs_in runners) (app_count table) app node) (ap is_ok (sym (mark_placed table s app marks n also lt))) refl
      (sym (load_alike app node (runs_in runners) (runs_at table s) (app_count table) (λ k k_lt. runs_by node runners k are k_lt)))
