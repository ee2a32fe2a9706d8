-- A board that shows a state agrees with the definitions for that state.
use Rattle.std.proofs.Common.{◌≡◌, ℕ, ◌<◌, Bool, true, false, not, cond, ◌&&◌, List, [], length, get_or, Option, Some, None, option_map, refl, sym, ap, ◌∙◌, arith, eqb}
use Rattle.std.specs.Prelude.{is_some, if◌then◌else◌}
use Rattle.std.specs.Option.{option_map_or}
use Rattle.std.proofs.Math.Bool.{and-false, and-true}
use Rattle.std.proofs.lemmas.Bool.{false≢true, eqb-true}
use Rattle.std.proofs.lemmas.Option.{slice_get-get_or}
use Rattle.dac_base.specs.declared.NodeId.{NodeId}
use Rattle.dac_base.specs.declared.AppId.{AppId}
use Rattle.dac_origins.specs.declared.dot.Origin.{Origin}
use Rattle.dac_config.specs.Table.{Table, node_count, app_count, group_of}
use Rattle.dac_chains.specs.Lives.{live_at}
use Rattle.dac_meaning.specs.StateValue.{StateValue}
use Rattle.dac_placement.specs.declared.standing.Standing.{Standing}
use Rattle.dac_placement.specs.declared.standing.Standing.TheVariants.{Unclaimed, Lost, Stopped, Barred, Upheld}
use Rattle.dac_placement.specs.declared.verdicts.Verdict.TheVariants.{Nobody}
use Rattle.dac_placement.specs.declared.ranking.Rank.{Rank}
use Rattle.dac_placement.specs.Choices.{choice_by, load_by, rank_by, verdict_on}
use Rattle.dac_placement.specs.Placement.{key_at, key_of, is_eligible, is_allowed_at, is_started_at, holder_of, is_up, runs_at, group_held, load_of, rank_of, standing_at, standing_of, verdict_of}
use Rattle.dac_board.specs.declared.spot.Spot.{Spot}
use Rattle.dac_board.specs.Boards.{RowValue, spot_of, spots_of, row_of, rows_of}
use Rattle.dac_board.specs.Rows.{no_row, row_runs, row_at, runs_on, group_in, group_on, is_on, first_on, row_verdict}
use Rattle.dac_placement.specs.laws.Counting.{load_alike, numbered_app}
use Rattle.dac_placement.specs.laws.Choosing.{numbered}
use Rattle.dac_placement.specs.laws.Judged.{judged_same}
use Rattle.dac_board.proofs.Filling.{length_filled, filled_at}

module _ (table : Table) (s : StateValue) where
  -- ---- running at a node

  module _ (app : AppId) (node : NodeId) where
    abbrev wanted : ℕ → Bool
    wanted inc = is_allowed_at table s (key_at app node inc) && is_started_at s (key_at app node inc)

    -- at the live incarnation, eligible means listed, allowed and started
    eligible_at : (inc : ℕ) → live_at s.lives node ≡ Some inc → is_eligible table s app node ≡ (is_some (group_of table app node) && wanted inc)
    eligible_at inc live = ap (λ o. is_some (group_of table app node) && option_map_or wanted o false) live

  is_live : (o : Option ℕ) (i : ℕ) → option_map_or (λ inc. eqb inc i) o false ≡ true → o ≡ Some i
  is_live None i e = absurd (false≢true e)
  is_live (Some inc) i e = ap (λ x. Some x) (eqb-true inc i e)

  -- the holder is this node, or another one
  at_holder : (app : AppId) (node : NodeId) (o : Origin) (b : Bool) → (o.node.0 ≡ node.0 → is_eligible table s app o.node ≡ b) → ((eqb o.node.0 node.0 && true) && is_eligible table s app node) ≡ (eqb o.node.0 node.0 && b)
  at_holder app node o b here = elim (eqb o.node.0 node.0) as (λ t. eqb o.node.0 node.0 ≡ t → ((t && true) && is_eligible table s app node) ≡ (t && b)) [
    | true ↦ λ e. let same = eqb-true o.node.0 node.0 e in ap (is_eligible table s app) (λ i. record { 0 = sym same i }) ∙ here same
    | false ↦ λ e. refl
  ] refl

  -- if the holder is live
  runs_if_up : (app : AppId) (node : NodeId) (o : Origin) → live_at s.lives o.node ≡ Some o.inc → (started allowed : Bool) → is_started_at s (key_of app o) ≡ started → is_allowed_at table s (key_of app o) ≡ allowed
      → ((eqb o.node.0 node.0 && true) && is_eligible table s app node) ≡ row_runs node (record { spots = []; standing = if not started then Stopped o.node else if not allowed then Barred else Upheld o.node; group = group_held table app (if not started then Stopped o.node else if not allowed then Barred else Upheld o.node) })
  runs_if_up app node o live false allowed is may =
      at_holder app node o false (λ _. eligible_at app o.node o.inc live ∙ (λ i. is_some (group_of table app o.node) && (is_allowed_at table s (key_of app o) && is i)) ∙ ap (λ b. is_some (group_of table app o.node) && b) (and-false _) ∙ and-false _)
      ∙ and-false _
  runs_if_up app node o live true false is may =
      at_holder app node o false (λ _. eligible_at app o.node o.inc live ∙ (λ i. is_some (group_of table app o.node) && (may i && is_started_at s (key_of app o))) ∙ and-false _)
      ∙ and-false _
  runs_if_up app node o live true true is may =
      at_holder app node o (is_some (group_of table app o.node)) (λ _. eligible_at app o.node o.inc live ∙ (λ i. is_some (group_of table app o.node) && (may i && is i)) ∙ and-true _)

  runs_by_holder : (app : AppId) (node : NodeId) (o : Origin) (up : Bool) → is_up s o ≡ up
      → ((eqb o.node.0 node.0 && up) && is_eligible table s app node) ≡ row_runs node (record { spots = []; standing = if not up then Lost else if not (is_started_at s (key_of app o)) then Stopped o.node else if not (is_allowed_at table s (key_of app o)) then Barred else Upheld o.node; group = group_held table app (if not up then Lost else if not (is_started_at s (key_of app o)) then Stopped o.node else if not (is_allowed_at table s (key_of app o)) then Barred else Upheld o.node) })
  runs_by_holder app node o false e = ap (λ b. b && is_eligible table s app node) (and-false (eqb o.node.0 node.0))
  runs_by_holder app node o true e = runs_if_up app node o (is_live (live_at s.lives o.node) o.inc e) (is_started_at s (key_of app o)) (is_allowed_at table s (key_of app o)) refl refl

  runs_if_held : (app : AppId) (node : NodeId) (o : Option Origin)
      → (option_map_or (λ (o : Origin). eqb o.node.0 node.0 && is_up s o) o false && is_eligible table s app node) ≡ row_runs node (record { spots = []; standing = option_map_or (standing_at table s app) o Unclaimed; group = group_held table app (option_map_or (standing_at table s app) o Unclaimed) })
  runs_if_held app node None = refl
  runs_if_held app node (Some o) = runs_by_holder app node o (is_up s o) refl

  -- a row runs at a node exactly when its application does
  pub runs_same : (app : AppId) (node : NodeId) → row_runs node (row_of table s app) ≡ runs_at table s app node
  runs_same app node = sym (runs_if_held app node (holder_of s app))

  -- ---- loads

  module _ (rows : List RowValue) (shows : rows ≡ rows_of table s) where
    length_rows : length rows ≡ app_count table
    length_rows = ap length shows ∙ length_filled numbered_app (row_of table s) (app_count table)

    pub row_is : (app : AppId) → app.0 < app_count table → row_at rows app ≡ row_of table s app
    row_is app lt = ap (λ (l : List RowValue). get_or l app.0 no_row) shows ∙ filled_at numbered_app (row_of table s) (app_count table) app.0 no_row lt

    runs_alike : (node : NodeId) (k : ℕ) → k < app_count table → runs_on rows (numbered_app k) node ≡ runs_at table s (numbered_app k) node
    runs_alike node k lt = ap (row_runs node) (row_is (numbered_app k) lt) ∙ runs_same (numbered_app k) node

    pub load_same : (app : AppId) (node : NodeId) → load_by (runs_on rows) (length rows) app node ≡ load_of table s app node
    load_same app node = ap (λ n. load_by (runs_on rows) n app node) length_rows ∙ load_alike app node (runs_on rows) (runs_at table s) (app_count table) (runs_alike node)

    -- ---- ranks and the verdict

    abbrev made : NodeId → ℕ → Option ℕ → Option Rank
    made node load group = option_map (λ (g : ℕ). record { group = g; load = load; node = node }) group

    abbrev spotted : NodeId → Bool → Option ℕ → Option Spot
    spotted node eligible group = cond eligible (option_map (λ (g : ℕ). record { group = g; node = node }) group) None

    ranked : (node : NodeId) (load : ℕ) (eligible : Bool) (group : Option ℕ)
        → cond (is_some (group_in (spotted node eligible group))) (made node load (group_in (spotted node eligible group))) None ≡ cond eligible (made node load group) None
    ranked node load false group = refl
    ranked node load true None = refl
    ranked node load true (Some group) = refl

    rank_same : (app : AppId) (k : ℕ) → k < node_count table
        → rank_by (group_on (spots_of table s app)) (is_on (spots_of table s app)) (load_by (runs_on rows) (length rows) app) (numbered k) ≡ rank_of table s app (numbered k)
    rank_same app k lt =
        let spot : get_or (spots_of table s app) k None ≡ spot_of table s app (numbered k) = filled_at numbered (spot_of table s app) (node_count table) k None lt in
        (λ i. cond (is_some (group_in (spot i))) (made (numbered k) (load_same app (numbered k) i) (group_in (spot i))) None)
        ∙ ranked (numbered k) (load_of table s app (numbered k)) (is_eligible table s app (numbered k)) (group_of table app (numbered k))

    pub verdict_same : (app : AppId) → app.0 < app_count table → row_verdict rows app ≡ verdict_of table s app
    verdict_same app lt =
        let spots : List (Option Spot) = spots_of table s app in
        let standing : Standing = standing_of table s app in
        ap (λ (o : Option RowValue). option_map_or (λ (row : RowValue). verdict_on row.standing row.group (first_on rows app row.spots)) o Nobody)
        (slice_get-get_or rows app.0 no_row (omega (arith, length_rows)) ∙ ap (λ x. Some x) (row_is app lt))
        ∙ ap (λ n. verdict_on standing (group_held table app standing) (choice_by (group_on spots) (is_on spots) (load_by (runs_on rows) (length rows) app) n)) (length_filled numbered (spot_of table s app) (node_count table))
        ∙ judged_same table s app (rank_by (group_on spots) (is_on spots) (load_by (runs_on rows) (length rows) app)) standing (group_held table app standing) refl refl (rank_same app)
