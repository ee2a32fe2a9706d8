-- Whether an application stays, computed from the marks of its holder and of the other nodes.
use Rattle.std.proofs.Common.{◌≡◌, ◌∙◌, ℕ, ◌<◌, ◌==◌, Bool, true, false, cond, not, ◌&&◌, List, Option, None, Some, option_map, get_or, refl, sym, ap}
use Rattle.dac_status.proofs.Common.{option_map_or, false≢true, eq-eqb, MAX_NODES, AppId, NodeId, Origin, Claim, Life, live_at, Table, node_count, StateValue, is_permitted_at, is_started_at, is_up, key_at, standing_of, Mark, is_ok, lives_of, live_in, mark_at, mark_of, marks_of}
use Rattle.std.specs.FinMap as map
use Rattle.dac_placement.specs.declared.standing.Standing.{Standing}
use Rattle.dac_placement.specs.declared.standing.Standing.TheVariants.{Unclaimed, Lost, Stopped, Barred, Upheld}
use Rattle.dac_placement.specs.Placement.{is_drained_at, standing_at}
use Rattle.dac_status.specs.declared.marks.Mark.TheVariants as mark
use Rattle.dac_status.proofs.Places.{node_numbered, placed_at}

-- the mark by three tests: permitted, drained and started
abbrev pub marked : Bool → Bool → Bool → Mark
marked permitted drained started = cond (not permitted) mark.Barred (cond drained mark.Drained (cond (not started) mark.Idle mark.Ok))

-- the standing at a live holder by the same tests
abbrev standing : NodeId → Bool → Bool → Bool → Standing
standing node permitted drained started = cond (not started) (Stopped node) (cond (not (permitted && not drained)) Barred (Upheld node))

upheld_if_ok : (node : NodeId) (permitted drained started : Bool) → is_ok (marked permitted drained started) ≡ true → standing node permitted drained started ≡ Upheld node
upheld_if_ok node true false true e = refl
upheld_if_ok node true false false e = absurd (false≢true e)
upheld_if_ok node true true started e = absurd (false≢true e)
upheld_if_ok node false drained started e = absurd (false≢true e)

module _ (table : Table) (s : StateValue) (app : AppId) where
  -- the mark at the place of a node
  pub mark_placed : (marks : List Mark) (n : ℕ) → marks ≡ marks_of table s app → n < node_count table → get_or marks n mark.Down ≡ mark_of table s app (node_numbered n)
  mark_placed marks n are lt = ap (λ ms. get_or ms n mark.Down) are ∙ placed_at MAX_NODES mark.Down node_numbered (mark_of table s app) (node_count table) n lt

  -- the life at the place of a node
  pub life_placed : (lives : List (Option Life)) (n : ℕ) → lives ≡ lives_of table s → n < node_count table → live_in (get_or lives n None) ≡ live_at s.lives (node_numbered n)
  life_placed lives n are lt = ap (λ ls. live_in (get_or ls n None)) are ∙ ap live_in (placed_at MAX_NODES None node_numbered (map.get s.lives) (node_count table) n lt)

  -- the holder is live at the claim's incarnation and its mark is `Ok`, so it is upheld
  pub upheld_is : (claim : Claim) (lives : List (Option Life)) (marks : List Mark) (inc : ℕ) → Some claim ≡ map.get s.claims app → lives ≡ lives_of table s → marks ≡ marks_of table s app
      → claim.origin.node.0 < node_count table → live_in (get_or lives claim.origin.node.0 None) ≡ Some inc → inc ≡ claim.origin.inc → is_ok (get_or marks claim.origin.node.0 mark.Down) ≡ true
      → standing_of table s app ≡ Upheld claim.origin.node
  upheld_is claim lives marks inc claimed are also lt live same ok =
      let o : Origin = claim.origin in
      let node = o.node in
      let lives_at : live_at s.lives node ≡ Some o.inc = sym (life_placed lives node.0 are lt) ∙ live ∙ ap (λ n. Some n) same in
      let permitted = is_permitted_at table s (key_at app node o.inc) in
      let drained = is_drained_at s node o.inc in
      let started = is_started_at s (key_at app node o.inc) in
      let up : is_up s o ≡ true = ap (λ l. option_map_or (λ i. i == o.inc) l false) lives_at ∙ eq-eqb o.inc o.inc refl in
      let fine : is_ok (marked permitted drained started) ≡ true = sym (ap (λ m. is_ok m) (mark_placed marks node.0 also lt) ∙ ap (λ l. is_ok (mark_at table s app node l)) lives_at) ∙ ok in
      ap (λ c. option_map_or (standing_at table s app) (option_map (λ (k : Claim). k.origin) c) Unclaimed) (sym claimed)
      ∙ ap (λ b. cond (not b) Lost (standing node permitted drained started)) up
      ∙ upheld_if_ok node permitted drained started fine
