-- The tests of live nodes agree with `AllUp`, and the computed gate with `IsOpening`.
use Rattle.std.proofs.Common.{◌≡◌, ℕ, ◌+◌, ◌<◌, Bool, true, false, cond, not, ◌&&◌, ◌||◌, [], ◌∷◌, Option, Some, None, get_or, refl, sym, ap, subst, ◌∙◌, arith, inl, inr}
use Rattle.std.specs.Prelude.{nat_lt, map as list_map}
use Rattle.std.specs.Option.{is_some, option_and_then}
use Rattle.std.specs.List.{range_with_len, list_all}
use Rattle.std.specs.FinMap as map
use Rattle.std.proofs.Math.Bool.{and-true}
use Rattle.std.proofs.lemmas.Bool.{true≢false, false≢true, or_left, or_right, and_parts, and_from, ltb-true, ltb-false}
use Rattle.std.proofs.lemmas.List.Sums.{AllPass-from_list_all, list_all-from_AllPass}
use Rattle.std.proofs.lemmas.List.Folds.{list_all-append}
use Rattle.std.proofs.lemmas.List.FromFn.{map-range_with_len_more, get_or-map-range_with_len, length-map-range_with_len}
use Rattle.dac_base.specs.declared.NodeId.{NodeId}
use Rattle.dac_lattice.specs.declared.flags.Flag.{Flag}
use Rattle.dac_lattice.specs.declared.flags.Flag.TheVariants.{Up, Down}
use Rattle.dac_shapes.specs.declared.draft.SyncWait.{SyncWait}
use Rattle.dac_shapes.specs.declared.draft.SyncWait.TheVariants.{NoSync, Forever, Ms}
use Rattle.dac_config.specs.Table.{Table, node_count, is_mandatory, is_optional}
use Rattle.dac_chains.specs.declared.lives.Life.{Life}
use Rattle.dac_chains.specs.Lives.{if_up, live_at}
use Rattle.dac_placement.specs.StateValue.{StateValue}
use Rattle.dac_placement.specs.Placement.{nodes_of}
use Rattle.dac_decide.specs.declared.start_gate.Opening.TheVariants.{Shut, Opened, GiveUp}
use Rattle.dac_decide.specs.StartGate.{IsUpNow, AllUp, is_awaited, IsTimeLeft, IsOpening, is_live_if, all_up, present_of, opening_by, opening_of}

abbrev pub numbered : ℕ → NodeId
numbered n = record { 0 = n }

-- ---- a loop over nodes

-- the first n nodes pass a test
abbrev pub all_first : (NodeId → Bool) → ℕ → Bool
all_first test n = list_all test (list_map numbered (range_with_len 0 n))

pub all_more : (test : NodeId → Bool) (n : ℕ) → all_first test (n + 1) ≡ (all_first test n && test (numbered n))
all_more test n =
    ap (list_all test) (map-range_with_len_more numbered 0 n n (omega arith))
    ∙ list_all-append test (list_map numbered (range_with_len 0 n)) (numbered n ∷ [])
    ∙ ap (λ b. all_first test n && b) (and-true (test (numbered n)))

-- ---- all of them

module _ (table : Table) (s : StateValue) where
  by_flag : (node : NodeId) (inc : ℕ) (flag : Flag) → map.get s.lives node ≡ Some (record { inc = inc; flag = flag }) → is_some (if_up inc flag) ≡ true → IsUpNow s node
  by_flag node inc Up e h = (inc, e)
  by_flag node inc Down e h = absurd (false≢true h)

  by_life : (node : NodeId) (o : Option Life) → map.get s.lives node ≡ o → is_some (option_and_then (λ (l : Life). if_up l.inc l.flag) o) ≡ true → IsUpNow s node
  by_life node None e h = absurd (false≢true h)
  by_life node (Some life) e h = by_flag node life.inc life.flag e h

  up_if : (node : NodeId) → is_some (live_at s.lives node) ≡ true → IsUpNow s node
  up_if node h = by_life node (map.get s.lives node) refl h

  if_up_now : (node : NodeId) → IsUpNow s node → is_some (live_at s.lives node) ≡ true
  if_up_now node up = ap (λ (o : Option Life). is_some (option_and_then (λ (l : Life). if_up l.inc l.flag) o)) up.1

  -- the test of a node means that it is live if awaited
  live_to : (a b : Bool) → (a || not b) ≡ true → b ≡ true → a ≡ true
  live_to true b h e = refl
  live_to false true h e = absurd (false≢true h)
  live_to false false h e = absurd (false≢true e)

  to_live : (a b : Bool) → (b ≡ true → a ≡ true) → (a || not b) ≡ true
  to_live true b h = refl
  to_live false true h = h refl
  to_live false false h = refl

  module _ (marked : NodeId → Bool) where
    abbrev test : NodeId → Bool
    test node = is_live_if s node (marked node)

    pub all_up_to : all_up table s marked ≡ true → AllUp table s marked
    all_up_to all node lt is =
        let passes = AllPass-from_list_all test (nodes_of table) all node.0 node (subst (λ n. node.0 < n) (sym (length-map-range_with_len numbered 0 (node_count table))) lt) in
        let here : get_or (nodes_of table) node.0 node ≡ node = get_or-map-range_with_len numbered 0 (node_count table) node.0 node.0 node lt (omega arith) in
        up_if node (live_to (is_some (live_at s.lives node)) (marked node) (sym (ap test here) ∙ passes) is)

    pub to_all_up : AllUp table s marked → all_up table s marked ≡ true
    to_all_up up = list_all-from_AllPass test (nodes_of table) (λ k d lt.
        let below : k < node_count table = subst (λ n. k < n) (length-map-range_with_len numbered 0 (node_count table)) lt in
        ap test (get_or-map-range_with_len numbered 0 (node_count table) k k d below (omega arith))
        ∙ to_live (is_some (live_at s.lives (numbered k))) (marked (numbered k)) (λ is. if_up_now (numbered k) (up (numbered k) below is)))

  -- ---- both marks

  or_parts : {X : Type 0} (a b : Bool) → (a || b) ≡ true → (a ≡ true → X) → (b ≡ true → X) → X
  or_parts true b e f g = f refl
  or_parts false b e f g = g e

  abbrev both : Bool
  both = all_up table s (is_mandatory table) && all_up table s (is_optional table)

  both_to : both ≡ true → AllUp table s (is_awaited table)
  both_to e node lt is =
      let parts = and_parts _ _ e in
      or_parts (is_mandatory table node) (is_optional table node) is (λ m. all_up_to (is_mandatory table) parts.0 node lt m) (λ o. all_up_to (is_optional table) parts.1 node lt o)

  to_both : AllUp table s (is_awaited table) → both ≡ true
  to_both up = and_from _ _
      (to_all_up (is_mandatory table) (λ node lt m. up node lt (or_left (is_mandatory table node) (is_optional table node) m)))
      (to_all_up (is_optional table) (λ node lt o. up node lt (or_right (is_mandatory table node) (is_optional table node) o)))

  -- ---- the start gate

  abbrev is_ms : SyncWait → Bool
  is_ms NoSync = false
  is_ms Forever = false
  is_ms (Ms wait) = true

  module _ (elapsed : ℕ) where
    abbrev Is : SyncWait → Type 0
    Is wait = table.sync_wait ≡ wait → IsOpening table s elapsed (opening_by wait (present_of table s) elapsed)

    by_none : Is NoSync
    by_none e = inl e

    by_forever : Is Forever
    by_forever e = elim both as (λ b. both ≡ b → IsOpening table s elapsed (cond b Opened Shut)) [
      | true ↦ λ up. inr (inl (both_to up))
      | false ↦ λ down. (subst (λ w. IsTimeLeft w elapsed) (sym e) tt, λ up. true≢false (sym (to_both up) ∙ down))
    ] refl

    over : (wait : ℕ) → table.sync_wait ≡ Ms wait → nat_lt elapsed wait ≡ false → ¬ IsTimeLeft table.sync_wait elapsed
    over wait e late left =
        let less : elapsed < wait = subst (λ w. IsTimeLeft w elapsed) e left in
        let not_less = ltb-false elapsed wait late in
        omega arith

    by_time : (wait : ℕ) → Is (Ms wait)
    by_time wait e = elim both as (λ b. both ≡ b → IsOpening table s elapsed (cond b Opened (cond (nat_lt elapsed wait) Shut (cond (all_up table s (is_mandatory table)) Opened GiveUp)))) [
      | true ↦ λ up. inr (inl (both_to up))
      | false ↦ λ down. elim (nat_lt elapsed wait) as (λ b. nat_lt elapsed wait ≡ b → IsOpening table s elapsed (cond b Shut (cond (all_up table s (is_mandatory table)) Opened GiveUp))) [
        | true ↦ λ early. (subst (λ w. IsTimeLeft w elapsed) (sym e) (ltb-true elapsed wait early), λ up. true≢false (sym (to_both up) ∙ down))
        | false ↦ λ late. elim (all_up table s (is_mandatory table)) as (λ b. all_up table s (is_mandatory table) ≡ b → IsOpening table s elapsed (cond b Opened GiveUp)) [
          | true ↦ λ here. inr (inr (over wait e late, all_up_to (is_mandatory table) here))
          | false ↦ λ gone. (λ none. false≢true (ap is_ms (sym none ∙ e)), over wait e late, λ up. true≢false (sym (to_all_up (is_mandatory table) up) ∙ gone))
        ] refl
      ] refl
    ] refl

    by_wait : (wait : SyncWait) → Is wait
    by_wait NoSync = by_none
    by_wait Forever = by_forever
    by_wait (Ms wait) = by_time wait

    pub opening_is : IsOpening table s elapsed (opening_of table s elapsed)
    opening_is = by_wait table.sync_wait refl
