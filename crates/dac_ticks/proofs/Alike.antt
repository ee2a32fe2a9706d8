-- Boards under configurations that are alike are the same.
use Rattle.std.proofs.Common.{◌≡◌, ℕ, zero, suc, add-one, ◌+◌, ◌<◌, ◌≤◌, true, false, Bool, not, ◌&&◌, eqb, List, [], ◌∷◌, ◌++◌, get_or, All, Option, Some, None, slice_get, subst, refl, sym, ap, ◌∙◌, arith}
use Rattle.dac_ticks.specs.laws.Common.{option_map_or, false_from_ne_true, eqb-true, NodeId, AppId, Origin, Table, node_count, app_count, StateValue, permissions_of, key_at, is_up, holder_of}
use Rattle.std.specs.Prelude.{map as list_map, nat_lt, is_some, option_map, unwrap_or, if◌then◌else◌}
use Rattle.std.specs.List.{range_with_len, list_any, position_from}
use Rattle.std.specs.Option.{option_and_then}
use Rattle.std.proofs.lemmas.Bool.{ltb-true, ltb-false}
use Rattle.std.proofs.lemmas.Iterator.Adapters.{position_from-zero}
use Rattle.std.proofs.lemmas.List.{map_push}
use Rattle.std.proofs.lemmas.List.Elements.{All-head, All-tail, All-get_or}
use Rattle.std.proofs.lemmas.List.Folds.{list_any_none}
use Rattle.std.proofs.lemmas.List.FromFn.{map-range_with_len_more}
use Rattle.std.proofs.lemmas.Option.{slice_get_within, get_or_from_slice_get}
use Rattle.dac_config.specs.Table.{AppRow, group_of, group_among, HaveEqualLists}
use Rattle.dac_chains.specs.Lives.{live_at}
use Rattle.dac_wishes.specs.PermissionsValue.{is_permitted}
use Rattle.dac_placement.specs.declared.standing.Standing.{Standing}
use Rattle.dac_placement.specs.declared.standing.Standing.TheVariants.{Unclaimed, Lost, Stopped, Barred, Upheld}
use Rattle.dac_placement.specs.Placement.{key_of, is_drained_at, is_started_at, standing_of}
use Rattle.dac_board.specs.declared.spot.Spot.{Spot}
use Rattle.dac_board.specs.Boards.{spot_of, spots_of, group_held, row_of, rows_of}
use Rattle.dac_ticks.specs.KeptBoards.{AreAlike, AreAlikeFor, GoesFor}

-- the table's groups have only nodes of the configuration
abbrev pub HasMembers : Table → Type 0
HasMembers t = All (λ app. All (λ group. All (λ node. node < node_count t) group) app.groups) t.apps

-- ---- one list

-- a node's group, by the groups of the list
group_by_list : (t : Table) (app : AppId) (node : NodeId) (o : Option AppRow) → slice_get t.apps app.0 ≡ o → option_and_then (λ (row : AppRow). group_among row.groups node.0) o ≡ group_among (unwrap_or (option_map (λ (row : AppRow). row.groups) o) []) node.0
group_by_list t app node None e = refl
group_by_list t app node (Some row) e = refl

-- if two configurations have one list for an application, each node has the same group in both
pub one_group : (t u : Table) (app : AppId) (node : NodeId) → HaveEqualLists t u app → group_of t app node ≡ group_of u app node
one_group t u app node one =
    group_by_list t app node (slice_get t.apps app.0) refl
    ∙ ap (λ groups. group_among groups node.0) one.groups
    ∙ sym (group_by_list u app node (slice_get u.apps app.0) refl)

-- ---- no node is past the last one

at_place : {X : Type 0} (P : X → Type 0) (xs : List X) (i : ℕ) (x : X) → All P xs → slice_get xs i ≡ Some x → P x
at_place P xs i x all e = subst P (get_or_from_slice_get xs i x x e) (All-get_or P xs i x (slice_get_within xs i x e) all)

lacks : (count node : ℕ) (group : List ℕ) → All (λ number. number < count) group → count ≤ node → list_any (λ other. eqb other node) group ≡ false
lacks count node group below past = list_any_none (λ other. eqb other node) group (λ k d within. false_from_ne_true (eqb (get_or group k d) node) (λ e.
    let low = below k d within in
    let same = eqb-true (get_or group k d) node e in
    omega (arith, low, same, past)))

none_from : (count node at : ℕ) (groups : List (List ℕ)) → All (All (λ number. number < count)) groups → count ≤ node → position_from (λ group. list_any (λ other. eqb other node) group) at groups ≡ None
none_from count node at [] below past = refl
none_from count node at (group ∷ groups) below past =
    rw (lacks count node group (All-head (All (λ number. number < count)) group groups below) past) (none_from count node (at + 1) groups (All-tail (All (λ number. number < count)) group groups below) past)

none_outside : (count node : ℕ) (groups : List (List ℕ)) → All (All (λ number. number < count)) groups → count ≤ node → group_among groups node ≡ None
none_outside count node groups below past = position_from-zero (λ group. list_any (λ other. eqb other node) group) groups ∙ none_from count node 0 groups below past

past_last_by : (t : Table) (app : AppId) (node : NodeId) → HasMembers t → node_count t ≤ node.0 → (o : Option AppRow) → slice_get t.apps app.0 ≡ o → option_and_then (λ (row : AppRow). group_among row.groups node.0) o ≡ None
past_last_by t app node members past None e = refl
past_last_by t app node members past (Some row) e = none_outside (node_count t) node.0 row.groups (at_place (λ row. All (λ group. All (λ n. n < node_count t) group) row.groups) t.apps app.0 row members e) past

past_last : (t : Table) (app : AppId) (node : NodeId) → HasMembers t → node_count t ≤ node.0 → group_of t app node ≡ None
past_last t app node members past = past_last_by t app node members past (slice_get t.apps app.0) refl

-- ---- lists of places

module _ {I X : Type 0} (numbered : ℕ → I) where
  -- the values of one more place
  one_more : (f : I → X) (n : ℕ) → list_map f (list_map numbered (range_with_len 0 (n + 1))) ≡ list_map f (list_map numbered (range_with_len 0 n)) ++ f (numbered n) ∷ []
  one_more f n = ap (list_map f) (map-range_with_len_more numbered 0 n n (omega arith)) ∙ map_push f (list_map numbered (range_with_len 0 n)) (numbered n)

  -- two lists that agree at each of the first n places
  same_below : (f g : I → X) (n : ℕ) → ((k : ℕ) → k < n → f (numbered k) ≡ g (numbered k))
      → list_map f (list_map numbered (range_with_len 0 n)) ≡ list_map g (list_map numbered (range_with_len 0 n))
  same_below f g zero h = refl
  same_below f g (suc n) h =
      subst (λ m. list_map f (list_map numbered (range_with_len 0 m)) ≡ list_map g (list_map numbered (range_with_len 0 m))) (add-one n)
      (one_more f n ∙ (λ i. same_below f g n (λ k lt. h k (omega arith)) i ++ h n (omega arith) i ∷ []) ∙ sym (one_more g n))

abbrev pub numbered_app : ℕ → AppId
numbered_app n = record { 0 = n }

abbrev pub numbered_node : ℕ → NodeId
numbered_node n = record { 0 = n }

-- ---- rows

module _ (t u : Table) (alike : AreAlike t u) (here : HasMembers t) (there : HasMembers u) (s : StateValue) where
  module _ (app : AppId) (listed : app.0 < app_count t) where
    one : AreAlikeFor t u app
    one = alike.each app listed

    same_group : (node : NodeId) → group_of t app node ≡ group_of u app node
    same_group node = elim (nat_lt node.0 (node_count t)) as (λ b. nat_lt node.0 (node_count t) ≡ b → group_of t app node ≡ group_of u app node) [
      | true ↦ λ e. one.groups node (ltb-true node.0 (node_count t) e)
      | false ↦ λ e.
          let past = ltb-false node.0 (node_count t) e in
          past_last t app node here past ∙ sym (past_last u app node there (omega (arith, past, alike.nodes)))
    ] refl

    -- the node with its group, if it is eligible by this default permission
    abbrev spot_with : NodeId → Option ℕ → Bool → Option Spot
    spot_with node group permitted =
        if is_some group && option_map_or (λ inc. (is_permitted (key_at app node inc) permitted (permissions_of s) && not (is_drained_at s node inc)) && is_started_at s (key_at app node inc)) (live_at s.lives node) false then option_map (λ group. record { group = group; node = node }) group
        else None

    same_spot : (node : NodeId) → spot_of t s app node ≡ spot_of u s app node
    same_spot node = λ i. spot_with node (same_group node i) (one.permission i)

    same_spots : spots_of t s app ≡ spots_of u s app
    same_spots =
        same_below numbered_node (spot_of t s app) (spot_of u s app) (node_count t) (λ k lt. same_spot (numbered_node k))
        ∙ ap (λ n. list_map (spot_of u s app) (list_map numbered_node (range_with_len 0 n))) alike.nodes

    -- the standing by this default permission
    abbrev standing_with : Bool → Origin → Standing
    standing_with permitted o =
        if not (is_up s o) then Lost
        else if not (is_started_at s (key_of app o)) then Stopped o.node
        else if not (is_permitted (key_of app o) permitted (permissions_of s) && not (is_drained_at s o.node o.inc)) then Barred
        else Upheld o.node

    same_standing : standing_of t s app ≡ standing_of u s app
    same_standing = λ i. option_map_or (standing_with (one.permission i)) (holder_of s app) Unclaimed

    same_held : (standing : Standing) → group_held t app standing ≡ group_held u app standing
    same_held Unclaimed = refl
    same_held Lost = refl
    same_held (Stopped n) = refl
    same_held Barred = refl
    same_held (Upheld n) = same_group n

    same_row : row_of t s app ≡ row_of u s app
    same_row = λ i. record {
      spots = same_spots i;
      standing = same_standing i;
      group = (same_held (standing_of t s app) ∙ ap (group_held u app) same_standing) i;
    }

  same_rows : rows_of t s ≡ rows_of u s
  same_rows =
      same_below numbered_app (row_of t s) (row_of u s) (app_count t) (λ k lt. same_row (numbered_app k) lt)
      ∙ ap (λ n. list_map (row_of u s) (list_map numbered_app (range_with_len 0 n))) alike.apps

-- a board under one of two configurations that are alike shows the same state under the other
pub goes_for : (t u : Table) → HasMembers t → HasMembers u → AreAlike t u → GoesFor t u
goes_for t u here there alike = λ board s shows. shows ∙ same_rows t u alike here there s
