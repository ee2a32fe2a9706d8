-- The stored indices of the groups of nodes.
use Rattle.std.proofs.Common.{◌≡◌, ℕ, ◌+◌, ◌<◌, ◌≤◌, get_or, true, false, cond, eqb, List, [], ◌∷◌, length, map, All, Bor, position, Option, Some, None, slice_get, refl, sym, ap, ◌∙◌, arith}
use Rattle.std.specs.Prelude.{nat_lt}
use Rattle.dac_config.proofs.Common.{Vec, list_any, position_from, false_from_ne_true, eqb-true, ltb-true, ltb-false, lt-ltb, All-head, All-tail, MAX_NODES, Tables, group_among, place_by, place_at, ArePlaces, IsPlaced}
use Rattle.std.specs.Option.{option_map, option_and_then}
use Rattle.std.specs.Map.Iter.{deref_pair}
use Rattle.std.proofs.lemmas.Iterator.Adapters.{position_from-zero}
use Rattle.std.proofs.lemmas.List.Folds.{list_any_none}
use Rattle.std.proofs.lemmas.Option.{slice_get_past}
use Rattle.dac_config.specs.declared.config.App.{App}
use Rattle.dac_config.proofs.Tables.{position-map, all_at}

-- an index below MAX_NODES represents itself
pub placed : (place : ℕ) → place < MAX_NODES → place_by place ≡ Some place
placed place low = ap (λ b. cond b (Some place) None) (lt-ltb place MAX_NODES low)

-- an index found among the stored groups is found among their lists
pub place_found : (groups : List (Vec ℕ)) (node : ℕ) (at : Option ℕ) → at ≡ position (λ group. list_any (λ other. eqb other node) group.items) groups → at ≡ group_among (map (λ group. group.items) groups) node
place_found groups node at place = place ∙ sym (position-map (λ group. group.items) (λ group. list_any (λ other. eqb other node) group) groups)

-- no group contains the number of a node that doesn't exist
lacks : (count node : ℕ) (group : List ℕ) → All (λ number. number < count) group → count ≤ node → list_any (λ other. eqb other node) group ≡ false
lacks count node group below past = list_any_none (λ other. eqb other node) group (λ k d within. false_from_ne_true (eqb (get_or group k d) node) (λ e.
    let low = below k d within in
    let same = eqb-true (get_or group k d) node e in
    omega (arith, low, same, past)))

none_from : (count node at : ℕ) (groups : List (List ℕ)) → All (All (λ number. number < count)) groups → count ≤ node → position_from (λ group. list_any (λ other. eqb other node) group) at groups ≡ None
none_from count node at [] below past = refl
none_from count node at (group ∷ groups) below past =
    rw (lacks count node group (All-head (All (λ number. number < count)) group groups below) past) (none_from count node (at + 1) groups (All-tail (All (λ number. number < count)) group groups below) past)

pub none_outside : (count node : ℕ) (groups : List (List ℕ)) → All (All (λ number. number < count)) groups → count ≤ node → group_among groups node ≡ None
none_outside count node groups below past = position_from-zero (λ group. list_any (λ other. eqb other node) group) groups ∙ none_from count node 0 groups below past

-- ---- indices are appended to a list

-- the indices of the first nodes are stored
abbrev pub ArePlacesBelow : ℕ → List ℕ → List (List ℕ) → Type 0
ArePlacesBelow n places groups = (node : ℕ) → node < n → place_at places node ≡ group_among groups node

pub places_all : (n : ℕ) (places : List ℕ) (groups : List (List ℕ)) → length places ≡ n → All (All (λ number. number < n)) groups → ArePlacesBelow n places groups → ArePlaces places groups
places_all n places groups count below so_far = λ node.
    elim (nat_lt node n) as (λ b. nat_lt node n ≡ b → place_at places node ≡ group_among groups node) [
      | true ↦ λ e. so_far node (ltb-true node n e)
      | false ↦ λ e.
          let past = ltb-false node n e in
          let outside : length places ≤ node = omega (arith, past, count) in
          ap (option_and_then place_by) (slice_get_past places node outside) ∙ sym (none_outside n node groups below past)
    ] refl

-- ---- the index of a node's group

pub place_kept : (c : Tables) (i : ℕ) (got : Option (Bor (Vec ℕ) × Bor App)) (entry : Bor (Vec ℕ) × Bor App) → All IsPlaced c.apps.entries → option_map deref_pair got ≡ slice_get c.apps.entries i → got ≡ Some entry → IsPlaced (deref_pair entry)
place_kept c i got entry all same was = all_at IsPlaced c.apps.entries i (deref_pair entry) all (sym same ∙ ap (option_map deref_pair) was)
