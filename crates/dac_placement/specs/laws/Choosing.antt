-- The least rank as a loop over the nodes, and the least rank of one group.
use Rattle.std.proofs.Common.{◌≡◌, ℕ, ◌+◌, ◌<◌, Bool, true, false, cond, [], ◌∷◌, Option, Some, None, option_map, refl, sym, ap, subst, ◌∙◌, arith, zero, suc, add-one}
use Rattle.std.specs.Prelude.{◌==◌, ◌&&◌, map as list_map}
use Rattle.std.specs.Option.{is_some, option_and_then}
use Rattle.std.specs.List.{range_with_len, filter_map, reduce}
use Rattle.std.specs.Ordering.{ord_min}
use Rattle.std.proofs.lemmas.Bool.{false≢true, and_parts, eqb-true, eq-eqb}
use Rattle.std.proofs.lemmas.List.Elements.{filter_map-append}
use Rattle.std.proofs.lemmas.List.FromFn.{map-range_with_len_more}
use Rattle.dac_base.specs.declared.NodeId.{NodeId}
use Rattle.dac_lattice.specs.Lattices.{join_options}
use Rattle.dac_placement.specs.Ranks.{Rank, rank_cmp}
use Rattle.dac_placement.specs.Choices.{rank_by, rank_in, first_of}
use Rattle.dac_placement.specs.laws.Least.{IsLeast, least_more, reduce_more, same_least}

abbrev pub numbered : ℕ → NodeId
numbered n = record { 0 = n }

module _ (ranks : NodeId → Option Rank) where
  -- the rank of the node of this number
  abbrev pub rank_at : ℕ → Option Rank
  rank_at n = ranks (numbered n)

  pub first_more : (n : ℕ) → first_of ranks (n + 1) ≡ join_options (ord_min rank_cmp) (first_of ranks n) (rank_at n)
  first_more n =
      ap (λ ns. reduce (ord_min rank_cmp) (filter_map ranks ns)) (map-range_with_len_more numbered 0 n n (omega arith))
      ∙ ap (reduce (ord_min rank_cmp)) (filter_map-append ranks (list_map numbered (range_with_len 0 n)) (numbered n ∷ []))
      ∙ reduce_more (ord_min rank_cmp) (filter_map ranks (list_map numbered (range_with_len 0 n))) (rank_at n)

  pub first_is_least : (n : ℕ) → IsLeast rank_at n (first_of ranks n)
  first_is_least zero = λ k lt. absurd (omega arith)
  first_is_least (suc n) = subst (λ m. IsLeast rank_at m (first_of ranks m)) (add-one n)
      (subst (IsLeast rank_at (n + 1)) (sym (first_more n)) (least_more rank_at n (first_of ranks n) (rank_at n) (first_is_least n) refl))

-- nodes of the same ranks have the same least one
pub first_alike : (p q : NodeId → Option Rank) (n : ℕ) → ((k : ℕ) → k < n → p (numbered k) ≡ q (numbered k)) → first_of p n ≡ first_of q n
first_alike p q zero same = refl
first_alike p q (suc n) same = subst (λ m. first_of p m ≡ first_of q m) (add-one n)
    (first_more p n ∙ (λ i. join_options (ord_min rank_cmp) (first_alike p q n (λ k lt. same k (omega arith)) i) (same n (omega arith) i)) ∙ sym (first_more q n))

module _ (groups : NodeId → Option ℕ) (may : NodeId → Bool) (loads : NodeId → ℕ) (group : ℕ) where
  abbrev made : ℕ → NodeId → Rank
  made group node = record { group = group; load = loads node; node = node }

  -- a rank of the group is a rank
  all_by : (node : NodeId) (r : Rank) (o : Option ℕ) (m : Bool) → option_and_then (λ own. cond ((own == group) && m) (Some (made group node)) None) o ≡ Some r
      → cond m (option_map (λ own. made own node) o) None ≡ Some r
  all_by node r None m e = absurd (false≢true (ap is_some e))
  all_by node r (Some own) m e = elim ((own == group) && m) as (λ b. ((own == group) && m) ≡ b → cond b (Some (made group node)) None ≡ Some r → cond m (Some (made own node)) None ≡ Some r) [
    | true ↦ λ passes e. let both = and_parts _ _ passes in (λ i. cond (both.1 i) (Some (made (eqb-true own group both.0 i) node)) None) ∙ e
    | false ↦ λ _ e. absurd (false≢true (ap is_some e))
  ] refl e

  -- a rank whose group this is is a rank of the group
  in_by : (node : NodeId) (r : Rank) (o : Option ℕ) (m : Bool) → cond m (option_map (λ own. made own node) o) None ≡ Some r → r.group ≡ group
      → option_and_then (λ own. cond ((own == group) && m) (Some (made group node)) None) o ≡ Some r
  in_by node r o false e at = absurd (false≢true (ap is_some e))
  in_by node r None true e at = absurd (false≢true (ap is_some e))
  in_by node r (Some own) true e at =
      let is : made own node ≡ r = cc in
      let same : own ≡ group = ap (λ (q : Rank). q.group) is ∙ at in
      ap (λ b. cond (b && true) (Some (made group node)) None) (eq-eqb own group same) ∙ ap (λ g. Some (made g node)) (sym same) ∙ e

  -- if the least rank is one of the group, it is the least of the group
  pub first_in : (n : ℕ) (r : Rank) → first_of (rank_by groups may loads) n ≡ Some r → r.group ≡ group → first_of (rank_in groups may loads group) n ≡ Some r
  first_in n r is at =
      let least = subst (IsLeast (rank_at (rank_by groups may loads)) n) is (first_is_least (rank_by groups may loads) n) in
      let k = least.0.0 in
      same_least (rank_at (rank_in groups may loads group)) n _ (Some r) (first_is_least (rank_in groups may loads group) n) (
        (k, least.0.1, in_by (numbered k) r (groups (numbered k)) (may (numbered k)) least.0.2 at),
        λ j lt q e. least.1 j lt q (all_by (numbered j) q (groups (numbered j)) (may (numbered j)) e),
      )
