-- The number that all nodes acknowledged is the least of the other nodes' numbers.
use Rattle.std.specs.Prelude.{◌≡◌, ◌≢◌, ◌≤◌, ℕ, zero, suc, true, false, cond, nat_eq, min, [], ◌∷◌, ◌++◌, map as list_map, fold, Option, None, Some, unwrap_or, refl}
use Rattle.std.specs.Option.{option_map, option_and_then}
use Rattle.std.proofs.Common.{inl, inr, arith, leb, ap, sym, subst, ◌∙◌}
use Rattle.dac_peers.specs.laws.Common.{eqb-true, leb-true, leb-false, none-some, same_Some, NodeId, Position, PeersValue, number_acked}
use Rattle.std.proofs.lemmas.Bool.{eqb-false}
use Rattle.std.proofs.lemmas.Bool.Decides.{eqb_tells}
use Rattle.std.proofs.lemmas.List.{map-append, append-nil}
use Rattle.std.proofs.lemmas.List.Sums.{fold_push}
use Rattle.std.specs.FinMap as map
use Rattle.dac_chains.specs.declared.lives.Life.{Life}
use Rattle.dac_messages.specs.StateValue.{StateValue}
use Rattle.dac_peers.specs.Peers.{acked_by, others, lesser}
use Rattle.dac_peers.specs.InWords.{IsNumberOf, IsOther, IsLeastOfAll, AllHaveTheLeast}

-- ---- the number of a node
module _ (p : PeersValue) (s : StateValue) (node : NodeId) where
  abbrev number_in : Option Position → ℕ
  number_in position = unwrap_or (option_map (λ (g : Position). g.number) position) 0

  abbrev placed : Life → Option ℕ → Option Position
  placed life acked = option_map (λ (n : ℕ). record { inc = life.inc; number = n }) acked

  by_acked : (life : Life) → map.get s.lives node ≡ Some life → (acked : Option ℕ) → map.get p.acked (record { node = node; inc = life.inc }) ≡ acked → IsNumberOf p s node (number_in (placed life acked))
  by_acked life is None e = inr (refl, λ m h. none-some m (sym e ∙ (ap (λ (l : Life). map.get p.acked (record { node = node; inc = l.inc })) (same_Some life h.life (sym is ∙ h.present)) ∙ h.acked)))
  by_acked life is (Some n) e = inl (record { life = life; present = is; acked = e })

  by_life : (life : Option Life) → map.get s.lives node ≡ life → IsNumberOf p s node (number_in (option_and_then (acked_by p node) life))
  by_life None is = inr (refl, λ m h. none-some h.life (sym is ∙ h.present))
  by_life (Some life) is = by_acked life is (map.get p.acked (record { node = node; inc = life.inc })) refl

  pub is_number : IsNumberOf p s node (number_acked p s node)
  is_number = by_life (map.get s.lives node) refl

  pub number_is : (n : ℕ) → IsNumberOf p s node n → number_acked p s node ≡ n
  number_is n (inl h) = ap (λ life. number_in (option_and_then (acked_by p node) life)) h.present ∙ ap (λ acked. number_in (placed h.life acked)) h.acked
  number_is n (inr none) = elim is_number [
    | inl h ↦ absurd (none.1 (number_acked p s node) h)
    | inr zeros ↦ zeros.0 ∙ sym none.0
  ]

-- ---- the least of all numbers
module _ (number : NodeId → ℕ) (own : NodeId) where
  abbrev least_below : ℕ → Option ℕ
  least_below n = fold lesser None (list_map number (others n own))

  abbrev next : ℕ → NodeId
  next n = record { 0 = n }

  -- the least of the other nodes' numbers, if there are others
  abbrev IsLeast : ℕ → Option ℕ → Type 0
  IsLeast nodes None = (node : NodeId) → ¬ (IsOther nodes own node)
  IsLeast nodes (Some least) = ((node : NodeId) → IsOther nodes own node → least ≤ number node) × ((one : NodeId) × IsOther nodes own one × (number one ≡ least))

  same_node : (node : NodeId) (n : ℕ) → node.0 ≡ n → node ≡ next n
  same_node node n e = ap next e

  -- number n is this node
  with_own : (n : ℕ) → n ≡ own.0 → (x : Option ℕ) → IsLeast n x → IsLeast (suc n) x
  with_own n is None h = λ node other. let apart : node.0 ≡ n → ⊥ = λ e. other.1 (ap next (e ∙ is)) in h node (omega arith, other.1)
  with_own n is (Some least) h = (
    λ node other. let apart : node.0 ≡ n → ⊥ = λ e. other.1 (ap next (e ∙ is)) in h.0 node (omega arith, other.1),
    (h.1.0, (omega arith, h.1.1.1), h.1.2),
  )

  -- number n is another node
  with_other : (n : ℕ) → n ≢ own.0 → (x : Option ℕ) → IsLeast n x → IsLeast (suc n) (lesser x (number (next n)))
  with_other n is_not None h = (
    λ node other. elim (eqb_tells node.0 n) [
      | inl same ↦ let e = ap number (same_node node n same.1) in omega arith
      | inr apart ↦ let differs = apart.1 in absurd (h node (omega arith, other.1))
    ],
    (next n, (omega arith, λ e. is_not (ap (λ (o : NodeId). o.0) e)), refl),
  )
  with_other n is_not (Some least) h = (
    λ node other. elim (eqb_tells node.0 n) [
      | inl same ↦ let e = ap number (same_node node n same.1) in omega arith
      | inr apart ↦ let differs = apart.1 in let below = h.0 node (omega arith, other.1) in omega arith
    ],
    elim (leb least (number (next n))) as (λ b. leb least (number (next n)) ≡ b → (one : NodeId) × IsOther (suc n) own one × (number one ≡ min least (number (next n)))) [
      | true ↦ λ e. let few = leb-true least (number (next n)) e in let is = h.1.2 in (h.1.0, (omega arith, h.1.1.1), omega arith)
      | false ↦ λ e. let more = leb-false least (number (next n)) e in (next n, (omega arith, λ e. is_not (ap (λ (o : NodeId). o.0) e)), omega arith)
    ] refl,
  )

  pub is_least : (nodes : ℕ) → IsLeast nodes (least_below nodes)
  is_least zero = λ node other. absurd (omega arith)
  is_least (suc n) = elim (nat_eq n own.0) as (λ b. nat_eq n own.0 ≡ b → IsLeast (suc n) (fold lesser None (list_map number (others n own ++ cond b [] (next n ∷ []))))) [
    | true ↦ λ e. subst (IsLeast (suc n)) (ap (λ ns. fold lesser None (list_map number ns)) (sym (append-nil (others n own)))) (with_own n (eqb-true n own.0 e) (least_below n) (is_least n))
    | false ↦ λ e.
        subst (IsLeast (suc n)) (sym (ap (fold lesser None) (map-append number (others n own) (next n ∷ [])) ∙ fold_push lesser None (list_map number (others n own)) (number (next n)))) (with_other n (eqb-false n own.0 e) (least_below n) (is_least n))
  ] refl

module _ (p : PeersValue) (s : StateValue) (nodes : ℕ) (own : NodeId) where
  read : (x : Option ℕ) → IsLeast (number_acked p s) own nodes x → IsLeastOfAll p s nodes own (unwrap_or x 0)
  read None h = record {
    at_most = λ node n other is. absurd (h node other);
    one_of = λ node other. absurd (h node other);
    alone = λ none. refl;
  }
  read (Some least) h = record {
    at_most = λ node n other is. let number = number_is p s node n is in let below = h.0 node other in omega arith;
    one_of = λ node other. (h.1.0, h.1.1, subst (IsNumberOf p s h.1.0) h.1.2 (is_number p s h.1.0));
    alone = λ none. absurd (none h.1.0 h.1.1);
  }

pub all_have_the_least : AllHaveTheLeast
all_have_the_least p s nodes own = read p s nodes own _ (is_least (number_acked p s) own nodes)
