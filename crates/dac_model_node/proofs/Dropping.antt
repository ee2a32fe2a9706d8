-- Which deltas a node drops.
use Rattle.std.proofs.Common.{◌≡◌, ◌⊎◌, ◌↔◌, ℕ, ◌+◌, ◌-◌, ◌<◌, ◌≤◌, Bool, true, false, length, Option, Some, None, inl, inr, refl, sym, ap, subst, ◌∙◌, arith}
use Rattle.dac_model_node.specs.laws.Common.{min, max, nat_eq, nat_lt, ltb-true, ltb-false, eqb-true, NodeId, StateValue, Table, node_count, KeptDeltas, MAX_DELTAS, Event, Boot, Hear, Reply, Ticked, Held, Shipped, PeersValue, RunningValue, LeavesRunning, RunsOn, deltas_in, had_by_all}
use Rattle.std.proofs.lemmas.Bool.{eqb-false}
use Rattle.dac_messages.specs.declared.reply.Reply.TheVariants.{Booted, Crashed, Issued, GaveUp, Heard}
use Rattle.dac_peers.specs.Peers.{number_acked, acked_by_all}
use Rattle.dac_peers.specs.InWords.{IsNumberOf, IsOther}
use Rattle.dac_peers.specs.laws.Least.{is_number, number_is, all_have_the_least}
use Rattle.dac_model_node.specs.Refused.{Some! }
use Rattle.dac_model_node.specs.Keeping.{KeepsBy}
use Rattle.dac_model_node.specs.Dropping.{AllHave, IsHadByAll, DropsSo, DropsInWords}

-- ---- the base

-- the deltas below the base, given how many there are and how many all other nodes have
below_base : (old had count k : ℕ) → k < count → (k < max (max old (count - MAX_DELTAS)) (min had count)) ↔ ((k < old) ⊎ ((k + MAX_DELTAS < count) ⊎ (k < had)))
below_base old had count k there = (by_old (nat_lt k old) refl, from)
  where
    by_later : (b : Bool) → nat_lt (k + MAX_DELTAS) count ≡ b → old ≤ k → k < max (max old (count - MAX_DELTAS)) (min had count) → (k + MAX_DELTAS < count) ⊎ (k < had)
    by_later true e not_old low = inl (ltb-true (k + MAX_DELTAS) count e)
    by_later false e not_old low = let few = ltb-false (k + MAX_DELTAS) count e in inr (omega (arith, not_old, low, few, there))

    by_old : (b : Bool) → nat_lt k old ≡ b → k < max (max old (count - MAX_DELTAS)) (min had count) → (k < old) ⊎ ((k + MAX_DELTAS < count) ⊎ (k < had))
    by_old true e low = inl (ltb-true k old e)
    by_old false e low = inr (by_later (nat_lt (k + MAX_DELTAS) count) refl (ltb-false k old e) low)

    from : (k < old) ⊎ ((k + MAX_DELTAS < count) ⊎ (k < had)) → k < max (max old (count - MAX_DELTAS)) (min had count)
    from (inl h) = omega (arith, h)
    from (inr (inl h)) = omega (arith, h)
    from (inr (inr h)) = omega (arith, h, there)

-- ---- deltas that all other nodes have

abbrev zeroth : NodeId
zeroth = record { 0 = 0 }

abbrev next : NodeId
next = record { 0 = 1 }

-- there is another node below the number, or none
another_or_none : (nodes : ℕ) (own : NodeId) → ((node : NodeId) × IsOther nodes own node) ⊎ ((node : NodeId) → ¬ IsOther nodes own node)
another_or_none nodes own = by_own (nat_eq own.0 0) refl
  where
    lone : own.0 ≡ 0 → (node : NodeId) → node.0 < 1 → node ≡ own
    lone is node low = let at : node.0 ≡ own.0 = omega (arith, low, is) in λ i. record { 0 = at i }

    apart : own.0 ≡ 0 → next ≡ own → ⊥
    apart is same = let at = ap (λ (n : NodeId). n.0) same in omega (arith, at, is)

    by_two : own.0 ≡ 0 → (b : Bool) → nat_lt 1 nodes ≡ b → ((node : NodeId) × IsOther nodes own node) ⊎ ((node : NodeId) → ¬ IsOther nodes own node)
    by_two is true e = inl (next, (ltb-true 1 nodes e, apart is))
    by_two is false e = let few = ltb-false 1 nodes e in inr (λ node other. let low = other.0 in other.1 (lone is node (omega (arith, few, low))))

    by_one : (own.0 ≡ 0 → ⊥) → (b : Bool) → nat_lt 0 nodes ≡ b → ((node : NodeId) × IsOther nodes own node) ⊎ ((node : NodeId) → ¬ IsOther nodes own node)
    by_one not true e = inl (zeroth, (ltb-true 0 nodes e, λ same. not (ap (λ (n : NodeId). n.0) (sym same))))
    by_one not false e = let few = ltb-false 0 nodes e in inr (λ node other. let low = other.0 in omega (arith, few, low))

    by_own : (b : Bool) → nat_eq own.0 0 ≡ b → ((node : NodeId) × IsOther nodes own node) ⊎ ((node : NodeId) → ¬ IsOther nodes own node)
    by_own true e = by_two (eqb-true own.0 0 e) (nat_lt 1 nodes) refl
    by_own false e = by_one (eqb-false own.0 0 e) (nat_lt 0 nodes) refl

module _ (p : PeersValue) (s : StateValue) (nodes : ℕ) (own : NodeId) (k : ℕ) where
  abbrev least : ℕ
  least = acked_by_all p s nodes own

  none_below : (l : ℕ) → l ≡ 0 → k < l → ⊥
  none_below l e h = omega (arith, e, h)

  through : (l n : ℕ) → k < l → l ≤ n → k < n
  through l n h le = omega (arith, h, le)

  all_have : (k < least) → AllHave p s nodes own k
  all_have low = record {
    another = elim (another_or_none nodes own) [
      | inl other ↦ other
      | inr none ↦ absurd (none_below least ((all_have_the_least p s nodes own).alone none) low)
    ];
    acked = λ node other.
        let number : IsNumberOf p s node (number_acked p s node) = is_number p s node in
        let enough = (all_have_the_least p s nodes own).at_most node (number_acked p s node) other number in
        elim number [
          | inl has ↦ (number_acked p s node, has, through least (number_acked p s node) low enough)
          | inr none ↦ absurd (none_below (number_acked p s node) none.0 (through least (number_acked p s node) low enough))
        ];
  }

  least_had : AllHave p s nodes own k → k < least
  least_had all =
      let one = (all_have_the_least p s nodes own).one_of all.another.0 all.another.1 in
      let acked = all.acked one.0 one.1 in
      let same : acked.0 ≡ least = sym (number_is p s one.0 acked.0 (inl acked.1)) ∙ number_is p s one.0 least one.2 in
      subst (λ n. k < n) same acked.2

  pub had_is : (k < least) ↔ AllHave p s nodes own k
  had_is = (all_have, least_had)

-- ---- a node that runs on

nothing_had : (k : ℕ) → k < 0 → ⊥
nothing_had k h = omega (arith, h)

had_in_words : (t : Table) (e : Event) (u : RunningValue) (k : ℕ) → (k < had_by_all t e u) ↔ IsHadByAll t e u k
had_in_words t (Hear m) u k = had_is u.peers u.state (node_count t) u.origin.node k
had_in_words t (Boot now) u k = (nothing_had k, λ h. absurd h)
had_in_words t _ u k = (nothing_had k, λ h. absurd h)

base_in_words : (t : Table) (r : RunningValue) (e : Event) (reply : Reply) (u : RunningValue) → RunsOn t r e reply u → (k : ℕ) → k < u.kept.count → (k < u.kept.base) ↔ ((k < r.kept.base) ⊎ ((k + MAX_DELTAS < u.kept.count) ⊎ (k < had_by_all t e u)))
base_in_words t r e reply u runs k there =
    let count : u.kept.count ≡ r.kept.count + length (deltas_in e reply) = ap (λ (x : KeptDeltas StateValue). x.count) runs.kept in
    let base = ap (λ (x : KeptDeltas StateValue). x.base) runs.kept in
    let small = subst (λ n. k < n) count there in
    subst (λ (x : ℕ × ℕ). (k < x.0) ↔ ((k < r.kept.base) ⊎ ((k + MAX_DELTAS < x.1) ⊎ (k < had_by_all t e u)))) (λ i. (sym base i, sym count i)) (below_base r.kept.base (had_by_all t e u) (r.kept.count + length (deltas_in e reply)) k small)

drops_on : (t : Table) (r : RunningValue) (e : Event) (reply : Reply) (u : RunningValue) → RunsOn t r e reply u → DropsSo t e r u
drops_on t r e reply u runs k there =
    let words = had_in_words t e u k in
    let is = base_in_words t r e reply u runs k there in (
      λ low. elim (is.0 low) [
        | inl old ↦ inl old
        | inr more ↦ elim more [ inl later ↦ inr (inl later) | inr had ↦ inr (inr (words.0 had)) ]
      ],
      λ why. is.1 (elim why [
        | inl old ↦ inl old
        | inr more ↦ elim more [ inl later ↦ inr (inl later) | inr had ↦ inr (inr (words.1 had)) ]
      ]),
    )

-- ---- all replies

off_not_on : {P : Type 0} (running : Option RunningValue) (u : RunningValue) → running ≡ None → running ≡ Some u → P
off_not_on running u off on = cc

on_there : (t : Table) (r : RunningValue) (e : Event) (reply : Reply) (running : Option RunningValue) (u : RunningValue) → Some! running (RunsOn t r e reply) → running ≡ Some u → RunsOn t r e reply u
on_there t r e reply running u runs is = subst (λ (x : Option RunningValue). Some! x (RunsOn t r e reply)) is runs

left_on : (t : Table) (r : RunningValue) (e : Event) (reply : Reply) (running : Option RunningValue) (u : RunningValue) → LeavesRunning t r e reply running → running ≡ Some u → RunsOn t r e reply u
left_on t r e Crashed running u left is = off_not_on running u left is
left_on t r e GaveUp running u left is = off_not_on running u left is
left_on t r e (Booted o) running u left is = on_there t r e (Booted o) running u left is
left_on t r e (Issued o) running u left is = on_there t r e (Issued o) running u left is
left_on t r e (Ticked ops passed) running u left is = on_there t r e (Ticked ops passed) running u left is
left_on t r e Held running u left is = on_there t r e Held running u left is
left_on t r e (Shipped m) running u left is = on_there t r e (Shipped m) running u left is
left_on t r e (Heard fresh) running u left is = on_there t r e (Heard fresh) running u left is

pub drops_in_words : DropsInWords
drops_in_words t me old new e reply r u ran runs keeps =
    let by : KeepsBy t me old.last (Some r) e reply new = subst (λ (x : Option RunningValue). KeepsBy t me old.last x e reply new) ran keeps in
    drops_on t r e reply u (left_on t r e reply new.running u by.1 runs)
