-- Causal order at each controller after a run in which no single operation is handed.
use Rattle.std.proofs.Common.{◌≡◌, Option, Some, None, refl, sym, ap, subst, ◌∙◌}
use Rattle.dac_model_world.specs.laws.Common.{option_map, Dot, Origin, IsVector, Key, StateValue, IsOperationOf, DotsDetermine, PermitStands, StartStands, DrainStands, some_same, WorldValue, ModelWorld, numbered, SetWorld, NodeSet, held_by, operations_of, HoldsSets, state_by, DistinctDots, IsPermitOf, IsStartOf, IsDrainOf, EndsStart, IsDotOfOne}
use Rattle.std.specs.Prelude.{ℕ, ◌↔◌}
use Rattle.dac_model_world.specs.Convergence.{RunsWith}
use Rattle.dac_model_world.specs.Causality.{IsMaximalPermit, IsMaximalStart, IsMaximalDrain, RunsHolding, IsCausal}
use Rattle.dac_model_world.specs.laws.Operations.{DistinctDots-agree}
use Rattle.dac_model_world.specs.laws.Sound.{Sound}
use Rattle.dac_model_world.specs.laws.ClosedSets.{ClosedSet}
use Rattle.dac_model_world.specs.laws.Standing.{permits_stand, starts_stand, drains_stand, permit_takes, start_takes, drain_takes, permit_ends, start_ends, drain_ends}
use Rattle.dac_model_world.specs.laws.MaximalWrites.{standing_is_maximal, known_is_heard, heard_is_vector}
use Rattle.dac_model_world.specs.laws.CausalRuns.{Causal}

both : {A B C : Type 0} → A ↔ B → B ↔ C → A ↔ C
both f g = (λ a. g.0 (f.0 a), λ c. f.1 (g.1 c))

-- the set whose meaning is a running node's state
record HeldAs (sets : SetWorld) (n : ℕ) (s : StateValue) : Type 0 where
  held : NodeSet
  holds : sets.node (numbered n) ≡ Some held
  means : state_by held ≡ s

module _ (v : WorldValue) (w : ModelWorld) (sets : SetWorld) (holds : HoldsSets v sets) (sound : Sound w sets) (h : Causal sets) where
  held_as : (n : ℕ) (s : StateValue) → RunsWith v n s → HeldAs sets n s
  held_as n s runs = by_set (sets.node (numbered n)) refl (sym (holds.each n runs.node runs.there) ∙ runs.state)
    where
      by_set : (o : Option NodeSet) → sets.node (numbered n) ≡ o → option_map state_by o ≡ Some s → HeldAs sets n s
      by_set None is e = cc
      by_set (Some held) is e = record { held = held; holds = is; means = some_same (state_by held) s e }

  closed_at : (m : NodeSet) (o : Option NodeSet) → o ≡ Some m → ClosedSet sets.issued (held_by o) → ClosedSet sets.issued m.operations
  closed_at m o e c = subst (λ (x : Option NodeSet). ClosedSet sets.issued (held_by x)) e c

  agree : DotsDetermine (operations_of sets.issued)
  agree = DistinctDots-agree (operations_of sets.issued) (subst DistinctDots (sym sound.issued) sound.distinct)

  permits_so : (held : NodeSet) → ClosedSet sets.issued held.operations → (key : Key) (d : Dot) → PermitStands (state_by held) key d ↔ IsDotOfOne (IsMaximalPermit sets held.operations key) d
  permits_so held c key d = both (permits_stand held.operations key d)
      (standing_is_maximal (IsPermitOf key) (IsPermitOf key) sets h.issues agree held.operations c
      (λ before o e r ends x. permit_takes key before o.act e r ends x)
      (permit_ends key) d)

  starts_so : (held : NodeSet) → ClosedSet sets.issued held.operations → (key : Key) (d : Dot) → StartStands (state_by held) key d ↔ IsDotOfOne (IsMaximalStart sets held.operations key) d
  starts_so held c key d = both (starts_stand held.operations key d)
      (standing_is_maximal (IsStartOf key) (EndsStart key) sets h.issues agree held.operations c
      (λ before o e r ends x. start_takes key before o.act e r ends x)
      (start_ends key) d)

  drains_so : (held : NodeSet) → ClosedSet sets.issued held.operations → (at : Origin) (d : Dot) → DrainStands (state_by held) at d ↔ IsDotOfOne (IsMaximalDrain sets held.operations at) d
  drains_so held c at d = both (drains_stand held.operations at d)
      (standing_is_maximal (IsDrainOf at) (IsDrainOf at) sets h.issues agree held.operations c
      (λ before o e r ends x. drain_takes at before o.act e r ends x)
      (drain_ends at) d)

  -- the state of a node that holds the set
  state_of_set : (n : ℕ) (s : StateValue) (held : NodeSet) → RunsHolding v sets n s held → state_by held ≡ s
  state_of_set n s held r = let x = held_as n s r.runs in ap state_by (some_same held x.held (sym r.holds ∙ x.holds)) ∙ x.means

  pub is_causal : IsCausal v sets
  is_causal = record {
    closed = λ n held e a b here before.
        (closed_at held (sets.node n) e (h.nodes n)).closed before.issue before.issued (subst (λ o. IsOperationOf o held.operations) (sym before.is) here) a before.held;
    vector = λ n s runs.
        let x = held_as n s runs in
        subst (λ (u : StateValue). IsVector u.heard) x.means (heard_is_vector sets.issued h.issues x.held.operations (closed_at x.held (sets.node (numbered n)) x.holds (h.nodes (numbered n))));
    known = λ n s runs.
        let x = held_as n s runs in
        subst (λ (u : StateValue). u.heard ≡ u.known) x.means (known_is_heard sets.issued h.issues x.held.operations (closed_at x.held (sets.node (numbered n)) x.holds (h.nodes (numbered n))));
    permits = λ n s held r key d.
        subst (λ (u : StateValue). PermitStands u key d ↔ IsDotOfOne (IsMaximalPermit sets held.operations key) d) (state_of_set n s held r) (permits_so held (closed_at held (sets.node (numbered n)) r.holds (h.nodes (numbered n))) key d);
    starts = λ n s held r key d.
        subst (λ (u : StateValue). StartStands u key d ↔ IsDotOfOne (IsMaximalStart sets held.operations key) d) (state_of_set n s held r) (starts_so held (closed_at held (sets.node (numbered n)) r.holds (h.nodes (numbered n))) key d);
    drains = λ n s held r at d.
        subst (λ (u : StateValue). DrainStands u at d ↔ IsDotOfOne (IsMaximalDrain sets held.operations at) d) (state_of_set n s held r) (drains_so held (closed_at held (sets.node (numbered n)) r.holds (h.nodes (numbered n))) at d);
  }
