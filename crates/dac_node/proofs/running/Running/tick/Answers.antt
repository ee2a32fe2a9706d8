use Rattle.std.proofs.Common.{◌≡◌, ◌≤◌, ℕ, true, [], sym, ap, subst, ◌∙◌, arith, true≢false}
use Rattle.dac_node.proofs.Common.{fold, MatchOption, arc_value, join, KnowsOwnBoot, RunningValue, IsTickAt}
use Rattle.dac_model_node.specs.NodeValue.{IsSound}
use Rattle.dac_node.specs.declared.running.Running.TheInside.{Inside}
use Rattle.dac_node.proofs.Knows.{knows-grown}
use Rattle.dac_node.proofs.running.Running.tick.Goals.{in-Some+in_ok-state+in_ok-push_all, in_default, in-Some-waits, in_default-waits}
use Rattle.dac_node.proofs.running.Running.tick.Goals as goal

-- the invariant with this last moment
abbrev HoldsAt : ℕ → Inside → Type 0
HoldsAt now a = IsSound a.origin (record { booted = a.moments.booted; last = now }) (arc_value a.state) × (a.shown.1 ≡ true → a.shown.0 ≡ arc_value a.state)

pub invariant_of-self-2 : goal.invariant_of-self-2
invariant_of-self-2 c =
    let a = c.self.inside in
    let x = c.args.ticks in
    let deltas = x.deltas.items in
    let sound = c.self.invariant.0 in
    let at : IsTickAt _ x = subst (λ (r : RunningValue). IsTickAt r x) (sym c.self.view_is) c.requires.1 in
    let before : a.moments.booted ≤ a.moments.last = sound.order in
    let after : a.moments.last ≤ x.now = at.order in
    let order : a.moments.booted ≤ x.now = omega arith in
    let claimed : HoldsAt x.now c.match-state.self-inside = elim c.match-state.branch [
      | in-Some+in_ok-state+in_ok-push_all w ↦
          let state = w.in_ok-state.ensures.ok ∙ subst (λ s. MatchOption s (deltas ≡ []) (λ s. s ≡ fold join (arc_value a.state) deltas)) w.in-Some.is at.state in
          subst (HoldsAt x.now) (sym w.self-inside-is) (
            record {
              knows = subst (KnowsOwnBoot a.origin) (sym state) (knows-grown a.origin (arc_value a.state) deltas sound.knows);
              order = order;
            },
            λ fresh. absurd (true≢false (sym fresh ∙ ap (λ shown. shown.1) w.goes_stale.ensures)),
          )
      | in_default w ↦ subst (HoldsAt x.now) (sym w.self-inside-is) (record { knows = sound.knows; order = order }, c.self.invariant.1)
    ] in
    elim c.match-waits-3.branch [
      | in-Some-waits w ↦ subst (HoldsAt x.now) (sym w.self-inside-is) claimed
      | in_default-waits w ↦ subst (HoldsAt x.now) (sym w.self-inside-is) claimed
    ]
