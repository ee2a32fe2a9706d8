use Rattle.std.proofs.Common.{◌≡◌, ◌↔◌, Bool, true, false, not, sym, ap, subst, ◌∙◌}
use Rattle.dac_origins.specs.declared.dot.Origin.{Origin}
use Rattle.dac_origins.specs.Dots.{IsUsedUp}
use Rattle.dac_placement.specs.StateValue.{StateValue}
use Rattle.dac_commands.specs.Causes.{used_up}
use Rattle.dac_commands.specs.laws.Counters.{used_up_is}
use Rattle.dac_commands.proofs.Issues.{used_up-is}
use Rattle.dac_commands.proofs.counters.dots_used_up.Goals as goal

turned : (a b : Bool) → b ≡ not a → a ≡ not b
turned true b h = sym (ap not h)
turned false b h = sym (ap not h)

in_words : (s : StateValue) (own : Origin) (b : Bool) → b ≡ used_up s own → (b ≡ true) ↔ IsUsedUp s.known own
in_words s own b is = subst (λ b. (b ≡ true) ↔ IsUsedUp s.known own) (sym is) (used_up_is s.known own)

pub returns : goal.returns
returns c =
    let value = turned _ _ c.is_none.ensures ∙ sym (used_up-is c.args.state.now c.args.own c.known.result.now c.next.result c.known.ensures c.next.ensures) in
    record { value = value; cases = in_words c.args.state.now c.args.own _ value }
