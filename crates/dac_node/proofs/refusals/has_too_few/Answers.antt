use Rattle.std.proofs.Common.{◌≡◌, ◌<◌, ◌≤◌, ◌+◌, ◌-◌, ℕ, Bool, true, false, refl, sym, ap, subst, ◌∙◌, arith}
use Rattle.dac_node.proofs.Common.{ltb-false, MAX_COUNTER}
use Rattle.std.specs.Prelude.{nat_lt, max}
use Rattle.std.proofs.lemmas.Bool.{leb-true, lt-ltb, ltb-true, false_from_ne_true}
use Rattle.dac_origins.specs.declared.dot.Dot.{Dot}
use Rattle.dac_origins.specs.Dots.{IsNext, IsUsedUp}
use Rattle.dac_config.specs.Table.{app_count}
use Rattle.dac_model_node.specs.dac_commands.Commands.{greatest_counter}
use Rattle.dac_model_node.specs.dac_commands.laws.Counters.{next-is, used_up_is}
use Rattle.dac_node.proofs.refusals.has_too_few.Goals as goal

-- If the next counter is at most the last one, it doesn't matter that at least one counter is required.
few : (most greatest next apps : ℕ) → next ≡ greatest + 1 → next ≤ most → nat_lt most (next - 1 + apps) ≡ nat_lt most (greatest + max 1 apps)
few most greatest next apps is le = by (nat_lt most (greatest + max 1 apps)) refl
  where
    by : (b : Bool) → nat_lt most (greatest + max 1 apps) ≡ b → nat_lt most (next - 1 + apps) ≡ b
    by true e = let less : most < greatest + max 1 apps = ltb-true most (greatest + max 1 apps) e in lt-ltb most (next - 1 + apps) (omega arith)
    by false e = false_from_ne_true _ (λ t.
        let less : most < next - 1 + apps = ltb-true most (next - 1 + apps) t in
        let enough : greatest + max 1 apps ≤ most = ltb-false most (greatest + max 1 apps) e in
        omega arith)

none : (most greatest apps : ℕ) → most ≤ greatest → nat_lt most (greatest + max 1 apps) ≡ true
none most greatest apps h = lt-ltb most (greatest + max 1 apps) (omega arith)

pub returns-in-Some : goal.returns-in-Some
returns-in-Some c =
    let known = c.args.state.now.known in
    let own = c.args.own in
    let is : IsNext known own c.in-Some.next = subst (λ k. IsNext k own c.in-Some.next) c.known.ensures c.in-Some.ensures in
    let apps : c.from.result ≡ app_count c.args.config.now = c.from.ensures ∙ c.apps.ensures.count in
    ap (λ k. nat_lt MAX_COUNTER (c.in-Some.next.n - 1 + k)) apps ∙ few MAX_COUNTER (greatest_counter own known) c.in-Some.next.n (app_count c.args.config.now) (ap (λ (d : Dot). d.n) (next-is known own c.in-Some.next is)) is.at_most

pub returns-in-None : goal.returns-in-None
returns-in-None c =
    let known = c.args.state.now.known in
    let own = c.args.own in
    let is : IsUsedUp known own = subst (λ k. IsUsedUp k own) c.known.ensures c.in-None.ensures in
    sym (none MAX_COUNTER (greatest_counter own known) (app_count c.args.config.now) (leb-true MAX_COUNTER (greatest_counter own known) ((used_up_is known own).1 is)))
