use Rattle.std.proofs.Common.{◌≡◌, List, length, refl, sym, ap, subst, arith}
use Rattle.dac_model_world.specs.NodeValue.{NodeValue}
use Rattle.dac_model_world.specs.Histories.{off_after}
use Rattle.dac_journal.specs.declared.record.Record.{Record}
use Rattle.dac_journal.specs.Journals.{EndsAt, beginning_of}
use Rattle.dac_journal.proofs.journal.Journal.new.Goals as goal

pub invariant_of-result : goal.invariant_of-result
invariant_of-result c =
    let o = beginning_of c.args.config c.args.me c.args.last in
    let none : length c.new.result.items ≡ 0 = ap length c.new.ensures.items in (
      subst (λ (x : List Record × NodeValue). EndsAt o x.0 x.1) (λ i. (sym c.new.ensures.items i, sym c.off.ensures.value i)) (record { final = off_after c.args.last; history = refl; shows = refl }),
      omega (arith, none),
    )
