use Rattle.std.proofs.Common.{All, refl, subst, take_all}
use Rattle.dac_sites.specs.laws.Common.{Record, IsOneOf}
use Rattle.std.proofs.lemmas.List.Elements.{All-more}
use Rattle.dac_sites.specs.laws.Apart.{stranger_at}
use Rattle.dac_sites.proofs.site.unseated_record.Goals as goal

pub returns-in-None : goal.returns-in-None
returns-in-None g c = stranger_at _ 1 _ _ _ c.index-records-i.result c.loop-i-test.true c.index-records-i.is c.loop-i.invariant c.in-None.ensures refl

pub loop-i-preserved : goal.loop-i-preserved
loop-i-preserved g c =
    let P = λ (r : Record). IsOneOf r.seat (λ s. s.number) c.args.seats.now in
    All-more P c.args.records.now c.loop-i.i c.index-records-i.result c.loop-i-test.true c.loop-i.invariant (subst P c.index-records-i.is c.in-Some.ensures)

pub returns : goal.returns
returns g c = subst (All (λ (r : Record). IsOneOf r.seat (λ s. s.number) c.args.seats.now)) (take_all c.loop-i.i c.args.records.now c.loop-i-test.false) c.loop-i.invariant
