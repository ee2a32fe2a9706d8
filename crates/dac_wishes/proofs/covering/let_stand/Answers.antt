use Rattle.std.proofs.Common.{◌∙◌, ap, sym}
use Rattle.std.specs.List.{list_all}
use Rattle.dac_wishes.specs.Covering.{let_stand, lets_stand}
use Rattle.dac_wishes.specs.StoredVotes.{DotFlags}
use Rattle.dac_wishes.proofs.Walks.{all_done, all_next, all_not, one_fewer}
use Rattle.dac_wishes.proofs.covering.let_stand.Goals as goal

pub loop-key-preserved : goal.loop-key-preserved
loop-key-preserved g c =
    let stands = lets_stand g.K.Ord.cmp c.args.dot c.args.vote c.args.over.now in
    let e = c.in-Some.field-0.now in
    all_next (λ (e : g.row.K.Denot × DotFlags). list_all (stands e.0) e.1) (let_stand g.K.Ord.cmp c.args.dot c.args.vote c.args.over.now c.args.entries) c.loop-key.left c.next.new.self e c.in-Some.ensures c.loop-key.invariant
    (ap (list_all (stands e.0)) (sym c.entries.ensures) ∙ sym c.let_stand_at.ensures ∙ c.if-not-let_stand_at.false)

pub loop-key-smaller : goal.loop-key-smaller
loop-key-smaller g c = one_fewer c.loop-key.left c.next.new.self c.in-Some.field-0.now c.in-Some.ensures

pub returns-then-not-let_stand_at : goal.returns-then-not-let_stand_at
returns-then-not-let_stand_at g c =
    let stands = lets_stand g.K.Ord.cmp c.args.dot c.args.vote c.args.over.now in
    let e = c.in-Some.field-0.now in
    sym (all_not (λ (e : g.row.K.Denot × DotFlags). list_all (stands e.0) e.1) (let_stand g.K.Ord.cmp c.args.dot c.args.vote c.args.over.now c.args.entries) c.loop-key.left c.next.new.self e c.in-Some.ensures c.loop-key.invariant
    (ap (list_all (stands e.0)) (sym c.entries.ensures) ∙ sym c.let_stand_at.ensures ∙ c.if-not-let_stand_at.true))

pub returns : goal.returns
returns g c =
    let stands = lets_stand g.K.Ord.cmp c.args.dot c.args.vote c.args.over.now in
    sym (all_done (λ (e : g.row.K.Denot × DotFlags). list_all (stands e.0) e.1) (let_stand g.K.Ord.cmp c.args.dot c.args.vote c.args.over.now c.args.entries) c.loop-key.left c.in_default.ensures.0 c.loop-key.invariant)
