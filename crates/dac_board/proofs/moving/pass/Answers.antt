use Rattle.std.proofs.Common.{◌∙◌, arith, sym}
use Rattle.dac_wishes.specs.laws.Keys.{exact_keys}
use Rattle.dac_board.proofs.Walks.{both_passed, new_passed, old_passed, one_fewer, passed_one}
use Rattle.dac_board.proofs.moving.pass.Goals as goal

pub returns-in-Less-clause-less : goal.returns-in-Less-clause-less
returns-in-Less-clause-less g c e =
    let fewer = one_fewer c.args.old.now c.pass.new.self c.in-Some.one.now (passed_one c.args.old.now c.pass.new.self c.in-Some.one.now c.in-Some.ensures c.pass.ensures) in
    omega (arith, fewer)

pub returns-in-Less-clause-same : goal.returns-in-Less-clause-same
returns-in-Less-clause-same g c k e same =
    old_passed k c.args.old.now c.args.new.now c.pass.new.self c.in-Some.one.now c.in-Some.ensures c.pass.ensures (c.count_moved.ensures.own k e) same

pub returns-in-Greater-clause-less : goal.returns-in-Greater-clause-less
returns-in-Greater-clause-less g c e =
    let fewer = one_fewer c.args.new.now c.pass-in-Greater.new.self c.in-Some-first.other.now (passed_one c.args.new.now c.pass-in-Greater.new.self c.in-Some-first.other.now c.in-Some-first.ensures c.pass-in-Greater.ensures) in
    omega (arith, fewer)

pub returns-in-Greater-clause-same : goal.returns-in-Greater-clause-same
returns-in-Greater-clause-same g c k e same =
    new_passed k c.args.old.now c.args.new.now c.pass-in-Greater.new.self c.in-Some-first.other.now c.in-Some-first.ensures c.pass-in-Greater.ensures (c.count_moved-in-Greater.ensures.own k e) same

pub returns-in-Equal-clause-less : goal.returns-in-Equal-clause-less
returns-in-Equal-clause-less g c e =
    let fewer = one_fewer c.args.old.now c.pass-in-Equal.new.self c.in-Some.one.now (passed_one c.args.old.now c.pass-in-Equal.new.self c.in-Some.one.now c.in-Some.ensures c.pass-in-Equal.ensures) in
    let also = one_fewer c.args.new.now c.pass-in-Equal-2.new.self c.in-Some-first.other.now (passed_one c.args.new.now c.pass-in-Equal-2.new.self c.in-Some-first.other.now c.in-Some-first.ensures c.pass-in-Equal-2.ensures) in
    omega (arith, fewer, also)

pub returns-in-Equal-clause-same : goal.returns-in-Equal-clause-same
returns-in-Equal-clause-same g c k e same =
    both_passed k c.args.old.now c.args.new.now c.pass-in-Equal.new.self c.pass-in-Equal-2.new.self c.in-Some.one.now c.in-Some-first.other.now c.in-Some.ensures c.in-Some-first.ensures c.pass-in-Equal.ensures c.pass-in-Equal-2.ensures
    (exact_keys c.in-Some.one.now.0 c.in-Some-first.other.now.0 (sym c.cmp.ensures ∙ c.in-Equal.is)) (λ at. c.is_same_store.ensures (c.count_moved_unless.ensures.own k e at)) same
