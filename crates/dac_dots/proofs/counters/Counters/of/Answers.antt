use Rattle.dac_dots.proofs.RowLemmas.{parts_more, all_parts, goes_to, rest_is}
use Rattle.dac_dots.proofs.counters.Counters.of.Goals as goal

pub loop-n-preserved : goal.loop-n-preserved
loop-n-preserved c = record {
  rising = c.insert.ensures.rising;
  so_far = parts_more c.args.further.now c.args.upto c.loop-n.n-index c.loop-n.counters c.insert.new.self c.loop-n-test.true c.loop-n.invariant.so_far c.in_ok-insert.ensures.ok;
}

pub returns-clause-upto : goal.returns-clause-upto
returns-clause-upto c =
    goes_to c.args.upto c.args.further.now c.loop-n.counters c.requires c.loop-n.invariant.rising
    (all_parts c.args.upto c.args.further.now c.loop-n.counters c.loop-n.n-index c.loop-n-test.false c.loop-n.invariant.so_far)

pub returns-clause-further : goal.returns-clause-further
returns-clause-further c =
    rest_is c.args.upto c.args.further.now c.loop-n.counters c.requires c.loop-n.invariant.rising
    (all_parts c.args.upto c.args.further.now c.loop-n.counters c.loop-n.n-index c.loop-n-test.false c.loop-n.invariant.so_far)
