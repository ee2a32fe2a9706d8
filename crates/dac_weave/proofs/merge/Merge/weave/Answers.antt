use Rattle.std.proofs.Common.{arith}
use Rattle.dac_weave.proofs.Placed.{weaves-place, unplaced-place, continues-self, continues-place}
use Rattle.dac_weave.proofs.merge.Merge.weave.Goals as goal

pub loop-i-init : goal.loop-i-init
loop-i-init c = record { weaves = c.requires.weaves; continues = continues-self c.args.self.now; within = omega arith }

pub find-requires : goal.find-requires
find-requires c = record { fits = c.loop-i.invariant.weaves.count; mail = c.loop-i.invariant.weaves.delivers.waits.good; within = c.loop-i.invariant.within }

pub place-requires-clause-fits : goal.place-requires-clause-fits
place-requires-clause-fits c = c.loop-i.invariant.weaves.count

pub place-requires-clause-mail : goal.place-requires-clause-mail
place-requires-clause-mail c = c.loop-i.invariant.weaves.delivers.waits.good

pub loop-i-smaller : goal.loop-i-smaller
loop-i-smaller c = unplaced-place c.args.config.now c.args.journals.now c.loop-i.self c.in-Some.i c.in-Some.what c.place.new.self c.loop-i.invariant.weaves c.in-Some.ensures.1 c.in_ok-place.ensures.places

pub loop-i-preserved : goal.loop-i-preserved
loop-i-preserved c = record {
  weaves = weaves-place c.args.config.now c.args.journals.now c.loop-i.self c.in-Some.i c.in-Some.what c.loop-i.invariant.weaves c.requires.fit c.in-Some.ensures.1 c.place.new.self c.in_ok-place.ensures.places c.in_ok-place.ensures.moves;
  continues = continues-place c.args.journals.now c.args.self.now c.loop-i.self c.in-Some.i c.in-Some.what c.place.new.self c.loop-i.invariant.continues c.in-Some.ensures.1 c.in_ok-place.ensures.places;
  within = (let lt = c.in-Some.ensures.0 in omega arith);
}
