use Rattle.std.proofs.Common.{rules, ◌≡◌, length, refl}
use Rattle.dac_dots.proofs.FilterLemmas.{put_own, put_more}
use Rattle.dac_dots.proofs.filter.DotFilter.put.Goals as goal

pub returns-clause-own : goal.returns-clause-own
returns-clause-own c =
    let long : length c.args.self.now.slots ≡ 16 = search rules in
    rw c.slot_of-slot.ensures.value (put_own c.args.self.now.slots c.args.dot _ long)

pub returns-clause-more : goal.returns-clause-more
returns-clause-more c = λ q e.
    let long : length c.args.self.now.slots ≡ 16 = search rules in
    rw c.slot_of-slot.ensures.value (put_more c.args.self.now.slots c.args.dot q _ long refl e)
