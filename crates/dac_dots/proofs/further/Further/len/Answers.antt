use Rattle.std.proofs.Common.{arith}
use Rattle.dac_dots.proofs.RowLemmas.{further_length}
use Rattle.dac_dots.proofs.further.Further.len.Goals as goal

pub overflow_sub-result : goal.overflow_sub-result
overflow_sub-result c =
    let all = further_length c.self.inside.counters.now c.args.self.now c.self.invariant c.self.view_is in
    let len = c.len.ensures.value in
    let upto = c.upto.ensures in
    omega arith

pub returns : goal.returns
returns c =
    let all = further_length c.self.inside.counters.now c.args.self.now c.self.invariant c.self.view_is in
    let len = c.len.ensures.value in
    let upto = c.upto.ensures in
    omega arith
