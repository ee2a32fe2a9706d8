use Rattle.std.proofs.Common.{◌≡◌, ◌%◌, ◌<◌, Some, length, arith}
use Rattle.dac_weave.specs.laws.Common.{slice_get, slice_get_read}
use Rattle.std.proofs.lemmas.Nat.{mod_below}
use Rattle.dac_weave.proofs.Finding.{unfiles}
use Rattle.dac_weave.proofs.buckets.Buckets.unfile.Goals as goal

pub returns : goal.returns
returns c =
    let lists = c.args.self.now.lists.items in
    let some : 0 < length lists = c.args.self.now.some in
    let long : c.len.result ≡ length lists = omega arith in
    let there : slice_get lists (c.args.label % c.len.result) ≡ Some c.index_mut.result.now = slice_get_read lists c.len.result (c.args.label % c.len.result) c.index_mut.result.now long (mod_below c.args.label c.len.result (omega arith)) c.index_mut.ensures.value in
    unfiles lists c.args.label c.len.result c.args.number c.index_mut.result.now c.remove_number.new.numbers long there c.remove_number.ensures
