use Rattle.std.specs.Cmp.Lexicographic.{pointwise_decides}
use Rattle.dac_store.specs.laws.SameDots.{same_dots}
use Rattle.dac_wishes.proofs.dot_list.DotList.equal.Goals as goal

pub returns : goal.returns
returns c =
    rw (c.eq.ensures, ← c.self.view_is, ← c.other.view_is, c.as_slice.ensures.value, c.as_slice-2.ensures.value) (pointwise_decides same_dots _ _)
