use Rattle.std.specs.Cmp.Lexicographic.{pointwise_decides}
use Rattle.dac_messages.proofs.SameApps.{same_apps}
use Rattle.dac_messages.proofs.lists.AppList.equal.Goals as goal

pub returns : goal.returns
returns c =
    rw (c.eq.ensures, ← c.self.view_is, ← c.other.view_is, c.as_slice.ensures.value, c.as_slice-2.ensures.value) (pointwise_decides same_apps _ _)
