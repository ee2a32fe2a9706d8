use Rattle.std.specs.Cmp.Lexicographic.{pointwise_decides}
use Rattle.dac_store.specs.laws.SameDots.{same_dots}
use Rattle.dac_store.proofs.few.FewDots.is_same.Goals as goal

pub returns-in_default : goal.returns-in_default
returns-in_default c = rw (c.eq-in_default.ensures, c.as_slice.ensures, c.as_slice-in_default.ensures) (λ e. (pointwise_decides same_dots _ _).0 e)
