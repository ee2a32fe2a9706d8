use Rattle.dac_dots.proofs.SetLemmas.{vector_all, vector_none}
use Rattle.dac_dots.proofs.context.Context.is_vector.Goals as goal

pub returns : goal.returns
returns c = (
  λ yes. vector_all c.self.inside.rows c.args.self.now c.self.view_is c.self.invariant (c.all.ensures.0 yes),
  λ vector. c.all.ensures.1 (vector_none c.self.inside.rows c.args.self.now c.self.view_is c.self.invariant vector),
)
