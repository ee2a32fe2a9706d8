use Rattle.std.proofs.Common.{rules}
use Rattle.dac_weave.proofs.Mailed.{posts-one}
use Rattle.dac_weave.proofs.merge.append_output.Goals as goal

pub returns-in-Ok-Shipped-clause-posts : goal.returns-in-Ok-Shipped-clause-posts
returns-in-Ok-Shipped-clause-posts c = posts-one c.post.result _ _ _ _ (search rules) c.post.ensures
