use Rattle.std.proofs.Common.{◌∷◌, ◌∙◌, ap}
use Rattle.std.specs.FinSet as set
use Rattle.dac_wishes.proofs.drains.DrainsPiece.delta.Goals as goal

pub delta_with_context-requires : goal.delta_with_context-requires
delta_with_context-requires c = c.in_ok-named.ensures ∙ ap (λ ks. set.from_list (c.args.dot ∷ ks)) c.over.ensures
