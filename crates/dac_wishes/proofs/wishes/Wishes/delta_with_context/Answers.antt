use Rattle.std.proofs.Common.{◌∙◌, ap}
use Rattle.dac_wishes.specs.StoredWishes.{wishes_of}
use Rattle.dac_wishes.proofs.DeltaStoring.{start_known, wishes_of-delta}
use Rattle.dac_wishes.proofs.wishes.Wishes.delta_with_context.Goals as goal

pub beside-causal-requires : goal.beside-causal-requires
beside-causal-requires c = rw (c.in_ok-store.ensures, c.in_ok-context.ensures, c.requires) (start_known c.args.dot c.args.act.now)

pub returns : goal.returns
returns c =
    let named = c.in_ok-context.ensures ∙ c.requires in
    ap wishes_of (c.beside-causal.ensures ∙ (λ i. record { store = c.in_ok-store.ensures i; context = named i })) ∙ wishes_of-delta c.args.dot c.args.act.now
