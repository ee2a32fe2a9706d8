use Rattle.dac_wishes.proofs.votes.stored_delta.Goals as goal

pub beside-causal-requires : goal.beside-causal-requires
beside-causal-requires g c = rw (c.in_ok-store.ensures, c.in_ok-context.ensures) c.requires
