use Rattle.std.proofs.Common.{refl}
use Rattle.dac_store.proofs.below.is_below.Goals as goal

pub returns-then-is_unheard : goal.returns-then-is_unheard
returns-then-is_unheard g c = (λ _. g.met.S.DotStore.laws.unheard _ c.args.theirs.now c.args.heard.now c.args.other_heard.now (c.is_unheard.ensures.0 c.if-is_unheard.true), λ _. refl)
