use Rattle.std.proofs.Common.{◌∙◌}
use Rattle.dac_origins.proofs.KeyLemmas.{found}
use Rattle.dac_origins.proofs.keys.holds_key.Goals as goal

pub returns : goal.returns
returns g c =
    let facts = c.binary_search.ensures in
    c.is_ok.ensures.value ∙ found g.met.K.Ord.total c.args.keys.now c.args.key _ c.requires facts.bound facts.position
