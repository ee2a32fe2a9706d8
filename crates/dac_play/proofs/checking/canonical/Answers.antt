use Rattle.std.proofs.lemmas.Result.{err_from_is_err_and}
use Rattle.dac_play.proofs.Unchecked.{config_unchecked}
use Rattle.dac_play.proofs.checking.canonical.Goals as goal

pub returns-in_err-config-clause-fails : goal.returns-in_err-config-clause-fails
returns-in_err-config-clause-fails g c =
    let p = err_from_is_err_and c.from_residual-in_err-config.result c.from_residual-in_err-config.ensures.1 in
    rw p.1 (config_unchecked _ c.in_ok-text.text.items c.in_err-config.field-0.0 p.0 c.in_ok-text.ensures.whole c.in_ok-text.ensures.short (rw c.deref.ensures.value at c.in_err-config.ensures.exact) p.2)
