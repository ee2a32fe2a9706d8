use Rattle.std.proofs.Common.{◌++◌, codes, decimal, sym, ap, append-nil}
use Rattle.dac_config.specs.Canonical.{pair_text}
use Rattle.dac_config.proofs.Gaining.{then, as_text, nothing_more}
use Rattle.dac_config.proofs.config.text.put_wait.Goals as goal

pub returns-in-NoSync : goal.returns-in-NoSync
returns-in-NoSync g c = rw c.in-NoSync.is nothing_more

pub returns-in-Forever : goal.returns-in-Forever
returns-in-Forever g c = rw c.in-Forever.is c.put.ensures

pub returns-in-Ms : goal.returns-in-Ms
returns-in-Ms g c =
    let spelled = ap (λ text. codes "," ++ text) (sym (append-nil (pair_text (codes "sync_nodes_timeout") (decimal c.in-Ms.milliseconds)))) in
    rw c.in-Ms.is (as_text (then c.put-in-Ms.ensures (then c.put_number.ensures c.put-in-Ms-2.ensures)) spelled)
