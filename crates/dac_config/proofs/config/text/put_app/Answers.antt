use Rattle.std.proofs.Common.{append_assoc}
use Rattle.dac_config.proofs.Gaining.{then}
use Rattle.dac_config.proofs.config.text.put_app.Goals as goal

pub put_groups-requires : goal.put_groups-requires
put_groups-requires g c = rw c.deref.ensures.value c.requires

pub returns : goal.returns
returns g c =
    let groups = rw c.deref.ensures.value at c.put_groups.ensures in
    simp append_assoc (then c.put.ensures (then c.put_name.ensures (then c.put-2.ensures (then c.put_number.ensures (then c.put-3.ensures (then groups c.put-4.ensures))))))
