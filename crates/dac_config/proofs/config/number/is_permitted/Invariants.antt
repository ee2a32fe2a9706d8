use Rattle.std.proofs.Common.{◌≡◌, drop}
use Rattle.dac_config.proofs.Common.{permissions_of, permitted}
use Rattle.dac_config.proofs.config.number.is_permitted.Given as goal

abbrev pub invariant-loop-permission : goal.invariant-loop-permission
invariant-loop-permission l = permitted (permissions_of (drop l.permission-index l.permissions)) l.name ≡ permitted (permissions_of l.permissions) l.name
