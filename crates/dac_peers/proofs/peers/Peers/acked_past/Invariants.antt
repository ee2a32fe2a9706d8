use Rattle.std.specs.Prelude.{◌≡◌, ◌<◌, None, IfSome, map as list_map, fold}
use Rattle.dac_peers.specs.laws.Common.{number_acked}
use Rattle.dac_peers.specs.Peers.{others, lesser}
use Rattle.dac_peers.proofs.peers.Peers.acked_past.Given as goal

abbrev pub invariant-loop-number : goal.invariant-loop-number
invariant-loop-number l =
    (l.least ≡ fold lesser None (list_map (number_acked l.self l.state) (others l.number l.own)))
    × IfSome l.least (λ least. l.base < least)
