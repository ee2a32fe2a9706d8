-- The capacity of a run's links.
use Rattle.std.specs.Prelude.{◌≡◌, All, List}
use Rattle.crossbeam_channel.specs.Ends.{sends_on, ruled_capacity}
use Rattle.dac_base.specs.declared.NodeId.{NodeId}
use Rattle.dac_links.specs.declared.ends.LinkSender.{LinkSender}
use Rattle.dac_crews.specs.declared.setup.LinkEnds.{LinkEnds}

-- the links from a node can hold 64 letters
abbrev pub HasRoom : LinkEnds → Type 0
HasRoom ends = All (λ (out : NodeId × LinkSender). ruled_capacity (sends_on out.1.end) ≡ 64) ends.outs.items

-- the links from all nodes can hold 64 letters
abbrev pub HaveRoom : List LinkEnds → Type 0
HaveRoom all = All HasRoom all
