use Rattle.std.proofs.Common.{◌≡◌, ◌≤◌, length, take, vec_len}
use Rattle.dac_core.proofs.Common.{RanAs}
use Rattle.std.specs.Vec.{vec_capacity}
use Rattle.dac_config.specs.Table.{node_count}
use Rattle.dac_core.proofs.world.World.run.Given as goal

abbrev pub invariant-loop-event : goal.invariant-loop-event
invariant-loop-event l = record {
  ran : RanAs l.config (take l.event-index l.events) l.answers.items l.world;
  count : length l.world.nodes ≡ node_count l.config;
  as_many : vec_len l.answers ≡ l.event-index;
  room : length l.events ≤ vec_capacity l.answers;
}
