-- The names that several proofs cite, passed on from one place. Declares nothing.
pub use Rattle.std.proofs.lemmas.Bool.{eqb-true, leb-true, leb-false, true≢false}
pub use Rattle.std.proofs.lemmas.Option.{same_Some, none-some}
pub use Rattle.std.specs.Ordering.{eq_by_cmp}
pub use Rattle.dac_base.specs.Ids.{node_cmp}
pub use Rattle.dac_base.specs.declared.NodeId.{NodeId}
pub use Rattle.dac_base.specs.laws.Ids.{nodes_total, exact_nodes}
pub use Rattle.dac_origins.specs.Dots.{origin_cmp}
pub use Rattle.dac_origins.specs.declared.dot.Origin.{Origin}
pub use Rattle.dac_origins.specs.laws.Dots.{origins_total}
pub use Rattle.dac_deltas.specs.Numbers.{Numbers, greater, raised}
pub use Rattle.dac_messages.specs.declared.message.Body.{Body}
pub use Rattle.dac_messages.specs.declared.message.Message.{Message}
pub use Rattle.dac_peers.specs.Peers.{PeersValue, got_after, number_acked, heard_from}
pub use Rattle.dac_peers.specs.Pending.{lists_kept}
pub use Rattle.dac_peers.specs.declared.positions.Position.{Position}
