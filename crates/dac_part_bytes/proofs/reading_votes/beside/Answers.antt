use Rattle.std.proofs.Common.{◌≡◌}
use Rattle.dac_store.specs.Stores.{IsHeld}
use Rattle.dac_part_bytes.proofs.ReadLoops.{no_error, said_of}
use Rattle.dac_part_bytes.proofs.reading_votes.beside.Goals as goal

pub unwrap-requires : goal.unwrap-requires
unwrap-requires g c = no_error (λ back. back ≡ (c.args.store, c.args.context)) (IsHeld (g.S.DotStore.has c.args.store) c.args.context) c.new.result c.new.ensures.err c.requires

pub returns : goal.returns
returns g c = (said_of (λ causal. (causal ≡ record { store = c.args.store; context = c.args.context }) × IsHeld (g.S.DotStore.has c.args.store) c.args.context) c.new.result c.unwrap.result c.new.ensures.ok c.unwrap.ensures).0
