use Rattle.std.proofs.Common.{rules}
use Rattle.dac_links.proofs.Relays.{forks, merges}
use Rattle.dac_links.proofs.ends.LinkSender.compare.Goals as goal

pub absorb-requires-clause-rule : goal.absorb-requires-clause-rule
absorb-requires-clause-rule c = merges _ _ _ _ c.args.self.now.may c.args.receiver.may

pub another-other-requires-clause-rule : goal.another-other-requires-clause-rule
another-other-requires-clause-rule c = forks _ _ (search rules) (search rules)
