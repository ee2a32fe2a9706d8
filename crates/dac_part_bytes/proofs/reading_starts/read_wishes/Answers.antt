use Rattle.std.proofs.Common.{arith}
use Rattle.dac_part_bytes.proofs.Common.{Rest, found_call, again_call, starts_bytes, AreStartsInForm}
use Rattle.dac_wishes.specs.WishesValue.{WishesValue}
use Rattle.dac_part_bytes.specs.Reading.{all_starts_at}
use Rattle.dac_part_bytes.proofs.KeyedLaws.{starts_takes, starts_again}
use Rattle.dac_part_bytes.proofs.reading_starts.read_wishes.Goals as goal

pub returns-clause-found : goal.returns-clause-found
returns-clause-found c =
    found_call (λ (x : WishesValue × Rest). (x.0.standing, x.1)) (all_starts_at c.args.version c.args.config.now c.args.known.now) (starts_bytes c.args.version) (AreStartsInForm c.args.version c.args.config.now c.args.known.now)
    (starts_takes c.args.version c.args.config.now c.args.known.now) c.args.reader c.read_all_starts.result c.read_all_starts.ensures.exact

pub returns-clause-again : goal.returns-clause-again
returns-clause-again c =
    again_call (λ (x : WishesValue × Rest). (x.0.standing, x.1)) (all_starts_at c.args.version c.args.config.now c.args.known.now) (starts_bytes c.args.version) (AreStartsInForm c.args.version c.args.config.now c.args.known.now)
    (starts_again c.args.version c.args.config.now c.args.known.now (omega (arith, c.nodes-nodes.ensures.count, c.nodes-nodes.type_inv)) (omega (arith, c.apps-apps.ensures.count, c.apps-apps.type_inv))) c.args.reader c.read_all_starts.result c.read_all_starts.ensures.exact
