use Rattle.dac_wishes.specs.DrainsValue.{DrainsValue}
use Rattle.dac_part_bytes.proofs.Common.{Rest, found_call, again_call}
use Rattle.dac_part_bytes.specs.Reading.{all_drains_at}
use Rattle.dac_part_bytes.specs.Spelling.{drains_bytes}
use Rattle.dac_part_bytes.specs.KeyedForm.{AreDrainsInForm}
use Rattle.dac_part_bytes.proofs.reading_votes.read_drains.Goals as goal

pub returns-clause-found : goal.returns-clause-found
returns-clause-found c =
    let codec = (c.parts_have_one_spelling.ensures c.args.version).drains c.args.known.now in
    found_call (λ (x : DrainsValue × Rest). (x.0.standing, x.1)) (all_drains_at c.args.version c.args.config.now c.args.known.now) (drains_bytes c.args.version) (AreDrainsInForm c.args.version c.args.config.now c.args.known.now)
    codec.takes c.args.reader c.read_drains_in.result c.read_drains_in.ensures.exact

pub returns-clause-again : goal.returns-clause-again
returns-clause-again c =
    let codec = (c.parts_have_one_spelling.ensures c.args.version).drains c.args.known.now in
    again_call (λ (x : DrainsValue × Rest). (x.0.standing, x.1)) (all_drains_at c.args.version c.args.config.now c.args.known.now) (drains_bytes c.args.version) (AreDrainsInForm c.args.version c.args.config.now c.args.known.now)
    codec.again c.args.reader c.read_drains_in.result c.read_drains_in.ensures.exact
