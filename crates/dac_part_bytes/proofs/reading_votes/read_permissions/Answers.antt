use Rattle.dac_wishes.specs.PermissionsValue.{PermissionsValue}
use Rattle.dac_part_bytes.proofs.Common.{Rest, found_call, again_call}
use Rattle.dac_part_bytes.specs.Reading.{all_permits_at}
use Rattle.dac_part_bytes.specs.Spelling.{permits_bytes}
use Rattle.dac_part_bytes.specs.KeyedForm.{ArePermitsInForm}
use Rattle.dac_part_bytes.proofs.reading_votes.read_permissions.Goals as goal

pub returns-clause-found : goal.returns-clause-found
returns-clause-found c =
    let codec = (c.parts_have_one_spelling.ensures c.args.version).permits c.args.known.now in
    found_call (λ (x : PermissionsValue × Rest). (x.0.standing, x.1)) (all_permits_at c.args.version c.args.config.now c.args.known.now) (permits_bytes c.args.version) (ArePermitsInForm c.args.version c.args.config.now c.args.known.now)
    codec.takes c.args.reader c.read_all_permits.result c.read_all_permits.ensures.exact

pub returns-clause-again : goal.returns-clause-again
returns-clause-again c =
    let codec = (c.parts_have_one_spelling.ensures c.args.version).permits c.args.known.now in
    again_call (λ (x : PermissionsValue × Rest). (x.0.standing, x.1)) (all_permits_at c.args.version c.args.config.now c.args.known.now) (permits_bytes c.args.version) (ArePermitsInForm c.args.version c.args.config.now c.args.known.now)
    codec.again c.args.reader c.read_all_permits.result c.read_all_permits.ensures.exact
