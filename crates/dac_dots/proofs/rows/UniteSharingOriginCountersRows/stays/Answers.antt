use Rattle.std.proofs.Common.{◌∙◌, Some, ap}
use Rattle.std.specs.Option.{option_copied}
use Rattle.dac_dots.specs.Entries.{united}
use Rattle.dac_dots.proofs.SetLemmas.{united_stays}
use Rattle.dac_dots.proofs.rows.UniteSharingOriginCountersRows.stays.Goals as goal

pub returns-in-Some : goal.returns-in-Some
returns-in-Some c within =
    ap (λ theirs. united (Some c.args.mine.now) (option_copied theirs)) c.in-Some.is
    ∙ united_stays c.args.mine.now c.in-Some.theirs.now c.tells_rising.ensures (c.is_subset.ensures.0 within)
