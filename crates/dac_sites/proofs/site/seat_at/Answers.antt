use Rattle.std.proofs.Common.{sym, ◌∙◌}
use Rattle.dac_sites.specs.laws.Seats.{one_of}
use Rattle.dac_sites.proofs.site.seat_at.Goals as goal

pub returns-then-number : goal.returns-then-number
returns-then-number g c = one_of _ _ _ _ c.index-seats-i.result c.loop-i-test.true c.index-seats-i.is (sym c.number.ensures ∙ c.if-number.true)
