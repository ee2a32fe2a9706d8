use Rattle.std.proofs.Common.{refl}
use Rattle.dac_weave.proofs.Placed.{begun_more}
use Rattle.dac_weave.proofs.cursor.cursors_of.Goals as goal

pub loop-journal-preserved : goal.loop-journal-preserved
loop-journal-preserved c = begun_more c.args.config.now c.args.journals.now c.loop-journal.journal-index c.journal-item.result c.loop-journal.cursors.items c.push.new.self.items (record { placed = 0; valid = c.in_ok-valid.valid }) c.loop-journal-test.true c.journal-item.is c.loop-journal.invariant (record { placed = refl; longest = c.in_ok-valid.ensures }) c.in_ok-push.ensures.items
