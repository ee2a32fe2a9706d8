use Rattle.std.proofs.Common.{◌++◌, refl, ap, ◌∙◌}
use Rattle.std.proofs.lemmas.List.{get_or_default}
use Rattle.dac_live_play.proofs.Common.{flat_map}
use Rattle.dac_phases.specs.laws.Spoken.{zip_all}
use Rattle.dac_live_play.specs.Recordings.{told_text}
use Rattle.dac_live_play.proofs.Phased.{told_more}
use Rattle.dac_live_play.proofs.recording.put_events.Goals as goal

pub loop-i-preserved : goal.loop-i-preserved
loop-i-preserved c =
    told_more c.args.config.now c.args.placeholder.now c.args.events.now c.args.seats.now c.loop-i.i _ _ c.args.text.now.items c.loop-i.text.items c.put_caller.new.text.items c.put_line.new.text.items c.push.new.self.items c.loop-i-test.true c.requires
    (get_or_default c.args.events.now c.loop-i.i _ _ c.loop-i-test.true) refl c.loop-i.invariant c.in_ok-put_caller.ensures c.in_ok-put_line.ensures c.in_ok-push.ensures.items

pub returns : goal.returns
returns c =
    c.loop-i.invariant ∙ ap (λ zs. c.args.text.now.items ++ flat_map (told_text c.args.config.now c.args.placeholder.now) zs) (zip_all c.args.events.now c.args.seats.now c.loop-i.i c.loop-i-test.false)
