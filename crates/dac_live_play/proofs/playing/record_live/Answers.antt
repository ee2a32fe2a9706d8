use Rattle.std.proofs.Common.{ℕ, List, subst}
use Rattle.dac_live_play.specs.Recordings.{IsRecordText}
use Rattle.dac_live_play.proofs.playing.record_live.Goals as goal

pub returns-clause-ok : goal.returns-clause-ok
returns-clause-ok g c =
    let run = c.in_ok-printed.run' in
    record {
      printed = c.in_ok-printed.printed.items;
      run = run;
      ran = c.in_ok-printed.ensures.ok;
      says = c.in_ok-text.ensures.says;
      text_is = subst (λ (printed : List ℕ). IsRecordText c.args.config.now printed run c.in_ok-text.text.items) c.deref.ensures.value c.in_ok-text.ensures.text;
    }
