use Rattle.std.proofs.Common.{◌+◌, ◌++◌, ◌∷◌, [], take, map, Some, None, sym, ap, ◌∙◌, append-nil}
use Rattle.std.proofs.lemmas.List.{get_or_default}
use Rattle.dac_crews.specs.Callers.{event_of}
use Rattle.dac_phases.specs.laws.Common.{map_push, found, ask_one}
use Rattle.dac_phases.specs.laws.Spoken.{found_on}
use Rattle.dac_phases.proofs.asked.with_events.Goals as goal
use Rattle.dac_phases.proofs.asked.with_events.Goals.{in-Some+in_ok-push-in-Some, in-None}

pub loop-i-preserved : goal.loop-i-preserved
loop-i-preserved c =
    let f = ask_one c.args.node.0 c.args.caller in
    let b = map event_of c.args.all.items in
    let ls = c.args.lines.now in
    elim c.match-event_in.branch [
      | in-Some+in_ok-push-in-Some w ↦
          let e = w.in-Some.event in
          rw w.all-is
          (ap (map event_of) w.in_ok-push-in-Some.ensures.items ∙ map_push event_of c.loop-i.all.items e ∙ ap (λ l. l ++ event_of e ∷ []) c.loop-i.invariant
          ∙ sym (found_on b f ls c.loop-i.i _ (Some (event_of e)) c.loop-i-test.true (get_or_default ls c.loop-i.i _ _ c.loop-i-test.true) (sym w.in-Some.ensures)))
      | in-None w ↦
          rw w.all-is (c.loop-i.invariant ∙ sym (found_on b f ls c.loop-i.i _ None c.loop-i-test.true (get_or_default ls c.loop-i.i _ _ c.loop-i-test.true) (sym w.in-None.ensures) ∙ append-nil (b ++ found f (take c.loop-i.i ls))))
    ]
