use Rattle.std.proofs.Common.{◌≡◌, ℕ, ◌+◌, ◌≤◌, List, Result, cond, true, ap, ◌∙◌, rules, take, take_all, get_or, length, vec_len}
use Rattle.dac_core.proofs.Common.{Table, WorldEvent, Reply, WorldFault, WorldValue, RanAs}
use Rattle.std.specs.Prelude.{is_ok}
use Rattle.std.proofs.lemmas.List.{get_or_default}
use Rattle.dac_events.specs.declared.What.TheVariants.{Boot}
use Rattle.dac_settle.specs.dac_model_world.laws.Runs.{ran_next}
use Rattle.dac_core.proofs.world.World.run.Goals as goal

pub loop-event-preserved : goal.loop-event-preserved
loop-event-preserved c =
    let ok : is_ok c.push.result ≡ true = c.push.ensures.succeeds (search rules) in
    let e : WorldEvent = get_or c.args.events.now c.loop-event.event-index (record { node = record { 0 = 0 }; what = Boot 0 }) in
    let ran = ran_next c.args.config.now c.args.events.now c.loop-event.event-index c.loop-event.answers.items c.loop-event.world c.step-answer.new.self e c.step-answer.result c.step-answer.ensures.follows c.loop-event-test.true (get_or_default c.args.events.now c.loop-event.event-index _ _ c.loop-event-test.true) c.loop-event.invariant.ran in
    record {
      ran = rw (c.push.ensures.items, ok) ran;
      count = c.step-answer.ensures.count ∙ c.loop-event.invariant.count;
      as_many = c.push.ensures.len ∙ (ap (λ b. cond b (vec_len c.loop-event.answers + 1) (vec_len c.loop-event.answers)) ok ∙ ap (λ n. n + 1) c.loop-event.invariant.as_many);
      room = search rules;
    }

-- the run of all events, at the end of the loop
whole : (t : Table) (events : List WorldEvent) (answers : List (Result Reply WorldFault)) (v : WorldValue) (i : ℕ) → length events ≤ i → RanAs t (take i events) answers v → RanAs t events answers v
whole t events answers v i h r = rw take_all at r

pub returns-clause-converges : goal.returns-clause-converges
returns-clause-converges c =
    let l = c.loop-event in
    c.runs_converge.ensures.converges c.args.config.now c.args.events.now l.answers.items l.world (whole c.args.config.now c.args.events.now l.answers.items l.world l.event-index c.loop-event-test.false l.invariant.ran)

pub returns-clause-settles : goal.returns-clause-settles
returns-clause-settles c =
    let l = c.loop-event in
    c.rounds_settle.ensures.runs c.args.config.now c.args.events.now l.answers.items l.world (whole c.args.config.now c.args.events.now l.answers.items l.world l.event-index c.loop-event-test.false l.invariant.ran)
