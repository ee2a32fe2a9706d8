use Rattle.std.proofs.Common.{◌∷◌, Ok, Err, map, sym}
use Rattle.dac_script.specs.laws.Common.{Spells, roles_of, slot_of}
use Rattle.dac_script.specs.LineFaults.{HasFault}
use Rattle.dac_script.proofs.SpelledLines.{lines_in_words, reading, verb_spells, verb_fails, actors_are}
use Rattle.dac_script.proofs.line.line_of.Goals as goal

pub returns-in-Ok : goal.returns-in-Ok
returns-in-Ok c =
    let first = c.in-Some.first.now.now in
    let rest = map (λ word. word.now) c.in-Some.rest.now in
    let tells = rw (c.in-Ok.is, c.roles_of.ensures.roles) at c.in_ok-values.ensures in
    let spells = verb_spells c.args.config.now first rest c.in-Some-verb_of.verb (map (slot_of c.in-Ok.values) (roles_of c.in-Some-verb_of.verb)) c.line.result (sym c.in-Some-verb_of.ensures) tells c.line.ensures in
    record {
      read = rw c.in-Some.ensures.cases.0 (reading Spells HasFault lines_in_words c.args.config.now (first ∷ rest) (Ok c.line.result) spells);
      actors = actors_are c.args.config.now c.line.result (first ∷ rest) spells;
    }

pub returns-in-Err-clause-read : goal.returns-in-Err-clause-read
returns-in-Err-clause-read c =
    let first = c.in-Some.first.now.now in
    let rest = map (λ word. word.now) c.in-Some.rest.now in
    let least = rw (c.in-Err.is, c.roles_of.ensures.roles) at c.in_ok-values.ensures in
    rw c.in-Some.ensures.cases.0
    (reading Spells HasFault lines_in_words c.args.config.now (first ∷ rest) (Err c.in-Err.kind)
    (verb_fails c.args.config.now first rest c.in-Some-verb_of.verb c.in-Err.kind (sym c.in-Some-verb_of.ensures) least))
