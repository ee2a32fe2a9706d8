use Rattle.std.proofs.Common.{map, ◌∙◌}
use Rattle.dac_script.specs.laws.Common.{length-map}
use Rattle.dac_script.proofs.Told.{counted}
use Rattle.dac_script.proofs.values.values_of.Goals as goal

pub returns-in-Some : goal.returns-in-Some
returns-in-Some c =
    counted c.args.config.now c.args.roles.now (map (λ word. word.now) c.args.words.now) c.in-Some.fault (length-map c.args.words.now (λ word. word.now) ∙ c.if-words-roles.false) (rw c.in-Some.is at c.in_ok-fault.ensures.read)
