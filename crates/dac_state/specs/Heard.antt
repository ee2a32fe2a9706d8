-- The dots heard, stored relative to the dots known.
use Rattle.dac_origins.specs.Dots.{Dots}
use Rattle.dac_state.specs.declared.heard.Heard.{Heard}
use Rattle.dac_state.specs.declared.heard.Heard.TheVariants.{All, These}

abbrev pub heard_given : Heard → Dots → Dots
heard_given All known = known
heard_given (These heard) known = heard
