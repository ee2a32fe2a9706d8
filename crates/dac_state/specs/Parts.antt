-- The representation of a state: what stands, with one context, and the other parts.
use Rattle.dac_origins.specs.Dots.{Dots}
use Rattle.dac_chains.specs.Lives.{Lives}
use Rattle.dac_chains.specs.Claims.{Claims}
use Rattle.dac_wishes.specs.StandingValue.{StandingValue}
use Rattle.dac_meaning.specs.StateValue.{StateValue}

-- the state with these parts
abbrev pub state_of_parts : Dots → StandingValue → Lives → Claims → StateValue
state_of_parts heard standing lives claims = record {
  heard = heard;
  known = standing.known;
  permits = standing.permits;
  starts = standing.starts;
  lives = lives;
  claims = claims;
  drains = standing.drains;
}

-- what stands in a state
abbrev pub standing_in : StateValue → StandingValue
standing_in s = record { known = s.known; permits = s.permits; starts = s.starts; drains = s.drains }
