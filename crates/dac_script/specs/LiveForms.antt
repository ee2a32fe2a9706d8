-- The grammar of lines of `live`, independent of any reader.
use Rattle.std.specs.Prelude.{ℕ, ◌<◌, ◌≤◌, List, [], ◌∷◌, Option, Some, None, codes}
use Rattle.dac_base.specs.declared.NodeId.{NodeId}
use Rattle.dac_config.specs.Table.{Table}
use Rattle.dac_script.specs.Forms.{Slot, AllTell, event_form}
use Rattle.dac_script.specs.Requests.{what_of}
use Rattle.dac_script.specs.Forms.Slot.{Word, Node, Number, Hex}
use Rattle.dac_script.specs.declared.line.Request.{Request}
use Rattle.dac_script.specs.declared.live_line.LiveLine.{LiveLine}
use Rattle.dac_script.specs.declared.live_line.LiveLine.TheVariants.{Do, Read, Feed, Phase}

-- a caller's request, or a read of its node's page
abbrev pub asked_form : NodeId × Option Request → List Slot
asked_form (node, Some asked) = event_form node (what_of asked)
asked_form (node, None) = Word (codes "read") ∷ Node node ∷ []

-- a line: after a caller's number comes a request, spelled as in `sim`, or a read
abbrev pub live_form : LiveLine → List Slot
live_form (Do node caller asked) = Number caller ∷ asked_form (node, Some asked)
live_form (Read node caller) = Number caller ∷ asked_form (node, None)
live_form (Feed bytes) = Word (codes "feed") ∷ Hex bytes ∷ []
live_form Phase = Word (codes "phase") ∷ []

-- the caller, if the line has one, is 1 to 4
abbrev pub HasCaller : LiveLine → Type 0
HasCaller (Do node caller asked) = (0 < caller) × (caller ≤ 4)
HasCaller (Read node caller) = (0 < caller) × (caller ≤ 4)
HasCaller (Feed bytes) = Unit {0}
HasCaller Phase = Unit {0}

-- the words spell the line
abbrev pub SpellsLive : Table → LiveLine → List (List ℕ) → Type 0
SpellsLive table said words = HasCaller said × AllTell table (live_form said) words
