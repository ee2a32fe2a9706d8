-- Events that need no message or operation of the world.
use Rattle.dac_events.specs.declared.What.{What}
use Rattle.dac_events.specs.declared.What.TheVariants.{Deliver, Hand}

-- the event delivers neither a message nor an operation
abbrev pub IsByItself : What → Type 0
IsByItself (Deliver k) = ⊥
IsByItself (Hand k) = ⊥
IsByItself what = Unit {0}
