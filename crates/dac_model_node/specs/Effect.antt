-- The effect of an accepted event at its node.
use Rattle.std.specs.Prelude.{List, [], ◌∷◌, IfSome}
use Rattle.dac_base.specs.declared.NodeId.{NodeId}
use Rattle.dac_operations.specs.Operations.{Operation}
use Rattle.dac_config.specs.Table.{Table}
use Rattle.dac_ticks.specs.TakesEffect.{TakesEffect}
use Rattle.dac_ticks.specs.Staying.{AreKeptAt, AreLaterClaims}
use Rattle.dac_messages.specs.declared.event.Event.{Event}
use Rattle.dac_messages.specs.declared.event.Event.TheVariants.{Command as Commanded, Tick}
use Rattle.dac_messages.specs.declared.reply.Reply.{Reply}
use Rattle.dac_messages.specs.declared.reply.Reply.TheVariants.{Booted, Issued, Ticked}
use Rattle.dac_model_node.specs.NodeValue.{NodeValue, RunningValue}
use Rattle.dac_model_node.specs.Accepted.{AcceptedAs}

-- the operations that a reply issues
abbrev pub issued_by : Reply → List Operation
issued_by (Booted o) = o ∷ []
issued_by (Issued o) = o ∷ []
issued_by (Ticked ops passed) = ops
issued_by _ = []

-- The effect after the event: a command has taken effect, and the applications that a tick claimed are kept at this
-- node and run there.
abbrev pub IsBroughtAbout : Table → Event → Reply → RunningValue → Type 0
IsBroughtAbout t (Commanded c) reply r = TakesEffect t r.origin r.state c
IsBroughtAbout t (Tick now) reply r = AreKeptAt t r.state r.origin.node (issued_by reply)
IsBroughtAbout t e reply r = Unit {0}

-- the event takes effect at the node
pub record HasEffect (t : Table) (old : NodeValue) (e : Event) (reply : Reply) (new : NodeValue) : Type 0 where
  pub left : IfSome new.running (IsBroughtAbout t e reply)
  -- each claim has a later term than any claim of its application that the node had heard
  pub later : IfSome old.running (λ (r : RunningValue). AreLaterClaims r.state (issued_by reply))

-- each accepted event has its effect
abbrev pub EventsTakeEffect : Type 0
EventsTakeEffect = (t : Table) (me : NodeId) (old : NodeValue) (e : Event) (new : NodeValue) (reply : Reply)
    → AcceptedAs t me old e new reply → HasEffect t old e reply new
