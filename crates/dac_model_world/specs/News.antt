-- The results of hearing messages and operations: whether they brought anything new.
use Rattle.std.specs.Prelude.{◌≡◌, ◌↔◌, IsTrue, List, [], ◌∷◌, Result, Ok}
use Rattle.dac_origins.specs.declared.dot.Dot.{Dot}
use Rattle.dac_operations.specs.Operations.{Operation}
use Rattle.dac_meaning.specs.Meaning.{IsOperationOf}
use Rattle.dac_events.specs.declared.WorldEvent.{WorldEvent}
use Rattle.dac_messages.specs.declared.reply.Reply.{Reply}
use Rattle.dac_messages.specs.declared.reply.Reply.TheVariants.{Heard}
use Rattle.dac_events.specs.declared.world_fault.WorldFault.{WorldFault}
use Rattle.dac_model_world.specs.SetWorld.{SetWorld, held_by, brought_to, set_step}

-- one of the operations has this dot
abbrev pub HasDot : Dot → List Operation → Type 0
HasDot d os = (o : Operation) × (IsOperationOf o os × (o.dot ≡ d))

-- an operation of ps has a dot that no operation of os has
abbrev pub HasNews : List Operation → List Operation → Type 0
HasNews os ps = (o : Operation) × (IsOperationOf o ps × ¬ (HasDot o.dot os))

-- a hear reports whether it brought a dot that the node hadn't heard
abbrev pub TellsNews : SetWorld → WorldEvent → Result Reply WorldFault → Type 0
TellsNews w e (Ok (Heard fresh)) = IsTrue fresh ↔ HasNews (held_by (w.node e.node)) (brought_to w e.node e.what)
TellsNews w e _ = Unit {0}

-- each hear among these events reports whether it brought a new dot
abbrev pub AnswersNews : SetWorld → List WorldEvent → List (Result Reply WorldFault) → Type 0
AnswersNews w [] answers = Unit {0}
AnswersNews w (e ∷ es) [] = Unit {0}
AnswersNews w (e ∷ es) (a ∷ answers) = TellsNews w e a × AnswersNews (set_step w e.node e.what a) es answers
