-- A worked case of counts that fit their fields: two nodes are up, and operations of the first start and forbid an
-- application there, and drain the second.
use Rattle.std.specs.Prelude.{ℕ, true, false, List, [], ◌∷◌}
use Rattle.dac_origins.specs.declared.dot.Origin.{Origin}
use Rattle.dac_origins.specs.Dots.{dot}
use Rattle.dac_wishes.specs.declared.key.Key.{Key}
use Rattle.dac_operations.specs.declared.act.Act.{Act}
use Rattle.dac_operations.specs.declared.act.Act.TheVariants.{Up, Permit, Start, Drain}
use Rattle.dac_operations.specs.Operations.{Operation, operation}
use Rattle.dac_meaning.specs.Meaning.{DotsDetermine, meaning_of}
use Rattle.dac_shapes.specs.declared.draft.SyncWait.TheVariants.{NoSync}
use Rattle.dac_config.specs.Table.{Table}
use Rattle.dac_messages.specs.declared.message.Body.TheVariants.{Whole}
use Rattle.dac_in_form.specs.InForm.{StateFits, IsSmall, AreInForm}
use Rattle.dac_in_form.specs.HeldForm.{BodyFits}

-- ---- the case

-- the first incarnation of each node
abbrev pub first_origin : Origin
first_origin = record { node = record { 0 = 0 }; inc = 1 }

abbrev pub second_origin : Origin
second_origin = record { node = record { 0 = 1 }; inc = 1 }

-- the application at the first node
abbrev pub the_key : Key
the_key = record { app = record { 0 = 0 }; node = first_origin.node; inc = 1 }

-- The application can run at both nodes.
abbrev pub worked_table : Table
worked_table = record {
  nodes = (record { name = 97 ∷ []; mandatory = false; optional = false })
      ∷ (record { name = 98 ∷ []; mandatory = false; optional = false }) ∷ [];
  apps = (record { name = 97 ∷ []; timeout = 0; groups = (0 ∷ 1 ∷ []) ∷ []; permission = true }) ∷ [];
  sync_wait = NoSync;
}

-- an operation of a node, by its counter
abbrev pub issued_by : Origin → ℕ → Act → Operation
issued_by o counter a = operation (dot o counter) a

-- the boots of both nodes, and what the first one issues after its boot
abbrev pub worked_set : List Operation
worked_set =
    issued_by first_origin 1 Up ∷ issued_by first_origin 2 (Start the_key [])
    ∷ issued_by first_origin 3 (Permit the_key false [])
    ∷ issued_by first_origin 4 (Drain second_origin.node second_origin.inc true [])
    ∷ issued_by second_origin 1 Up ∷ []

-- ---- the result

-- The premises of `MeaningsAreInForm` can be met, and so can those about states and messages in runs: the configuration
-- keeps its limits, the operations are in form and have dots of their own, and the counts of their meaning fit their
-- fields, also as the content of a message.
pub record StatesCanFit : Type 0 where
  pub small : IsSmall worked_table
  pub distinct : DotsDetermine worked_set
  pub form : AreInForm worked_table worked_set
  pub state : StateFits (meaning_of worked_set)
  pub body : BodyFits (Whole (meaning_of worked_set))
