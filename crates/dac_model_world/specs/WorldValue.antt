-- The value of the program's world.
use Rattle.std.specs.Prelude.{List, refl}
use Rattle.std.specs.Coded.{Coded, code_by, coded×, coded_list}
use Rattle.dac_operations.specs.Operations.{Operation}
use Rattle.dac_messages.specs.declared.message.Message.{Message}
use Rattle.dac_model_node.specs.NodeValue.{NodeValue, coded_node_value}

-- the nodes by their numbers, and, oldest first, the issued operations and the shipped messages
pub record WorldValue : Type 0 where
  pub nodes : List NodeValue
  pub operations : List Operation
  pub messages : List Message

abbrev WorldParts : Type 0
WorldParts = List NodeValue × (List Operation × List Message)

-- the code of a world, from those of operations and messages
abbrev pub coded_world : Coded Operation → Coded Message → Coded WorldValue
coded_world operations messages =
    code_by WorldParts (coded× (coded_list coded_node_value) (coded× (coded_list operations) (coded_list messages)))
    (λ w. (w.nodes, (w.operations, w.messages)))
    (λ p. record { nodes = p.0; operations = p.1.0; messages = p.1.1 })
    (λ _. refl)
