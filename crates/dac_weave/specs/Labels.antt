-- Hash labels of messages and operations. They affect only speed.
use Rattle.std.specs.Prelude.{ℕ, ◌+◌, ◌*◌, ◌%◌, List, map, Option, Some, None}
use Rattle.std.specs.Borrow.{Bor}
use Rattle.dac_origins.specs.declared.dot.Origin.{Origin}
use Rattle.dac_messages.specs.declared.message.Message.{Message}
use Rattle.dac_operations.specs.Operations.{Operation}

-- a count, an acknowledged count, the incarnation of an origin, and a number for its node, combined into one label
abbrev pub label : ℕ → ℕ → ℕ → ℕ → ℕ
label count acked inc node =
    count % 1099511627776 * 1000003 + (acked % 1099511627776 * 10007 + (inc % 1099511627776 * 101 + node))

abbrev pub acked_in : Option (Origin × ℕ) → ℕ
acked_in None = 0
acked_in (Some ack) = ack.1

abbrev pub message_label : Message → ℕ
message_label m = label m.up_to (acked_in m.ack) m.from.inc (m.from.node.0 * 256 + m.to.0)

abbrev pub operation_label : Operation → ℕ
operation_label o = label o.dot.n 0 o.dot.origin.inc o.dot.origin.node.0

-- the values that the references point to
abbrev pub lent : {X : Type 0} → List (Bor X) → List X
lent {X} xs = map (λ (x : Bor X). x.now) xs
