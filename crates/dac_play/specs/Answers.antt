-- The lines printed for the result of an event.
use Rattle.std.specs.Prelude.{ℕ, List, Result, Ok, Err, codes}
use Rattle.dac_config.specs.Table.{Table, node_name}
use Rattle.dac_events.specs.declared.What.{What}
use Rattle.dac_events.specs.declared.What.TheVariants.{Deliver, Hand}
use Rattle.dac_events.specs.declared.WorldEvent.{WorldEvent}
use Rattle.dac_core.specs.Refusals.{number_of, name_of}
use Rattle.dac_messages.specs.declared.reply.Reply.{Reply}
use Rattle.dac_messages.specs.declared.reply.Reply.TheVariants.{Booted, Crashed, Issued, Ticked, Held, GaveUp, Shipped, Heard}
use Rattle.dac_core.specs.WorldFault.{WorldFault}
use Rattle.dac_core.specs.WorldFault.TheVariants.{NoSuchNode, NoSuchMessage, NoSuchOperation, Refused}
use Rattle.dac_play.specs.declared.answers.Counts.{Counts}
use Rattle.dac_play.specs.Texts.{booted_text, crashed_text, issued_text, held_text, gave_up_text, shipped_text, heard_text, no_message_text, no_operation_text, refused_text}
use Rattle.dac_play.specs.Ticks.{ticked_text}

-- the lines for a reply of the node with this name; the counts include the event
abbrev pub reply_text : Table → List ℕ → Reply → Counts → List ℕ
reply_text table node (Booted operation) counts = booted_text operation.dot.origin.inc counts.operations
reply_text table node Crashed counts = crashed_text
reply_text table node (Issued operation) counts =
    issued_text counts.operations node operation.dot.origin.inc operation.dot.n
reply_text table node (Ticked ops passed) counts = ticked_text table counts.operations ops passed
reply_text table node Held counts = held_text
reply_text table node GaveUp counts = gave_up_text
reply_text table node (Shipped message) counts = shipped_text counts.messages message.body
reply_text table node (Heard fresh) counts = heard_text fresh

-- the number of the message or operation to deliver
abbrev pub asked_number : What → ℕ
asked_number (Deliver message) = message
asked_number (Hand operation) = operation
asked_number _ = 0

-- the line for a fault of the world; scripts name only configured nodes, so the first can't occur
abbrev pub fault_text : What → WorldFault → List ℕ
fault_text what NoSuchNode = codes "no such node\n"
fault_text what NoSuchMessage = no_message_text (asked_number what)
fault_text what NoSuchOperation = no_operation_text (asked_number what)
fault_text what (Refused why) = refused_text (number_of why) (name_of why)

-- the lines for the result of an event
abbrev pub answer_text : Table → WorldEvent → Result Reply WorldFault → Counts → List ℕ
answer_text table event (Ok reply) counts = reply_text table (node_name table event.node) reply counts
answer_text table event (Err fault) counts = fault_text event.what fault
