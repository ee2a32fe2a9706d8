-- The boxed part of a change. A crash has none.
use Rattle.std.specs.Prelude.{Option, Some, None, Box}
use Rattle.dac_messages.specs.declared.reply.Reply.{Reply}
use Rattle.dac_messages.specs.declared.reply.Reply.TheVariants.{Crashed}
use Rattle.dac_node.specs.declared.change.After.{After}
use Rattle.dac_node.specs.declared.change.After.TheVariants.{Off}
use Rattle.dac_node.specs.declared.change.Outcome.{Outcome}

-- the running value after the change
abbrev pub after_of : {Z : Type 0} → Option (Box Outcome Z) → After
after_of None = Off
after_of (Some b) = b.value.after

-- the reply
abbrev pub reply_of : {Z : Type 0} → Option (Box Outcome Z) → Reply
reply_of None = Crashed
reply_of (Some b) = b.value.reply
