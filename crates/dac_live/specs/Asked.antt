-- The results of a caller's calls.
use Rattle.std.specs.Prelude.{ℕ, ◌==◌, Option, Some, None, Result, if◌then◌else◌}
use Rattle.dac_messages.specs.declared.reply.Reply.{Reply}
use Rattle.dac_events.specs.declared.refusal.Refusal.{Refusal}
use Rattle.dac_crews.specs.Record.{Record}

-- the result in this record, if it is a record of this seat
abbrev pub answer_one : ℕ → Record → Option (Result Reply Refusal)
answer_one seat r = if r.seat == seat then Some r.answer else None
