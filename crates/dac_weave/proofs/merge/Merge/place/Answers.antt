use Rattle.dac_weave.proofs.merge.Merge.place.Goals as goal

pub returns-clause-moves : goal.returns-clause-moves
returns-clause-moves c = record { noted = c.note.new.self.mail; messages = _; notes = c.note.ensures.notes; posts = c.in_ok-append_output.ensures.posts }
