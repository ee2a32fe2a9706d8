use Rattle.dac_shapes.specs.laws.Common.{draft_at, draft_of}
use Rattle.dac_first_fault.specs.FirstFault.{IsFaultOf}
use Rattle.dac_first_fault.proofs.Answered.{answered}
use Rattle.dac_first_fault.proofs.reading.read_draft.Goals as goal

pub returns-clause-first : goal.returns-clause-first
returns-clause-first c = answered draft_of c.parse_draft.result (draft_at c.args.text.now) (IsFaultOf c.args.text.now) (λ e read. (c.first_fault.ensures.first e).0 read) c.parse_draft.ensures.exact
