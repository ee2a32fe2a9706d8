use Rattle.std.proofs.Common.{sym, ◌∙◌}
use Rattle.dac_placement.specs.laws.Depends.{depends}
use Rattle.dac_placement.proofs.judging.settled_verdict.Goals as goal

pub returns-in_default-leader-clause-none : goal.returns-in_default-leader-clause-none
returns-in_default-leader-clause-none g c =
    let nodes = c.args.candidates.now in
    let lead = c.in-Some-leader in
    depends (g.C.Candidates.group nodes) (g.C.Candidates.eligible nodes) (g.C.Candidates.nodes nodes) lead.lead lead.ensures.leads
    c.args.standing c.args.late lead.ensures.nodes (sym c.is_settled.ensures ∙ c.if-is_settled.false)
