use Rattle.std.proofs.Common.{ℕ, IfSome}
use Rattle.dac_base.specs.declared.NodeId.{NodeId}
use Rattle.dac_placement.specs.Choices.{HasNodes, Leads, first_of, rank_by}
use Rattle.dac_placement.proofs.leading.leader.Given as goal

abbrev pub invariant-loop-number : goal.invariant-loop-number
invariant-loop-number g l =
    let groups = g.C.Candidates.group l.candidates in
    let may = g.C.Candidates.eligible l.candidates in
    ((loads : NodeId → ℕ) → Leads l.lead (first_of (rank_by groups may loads) l.number)) × IfSome l.lead (HasNodes groups may l.number)
