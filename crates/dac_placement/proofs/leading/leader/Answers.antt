use Rattle.std.proofs.Common.{◌≡◌, ◌+◌, IfSome, sym, ap, subst, ◌∙◌, refl, arith}
use Rattle.dac_placement.specs.Choices.{HasNodes, Leads, first_of, group_by, rank_by, lead_with}
use Rattle.dac_placement.specs.laws.Choosing.{first_more, numbered}
use Rattle.dac_placement.specs.laws.Leading.{lead_more, nodes_more}
use Rattle.dac_placement.proofs.leading.leader.Goals as goal

pub loop-number-init : goal.loop-number-init
loop-number-init g c = (λ loads. refl, tt)

pub loop-number-preserved : goal.loop-number-preserved
loop-number-preserved g c =
    let groups = g.C.Candidates.group c.args.candidates.now in
    let may = g.C.Candidates.eligible c.args.candidates.now in
    let n = c.loop-number.number in
    let next : lead_with c.loop-number.lead (group_by groups may (numbered n)) (numbered n) ≡ c.lead_with-lead.result =
    sym (c.lead_with-lead.ensures ∙ ap (λ group. lead_with c.loop-number.lead group (numbered n)) c.group_if-group.ensures) in (
      λ loads.
          let ranks = rank_by groups may loads in
          subst (λ lead. Leads lead (first_of ranks (n + 1))) next
          (subst (Leads _) (sym (first_more ranks n)) (lead_more c.loop-number.lead (first_of ranks n) (may (numbered n)) (groups (numbered n)) (loads (numbered n)) (numbered n) (c.loop-number.invariant.0 loads))),
      subst (λ lead. IfSome lead (HasNodes groups may (n + 1))) next
          (nodes_more groups may n c.loop-number.lead (group_by groups may (numbered n)) refl c.loop-number.invariant.1),
    )

pub returns : goal.returns
returns g c =
    let groups = g.C.Candidates.group c.args.candidates.now in
    let may = g.C.Candidates.eligible c.args.candidates.now in
    let up_to = c.loop-number.auto.number-end in
    let not_below = c.loop-number-test.false in
    let count = c.nodes-number-end.ensures in
    let all : c.loop-number.number ≡ g.C.Candidates.nodes c.args.candidates.now = omega (arith, up_to, not_below, count) in
    record {
      leads = λ loads. subst (λ n. Leads c.loop-number.lead (first_of (rank_by groups may loads) n)) all (c.loop-number.invariant.0 loads);
      nodes = subst (λ n. IfSome c.loop-number.lead (HasNodes groups may n)) all c.loop-number.invariant.1;
    }
