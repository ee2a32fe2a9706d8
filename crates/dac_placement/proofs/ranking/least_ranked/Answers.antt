use Rattle.std.proofs.Common.{◌≡◌, Option, Some, option_map, refl, sym, ap, ap₂, ◌∙◌, arith}
use Rattle.std.specs.Ordering.{ord_min}
use Rattle.dac_base.specs.declared.NodeId.{NodeId}
use Rattle.dac_lattice.specs.Lattices.{join_options}
use Rattle.dac_placement.specs.Ranks.{Rank, rank_cmp}
use Rattle.dac_placement.specs.Choices.{choice_of, first_of, load_by, rank_in}
use Rattle.dac_placement.specs.laws.Choosing.{first_in, first_more}
use Rattle.dac_placement.proofs.ranking.least_ranked.Goals as goal

pub loop-number-init : goal.loop-number-init
loop-number-init g c = refl

pub loop-number-preserved : goal.loop-number-preserved
loop-number-preserved g c =
    let ranks : NodeId → Option Rank = rank_in (g.C.Candidates.group c.args.candidates.now) (g.C.Candidates.eligible c.args.candidates.now) (load_by (g.R.Runs.runs c.args.runners.now) (g.R.Runs.apps c.args.runners.now) c.args.app) c.args.lead.group in
    c.lesser-first.ensures ∙ ap₂ (join_options (ord_min rank_cmp)) c.loop-number.invariant c.rank_in-rank.ensures ∙ sym (first_more ranks c.loop-number.number)

pub returns : goal.returns
returns g c =
    let groups = g.C.Candidates.group c.args.candidates.now in
    let may = g.C.Candidates.eligible c.args.candidates.now in
    let nodes = g.C.Candidates.nodes c.args.candidates.now in
    let loads = load_by (g.R.Runs.runs c.args.runners.now) (g.R.Runs.apps c.args.runners.now) c.args.app in
    let lead = c.requires in
    let up_to = c.loop-number.auto.number-end in
    let not_below = c.loop-number-test.false in
    let count = c.nodes-number-end.ensures in
    let all : c.loop-number.number ≡ nodes = omega (arith, up_to, not_below, count) in
    let is : Some c.in_ok-first.first ≡ Some lead.rank =
    sym c.in_ok-first.was ∙ c.loop-number.invariant ∙ ap (first_of (rank_in groups may loads c.args.lead.group)) all ∙ first_in groups may loads c.args.lead.group nodes lead.rank lead.least lead.group in
    ap (option_map choice_of) (is ∙ sym lead.least)

pub returns-in_err-first : goal.returns-in_err-first
returns-in_err-first g c =
    let groups = g.C.Candidates.group c.args.candidates.now in
    let may = g.C.Candidates.eligible c.args.candidates.now in
    let nodes = g.C.Candidates.nodes c.args.candidates.now in
    let loads = load_by (g.R.Runs.runs c.args.runners.now) (g.R.Runs.apps c.args.runners.now) c.args.app in
    let lead = c.requires in
    let up_to = c.loop-number.auto.number-end in
    let not_below = c.loop-number-test.false in
    let count = c.nodes-number-end.ensures in
    let all : c.loop-number.number ≡ nodes = omega (arith, up_to, not_below, count) in
    c.from_residual.ensures ∙ ap (option_map choice_of)
    (sym c.in_err-first.was ∙ c.loop-number.invariant ∙ ap (first_of (rank_in groups may loads c.args.lead.group)) all ∙ first_in groups may loads c.args.lead.group nodes lead.rank lead.least lead.group ∙ sym lead.least)
