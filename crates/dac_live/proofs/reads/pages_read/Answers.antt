use Rattle.std.proofs.Common.{◌≡◌, ◌++◌, List, Option, length, zip, flat_map, sym, ap, ◌∙◌, arith}
use Rattle.dac_live.proofs.Common.{AllZip-long, Page, Phase, pages_in, flat_more, zip_within, zip_at, zip_all, all_zip_at}
use Rattle.dac_live.proofs.reads.pages_read.Goals as goal

-- the reads fit the lines of a phase
abbrev fits : Phase → List (Option Page) → Type 0
fits p noted = length noted ≡ length p.lines.items

pub bounds-reads-i : goal.bounds-reads-i
bounds-reads-i c = omega (arith, AllZip-long fits c.args.phases.now c.args.reads.now c.requires)

pub with_pages-requires : goal.with_pages-requires
with_pages-requires c =
    ap length c.as_slice-in-loop-i.ensures
    ∙ all_zip_at fits c.args.phases.now c.args.reads.now c.loop-i.i c.index-phases-i.result c.index-reads-i.result c.requires c.loop-i-test.true c.index-phases-i.is c.index-reads-i.is
    ∙ sym (ap length c.as_slice.ensures.value)

pub loop-i-preserved : goal.loop-i-preserved
loop-i-preserved c =
    let ps = c.args.phases.now in
    let gs = c.args.reads.now in
    let i = c.loop-i.i in
    let p = c.index-phases-i.result in
    let given = c.index-reads-i.result in
    let f = pages_in c.args.node.0 in
    let g = λ (q : Phase × List (Option Page)). f q.0.lines.items q.1 in
    let long = AllZip-long fits ps gs c.requires in
    let within = zip_within ps gs i c.loop-i-test.true (omega arith) in
    let at = zip_at ps gs i p given c.loop-i-test.true (omega arith) c.index-phases-i.is c.index-reads-i.is in
    c.in_ok-all.ensures ∙ (λ j. c.loop-i.invariant j ++ f (c.as_slice.ensures.value j) (c.as_slice-in-loop-i.ensures j)) ∙ sym (flat_more g (zip ps gs) i (p, given) within at)

pub returns : goal.returns
returns c =
    let ps = c.args.phases.now in
    let gs = c.args.reads.now in
    let g = λ (q : Phase × List (Option Page)). pages_in c.args.node.0 q.0.lines.items q.1 in
    c.loop-i.invariant ∙ ap (flat_map g) (zip_all ps gs c.loop-i.i (omega arith))
